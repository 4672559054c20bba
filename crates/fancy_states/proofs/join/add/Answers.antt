use Rattle.std.proofs.Common.{◌++◌, ◌∷◌, [], Bool, List, inl, refl, rules, subst, sym}
use Rattle.fancy_states.specs.declared.way.Way.{Way}
use Rattle.fancy_states.specs.Joins.{Thinned}
use Rattle.fancy_states.proofs.JoinLemmas.{thin_more, thin_seen}
use Rattle.fancy_states.proofs.join.add.Goals as goal

pub returns-then-way-len : goal.returns-then-way-len
returns-then-way-len c = record {
  thinned = λ whole t. subst (λ (ws : List Way). Thinned c.args.marks.now (whole ++ c.args.way ∷ []) ws) (sym c.in_ok-push.ensures.items)
      (thin_more c.args.marks.now c.args.marks.now whole c.args.next.now.items c.args.way (λ q seen. inl seen) t);
  more = search rules;
  room = refl;
}

pub returns-then-not-is_first : goal.returns-then-not-is_first
returns-then-not-is_first c = record {
  thinned = λ whole t. subst (λ (ms : List Bool). Thinned ms (whole ++ c.args.way ∷ []) c.args.next.now.items) (sym (c.is_first.ensures.same c.if-not-is_first.true))
      (thin_seen c.args.marks.now whole c.args.next.now.items c.args.way (c.is_first.ensures.seen c.if-not-is_first.true) t);
  more = search rules;
  room = c.is_first.ensures.room;
}

pub returns : goal.returns
returns c = record {
  thinned = λ whole t. subst (λ (ws : List Way). Thinned c.is_first.new.marks (whole ++ c.args.way ∷ []) ws) (sym c.in_ok-push-2.ensures.items)
      (thin_more c.args.marks.now c.is_first.new.marks whole c.args.next.now.items c.args.way c.is_first.ensures.adds t);
  more = search rules;
  room = c.is_first.ensures.room;
}
