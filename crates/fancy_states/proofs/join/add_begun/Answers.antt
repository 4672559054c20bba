use Rattle.std.proofs.Common.{◌∙◌, ◌++◌, arith, refl, take}
use Rattle.fancy_states.specs.Joins.{all_from}
use Rattle.fancy_states.proofs.JoinLemmas.{length-all_from, thin_all_from, thin_begin, thin_next_from}
use Rattle.fancy_states.proofs.join.add_begun.Goals as goal

pub loop-at-init : goal.loop-at-init
loop-at-init c = record {
  thinned = λ whole t. thin_begin c.args.marks.now whole c.args.next.now.items t;
  more = omega arith;
  room = refl;
}

pub loop-at-preserved : goal.loop-at-preserved
loop-at-preserved c = record {
  thinned = λ whole t. thin_next_from c.add.new.marks whole c.add.new.next.items c.args.from c.args.ats.now c.loop-at.at-index 0 (omega arith)
      (c.in_ok-add.ensures.thinned (whole ++ all_from c.args.from (take c.loop-at.at-index c.args.ats.now)) (c.loop-at.invariant.thinned whole t));
  more = omega (arith, c.loop-at.invariant.more, c.in_ok-add.ensures.more);
  room = c.add.ensures.room ∙ c.loop-at.invariant.room;
}

pub returns : goal.returns
returns c = record {
  thinned = λ whole t. thin_all_from c.loop-at.marks whole c.loop-at.next.items c.args.from c.args.ats.now c.loop-at.at-index (omega arith) (c.loop-at.invariant.thinned whole t);
  more = omega (arith, c.loop-at.invariant.more, length-all_from c.args.from c.args.ats.now);
  room = c.loop-at.invariant.room;
}
