use Rattle.std.proofs.Common.{◌∙◌, ◌++◌, arith, refl, take}
use Rattle.fancy_states.proofs.JoinLemmas.{thin_all, thin_begin, thin_next}
use Rattle.fancy_states.proofs.join.add_all.Goals as goal

pub loop-way-init : goal.loop-way-init
loop-way-init c = record {
  thinned = λ whole t. thin_begin c.args.marks.now whole c.args.next.now.items t;
  more = omega arith;
  room = refl;
}

pub loop-way-preserved : goal.loop-way-preserved
loop-way-preserved c = record {
  thinned = λ whole t. thin_next c.add.new.marks whole c.add.new.next.items c.args.ways.now c.loop-way.way-index (record { at = 0; from = 0 }) (omega arith)
      (c.in_ok-add.ensures.thinned (whole ++ take c.loop-way.way-index c.args.ways.now) (c.loop-way.invariant.thinned whole t));
  more = omega (arith, c.loop-way.invariant.more, c.in_ok-add.ensures.more);
  room = c.add.ensures.room ∙ c.loop-way.invariant.room;
}

pub returns : goal.returns
returns c = record {
  thinned = λ whole t. thin_all c.loop-way.marks whole c.loop-way.next.items c.args.ways.now c.loop-way.way-index (omega arith) (c.loop-way.invariant.thinned whole t);
  more = omega (arith, c.loop-way.invariant.more);
  room = c.loop-way.invariant.room;
}
