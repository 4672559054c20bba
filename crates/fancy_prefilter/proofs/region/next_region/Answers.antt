use Rattle.std.proofs.Common.{◌-◌, refl, arith}
use Rattle.fancy_prefilter.proofs.region.next_region.Goals as goal

pub returns-then-not-may_have-clause-region : goal.returns-then-not-may_have-clause-region
returns-then-not-may_have-clause-region c past = record {
  ascii = c.if-not-may_have.ensures.ascii refl;
  apart = c.if-not-may_have.ensures.apart refl;
  none = c.in_ok-target.ensures.first (c.loop-start.start - 1) (omega (arith, past)) (omega (arith, past, c.loop-start.invariant.high));
}
