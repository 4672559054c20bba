use Rattle.std.proofs.Common.{ℕ, List, Option, ◌+◌, sym, subst, arith}
use Rattle.fancy_code.specs.Marking.{IsNumbered}
use Rattle.fancy_code.proofs.MarkingLemmas.{numbered_none, numbered_more}
use Rattle.fancy_code.proofs.marking.numbers_of.Goals as goal

pub loop-at-preserved-then-not-chosen-at : goal.loop-at-preserved-then-not-chosen-at
loop-at-preserved-then-not-chosen-at c = record {
  numbered = subst (λ (xs : List (Option ℕ)). IsNumbered xs c.loop-at.width) (sym c.in_ok-push.ensures.items) (numbered_none c.loop-at.numbers.items c.loop-at.width c.loop-at.invariant.numbered);
  few = omega (arith, c.loop-at.invariant.few);
}

pub loop-at-preserved : goal.loop-at-preserved
loop-at-preserved c = record {
  numbered = subst (λ (xs : List (Option ℕ)). IsNumbered xs (c.loop-at.width + 1)) (sym c.in_ok-push-2.ensures.items) (numbered_more c.loop-at.numbers.items c.loop-at.width c.loop-at.invariant.numbered);
  few = omega (arith, c.loop-at.invariant.few);
}
