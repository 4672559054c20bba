use Rattle.std.proofs.Common.{inl, inr, sym, arith, ◌≡◌, ℕ, subst}
use Rattle.std.proofs.lemmas.Bool.{cases_lt}
use Rattle.fancy_runner.specs.FirstItem.{FindsNone}
use Rattle.fancy_runner.proofs.first_item.pass_followed.Goals as goal

pub places-init : goal.places-init
places-init c = record { passed = omega arith; within = omega (arith, c.requires.ordered); none = λ k low high. absurd (omega (arith, low, high)) }

pub places-preserved : goal.places-preserved
places-preserved c = record {
  passed = omega (arith, c.places.invariant.passed);
  within = omega (arith, c.places-test.true);
  none = λ k low high.
      elim (cases_lt k c.places.place) [
        | inl before ↦ c.places.invariant.none k low before
        | inr after ↦
            let same : k ≡ c.places.place = omega (arith, after, high) in
            subst (λ (i : ℕ). FindsNone c.args.attempt.now c.args.table.now i) (sym same) (c.was_passed.ensures c.if-was_passed.true)
      ];
}
