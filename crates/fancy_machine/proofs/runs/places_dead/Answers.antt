use Rattle.std.proofs.Common.{◌≡◌, ◌-◌, ℕ, arith, subst, sym, inl, inr}
use Rattle.std.proofs.lemmas.Bool.{cases_eq}
use Rattle.fancy_prices.proofs.FoundBehind.{get_within}
use Rattle.fancy_machine.specs.Attempt.{DiesAt}
use Rattle.fancy_machine.proofs.runs.places_dead.Goals as goal

pub places-preserved : goal.places-preserved
places-preserved c k lt =
    let told = c.args.attempt.now.told _ _ _ c.in-Some.ensures.1 c.in-Some.ensures.2 in
    let last = c.may_leave.ensures c.if-may_leave.false in
    elim (cases_eq k c.places.past) [
      | inl same ↦ subst (λ (j : ℕ). DiesAt c.args.attempt.now c.args.run.at (c.args.run.last - j)) (sym same)
          (subst (λ (q : ℕ). DiesAt c.args.attempt.now q (c.args.run.last - c.places.past)) c.if-split-run.false (last.0, last.1, told.leaves last.0 last.2 last.3))
      | inr other ↦ c.places.invariant k (omega (arith, lt, other))
    ]

pub overflow_add-result : goal.overflow_add-result
overflow_add-result c =
    elim (cases_eq (c.args.run.last - c.args.run.first) 0) [
      | inl none ↦ omega (arith, none)
      | inr some ↦
          let dead = c.places.invariant 0 (omega (arith, some, c.places-test.false)) in
          omega (arith, get_within c.args.attempt.now.haystack.now (c.args.run.last - 0) dead.0 dead.1)
    ]

pub returns-then-may_leave-2-clause-dead : goal.returns-then-may_leave-2-clause-dead
returns-then-may_leave-2-clause-dead c k lt = c.places.invariant k (omega (arith, lt, c.places-test.false))

pub returns-clause-dead : goal.returns-clause-dead
returns-clause-dead c k lt =
    let told = c.args.attempt.now.told _ _ _ c.in-Some.ensures.1 c.in-Some.ensures.2 in
    let last = c.may_leave-2.ensures c.if-may_leave-2.false in
    let dead : DiesAt c.args.attempt.now c.args.run.at c.args.run.first =
    subst (λ (q : ℕ). DiesAt c.args.attempt.now q c.args.run.first) c.if-split-run.false (last.0, last.1, told.leaves last.0 last.2 last.3) in
    elim (cases_eq k (c.args.run.last - c.args.run.first)) [
      | inl same ↦ let first : c.args.run.first ≡ c.args.run.last - k = omega (arith, same, c.requires) in subst (DiesAt c.args.attempt.now c.args.run.at) first dead
      | inr other ↦ c.places.invariant k (omega (arith, lt, other, c.places-test.false))
    ]
