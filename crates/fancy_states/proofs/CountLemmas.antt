-- What is counted, part by part.
use Rattle.std.proofs.Common.{◌≡◌, ℕ, ◌+◌, ◌-◌, ◌*◌, ◌<◌, ◌≤◌, ap, arith, refl, ◌∙◌}
use Rattle.std.proofs.Math.Nat.{mul-le-mul_left}
use Rattle.fancy_input.specs.declared.work.Work.{Work}
use Rattle.fancy_input.specs.Work.{steps_of}
use Rattle.fancy_states.specs.Counts.{AddsSteps, PaysFor}

-- nothing was counted
pub counts_none : {work : Work} (most : ℕ) → AddsSteps most work work
counts_none most = record { steps = omega arith; bounded = omega arith; returns = refl; units = refl }

-- what was counted, and what was counted then
pub counts_to : {before between after : Work} {n m : ℕ} (most : ℕ) → n + m ≤ most → AddsSteps n before between → AddsSteps m between after → AddsSteps most before after
counts_to most fits a b = record {
  steps = omega (arith, a.steps, b.steps);
  bounded = omega (arith, fits, a.bounded, b.bounded);
  returns = b.returns ∙ a.returns;
  units = b.units ∙ a.units;
}

pub pays_on : (before between after : Work) (n m count : ℕ) → count ≤ n + m → steps_of between ≤ steps_of after → PaysFor n before between → PaysFor m between after → PaysFor count before after
pays_on before between after n m count fits up a b lt = omega (arith, fits, a (omega (arith, lt, up)), b lt)

one_place : (c n m : ℕ) → m ≡ n + 1 → c * m ≡ c * n + c
one_place c n m e = ap (λ (k : ℕ). c * k) e ∙ omega arith

-- the steps of one place, and those after it
pub counts_more : (c : ℕ) {before between after : Work} (first place next : ℕ) → first ≤ place → place < next → AddsSteps (c * (place - first)) before between → AddsSteps c between after
    → AddsSteps (c * (next - first)) before after
counts_more c first place next le lt a b =
    let m : c * (place + 1 - first) ≡ c * (place - first) + c = one_place c (place - first) (place + 1 - first) (omega (arith, le)) in
    let up : c * (place + 1 - first) ≤ c * (next - first) = mul-le-mul_left c (omega (arith, lt)) in
    counts_to (c * (next - first)) (omega (arith, m, up)) a b

-- places that are passed over add to the bound
pub counts_up : (c : ℕ) {before after : Work} (first place next : ℕ) → place ≤ next → AddsSteps (c * (place - first)) before after → AddsSteps (c * (next - first)) before after
counts_up c first place next le a =
    let up : c * (place - first) ≤ c * (next - first) = mul-le-mul_left c (omega (arith, le)) in
    record { steps = a.steps; bounded = omega (arith, up, a.bounded); returns = a.returns; units = a.units }

-- so do places before the first one
pub counts_from : (c : ℕ) {before after : Work} (first place next : ℕ) → first ≤ place → AddsSteps (c * (next - place)) before after → AddsSteps (c * (next - first)) before after
counts_from c first place next le a =
    let up : c * (next - place) ≤ c * (next - first) = mul-le-mul_left c (omega (arith, le)) in
    record { steps = a.steps; bounded = omega (arith, up, a.bounded); returns = a.returns; units = a.units }
