-- What a step adds to the counts.
use Rattle.std.proofs.Common.{◌≡◌, ◌-◌, ◌^◌, Bool, true, false, refl, ap, ◌∙◌}
use Rattle.std.specs.Prelude.{nat_lt, if◌then◌else◌}
use Rattle.fancy_input.specs.declared.work.Work.{Work}
use Rattle.fancy_input.specs.Work.{returns_of, stepped, stepped_within, AddsUnits}

stepped_returns : (w : Work) (b : Bool) → returns_of (if b then stepped w else w) ≡ returns_of w
stepped_returns w true = refl
stepped_returns w false = refl

-- a step, and units after it, are no returns
pub returns_same : (before mid after : Work) → mid ≡ stepped_within before → AddsUnits mid after → returns_of after ≡ returns_of before
returns_same before mid after is adds = adds.returns ∙ ap returns_of is ∙ stepped_returns before (nat_lt before.steps (2 ^ 64 - 1))

-- a step is no return
pub returns_of_step : (before after : Work) → after ≡ stepped_within before → returns_of after ≡ returns_of before
returns_of_step before after is = ap returns_of is ∙ stepped_returns before (nat_lt before.steps (2 ^ 64 - 1))
