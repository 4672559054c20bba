-- What an attempt leaves of a limit of work, where what was done before it counts.
use Rattle.std.proofs.Common.{◌≡◌, ◌+◌, ◌-◌, ◌^◌, ◌<◌, ◌≤◌, ℕ, Option, None, Some, min, refl, arith}
use Rattle.std.specs.Option.{ForSome}
use Rattle.fancy_input.specs.declared.work.Work.{Work}
use Rattle.fancy_input.specs.Work.{steps_of, units_of, work_of, IsWithin, IsSpent}

-- an attempt began after what was done before, and what it did was added to that
pub record IsAdded (before begun attempt after : Work) : Type 0 where
  pub begun_steps : steps_of begun ≡ 0
  pub begun_units : units_of begun ≡ min (work_of before) (2 ^ 64 - 1)
  pub steps : steps_of after ≡ min (steps_of before + steps_of attempt) (2 ^ 64 - 1)
  pub units : units_of after ≡ min (units_of before + (units_of attempt - min (work_of before) (2 ^ 64 - 1))) (2 ^ 64 - 1)

-- what an attempt does within a limit is within it when it is added
pub added_within : (limit : Option ℕ) → ForSome limit (λ most. most < 2 ^ 64) → (before begun attempt after : Work) → IsAdded before begun attempt after
    → units_of begun ≤ units_of attempt → (IsWithin limit begun → IsWithin limit attempt) → IsWithin limit before → IsWithin limit after
added_within None fits before begun attempt after is more heeds within = tt
added_within (Some most) fits before begun attempt after is more heeds within =
    let first : work_of begun ≤ most = omega (arith, is.begun_steps, is.begun_units, within) in
    omega (arith, fits most refl, is.begun_units, is.steps, is.units, more, heeds first, within)

-- a limit that an attempt has spent is spent when that is added
pub added_spent : (limit : Option ℕ) → ForSome limit (λ most. most < 2 ^ 64) → (before begun attempt after : Work) → IsAdded before begun attempt after
    → IsSpent limit attempt → IsSpent limit after
added_spent None fits before begun attempt after is spent = spent
added_spent (Some most) fits before begun attempt after is spent = omega (arith, fits most refl, is.steps, is.units, spent)
