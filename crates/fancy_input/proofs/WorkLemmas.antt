-- What steps and returns add to the counts.
use Rattle.std.proofs.Common.{◌≡◌, ◌+◌, ◌-◌, ◌^◌, ◌<◌, ◌≤◌, ◌&&◌, ◌∙◌, ℕ, Bool, true, false, Option, Some, None, refl, sym, subst, arith}
use Rattle.std.proofs.lemmas.Bool.{ltb-true, ltb-false}
use Rattle.std.specs.Prelude.{nat_lt, if◌then◌else◌}
use Rattle.fancy_input.specs.declared.work.Work.{Work}
use Rattle.fancy_input.specs.Work.{steps_of, returns_of, units_of, stepped, stepped_within, went_back, went_back_within, IsWithin, IsSpent, HasWorkLeft, HasWorkFor, RunsWithin}

-- what a step adds
pub record OneStep (before after : Work) : Type 0 where
  pub more : steps_of before ≤ steps_of after
  pub one : steps_of after ≤ steps_of before + 1
  pub counted : steps_of after < 2 ^ 64 - 1 → steps_of after ≡ steps_of before + 1
  pub returns : returns_of after ≡ returns_of before
  pub units : units_of after ≡ units_of before

pub one_step : (before after : Work) → after ≡ stepped_within before → OneStep before after
one_step before after is = subst (λ (w : Work). OneStep before w) (sym is) (at (nat_lt before.steps (2 ^ 64 - 1)) refl) where
  at : (b : Bool) → nat_lt before.steps (2 ^ 64 - 1) ≡ b → OneStep before (if b then stepped before else before)
  at true e = record { more = omega arith; one = omega arith; counted = λ lt. refl; returns = refl; units = refl }
  at false e = record { more = omega arith; one = omega arith; counted = λ lt. absurd (omega (arith, lt, ltb-false before.steps (2 ^ 64 - 1) e)); returns = refl; units = refl }

-- what a return adds
pub record OneReturn (before after : Work) : Type 0 where
  pub steps : steps_of after ≡ steps_of before
  pub more : returns_of before ≤ returns_of after
  pub one : returns_of after ≤ returns_of before + 1
  pub full : 2 ^ 64 - 1 ≤ steps_of before → returns_of after ≡ returns_of before
  pub units : units_of after ≡ units_of before

pub one_return : (before after : Work) → after ≡ went_back_within before → OneReturn before after
one_return before after is =
    subst (λ (w : Work). OneReturn before w) (sym is) (at (nat_lt before.steps (2 ^ 64 - 1)) (nat_lt before.returns (2 ^ 64 - 1)) refl) where
      at : (b c : Bool) → nat_lt before.steps (2 ^ 64 - 1) ≡ b → OneReturn before (if b && c then went_back before else before)
      at true true e = record { steps = refl; more = omega arith; one = omega arith; full = λ le. absurd (omega (arith, le, ltb-true before.steps (2 ^ 64 - 1) e)); units = refl }
      at true false e = record { steps = refl; more = omega arith; one = omega arith; full = λ le. refl; units = refl }
      at false c e = record { steps = refl; more = omega arith; one = omega arith; full = λ le. refl; units = refl }

-- nothing was done
pub runs_from_start : (limit : Option ℕ) (w : Work) → RunsWithin limit w w
runs_from_start limit w = record { units = refl; within = λ is. is }

-- what was done, and what was done then
pub runs_on : (limit : Option ℕ) (a b c : Work) → RunsWithin limit a b → RunsWithin limit b c → RunsWithin limit a c
runs_on limit a b c first after = record { units = after.units ∙ first.units; within = λ is. after.within (first.within is) }

-- as much was done as before, or less
still_within : (limit : Option ℕ) (before after : Work) → units_of after ≡ units_of before → steps_of after ≤ steps_of before → IsWithin limit before → IsWithin limit after
still_within None before after units steps is = tt
still_within (Some most) before after units steps is = omega (arith, units, steps, is)

-- a return is no work
pub runs_back : (limit : Option ℕ) (before after : Work) → after ≡ went_back_within before → RunsWithin limit before after
runs_back limit before after is =
    let one = one_return before after is in
    record { units = one.units; within = still_within limit before after one.units (omega (arith, one.steps)) }

-- a limit that is spent leaves no work
pub spent_none_left : (limit : Option ℕ) (w : Work) → IsSpent limit w → HasWorkLeft limit w → ⊥
spent_none_left None w spent left = spent
spent_none_left (Some most) w spent left = omega (arith, spent, left)

-- no more steps were taken than the limit allows
all_within : (limit : Option ℕ) (steps : ℕ) (before after : Work) → HasWorkFor limit steps before → units_of after ≡ units_of before
    → steps_of after ≤ steps_of before + steps → IsWithin limit after
all_within None steps before after for units less = tt
all_within (Some most) steps before after for units less = omega (arith, for, units, less)

pub runs_all : (limit : Option ℕ) (steps : ℕ) (before after : Work) → HasWorkFor limit steps before → units_of after ≡ units_of before
    → steps_of after ≤ steps_of before + steps → RunsWithin limit before after
runs_all limit steps before after for units less = record { units = units; within = λ _. all_within limit steps before after for units less }
