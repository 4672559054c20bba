-- What the parts of a search count.
use Rattle.std.specs.Prelude.{◌≡◌, ℕ, ◌+◌, ◌-◌, ◌^◌, ◌<◌, ◌≤◌}
use Rattle.fancy_input.specs.declared.work.Work.{Work}
use Rattle.fancy_input.specs.Work.{steps_of, returns_of, units_of}

-- At most so many steps are counted, and no return and no unit.
pub record AddsSteps (most : ℕ) (before after : Work) : Type 0 where
  pub steps : steps_of before ≤ steps_of after
  pub bounded : steps_of after ≤ steps_of before + most
  pub returns : returns_of after ≡ returns_of before
  pub units : units_of after ≡ units_of before

-- at least so many steps are counted, as far as their number goes
abbrev pub PaysFor : ℕ → Work → Work → Type 0
PaysFor count before after = steps_of after < 2 ^ 64 - 1 → count + steps_of before ≤ steps_of after
