-- The numbers that a search counts.
use Rattle.std.specs.Prelude.{ℕ, Option, Some, None, ◌≡◌, ◌+◌, ◌^◌, ◌-◌, ◌<◌, ◌≤◌, ◌&&◌, nat_lt, if◌then◌else◌}
use Rattle.fancy_input.specs.declared.work.Work.{Work}

-- fetches of instructions
abbrev pub steps_of : Work → ℕ
steps_of w = w.steps

-- saved branches that were taken
abbrev pub returns_of : Work → ℕ
returns_of w = w.returns

-- units that were gone over within one step: by look-behinds, by comparisons of texts, and by loops of one item
abbrev pub units_of : Work → ℕ
units_of w = w.units

-- what was done in all
abbrev pub work_of : Work → ℕ
work_of w = w.steps + w.units

-- no more was done than the limit allows, if there is one
abbrev pub IsWithin : Option ℕ → Work → Type 0
IsWithin None w = Unit {0}
IsWithin (Some most) w = work_of w ≤ most

-- there is a limit, and all was done that it allows
abbrev pub IsSpent : Option ℕ → Work → Type 0
IsSpent None w = ⊥
IsSpent (Some most) w = most ≤ work_of w

-- less was done than the limit allows, if there is one
abbrev pub HasWorkLeft : Option ℕ → Work → Type 0
HasWorkLeft None w = Unit {0}
HasWorkLeft (Some most) w = work_of w < most

-- so many more steps are no more than the limit allows, if there is one
abbrev pub HasWorkFor : Option ℕ → ℕ → Work → Type 0
HasWorkFor None steps w = Unit {0}
HasWorkFor (Some most) steps w = work_of w + steps ≤ most

-- no units were counted, and no more was done than the limit allows
pub record RunsWithin (limit : Option ℕ) (before after : Work) : Type 0 where
  pub units : units_of after ≡ units_of before
  pub within : IsWithin limit before → IsWithin limit after

-- units were counted, and nothing else
pub record AddsUnits (before after : Work) : Type 0 where
  pub units : units_of before ≤ units_of after
  pub steps : steps_of after ≡ steps_of before
  pub returns : returns_of after ≡ returns_of before

-- at most so many returns were counted, and a step for each, as far as the number of steps goes, and no units
pub record AddsReturns (count : ℕ) (before after : Work) : Type 0 where
  pub returns : returns_of before ≤ returns_of after
  pub most : returns_of after ≤ returns_of before + count
  pub steps : steps_of before ≤ steps_of after
  pub units : units_of after ≡ units_of before
  pub paired : returns_of before ≤ steps_of before → returns_of after ≤ steps_of after
  pub ahead : returns_of before < steps_of before → returns_of after < 2 ^ 64 - 1 → returns_of after < steps_of after

-- so many more can be counted, where a usize holds their number at all
abbrev pub HasRoom : ℕ → ℕ → Type 0
HasRoom count more = more < 2 ^ 64 → count + more < 2 ^ 64

-- one fetch more
abbrev pub stepped : Work → Work
stepped w = record w { steps = w.steps + 1 }

-- one fetch more, as far as the number goes
abbrev pub stepped_within : Work → Work
stepped_within w = if nat_lt w.steps (2 ^ 64 - 1) then stepped w else w

-- one saved branch more
abbrev pub went_back : Work → Work
went_back w = record w { returns = w.returns + 1 }

-- one saved branch more, as far as both numbers go
abbrev pub went_back_within : Work → Work
went_back_within w = if nat_lt w.steps (2 ^ 64 - 1) && nat_lt w.returns (2 ^ 64 - 1) then went_back w else w
