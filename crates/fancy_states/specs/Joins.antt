-- A step joined from two: that of some ways, and that of one more way after them.
use Rattle.std.specs.Prelude.{◌≡◌, ◌+◌, ◌≤◌, ℕ, Bool, true, false, List, [], ◌∷◌, ◌++◌, Option, None, Some, Result, OnOk, length, slice_index_or}
use Rattle.fancy_states.specs.declared.way.Way.{Way}
use Rattle.fancy_states.specs.Ways.{Ends, AllKnown, first_end}

-- ways at these instructions, all of which come from the way with this number
abbrev pub all_from : ℕ → List ℕ → List Way
all_from n [] = []
all_from n (q ∷ qs) = record { at = q; from = n } ∷ all_from n qs

-- an outcome of the way with this number, if there is one
abbrev pub match_from : ℕ → Option ℕ → Option ℕ
match_from n None = None
match_from n (Some from) = Some n

-- `next` has the ways of `whole` but for some that were met before: the first that has an end is the same, whatever the ends are. What is
-- marked is among them.
pub record Thinned (marks : List Bool) (whole next : List Way) : Type 0 where
  pub same : (later : Ends) → first_end later next ≡ first_end later whole
  pub known : (beyond : ℕ → Bool) → AllKnown beyond whole → AllKnown beyond next
  pub covers : (later : Ends) (q : ℕ) → slice_index_or marks q false ≡ true → first_end later next ≡ None → later q ≡ None

-- Ways are appended to those of `next`, but for those that were met before.
pub record Appends {A E : Type 0} (result : Result A E) (ways : List Way) (marks : List Bool) (next : List Way) (marks' : List Bool) (next' : List Way) : Type 0 where
  pub thinned : OnOk result ((whole : List Way) → Thinned marks whole next → Thinned marks' (whole ++ ways) next')
  pub more : OnOk result (length next' ≤ length next + length ways)
  pub room : length marks' ≡ length marks
