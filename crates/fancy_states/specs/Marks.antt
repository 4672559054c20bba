-- Marks, by the turn in which each number was marked last.
use Rattle.std.specs.Prelude.{ℕ, Bool, List, map, ◌==◌}

-- a number is marked where that was in this turn
abbrev pub is_turn : ℕ → ℕ → Bool
is_turn turn s = s == turn

abbrev pub marks_of : ℕ → List ℕ → List Bool
marks_of turn stamps = map (is_turn turn) stamps
