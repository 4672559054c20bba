-- The words in which the grammar speaks of the characters of a pattern.
use Rattle.std.specs.Prelude.{ℕ, Bool, false, nat_eq, List, [], ◌∷◌, codes, drop, length, Option, Some, None, if◌then◌else◌}
use Rattle.std.specs.List.{starts_with}
use Prim.Native.String.{String}
use Rattle.fancy_tree.specs.Text.{Text, is_among}

-- the first character is one of these
abbrev pub is_at_any : List ℕ → Text → Bool
is_at_any cs [] = false
is_at_any cs (c ∷ t) = is_among c cs

abbrev pub is_at : String → Text → Bool
is_at s t = is_at_any (codes s) t

-- the text begins with this word
abbrev pub begins : String → Text → Bool
begins s t = starts_with nat_eq t (codes s)

-- what the first of these words that the text begins with stands for, and what follows the word
abbrev pub by_word : {X : Type 0} → List (Text × X) → Text → Option (X × Text)
by_word [] t = None
by_word ((word, x) ∷ others) t = if starts_with nat_eq t word then Some (x, drop (length word) t) else by_word others t
