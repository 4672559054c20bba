-- The byte sets of patterns one after another, and side by side.
use Rattle.std.specs.Prelude.{ℕ, Bool, true, false, ◌&&◌, ◌||◌, List, [], ◌∷◌}
use Rattle.fancy_tree.specs.declared.tree.Meaning.{Meaning}
use Rattle.fancy_tree.specs.Pattern.{Pattern}
use Rattle.fancy_bytes.specs.Firsts.{nullable, first_bytes, has_keep_start}
use Rattle.fancy_bytes.specs.Required.{required_bytes}

abbrev pub all_nullable : List Pattern → Bool
all_nullable [] = true
all_nullable (p ∷ ps) = nullable p && all_nullable ps

abbrev pub some_nullable : List Pattern → Bool
some_nullable [] = false
some_nullable (p ∷ ps) = nullable p || some_nullable ps

-- up to the first pattern that is not nullable
abbrev pub first_in_row : Meaning → List Pattern → ℕ → Bool
first_in_row m [] b = false
first_in_row m (p ∷ ps) b = first_bytes m p b || (nullable p && first_in_row m ps b)

abbrev pub first_in_some : Meaning → List Pattern → ℕ → Bool
first_in_some m [] b = false
first_in_some m (p ∷ ps) b = first_bytes m p b || first_in_some m ps b

abbrev pub required_in_some : Meaning → List Pattern → ℕ → Bool
required_in_some m [] b = false
required_in_some m (p ∷ ps) b = required_bytes m p b || required_in_some m ps b

abbrev pub required_in_all : Meaning → List Pattern → ℕ → Bool
required_in_all m [] b = true
required_in_all m (p ∷ ps) b = required_bytes m p b && required_in_all m ps b

abbrev pub some_keep_start : List Pattern → Bool
some_keep_start [] = false
some_keep_start (p ∷ ps) = has_keep_start p || some_keep_start ps

-- none where there is no branch
abbrev pub required_in_choice : Meaning → List Pattern → ℕ → Bool
required_in_choice m [] b = false
required_in_choice m (p ∷ ps) b = required_in_all m (p ∷ ps) b
