-- Names of groups.
use Rattle.std.specs.Prelude.{ℕ, ◌==◌, ◌||◌, Bool, false, List, [], ◌∷◌, length, drop, reverse, find, Option, option_map, bytes_eq, chars, map, string_bytes, if◌then◌else◌}
use Prim.Native.Char.{code}
use Rattle.std.specs.List.{list_all}
use Rattle.unicode.specs.GeneralCategory.{general_category, general_category_number}
use Rattle.unicode.specs.Binary.{is_alphabetic}
use Rattle.fancy_tree.specs.Text.{Text}
use Rattle.fancy_tree.specs.declared.name.GroupName.{GroupName}

-- The general categories Nd (decimal numbers), Nl (letters) and No (others), by the places that they have in the enum.
abbrev pub is_number_category : ℕ → Bool
is_number_category g = g == 8 || (g == 9 || g == 10)

-- the characters of names: alphabetic ones, numbers, and `_`
unfoldable pub is_name_character : ℕ → Bool
is_name_character c = is_alphabetic c || (c == code "_" || is_number_category (general_category_number (general_category c)))

-- at least one of them, and nothing else
abbrev pub is_name : Text → Bool
is_name [] = false
is_name (c ∷ t) = list_all is_name_character (c ∷ t)

-- the row of them that stands first, perhaps empty
abbrev pub name_here : Text → Text
name_here [] = []
name_here (c ∷ t) = if is_name_character c then c ∷ name_here t else []

-- what follows that row
abbrev pub past_name : Text → Text
past_name t = drop (length (name_here t)) t

-- a name, and the number of its group
abbrev pub named_group : GroupName → Text × ℕ
named_group g = (chars (string_bytes g.name), g.group)

abbrev pub named_groups : List GroupName → List (Text × ℕ)
named_groups = map named_group

-- the number of the last of these groups that has the name
abbrev pub last_named : Text → List (Text × ℕ) → Option ℕ
last_named name groups = option_map (λ g. g.1) (find (λ g. bytes_eq g.0 name) (reverse groups))
