-- Which member of a set decides what the set can search.
use Rattle.std.specs.Prelude.{◌≡◌, ◌<◌, ℕ, true, All, List, length, slice_index_or}
use Rattle.fancy_tree.specs.Modes.{keeps_characters}
use Rattle.fancy_core.specs.declared.regex.Regex.{Regex}
use Rattle.fancy_core.specs.Regexes.{options_in}

-- its matches begin and end on character boundaries alone
abbrev pub KeepsCharacters : Regex → Type 0
KeepsCharacters r = keeps_characters (options_in r).bytes_mode ≡ true

-- The index is that of a member, if there is one. If the matches of that member keep to characters, so do those of each.
pub record IsStrictest (members : List Regex) (index : ℕ) : Type 0 where
  pub inside : 0 < length members → index < length members
  pub decides : (d : Regex) → KeepsCharacters (slice_index_or members index d) → All KeepsCharacters members
