-- Where a match of a regex may start, and where it may end.
use Rattle.std.specs.Prelude.{ℕ, Bool, Option}
use Rattle.fancy_search.specs.Options.{meaning_in}
use Rattle.fancy_search.specs.Starts.{may_start, NeverHolds, EndsByOne}
use Rattle.fancy_core.specs.declared.regex.Regex.{Regex}
use Rattle.fancy_core.specs.Regexes.{options_in, pattern_in, program_in}

-- a match may start right before this byte, or before none, at the end of what is searched
abbrev pub regex_may_start : Regex → Option ℕ → Bool
regex_may_start r next = may_start (meaning_in (options_in r)) (pattern_in r) next

-- it is easy, and no match of it starts so many places before this byte, whatever is asked
abbrev pub NoneHolds : Regex → ℕ → ℕ → Type 0
NoneHolds r place byte = NeverHolds (program_in r) place byte

-- it is easy, and where an ASCII byte stands what an attempt finds ends past that byte or before, whatever is asked
abbrev pub EndsByOneItem : Regex → Type 0
EndsByOneItem r = EndsByOne (program_in r)
