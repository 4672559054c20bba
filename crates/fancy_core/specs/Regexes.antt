-- What a regex stands for, and what a search with it asks.
use Rattle.std.specs.Prelude.{ℕ, Bool, true, List, Option, string_bytes}
use Rattle.fancy_tree.specs.Pattern.{Pattern}
use Rattle.fancy_input.specs.declared.input.Request.{Request}
use Rattle.fancy_meaning.specs.Search.{Query}
use Rattle.fancy_search.specs.declared.options.Options.{Options}
use Rattle.fancy_search.specs.declared.program.Program.{Program}
use Rattle.fancy_search.specs.Programs.{program_pattern, program_options, program_groups, program_length, program_is_easy, program_limit, program_step_limit, asked_of}
use Rattle.fancy_core.specs.declared.regex.Regex.{Regex}

-- the bytes of its pattern's text
abbrev pub pattern_text : Regex → List ℕ
pattern_text r = string_bytes r.pattern

-- what its text was compiled to
abbrev pub program_in : Regex → Program
program_in r = r.program

-- the pattern that the text spells
abbrev pub pattern_in : Regex → Pattern
pattern_in r = program_pattern (program_in r)

-- the options that it was built with
abbrev pub options_in : Regex → Options
options_in r = program_options (program_in r)

-- how many groups the pattern has, with group 0, the whole match
abbrev pub group_count_in : Regex → ℕ
group_count_in r = program_groups (program_in r)

-- how many instructions its code has
abbrev pub length_in : Regex → ℕ
length_in r = program_length (program_in r)

-- its pattern is easy under its options
abbrev pub easy_in : Regex → Bool
easy_in r = program_is_easy (program_in r)

-- how many returns a search may take
abbrev pub returns_limit_in : Regex → ℕ
returns_limit_in r = program_limit (program_in r)

-- how much work a search for it may do, if that is limited
abbrev pub step_limit_in : Regex → Option ℕ
step_limit_in r = program_step_limit (program_in r)

-- what a search with the regex asks, with `\G` on or off
abbrev pub query_in_turn : Regex → List ℕ → Request → Bool → Query
query_in_turn r haystack request on = asked_of (program_in r) haystack request on

-- what a search by itself asks: `\G` is on
abbrev pub query : Regex → List ℕ → Request → Query
query r haystack request = query_in_turn r haystack request true
