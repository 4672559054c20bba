-- What a program stands for, and what a search with it asks.
use Rattle.std.specs.Prelude.{ℕ, Bool, List, Option, IsTrue}
use Rattle.fancy_tree.specs.Modes.{keeps_characters}
use Rattle.fancy_tree.specs.GroupNames.{names_of}
use Rattle.fancy_tree.specs.Pattern.{Pattern}
use Rattle.fancy_tree.specs.Text.{Text}
use Rattle.fancy_input.specs.declared.input.Request.{Request}
use Rattle.fancy_code.specs.CodeLength.{code_len}
use Rattle.fancy_meaning.specs.Search.{Sought, Query}
use Rattle.fancy_search.specs.declared.asked.Asked.{Asked}
use Rattle.fancy_search.specs.declared.options.Options.{Options}
use Rattle.fancy_search.specs.declared.program.Program.{Program}
use Rattle.fancy_search.specs.Options.{meaning_in, is_easy_under}

-- the pattern that its text spells
abbrev pub program_pattern : Program → Pattern
program_pattern p = p.reading.0

-- the options that it was built with
abbrev pub program_options : Program → Options
program_options p = p.options

-- how many groups the pattern has, with group 0, the whole match
abbrev pub program_groups : Program → ℕ
program_groups p = p.code.groups

-- the names of groups, each with the number of its group, in the order of the groups' openings
abbrev pub program_names : Program → List (Text × ℕ)
program_names p = names_of p.names

-- how many instructions its code has
abbrev pub program_length : Program → ℕ
program_length p = code_len p.code

-- its pattern is easy under its options
abbrev pub program_is_easy : Program → Bool
program_is_easy p = is_easy_under (program_options p) (program_pattern p)

-- how many returns a search may take
abbrev pub program_limit : Program → ℕ
program_limit p = p.options.backtrack_limit

-- how many branches a search for it may have saved at one time
abbrev pub program_stack_limit : Program → ℕ
program_stack_limit p = p.options.stack_limit

-- how much work a search for it may do, if that is limited
abbrev pub program_step_limit : Program → Option ℕ
program_step_limit p = p.options.step_limit

-- its matches stand on whole characters
abbrev pub KeepsCharacters : Program → Type 0
KeepsCharacters p = IsTrue (keeps_characters (program_options p).bytes_mode)

-- what is searched for: the pattern, as the options have it
abbrev pub sought_by : Options → ℕ → Pattern → Sought
sought_by o groups p = record {
  pattern = p;
  meaning = meaning_in o;
  groups = groups;
  on_boundaries = keeps_characters o.bytes_mode;
  overrides = o.allow_input_assertion_overrides;
  not_empty = o.find_not_empty;
  longest = o.leftmost_longest;
}

-- what a search with the program asks, with `\G` on or off
abbrev pub asked_of : Program → List ℕ → Request → Bool → Query
asked_of p haystack request on =
    record { sought = sought_by (program_options p) (program_groups p) (program_pattern p); haystack = haystack; request = request; continues = on }

-- the query that it is, where this is asked of the program
abbrev pub query_in : Program → Asked → Query
query_in p asked = asked_of p asked.haystack.now asked.request.now asked.continues
