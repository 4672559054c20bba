-- What the options of a program choose.
use Rattle.std.specs.Prelude.{Bool, true, false, None, not, ◌&&◌}
use Rattle.fancy_tree.specs.Limits.{most_branches, most_returns}
use Rattle.fancy_tree.specs.declared.tree.Meaning.{Meaning}
use Rattle.fancy_tree.specs.declared.tree.BytesMode.TheVariants.{Unicode}
use Rattle.fancy_tree.specs.Modes as modes
use Rattle.fancy_tree.specs.Modes.{keeps_characters}
use Rattle.fancy_syntax.specs.Dialect.{DialectOptions}
use Rattle.fancy_syntax.specs.Flags.{flags_of}
use Rattle.fancy_tree.specs.Pattern.{Pattern}
use Rattle.fancy_meaning.specs.Easy.{is_easy}
use Rattle.fancy_meaning.specs.declared.options.SearchOptions.{SearchOptions}
use Rattle.fancy_search.specs.declared.options.Options.{Options}

abbrev pub by_default : Options
by_default = record {
  bytes_mode = Unicode;
  unicode_mode = true;
  flags = record { ignore_case = false; multi_line = false; dot_all = false; ignore_blanks = false; crlf = false };
  ignore_numbered_groups_when_named_groups_exist = false;
  allow_input_assertion_overrides = false;
  backtrack_limit = most_returns;
  stack_limit = most_branches;
  step_limit = None;
  max_prog_size = None;
  find_not_empty = false;
  leftmost_longest = false;
  seek = false;
}

-- what an item consumes under these options
abbrev pub meaning_in : Options → Meaning
meaning_in o = modes.meaning_of o.bytes_mode o.unicode_mode

-- how patterns are read under these options
abbrev pub dialect_of : Options → DialectOptions
dialect_of o = record { meaning = meaning_in o; keeps_characters = keeps_characters o.bytes_mode; only_named = o.ignore_numbered_groups_when_named_groups_exist; not_empty = o.find_not_empty; flags = flags_of o.flags }

-- The pattern is easy under these options: it is easy by itself, and neither of the two filters is set.
abbrev pub is_easy_under : Options → Pattern → Bool
is_easy_under o p = is_easy p && (not o.find_not_empty && not o.leftmost_longest)

-- what an engine is told of them
abbrev pub search_options : Options → SearchOptions
search_options o = record {
  on_boundaries = keeps_characters o.bytes_mode;
  overrides = o.allow_input_assertion_overrides;
  not_empty = o.find_not_empty;
  longest = o.leftmost_longest;
  backtrack_limit = o.backtrack_limit;
  stack_limit = o.stack_limit;
  step_limit = o.step_limit;
  seek = o.seek;
}
