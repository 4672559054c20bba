-- What a builder has been set to.
use Rattle.std.specs.Prelude.{ℕ, Bool, List, string_bytes}
use Rattle.fancy_syntax.specs.declared.flags.Flags.{Flags}
use Rattle.fancy_search.specs.declared.options.Options.{Options}
use Rattle.fancy_regex.specs.declared.options.RegexOptionsBuilder.{RegexOptionsBuilder}
use Rattle.fancy_regex.specs.declared.builder.RegexBuilder.{RegexBuilder}

-- the options of a builder of options alone
abbrev pub options_of : RegexOptionsBuilder → Options
options_of b = b.options

-- the options of a builder that has a pattern too
abbrev pub options_set : RegexBuilder → Options
options_set b = options_of b.options

-- the bytes of that pattern's text
abbrev pub pattern_set : RegexBuilder → List ℕ
pattern_set b = string_bytes b.pattern

-- the options with other flags
abbrev pub with_flags : Options → (Flags → Flags) → Options
with_flags o change = record o { flags = change o.flags }

-- the options where groups without a name capture nothing beside named ones, or do
abbrev pub with_only_named : Options → Bool → Options
with_only_named o on = record o { ignore_numbered_groups_when_named_groups_exist = on }

-- the options where an input may say that the text's start or its end does not count as one, or that `\G` holds nowhere; or may not
abbrev pub with_overrides : Options → Bool → Options
with_overrides o on = record o { allow_input_assertion_overrides = on }
