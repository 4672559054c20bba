-- The byte sets of the pattern that a text spells.
use Rattle.std.specs.Prelude.{Option}
use Rattle.fancy_tree.specs.Pattern.{Pattern}
use Rattle.fancy_tree.specs.Text.{Text}
use Rattle.fancy_bytes.specs.Firsts.{AreStartBytes}
use Rattle.fancy_bytes.specs.Required.{required_bytes}
use Rattle.fancy_bytes.specs.Sets.{ByteFlags, IsSetOf}
use Rattle.fancy_syntax.specs.Dialect.{IsPattern}
use Rattle.fancy_search.specs.declared.options.Options.{Options}
use Rattle.fancy_search.specs.Options.{dialect_of, meaning_in}

-- the text spells a pattern, and each match of it starts with one of these bytes, or none are told since it may start anywhere
abbrev pub HasStartBytes : Options → Text → Option ByteFlags → Type 0
HasStartBytes o text set = (p : Pattern) × IsPattern (dialect_of o) text p × AreStartBytes (meaning_in o) p set

-- the text spells a pattern, and these are the bytes that every haystack has in which that pattern matches
abbrev pub HasRequiredBytes : Options → Text → ByteFlags → Type 0
HasRequiredBytes o text set = (p : Pattern) × IsPattern (dialect_of o) text p × IsSetOf (required_bytes (meaning_in o) p) set
