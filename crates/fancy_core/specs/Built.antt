-- What reading a pattern answers.
use Rattle.std.specs.Prelude.{◌≡◌, ℕ, List, Result, IfOk, IfErr, false, chars}
use Rattle.fancy_tree.specs.declared.error.Error.{Error}
use Rattle.fancy_tree.specs.Pattern.{Pattern}
use Rattle.fancy_syntax.specs.Dialect.{IsPattern}
use Rattle.fancy_search.specs.declared.options.Options.{Options}
use Rattle.fancy_core.specs.declared.regex.Regex.{Regex}
use Rattle.fancy_search.specs.Compiled.{IsSpelled}
use Rattle.fancy_search.specs.Options.{dialect_of}
use Rattle.fancy_core.specs.Regexes.{pattern_text, pattern_in, options_in, group_count_in, length_in}
use Rattle.fancy_core.specs.Limited.{IsHard}
use Rattle.fancy_search.specs.ProgramSize.{passes, RefusesPattern, IsRefusedUnder}
use Rattle.fancy_core.specs.CaptureNames.{names_in}

-- A regex is of its text: that spells its pattern under its options, and has its groups and their names.
abbrev pub IsOfItsText : Regex → Type 0
IsOfItsText r = IsSpelled (options_in r) (pattern_text r) (pattern_in r) (group_count_in r) (names_in r)

-- This answers the bytes of a pattern's text, read under these options: the regex of the one pattern that the text spells, or why there is none.
pub record IsReading (o : Options) (pattern : List ℕ) (answer : Result Regex Error) : Type 0 where
  -- the regex has this text and these options
  pub text : IfOk answer (λ r. pattern_text r ≡ pattern)
  pub options : IfOk answer (λ r. options_in r ≡ o)
  -- its pattern, the number of its groups and their names are those that the text spells
  pub spelled : IfOk answer (λ r. IsSpelled o pattern (pattern_in r) (group_count_in r) (names_in r))
  -- the code of a hard pattern is no longer than the size that was set
  pub sized : IfOk answer (λ r. IsHard r → passes (length_in r) o.max_prog_size ≡ false)
  -- a refusal says what is wrong with the text
  pub refused : IfErr answer (λ e. IsRefusedUnder o (chars pattern) e)
  -- A pattern of the dialect is refused only where memory runs out, and a hard one where a size was set that its code may pass.
  pub succeeds : (p : Pattern) → IsPattern (dialect_of o) (chars pattern) p → IfErr answer (λ e. RefusesPattern o p e)
