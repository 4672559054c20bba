-- When a pattern of the dialect may be refused: a hard one, for the length of its code.
use Rattle.std.specs.Prelude.{◌≡◌, ◌+◌, ◌*◌, ◌⊎◌, ℕ, Bool, true, false, Option, Some, None, nat_lt}
use Rattle.fancy_tree.specs.declared.error.CompileError.TheVariants.{PatternTooComplex}
use Rattle.fancy_tree.specs.declared.error.Error.{Error}
use Rattle.fancy_tree.specs.declared.error.Error.TheVariants.{Memory, CompileError}
use Rattle.fancy_syntax.specs.Dialect.{IsPattern}
use Rattle.fancy_tree.specs.Pattern.{Pattern}
use Rattle.fancy_syntax.specs.Refusals.{IsRefused}
use Rattle.fancy_tree.specs.Sizes.{nodes}
use Rattle.fancy_tree.specs.Text.{Text}
use Rattle.fancy_search.specs.declared.options.Options.{Options}
use Rattle.fancy_search.specs.Options.{dialect_of, is_easy_under}

-- code of this length is longer than the size that was set, if one was
abbrev pub passes : ℕ → Option ℕ → Bool
passes n None = false
passes n (Some size) = nat_lt size n

-- no size was set for the code of hard patterns
abbrev pub SetsNoSize : Options → Type 0
SetsNoSize o = o.max_prog_size ≡ None

-- A size was set that the pattern's code may pass, which has 4 instructions a node and 2 more at the most.
abbrev pub IsTooLong : Options → Pattern → Type 0
IsTooLong o p = (is_easy_under o p ≡ false) × (passes (4 * nodes p + 2) o.max_prog_size ≡ true)

-- what a pattern of the dialect may be refused for: want of memory at any time, and its code's length
abbrev pub RefusesPattern : Options → Pattern → Error → Type 0
RefusesPattern o p Memory = Unit {0}
RefusesPattern o p (CompileError PatternTooComplex) = IsTooLong o p
RefusesPattern o p _ = ⊥

-- Why no program is built under these options: the text is no pattern of the dialect, or is one that may be refused.
abbrev pub IsRefusedUnder : Options → Text → Error → Type 0
IsRefusedUnder o text e = IsRefused e (dialect_of o) text ⊎ ((p : Pattern) × IsPattern (dialect_of o) text p × RefusesPattern o p e)
