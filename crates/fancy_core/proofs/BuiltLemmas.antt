-- What reading a pattern answers, case by case.
use Rattle.std.proofs.Common.{ℕ, List, Err, chars, inl}
use Rattle.fancy_tree.specs.declared.error.Error.{Error}
use Rattle.fancy_tree.specs.declared.error.Error.TheVariants.{Memory}
use Rattle.fancy_syntax.specs.Dialect.{IsPattern}
use Rattle.fancy_tree.specs.Pattern.{Pattern}
use Rattle.fancy_search.specs.declared.options.Options.{Options}
use Rattle.fancy_core.specs.Built.{IsReading}
use Rattle.fancy_search.specs.Options.{dialect_of}
use Rattle.fancy_search.specs.ProgramSize.{RefusesPattern, IsRefusedUnder}

-- a refusal
pub is_refused : (o : Options) (pattern : List ℕ) (e : Error) → IsRefusedUnder o (chars pattern) e → ((p : Pattern) → IsPattern (dialect_of o) (chars pattern) p → RefusesPattern o p e) → IsReading o pattern (Err e)
is_refused o pattern e why all = record { text = tt; options = tt; spelled = tt; sized = tt; refused = why; succeeds = all }

-- want of memory
pub out_of_memory : (o : Options) (pattern : List ℕ) → IsReading o pattern (Err Memory)
out_of_memory o pattern = is_refused o pattern Memory (inl tt) (λ p h. tt)
