-- The name that a pattern refers to and that no group has.
use Rattle.std.specs.Prelude.{◌≡◌, ℕ, List, Result, Ok, Err, IsUtf8, string_bytes}
use Rattle.fancy_regex.specs.declared.CompileError.{CompileError as Compiling}
use Rattle.fancy_regex.specs.declared.CompileError.TheVariants.{InvalidBackref, InvalidGroupNameBackref, NamedBackrefOnly, LookBehindNotConst, PatternCanNeverMatch, PatternTooComplex}
use Rattle.fancy_regex.specs.declared.Error.{Error}
use Rattle.fancy_regex.specs.declared.Error.TheVariants.{Memory, ParseError, CompileError, RuntimeError}
use Rattle.fancy_regex.specs.declared.Regex.{Regex}
use Rattle.fancy_regex.specs.Built.{IsReading}
use Rattle.fancy_regex_c.specs.declared.plain.Options.{Options}
use Rattle.fancy_regex_c.specs.Buffers.{Puts}
use Rattle.fancy_regex_c.specs.Reading.{options_meant, MeanSomething}

-- P of the name, where the pattern is refused for a name that no group has, and else Q
abbrev pub ByMissing : Compiling → (List ℕ → Type 0) → Type 0 → Type 0
ByMissing (InvalidBackref group) P Q = Q
ByMissing (InvalidGroupNameBackref name) P Q = P (string_bytes name)
ByMissing NamedBackrefOnly P Q = Q
ByMissing LookBehindNotConst P Q = Q
ByMissing PatternCanNeverMatch P Q = Q
ByMissing PatternTooComplex P Q = Q

-- What `missing_name` answers where the library reads the pattern so: the buffer gets the name; NONE where it is refused for
-- something else, and where it is not refused.
abbrev pub TellsOfReading : Result Regex Error → List ℕ → List ℕ → ℕ → ℕ → Type 0
TellsOfReading (Ok regex) old new wanted answer = (answer ≡ 1) × (wanted ≡ 0) × (new ≡ old)
TellsOfReading (Err Memory) old new wanted answer = (answer ≡ 4) × (wanted ≡ 0) × (new ≡ old)
TellsOfReading (Err (ParseError place kind)) old new wanted answer = (answer ≡ 1) × (wanted ≡ 0) × (new ≡ old)
TellsOfReading (Err (CompileError why)) old new wanted answer =
    ByMissing why (λ name. Puts name old new wanted answer) ((answer ≡ 1) × (wanted ≡ 0) × (new ≡ old))
TellsOfReading (Err (RuntimeError why)) old new wanted answer = (answer ≡ 1) × (wanted ≡ 0) × (new ≡ old)

-- `missing_name`: as the library reads the pattern; NONE where the options mean nothing, or the pattern is no UTF-8
pub data TellsMissing (o : Options) (pattern old new : List ℕ) (wanted answer : ℕ) : Type 0 where
  is_read : MeanSomething o → IsUtf8 pattern
      → ((read : Result Regex Error) × IsReading (options_meant o) pattern read × TellsOfReading read old new wanted answer)
      → TellsMissing o pattern old new wanted answer
  is_unread : answer ≡ 1 → (MeanSomething o → IsUtf8 pattern → ⊥) → wanted ≡ 0 → new ≡ old → TellsMissing o pattern old new wanted answer
