-- What `set_new` answers.
use Rattle.std.specs.Prelude.{◌≡◌, ◌≤◌, ◌&&◌, ℕ, zero, suc, List, [], length, nat_le, slice_get, slice_index, slice_range, Some, Ok, IsUtf8, if◌then◌else◌}
use Rattle.fancy_regex.specs.declared.Regex.{Regex}
use Rattle.fancy_regex.specs.Built.{IsReading}
use Rattle.fancy_regex_c.specs.declared.plain.Fault.{Fault}
use Rattle.fancy_regex_c.specs.declared.plain.Options.{Options}
use Rattle.fancy_regex_c.specs.Faults.{fault_of_kind, answer_of_kind, IsFault}
use Rattle.fancy_regex_c.specs.Reading.{options_meant, MeanSomething}

-- the part of the bytes from one offset to another, which is empty where there is none
abbrev pub part : List ℕ → ℕ → ℕ → List ℕ
part bytes start end = if nat_le start end && nat_le end (length bytes) then slice_range bytes start end else []

-- where the pattern with this index starts: at the end of the one before
abbrev pub start_of_text : List ℕ → ℕ → ℕ
start_of_text ends zero = 0
start_of_text ends (suc k) = slice_index ends k

-- the pattern with this index
abbrev pub text_at : List ℕ → List ℕ → ℕ → List ℕ
text_at patterns ends k = part patterns (start_of_text ends k) (slice_index ends k)

-- the regex is of this pattern
pub record IsRead (o : Options) (pattern : List ℕ) (regex : Regex) : Type 0 where
  pub options : MeanSomething o
  pub text : IsUtf8 pattern
  pub read : IsReading (options_meant o) pattern (Ok regex)

-- the first n patterns are read as these
pub record AreRead (o : Options) (patterns ends : List ℕ) (n : ℕ) (members : List Regex) : Type 0 where
  pub counted : length members ≡ n
  pub each : (k : ℕ) (r : Regex) → slice_get members k ≡ Some r → IsRead o (text_at patterns ends k) r

-- This is why there is no set: the first pattern that is refused, by its index, and why; or memory ran out.
pub data IsSetFault (o : Options) (patterns ends : List ℕ) (fault : Fault) : Type 0 where
  refused : (k : ℕ) → suc k ≤ length ends → (members : List Regex) → AreRead o patterns ends k members
      → (why : Fault) → IsFault o (text_at patterns ends k) why → fault ≡ record why { pattern = k } → IsSetFault o patterns ends fault
  no_memory : fault ≡ fault_of_kind 1 → IsSetFault o patterns ends fault

-- the answer goes with the fault
abbrev pub IsSetToldBy : Options → List ℕ → List ℕ → Fault → ℕ → Type 0
IsSetToldBy o patterns ends fault answer = (answer ≡ answer_of_kind fault.kind) × IsSetFault o patterns ends fault
