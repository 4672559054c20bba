-- What one byte tells of a negated look-around.
use Rattle.std.specs.Prelude.{◌≡◌, ℕ, ◌<◌, Bool, true, false, List, length, Some, slice_get, slice_index_or}
use Rattle.fancy_tree.specs.declared.tree.Meaning.{Meaning}
use Rattle.fancy_input.specs.Lines.{byte_before}
use Rattle.fancy_meaning.specs.Context.{Context, State}
use Rattle.fancy_meaning.specs.Events.{ends_look}
use Rattle.fancy_code.specs.Instructions.{Instruction, Deny}
use Rattle.fancy_code.specs.Run.{instr_at, run}
use Rattle.fancy_prices.specs.Prices.{Meets, Misses}
use Rattle.fancy_splits.specs.declared.denials.Sight.{Sight}
use Rattle.fancy_splits.specs.declared.denials.Sight.TheVariants.{Unclear, Finds, Misses as MissesBy}
use Rattle.fancy_splits.specs.declared.denials.ToldDenial.{ToldDenial}

-- the byte that a look-around at p sees: the one before p where it looks behind, and else the one at p
abbrev pub SeesByte : Bool → List ℕ → ℕ → ℕ → Type 0
SeesByte true haystack p b = byte_before haystack p ≡ Some b
SeesByte false haystack p b = slice_get haystack p ≡ Some b

-- Where it sees the byte, the code from q on, which it looks for, is not found, and counts so many marks and returns.
abbrev pub MissesAt : List Instruction → Meaning → Bool → ℕ → ℕ → ℕ → ℕ → Type 0
MissesAt code meaning behind b m r q =
    (x : Context) (limit n : ℕ) (s : State) (v : List ℕ) → x.meaning ≡ meaning → SeesByte behind x.haystack s.place b
    → Misses (ends_look behind s.place) m r (run x limit code n q s v)

-- Where it sees the byte, the code from q on is found, with no mark and no return before that.
abbrev pub FindsAt : List Instruction → Meaning → Bool → ℕ → ℕ → Type 0
FindsAt code meaning behind b q =
    (x : Context) (n : ℕ) (s : State) (v : List ℕ) → x.meaning ≡ meaning → SeesByte behind x.haystack s.place b
    → Meets (ends_look behind s.place) (run x (length x.haystack) code n q s v)

-- what the byte tells is so
abbrev pub IsSight : List Instruction → Meaning → Bool → ℕ → ℕ → Sight → Type 0
IsSight code meaning behind q b Unclear = Unit {0}
IsSight code meaning behind q b Finds = FindsAt code meaning behind b q
IsSight code meaning behind q b (MissesBy c) = MissesAt code meaning behind b c.marks c.returns q

-- so it is of each byte
abbrev pub AreSights : List Instruction → Meaning → Bool → ℕ → List Sight → Type 0
AreSights code meaning behind q sights = (b : ℕ) → b < 256 → IsSight code meaning behind q b (slice_index_or sights b Unclear)

-- At this instruction stands a negated look-around, and bytes tell of it what is noted.
pub record IsToldDenial (code : List Instruction) (meaning : Meaning) (at : ℕ) (l : ToldDenial) : Type 0 where
  pub denies : instr_at code at ≡ Deny l.behind l.body l.next
  pub sights : AreSights code meaning l.behind l.body l.sights
