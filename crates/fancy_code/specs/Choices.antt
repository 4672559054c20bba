-- Which ways of a choice are to be gone at a place, by the byte that stands there.
use Rattle.std.specs.Prelude.{◌≡◌, ℕ, ◌<◌, ◌==◌, Bool, true, false, List, [], ◌∷◌, Option, Some, None, is_some, if◌then◌else◌, slice_get, slice_index}
use Rattle.std.specs.Option.{ForSome}
use Rattle.fancy_tree.specs.declared.tree.Meaning.{Meaning}
use Rattle.fancy_bytes.specs.Sets.{ByteFlags, member}
use Rattle.fancy_meaning.specs.Context.{Context, State}
use Rattle.fancy_code.specs.Instructions.{Instruction, Split}
use Rattle.fancy_code.specs.Run.{Raw, Note, Stop, instr_at, run}
use Rattle.fancy_prefilter.specs.declared.choice.Beginnings.{Beginnings}
use Rattle.fancy_code.specs.Items.{ReadsEach, reads_to}
use Rattle.fancy_prefilter.specs.declared.choice.Choice.{Choice}
use Rattle.fancy_prefilter.specs.declared.choice.ItemLoop.{ItemLoop}
use Rattle.fancy_prefilter.specs.declared.choice.Choice.TheVariants.{Both, First, Second}

-- whether a way stops
abbrev pub has_stop : List Raw → Bool
has_stop [] = false
has_stop (Note m ∷ w) = has_stop w
has_stop (Stop q s v ∷ w) = true

-- whether one does, where the events are known
abbrev pub stops : Option (List Raw) → Bool
stops None = false
stops (Some w) = has_stop w

-- No way of the code stops from q on where it begins at a byte that is not in the set.
abbrev pub BeginsAmong : List Instruction → Meaning → ByteFlags → ℕ → Type 0
BeginsAmong code m set q =
    (x : Context) (limit n : ℕ) (s : State) (v : List ℕ) → x.meaning ≡ m → ((k : ℕ) → slice_index x.haystack k < 256)
    → member set (slice_index x.haystack s.place) ≡ false → stops (run x limit code n q s v) ≡ false

-- where there is a choice at q, its ways begin by these sets
abbrev pub BeginAt : List Instruction → Meaning → Beginnings → ℕ → Type 0
BeginAt code m b q = (first second : ℕ) → instr_at code q ≡ Split first second → BeginsAmong code m b.first first × BeginsAmong code m b.second second

-- No way of the code stops from q on where it begins at a byte of the set.
abbrev pub BeginsOutside : List Instruction → Meaning → ByteFlags → ℕ → Type 0
BeginsOutside code m set q =
    (x : Context) (limit n : ℕ) (s : State) (v : List ℕ) → x.meaning ≡ m → ((k : ℕ) → slice_index x.haystack k < 256)
    → member set (slice_index x.haystack s.place) ≡ true → stops (run x limit code n q s v) ≡ false

-- the way of a choice beside the one that begins at an instruction
abbrev pub way_beside : Instruction → ℕ → Option ℕ
way_beside (Split first second) q = if first == q then (Some second) else (if second == q then (Some first) else None)
way_beside i q = None

-- One way of the choice at q reads each of these bytes as an item and leads back to the choice. The other way begins with none of them.
pub record GoesRound (code : List Instruction) (m : Meaning) (l : ItemLoop) (q : ℕ) : Type 0 where
  pub ways : is_some (way_beside (instr_at code q) l.item) ≡ true
  pub item : reads_to (instr_at code l.item) q ≡ true
  pub reads : ReadsEach code m l.bytes l.item q
  pub outside : (other : ℕ) → way_beside (instr_at code q) l.item ≡ Some other → BeginsOutside code m l.bytes other

-- one for each of the first instructions, or for none
abbrev pub AreBeginnings : List Beginnings → List Instruction → Meaning → Type 0
AreBeginnings all code m = (q : ℕ) (b : Beginnings) → slice_get all q ≡ Some b → BeginAt code m b q × ForSome b.item_loop (λ l. GoesRound code m l q)

-- no way of the code stops from q on, if it begins at the place
abbrev pub StopsNowhere : List Instruction → Meaning → List ℕ → ℕ → ℕ → Type 0
StopsNowhere code m haystack place q =
    (x : Context) (limit n : ℕ) (s : State) (v : List ℕ) → x.meaning ≡ m → x.haystack ≡ haystack → s.place ≡ place → stops (run x limit code n q s v) ≡ false

-- a way that is left out stops nowhere
abbrev pub LeavesOut : List Instruction → Meaning → List ℕ → ℕ → Choice → ℕ → ℕ → Type 0
LeavesOut code m haystack place Both first second = Unit {0}
LeavesOut code m haystack place First first second = StopsNowhere code m haystack place second
LeavesOut code m haystack place Second first second = StopsNowhere code m haystack place first
