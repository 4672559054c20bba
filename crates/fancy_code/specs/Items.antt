-- What an instruction reads that reads an item.
use Rattle.std.specs.Prelude.{◌≡◌, ℕ, suc, ◌+◌, ◌<◌, ◌==◌, Bool, true, false, List, Some, slice_get}
use Rattle.fancy_tree.specs.declared.tree.Meaning.{Meaning}
use Rattle.fancy_bytes.specs.Sets.{ByteFlags, member}
use Rattle.fancy_meaning.specs.Context.{Context, State, Unit_at, moved_to, unit_in}
use Rattle.fancy_code.specs.Instructions.{Instruction, Character, Member, RawByte}
use Rattle.fancy_code.specs.Run.{Note, fetched, before, run}

-- an item of one byte
abbrev pub single : ℕ → Unit_at
single b = record { code = b; width = 1 }

-- wherever the byte stands, it is an item by itself
abbrev pub IsAlone : Meaning → ℕ → Type 0
IsAlone meaning b = (haystack : List ℕ) (p : ℕ) → slice_get haystack p ≡ Some b → unit_in meaning haystack p ≡ Some (single b)

-- each byte of the set is by itself an item that passes the test
abbrev pub AreItems : Meaning → (ℕ → Bool) → ByteFlags → Type 0
AreItems meaning test set = (b : ℕ) → b < 256 → member set b ≡ true → IsAlone meaning b × (test b ≡ true)

-- Where the byte b stands before the limit, the code at q reads it, and goes on at `back` after it.
abbrev pub ReadsByte : List Instruction → Meaning → ℕ → ℕ → ℕ → Type 0
ReadsByte code meaning b q back =
    (x : Context) (limit n : ℕ) (s : State) (v : List ℕ) → x.meaning ≡ meaning → slice_get x.haystack s.place ≡ Some b → s.place < limit
    → run x limit code (suc n) q s v ≡ before (Note fetched) (run x limit code n back (moved_to s (s.place + 1)) v)

-- so it is of each byte of the set
abbrev pub ReadsEach : List Instruction → Meaning → ByteFlags → ℕ → ℕ → Type 0
ReadsEach code meaning set q back = (b : ℕ) → b < 256 → member set b ≡ true → ReadsByte code meaning b q back

-- whether the instruction reads an item, and goes on at `next`
abbrev pub reads_to : Instruction → ℕ → Bool
reads_to (Character c q) next = q == next
reads_to (Member edges q) next = q == next
reads_to (RawByte byte q) next = q == next
reads_to i next = false
