-- The loop that code comes to where an item of it stands.
use Rattle.std.specs.Prelude.{◌≡◌, ℕ, ◌+◌, ◌<◌, true, List, Some, slice_get}
use Rattle.fancy_tree.specs.declared.tree.Meaning.{Meaning}
use Rattle.fancy_bytes.specs.Sets.{ByteFlags, member}
use Rattle.fancy_code.specs.declared.code.Code.{Code}
use Rattle.fancy_code.specs.Code.{instrs_of}
use Rattle.fancy_meaning.specs.Context.{Context, State, moved_to}
use Rattle.fancy_code.specs.Instructions.{Instruction}
use Rattle.fancy_code.specs.Run.{run}
use Rattle.fancy_splits.specs.declared.front.Front.{Front}
use Rattle.fancy_splits.specs.declared.splits.ToldSplit.{ToldSplit}
use Rattle.fancy_splits.specs.declared.splits.Splits.{Splits}
use Rattle.fancy_prices.specs.Rows.{AreWhole}
use Rattle.fancy_prices.specs.Prices.{Costs, Dies}
use Rattle.fancy_splits.specs.Splits.{IsNoted, byte_alone}

-- Where the byte b stands before the limit, and all dies from the instruction `to` on after it, all dies from q on: it counts so many marks and returns more,
-- whatever was noted of groups.
abbrev pub LeadsBy : List Instruction → Meaning → ℕ → ℕ → ℕ → ℕ → ℕ → Type 0
LeadsBy code meaning b m r q to =
    (x : Context) (limit n : ℕ) (s : State) (v : List ℕ) → x.meaning ≡ meaning → slice_get x.haystack s.place ≡ Some b → s.place < limit
    → (i j : ℕ) → ((k : ℕ) (w : List ℕ) → Costs i j (run x limit code k to (moved_to s (s.place + 1)) w)) → Costs (m + i) (r + j) (run x limit code n q s v)

-- so it is of each byte of the set
abbrev pub Leads : List Instruction → Meaning → ByteFlags → ℕ → ℕ → ℕ → ℕ → Type 0
Leads code meaning set m r q to = (b : ℕ) → b < 256 → member set b ≡ true → LeadsBy code meaning b m r q to

-- from the instruction q on the code comes to the loop over each item of it that is one byte
abbrev pub IsFront : Splits → Code → ℕ → Front → Type 0
IsFront splits code q f =
    (l : ToldSplit) → IsNoted splits f.at l
    → Leads (instrs_of code) code.meaning l.items f.before.marks f.before.returns q f.at × (f.whole ≡ true → AreWhole l.items)

-- Where a byte of the set stands, the code from q on dies, and costs no mark and no return.
abbrev pub DiesAtEach : List Instruction → Meaning → ByteFlags → ℕ → Type 0
DiesAtEach code meaning set q = (b : ℕ) → b < 256 → member set b ≡ true → Dies code meaning (byte_alone b) 0 0 q
