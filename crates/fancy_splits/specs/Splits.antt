-- The choices of code, and what bytes tell of their ways.
use Rattle.std.specs.Prelude.{IfSome, ◌≡◌, ℕ, zero, suc, ◌+◌, ◌<◌, ◌≤◌, ◌⊎◌, true, false, List, [], ◌∷◌, length, Option, Some, None, slice_get, slice_index, slice_index_or, slice_set}
use Rattle.fancy_tree.specs.declared.tree.Meaning.{Meaning}
use Rattle.fancy_bytes.specs.Sets.{ByteFlags, member}
use Rattle.fancy_code.specs.declared.code.Code.{Code}
use Rattle.fancy_code.specs.Code.{instrs_of}
use Rattle.fancy_meaning.specs.Context.{Context, State, moved_to, with_capture}
use Rattle.fancy_code.specs.Instructions.{Instruction, Enter, Split}
use Rattle.fancy_code.specs.Items.{ReadsByte, ReadsEach}
use Rattle.fancy_code.specs.Run.{Note, Stop, fetched, before, instr_at, run}
use Rattle.fancy_prices.specs.declared.facts.Facts.{Facts}
use Rattle.fancy_splits.specs.declared.atoms.ToldAtom.{ToldAtom}
use Rattle.fancy_splits.specs.declared.choices.Onward.{Onward}
use Rattle.fancy_splits.specs.declared.choices.Onward.TheVariants as o
use Rattle.fancy_splits.specs.declared.choices.Passage.{Passage}
use Rattle.fancy_splits.specs.declared.choices.SavedWays.{SavedWays}
use Rattle.fancy_splits.specs.declared.choices.SavedWays.TheVariants as w
use Rattle.fancy_splits.specs.declared.choices.ToldChoice.{ToldChoice}
use Rattle.fancy_splits.specs.declared.splits.ToldSplit.{ToldSplit}
use Rattle.fancy_splits.specs.declared.splits.ToldPart.{ToldPart}
use Rattle.fancy_splits.specs.declared.splits.ToldPart.TheVariants.{Loop, Choice, Atom, Denial}
use Rattle.fancy_splits.specs.declared.splits.Splits.{Splits}
use Rattle.fancy_prices.specs.Prices.{Costs, Dies}
use Rattle.fancy_splits.specs.Denials.{IsToldDenial}

-- Where the byte b stands before the limit, the code at q opens the group g, reads the byte, closes the group, and goes on at `back`.
abbrev pub ReadsByteIn : List Instruction → Meaning → ℕ → ℕ → ℕ → ℕ → Type 0
ReadsByteIn code meaning g b q back =
    (x : Context) (limit n : ℕ) (s : State) (v : List ℕ) → x.meaning ≡ meaning → slice_get x.haystack s.place ≡ Some b → s.place < limit
    → run x limit code (suc (suc (suc n))) q s v
    ≡ before (Note fetched) (before (Note fetched) (before (Note fetched)
    (run x limit code n back (with_capture (moved_to s (s.place + 1)) g (slice_index (slice_set v g s.place) g)) (slice_set v g s.place))))

-- so it is of each byte of the set
abbrev pub ReadsEachIn : List Instruction → Meaning → ByteFlags → ℕ → ℕ → ℕ → Type 0
ReadsEachIn code meaning set g q back = (b : ℕ) → b < 256 → member set b ≡ true → ReadsByteIn code meaning g b q back

-- nothing is consumed from this place on
abbrev pub IsPast : List ℕ → ℕ → ℕ → Type 0
IsPast haystack limit p = (limit ≤ p) ⊎ (length haystack ≤ p)

-- there the code from q on dies, and costs no mark and no return
abbrev pub DiesPast : List Instruction → ℕ → Type 0
DiesPast code q = (x : Context) (limit n : ℕ) (s : State) (v : List ℕ) → IsPast x.haystack limit s.place → Costs 0 0 (run x limit code n q s v)

-- A way that comes to q stops at once, and what is round the region that it stands in goes on at `next`.
abbrev pub StopsAt : List Instruction → ℕ → ℕ → Type 0
StopsAt code q next = (x : Context) (limit n : ℕ) (s : State) (v : List ℕ) → run x limit code (suc n) q s v ≡ Some (Note fetched ∷ Stop next s v ∷ [])

-- the byte stands at a place, and nothing is told of what stands before it
abbrev pub byte_alone : ℕ → Facts
byte_alone b = record { here = b; before = None }

-- Where a byte stands that is not in the set, the code from q on dies, and costs no mark and no return.
abbrev pub LeavesAt : List Instruction → Meaning → ByteFlags → ℕ → Type 0
LeavesAt code meaning set q = (b : ℕ) → b < 256 → member set b ≡ false → Dies code meaning (byte_alone b) 0 0 q

-- no byte is in both sets
abbrev pub AreApart : ByteFlags → ByteFlags → Type 0
AreApart set other = (b : ℕ) → b < 256 → member set b ≡ true → member other b ≡ false

-- At this instruction stands a loop: the first way of a choice reads each item, in a group if there is one, and comes back.
pub record IsToldSplit (code : List Instruction) (meaning : Meaning) (at : ℕ) (l : ToldSplit) : Type 0 where
  pub splits : instr_at code at ≡ Split l.first l.second
  pub reads : l.group ≡ None → ReadsEach code meaning l.items l.first at
  pub reads_in : (g : ℕ) → l.group ≡ Some g → ReadsEachIn code meaning l.items g l.first at
  pub ends : DiesPast code l.first
  pub stops : (next : ℕ) → l.stop ≡ Some next → StopsAt code l.second next
  pub misses : LeavesAt code meaning l.begins l.first
  pub leaves : LeavesAt code meaning l.leaves l.second
  pub apart : l.apart ≡ true → AreApart l.items l.leaves

-- Where the byte b stands, n choices are passed over one after another from q on: the first way of each dies. So the code comes to `to`, with so many
-- marks and returns.
abbrev pub PassesOver : List Instruction → Meaning → ℕ → ℕ → ℕ → ℕ → ℕ → ℕ → Type 0
PassesOver code meaning b zero m r q to = (m ≡ 0) × (r ≡ 0) × (q ≡ to)
PassesOver code meaning b (suc n) m r q to =
    (first : ℕ) × (second : ℕ) × (instr_at code q ≡ Split first second) × (i : ℕ) × (j : ℕ) × Dies code meaning (byte_alone b) i j first
    × (k : ℕ) × (l : ℕ) × PassesOver code meaning b n k l second to × (m ≡ suc (i + k)) × (r ≡ j + suc l)

-- the ways that a passage saves, in that order
abbrev pub ways_in : SavedWays → List ℕ
ways_in w.Nothing = []
ways_in (w.One way) = way ∷ []
ways_in (w.Two outer inner) = outer ∷ inner ∷ []

abbrev pub ways_of : Passage → List ℕ
ways_of p = ways_in p.saved

-- Where the byte b stands, the code comes from q to `to`: choices are passed over, and between them the second ways of others are saved, one after another. But
-- for the marks of these there are so many marks and returns.
abbrev pub LeadsTo : List Instruction → Meaning → ℕ → ℕ → ℕ → List ℕ → ℕ → ℕ → Type 0
LeadsTo code meaning b m r [] q to = (n : ℕ) × PassesOver code meaning b n m r q to
LeadsTo code meaning b m r (second ∷ ways) q to =
    (n : ℕ) × (i : ℕ) × (j : ℕ) × (at : ℕ) × PassesOver code meaning b n i j q at × (way : ℕ) × (instr_at code at ≡ Split way second)
    × (k : ℕ) × (l : ℕ) × LeadsTo code meaning b k l ways way to × (m ≡ i + k) × (r ≡ j + l)

-- Where the byte b stands, the code comes from q on to where it goes on at `to` as `Last` says. It goes through so many atomic groups: it comes to the start of one,
-- goes on so within it, and stops there at once. The ways that are saved in a group are dropped where it stops.
abbrev pub LeadsOut : List Instruction → Meaning → ℕ → (ℕ → ℕ → Type 0) → ℕ → ℕ → ℕ → List ℕ → ℕ → ℕ → Type 0
LeadsOut code meaning b Last zero m r ways q to = (at : ℕ) × LeadsTo code meaning b m r ways q at × Last at to
LeadsOut code meaning b Last (suc groups) m r ways q to =
    (i : ℕ) × (j : ℕ) × (at : ℕ) × LeadsTo code meaning b i j ways q at × (body : ℕ) × (instr_at code at ≡ Enter body)
    × (k : ℕ) × (l : ℕ) × (dropped : List ℕ) × (last : ℕ) × LeadsOut code meaning b Last groups k l dropped body last × StopsAt code last to
    × (m ≡ i + (k + length dropped)) × (r ≡ j + l)

-- the same through any number of them
abbrev pub LeadsPast : List Instruction → Meaning → ℕ → (ℕ → ℕ → Type 0) → ℕ → ℕ → List ℕ → ℕ → ℕ → Type 0
LeadsPast code meaning b Last m r ways q to = ∥ ((groups : ℕ) × LeadsOut code meaning b Last groups m r ways q to) ∥₁

-- what a passage from q on does where the byte b stands
abbrev pub Leads : List Instruction → Meaning → ℕ → ℕ → ℕ → List ℕ → Onward → ℕ → Type 0
Leads code meaning b m r ways o.Ends q = (ways ≡ []) × Dies code meaning (byte_alone b) m r q
Leads code meaning b m r ways (o.Goes to) q = LeadsPast code meaning b (λ from next. from ≡ next) m r ways q to
Leads code meaning b m r ways (o.Reads to) q = LeadsPast code meaning b (ReadsByte code meaning b) m r ways q to

-- at least one choice is passed over, or a way of it saved
abbrev pub Passes : ℕ → List ℕ → Type 0
Passes m ways = 0 < m + length ways

-- Where the byte b stands, the passage leads on from the choice at q.
abbrev pub IsPassageAt : List Instruction → Meaning → ℕ → ℕ → Passage → Type 0
IsPassageAt code meaning b q p = Passes p.price.marks (ways_of p) × Leads code meaning b p.price.marks p.price.returns (ways_of p) p.onward q

-- The passage with the number, if there is one, is that of the byte b from q on.
abbrev pub LeadsBy : List Instruction → Meaning → List Passage → ℕ → ℕ → Option ℕ → Type 0
LeadsBy code meaning passages q b number = IfSome number (λ k. (p : Passage) × (slice_get passages k ≡ Some p) × IsPassageAt code meaning b q p)

-- the passage is the choice by itself, over which nothing is passed
abbrev pub IsOwn : ToldChoice → Passage → Type 0
IsOwn c p = (p.onward ≡ o.Goes c.first) × (ways_of p ≡ c.second ∷ []) × (p.price.marks ≡ 0) × (p.price.returns ≡ 0)

-- the passage is noted for the byte
abbrev pub IsPassage : ToldChoice → ℕ → Passage → Type 0
IsPassage c b p = (k : ℕ) × (slice_index_or c.numbers b None ≡ Some k) × (slice_get c.passages.items k ≡ Some p)

-- At this instruction stands a choice. Each byte leads from it as is noted.
pub record IsToldChoice (code : List Instruction) (meaning : Meaning) (at : ℕ) (c : ToldChoice) : Type 0 where
  pub splits : instr_at code at ≡ Split c.first c.second
  pub leads : (b : ℕ) (p : Passage) → b < 256 → IsPassage c b p → IsPassageAt code meaning b at p

-- At this instruction an atomic group begins. Its body is a loop, or reads each of these items and goes on at a loop.
pub record IsToldAtom (code : List Instruction) (meaning : Meaning) (at : ℕ) (a : ToldAtom) : Type 0 where
  pub enters : instr_at code at ≡ Enter a.body
  pub alone : a.leads ≡ false → a.body ≡ a.head
  pub reads : a.leads ≡ true → ReadsEach code meaning a.items a.body a.head

-- what is told of the instruction is so
abbrev pub IsTold : List Instruction → Meaning → ℕ → ToldPart → Type 0
IsTold code meaning at (Loop l) = IsToldSplit code meaning at l
IsTold code meaning at (Choice c) = IsToldChoice code meaning at c
IsTold code meaning at (Atom a) = IsToldAtom code meaning at a
IsTold code meaning at (Denial l) = IsToldDenial code meaning at l

-- each part that has a number stands at an instruction that it is noted for
abbrev pub AreNoted : (ℕ → ToldPart → Type 0) → List (Option ℕ) → List ToldPart → Type 0
AreNoted stands numbers parts = (at number : ℕ) (l : ToldPart) → slice_index_or numbers at None ≡ Some number → slice_get parts number ≡ Some l → stands at l

-- the part is noted for the instruction
abbrev pub IsPart : Splits → ℕ → ToldPart → Type 0
IsPart l at o = (number : ℕ) × (slice_index_or l.numbers.items at None ≡ Some number) × (slice_get l.parts.items number ≡ Some o)

-- the loop is
abbrev pub IsNoted : Splits → ℕ → ToldSplit → Type 0
IsNoted l at o = IsPart l at (Loop o)

-- each part that is noted is one, at the instruction that it is noted for
abbrev pub AreSplits : Splits → Code → Type 0
AreSplits l code = AreNoted (IsTold (instrs_of code) code.meaning) l.numbers.items l.parts.items
