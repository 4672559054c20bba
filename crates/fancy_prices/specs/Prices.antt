-- What code costs where all of its ways die, and what is told of a place tells of that.
use Rattle.std.specs.Prelude.{◌≡◌, ℕ, suc, ◌-◌, ◌<◌, ◌≤◌, ◌==◌, Bool, true, false, ◌&&◌, List, [], ◌∷◌, length, Option, Some, None, if◌then◌else◌, nat_lt, slice_get, slice_index}
use Rattle.fancy_tree.specs.declared.tree.Meaning.{Meaning}
use Rattle.fancy_bytes.specs.Items.{encoding}
use Rattle.fancy_input.specs.Lines.{byte_before}
use Rattle.fancy_meaning.specs.Context.{Context, State}
use Rattle.fancy_meaning.specs.Events.{Event, any, ends_look, marks_in, returns_in}
use Rattle.fancy_code.specs.Instructions.{Instruction, Back, Character, Match, Member}
use Rattle.fancy_code.specs.Run.{Raw, Note, Stop, choice_opened, returned, fetched, instr_at, run}
use Rattle.fancy_prices.specs.declared.facts.Ending.{Ending}
use Rattle.fancy_prices.specs.declared.facts.Facts.{Facts}
use Rattle.fancy_prices.specs.declared.facts.Before.{Before}
use Rattle.fancy_prices.specs.declared.price.Price.{Price}
use Rattle.fancy_tree.specs.Sets.{has}
use Rattle.fancy_prices.specs.Facts.{IsAlways, IsEnding, IsOfKind, Stands}
use Rattle.fancy_meaning.specs.Search.{Query, answer_at, choices_at, gone_through, is_match_boundary, returns_at}

-- no choice is opened
abbrev pub IsNothing : Price → Type 0
IsNothing c = (c.marks ≡ 0) × (c.returns ≡ 0)

-- no way stops as wanted, and there are so many marks and returns
abbrev pub MissesIn : (State → Bool) → ℕ → ℕ → List Raw → Type 0
MissesIn wanted m r [] = (m ≡ 0) × (r ≡ 0)
MissesIn wanted m r (Note choice_opened ∷ w) = (k : ℕ) × (m ≡ suc k) × MissesIn wanted k r w
MissesIn wanted m r (Note returned ∷ w) = (k : ℕ) × (r ≡ suc k) × MissesIn wanted m k w
MissesIn wanted m r (Note fetched ∷ w) = MissesIn wanted m r w
MissesIn wanted m r (Stop q s v ∷ w) = (wanted s ≡ false) × MissesIn wanted m r w

-- the same where the events may be unknown
abbrev pub Misses : (State → Bool) → ℕ → ℕ → Option (List Raw) → Type 0
Misses wanted m r None = Unit {0}
Misses wanted m r (Some w) = MissesIn wanted m r w

-- Where the events are known no way stops, and there are so many marks and returns.
abbrev pub Costs : ℕ → ℕ → Option (List Raw) → Type 0
Costs m r o = Misses any m r o

-- ways may stop, but there is no mark and no return
abbrev pub IsQuietIn : List Raw → Type 0
IsQuietIn [] = Unit {0}
IsQuietIn (Note choice_opened ∷ w) = ⊥
IsQuietIn (Note returned ∷ w) = ⊥
IsQuietIn (Note fetched ∷ w) = IsQuietIn w
IsQuietIn (Stop q s v ∷ w) = IsQuietIn w

-- the same where the events may be unknown
abbrev pub Quiet : Option (List Raw) → Type 0
Quiet None = Unit {0}
Quiet (Some w) = IsQuietIn w

-- From q on the code has no mark and no return, wherever it goes on.
abbrev pub IsQuiet : List Instruction → ℕ → Type 0
IsQuiet code q = (x : Context) (limit n : ℕ) (s : State) (v : List ℕ) → Quiet (run x limit code n q s v)

-- From q on the code counts so many marks and returns, and stops at no place before which the text ends so.
abbrev pub StopsNeverBehind : List Instruction → Ending → ℕ → ℕ → ℕ → Type 0
StopsNeverBehind code ending m r q =
    (x : Context) (limit n : ℕ) (s : State) (v : List ℕ) (p : ℕ) → IsEnding ending x.haystack p
    → Misses (λ t. t.place == p) m r (run x limit code n q s v)

-- the code reads an item and stops, and each byte of this kind is such an item
abbrev pub ReadsEach : List Instruction → Before → ℕ → Type 0
ReadsEach code kind q =
    (edges : List ℕ) × (next : ℕ) × (instr_at code q ≡ Member edges next) × (instr_at code next ≡ Match)
    × IsAlways kind (λ b. nat_lt b 128 && has edges b)

-- the code reads an ASCII character and stops
abbrev pub ReadsLow : List Instruction → ℕ → Type 0
ReadsLow code q = (c : ℕ) × (next : ℕ) × (instr_at code q ≡ Character c next) × (instr_at code next ≡ Match) × (c < 128)

-- the same once it went back over one item
abbrev pub FindsBehind : List Instruction → Before → ℕ → Type 0
FindsBehind code kind q = (item : ℕ) × (instr_at code q ≡ Back 1 item) × ReadsEach code kind item

-- the code from q on is looked for behind a place, where it is told by what stands before that it is found
abbrev pub IsDenied : List Instruction → Bool → Facts → ℕ → Type 0
IsDenied code behind f q = (kind : Before) × (behind ≡ true) × (f.before ≡ Some kind) × FindsBehind code kind q

-- the first way that stops does so as wanted, and before that there is no mark and no return
abbrev pub MeetsIn : (State → Bool) → List Raw → Type 0
MeetsIn wanted [] = ⊥
MeetsIn wanted (Note choice_opened ∷ w) = ⊥
MeetsIn wanted (Note returned ∷ w) = ⊥
MeetsIn wanted (Note fetched ∷ w) = MeetsIn wanted w
MeetsIn wanted (Stop q s v ∷ w) = wanted s ≡ true

-- the same where the events may be unknown
abbrev pub Meets : (State → Bool) → Option (List Raw) → Type 0
Meets wanted None = Unit {0}
Meets wanted (Some w) = MeetsIn wanted w

-- Where the facts hold the code from q on, which a look-around looks for, is not found, and counts so many marks and returns.
abbrev pub FindsNone : List Instruction → Meaning → Bool → Facts → ℕ → ℕ → ℕ → Type 0
FindsNone code meaning behind f m r q =
    (x : Context) (limit n : ℕ) (s : State) (v : List ℕ) → x.meaning ≡ meaning → Stands f x.haystack s.place
    → Misses (ends_look behind s.place) m r (run x limit code n q s v)

-- the last byte of an item
abbrev pub last_byte : Meaning → ℕ → ℕ
last_byte meaning c = slice_index (encoding meaning c) (length (encoding meaning c) - 1)

-- an item with this code does not end with the byte
abbrev pub EndsNotWith : ℕ → ℕ → Type 0
EndsNotWith c b = (meaning : Meaning) → last_byte meaning c ≡ b → ⊥

-- an item with this code ends with no byte of the kind
abbrev pub EndsOtherwise : Before → ℕ → Type 0
EndsOtherwise kind c = (meaning : Meaning) → IsOfKind kind (Some (last_byte meaning c)) → ⊥

-- From q on the code dies where the facts hold, and counts so many marks and returns, whatever else there is.
abbrev pub Dies : List Instruction → Meaning → Facts → ℕ → ℕ → ℕ → Type 0
Dies code meaning f m r q =
    (x : Context) (limit n : ℕ) (s : State) (v : List ℕ) → x.meaning ≡ meaning → Stands f x.haystack s.place
    → Costs m r (run x limit code n q s v)

-- So it is where this byte stands, and that before it.
abbrev pub DiesAfter : List Instruction → Meaning → Option ℕ → ℕ → ℕ → ℕ → ℕ → Type 0
DiesAfter code meaning before here m r q =
    (x : Context) (limit n : ℕ) (s : State) (v : List ℕ) → x.meaning ≡ meaning → slice_get x.haystack s.place ≡ Some here → byte_before x.haystack s.place ≡ before
    → Costs m r (run x limit code n q s v)

-- Where the text before a place ends so, the code from q on dies there, and counts so many marks and returns.
abbrev pub DiesBehind : List Instruction → Ending → ℕ → ℕ → ℕ → Type 0
DiesBehind code ending m r q = (x : Context) (limit n : ℕ) (s : State) (v : List ℕ) → IsEnding ending x.haystack s.place → Costs m r (run x limit code n q s v)

-- no item that passes the test begins with the byte
abbrev pub BeginsNone : Meaning → (ℕ → Bool) → ℕ → Type 0
BeginsNone meaning test byte = (c : ℕ) → test c ≡ true → slice_index (encoding meaning c) 0 ≡ byte → ⊥

-- the attempt at p finds nothing, and goes through so many marks and returns
pub record IsPriceAt (q : Query) (p m r : ℕ) : Type 0 where
  pub none : answer_at q p ≡ None
  pub marks : marks_in (gone_through q p) ≡ m
  pub returns : returns_in (gone_through q p) ≡ r

-- an attempt at p finds nothing, and costs no more choices than that and so many returns
pub record CostsAt (q : Query) (p : ℕ) (c : Price) : Type 0 where
  pub none : answer_at q p ≡ None
  pub marks : choices_at q p ≤ c.marks
  pub returns : returns_at q p ≡ c.returns

-- what an attempt at p counts, where a match may begin there and it is tried
abbrev pub counted : Query → (ℕ → Bool) → ℕ → List Event
counted q tries p = if is_match_boundary q.sought.on_boundaries q.haystack p && tries p then gone_through q p else []

-- nothing is found at p, and what a search counts there is nothing
pub record CostsNothingAt (q : Query) (tries : ℕ → Bool) (p : ℕ) : Type 0 where
  pub none : answer_at q p ≡ None
  pub marks : marks_in (counted q tries p) ≡ 0
  pub returns : returns_in (counted q tries p) ≡ 0
