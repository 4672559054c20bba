-- What is told of the bytes that a pattern consumes, whatever it matches.
use Rattle.std.specs.Prelude.{⊤, ◌≡◌, ℕ, ◌+◌, ◌-◌, ◌<◌, ◌≤◌, slice_index_or, Bool, true, List, [], ◌∷◌, ◌++◌, map, length}
use Rattle.fancy_tree.specs.declared.tree.Assertion.{Assertion}
use Rattle.fancy_tree.specs.declared.tree.Meaning.{Meaning}
use Rattle.fancy_tree.specs.declared.tree.RepeatKind.{RepeatKind}
use Rattle.std.specs.Prelude.{Option}
use Rattle.fancy_tree.specs.Pattern.{Pattern, empty, character, member_of, in_any_case, raw_byte, assertion, group, repeat, followed, or_else, last_branch}
use Rattle.fancy_tree.specs.Sets.{has}
use Rattle.fancy_bytes.specs.Items.{encoding, first_of_items, is_item, only}
use Rattle.fancy_bytes.specs.Openings.{StandsBefore}
use Rattle.fancy_bytes.specs.Sets.{ByteFlags, member}
use Rattle.fancy_required.specs.declared.told.Told.{Told}
use Rattle.fancy_required.specs.declared.told.Told.TheVariants.{Gap, One, Among}

-- any bytes, in any number
abbrev pub gap : List Told
gap = Gap ∷ []

-- the pattern reads one item, which passes the test
pub data ReadsItem : Pattern → (ℕ → Bool) → Type 0 where
  reads_character : (c : ℕ) → ReadsItem (character c) (only c)
  reads_member : (edges : List ℕ) → ReadsItem (member_of edges) (has edges)
  reads_any_case : (edges : List ℕ) → ReadsItem (in_any_case edges) (has edges)

-- the set has each byte with which an item begins that passes the test
abbrev pub HasFirst : Meaning → (ℕ → Bool) → ByteFlags → Type 0
HasFirst m test set = (b : ℕ) → b < 256 → first_of_items m test b ≡ true → member set b ≡ true

-- each item that passes the test is one byte
abbrev pub AreBytes : Meaning → (ℕ → Bool) → Type 0
AreBytes m test = (c : ℕ) → test c ≡ true → is_item m c ≡ true → length (encoding m c) ≡ 1

-- these bytes are told, one by one
pub data TellsText : List ℕ → List Told → Type 0 where
  no_byte : TellsText [] []
  one_byte : {b : ℕ} {bytes : List ℕ} {told : List Told} → TellsText bytes told → TellsText (b ∷ bytes) (One b ∷ told)

-- gaps alone
pub data AreGaps : List Told → Type 0 where
  no_gap : AreGaps []
  one_gap : {gaps : List Told} → AreGaps gaps → AreGaps (Gap ∷ gaps)

-- the set has each byte of which that tells
abbrev pub IsSetOf : ByteFlags → Told → Type 0
IsSetOf set Gap = ⊥
IsSetOf set (One byte) = byte < 256 → member set byte ≡ true
IsSetOf set (Among told) = (b : ℕ) → b < 256 → member told b ≡ true → member set b ≡ true

-- of one byte the one tells no more than the other
abbrev pub IsLess : Told → Told → Type 0
IsLess Gap told = ⊥
IsLess (One byte) told = told ≡ One byte
IsLess (Among set) told = IsSetOf set told

-- the one tells no more than the other
pub data TellsLess : List Told → List Told → Type 0 where
  nothing_told : {gaps told : List Told} → AreGaps gaps → TellsLess (Gap ∷ gaps) told
  no_more_told : TellsLess [] []
  same_gap : {less told : List Told} → TellsLess less told → TellsLess (Gap ∷ less) (Gap ∷ told)
  less_of_byte : {one another : Told} {less told : List Told} → IsLess one another → TellsLess less told → TellsLess (one ∷ less) (another ∷ told)

-- it tells no more than each of the two
pub record TellsBoth (first second told : List Told) : Type 0 where
  pub one : TellsLess told first
  pub other : TellsLess told second

-- Whatever the pattern matches, the bytes that it consumes are so: one of each set, or any in any number. Of a repeat the first turn is told.
pub data Tells (m : Meaning) : Pattern → List Told → Type 0 where
  any_bytes : (p : Pattern) → Tells m p gap
  of_nothing : Tells m empty []
  of_assertion : (a : Assertion) → Tells m (assertion a) []
  of_character : (c : ℕ) {told : List Told} → TellsText (encoding m c) told → Tells m (character c) told
  of_byte : (byte : ℕ) {told : List Told} → TellsText (byte ∷ []) told → Tells m (raw_byte byte) told
  of_byte_item : {p : Pattern} {test : ℕ → Bool} {set : ByteFlags} → ReadsItem p test → HasFirst m test set → AreBytes m test → Tells m p (Among set ∷ [])
  of_item : {p : Pattern} {test : ℕ → Bool} {set : ByteFlags} → ReadsItem p test → HasFirst m test set → Tells m p (Among set ∷ gap)
  of_group : (index : ℕ) {body : Pattern} {told : List Told} → Tells m body told → Tells m (group index body) told
  of_turns : {low : ℕ} (high : Option ℕ) (kind : RepeatKind) {body : Pattern} {told : List Told} → 1 ≤ low → Tells m body told → Tells m (repeat low high kind body) (told ++ gap)
  of_parts : {part rest : Pattern} {told more : List Told} → Tells m part told → Tells m rest more → Tells m (followed part rest) (told ++ more)
  of_either : {branch others : Pattern} {told : List Told} → Tells m branch told → Tells m others told → Tells m (or_else branch others) told
  of_last : {branch : Pattern} {told : List Told} → Tells m branch told → Tells m (last_branch branch) told
  of_less : {p : Pattern} {less told : List Told} → TellsLess less told → Tells m p told → Tells m p less

-- what was added is of this kind
pub record AddsSome (Kind : List Told → Type 0) (old new : List Told) : Type 0 where
  pub told : List Told
  pub is : new ≡ old ++ told
  pub kind : Kind told

-- what the pattern tells was added
abbrev pub Adds : Meaning → Pattern → List Told → List Told → Type 0
Adds m p old new = AddsSome (Tells m p) old new

-- patterns one after another
pub data TellsRow (m : Meaning) : List Pattern → List Told → Type 0 where
  no_part : TellsRow m [] []
  one_part : {p : Pattern} {ps : List Pattern} {told more : List Told} → Tells m p told → TellsRow m ps more → TellsRow m (p ∷ ps) (told ++ more)

-- each of them
pub data TellsEach (m : Meaning) : List Pattern → List Told → Type 0 where
  no_branch : {told : List Told} → TellsEach m [] told
  one_branch : {p : Pattern} {ps : List Pattern} {told : List Told} → Tells m p told → TellsEach m ps told → TellsEach m (p ∷ ps) told

-- Whatever the pattern matches, a byte of each of these sets stands in it, one after another.
pub record HasRow (m : Meaning) (p : Pattern) (row : List ByteFlags) : Type 0 where
  pub before : List Told
  pub after : List Told
  pub tells : Tells m p (before ++ (map Among row ++ after))

-- Whatever the pattern matches, the text stands in it.
pub record HasText (m : Meaning) (p : Pattern) (text : List ℕ) : Type 0 where
  pub before : List Told
  pub after : List Told
  pub tells : Tells m p (before ++ (map One text ++ after))

-- no text that is told, wherever that is, is longer
abbrev pub IsLongest : List Told → List ℕ → Type 0
IsLongest told text = (before after : List Told) (bytes : List ℕ) → told ≡ before ++ (map One bytes ++ after) → length bytes ≤ length text

-- it is a byte that is told
abbrev pub IsByte : Told → Type 0
IsByte Gap = ⊥
IsByte (One byte) = ⊤
IsByte (Among set) = ⊥

-- bytes are told from one number on up to another
abbrev pub AreBytesTold : List Told → ℕ → ℕ → Type 0
AreBytesTold told from to = (j : ℕ) → from ≤ j → j < to → IsByte (slice_index_or told j Gap)

-- as many bytes are told from this number on as anywhere
abbrev pub IsLongestFrom : List Told → ℕ → Type 0
IsLongestFrom told at = (from to : ℕ) → AreBytesTold told from to → AreBytesTold told at (at + (to - from))

-- the text stands from some place on, at this one or later, before the end
pub record StandsFrom (haystack : List ℕ) (from end : ℕ) (text : List ℕ) : Type 0 where
  pub place : ℕ
  pub low : from ≤ place
  pub stands : StandsBefore haystack end text place
