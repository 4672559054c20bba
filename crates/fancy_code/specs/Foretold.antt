-- Which bytes stand at the first places of what code consumes from an instruction on.
use Rattle.std.specs.Prelude.{◌≡◌, ℕ, ◌+◌, ◌<◌, ◌≤◌, ◌==◌, ◌||◌, Bool, true, false, List, length, Some, slice_get, slice_index}
use Rattle.std.specs.Global.{Vec}
use Rattle.unicode.specs.Perl.{is_word_byte}
use Rattle.fancy_tree.specs.declared.tree.Assertion.{Assertion}
use Rattle.fancy_tree.specs.declared.tree.Assertion.TheVariants.{TextStart, LineStart, WordBoundary}
use Rattle.fancy_tree.specs.declared.tree.Meaning.{Meaning}
use Rattle.fancy_bytes.specs.Sets.{ByteFlags, member}
use Rattle.fancy_prefilter.specs.declared.prefilter.Anchor.{Anchor}
use Rattle.fancy_prefilter.specs.declared.prefilter.Anchor.TheVariants.{Anywhere, AtStart, AtLines, AtWords}
use Rattle.fancy_bytes.specs.Rows.{StandsFrom}
use Rattle.fancy_code.specs.Code.{instrs_of}
use Rattle.fancy_meaning.specs.Context.{Context, State, holds, moved_to, past_item}
use Rattle.fancy_code.specs.Instructions.{Instruction}
use Rattle.fancy_code.specs.Run.{Foretells, run}
use Rattle.fancy_code.specs.declared.code.Code.{Code}

-- The code goes on at an instruction o places after the window's beginning, o being `from` or more, and exactly `from` where it is told so. Where a way stops from there, a byte of each set from that number on stands in the window.
abbrev pub Foretold : List Instruction → Meaning → List ByteFlags → ℕ → Bool → ℕ → Type 0
Foretold code m sets from exact at =
    (x : Context) (limit n : ℕ) (s : State) (v : List ℕ) (o p : ℕ) → x.meaning ≡ m → ((k : ℕ) → slice_index x.haystack k < 256)
    → from ≤ o → (exact ≡ true → o ≡ from) → s.place ≡ p + o
    → Foretells (StandsFrom sets x.haystack limit o p) (run x limit code n at s v)

-- The same where the code reads an item that passes a test and has so many bytes, at least and below a bound, before it goes on.
abbrev pub ForetoldPast : List Instruction → Meaning → List ByteFlags → ℕ → Bool → (ℕ → Bool) → ℕ → ℕ → ℕ → Type 0
ForetoldPast code m sets from exact test least bound next =
    (x : Context) (limit n : ℕ) (s : State) (v : List ℕ) (o p q : ℕ) → x.meaning ≡ m → ((k : ℕ) → slice_index x.haystack k < 256)
    → from ≤ o → (exact ≡ true → o ≡ from) → s.place ≡ p + o
    → past_item x test s.place ≡ Some q → s.place + least ≤ q → q < s.place + bound → q ≤ limit
    → Foretells (StandsFrom sets x.haystack limit o p) (run x limit code n next (moved_to s q) v)

-- Where a way of the code stops, a byte of each set stands in the window that begins where it was begun.
abbrev pub AreForetold : List ByteFlags → Code → Type 0
AreForetold sets code =
    (x : Context) (limit n : ℕ) (s : State) (v : List ℕ) → x.meaning ≡ code.meaning → ((k : ℕ) → slice_index x.haystack k < 256)
    → Foretells (StandsFrom sets x.haystack limit 0 s.place) (run x limit (instrs_of code) n code.start s v)

-- The code goes on from an instruction only where an assertion holds: at no other place does a way stop from there.
abbrev pub IsAnchored : List Instruction → Assertion → ℕ → Type 0
IsAnchored code anchor at = (x : Context) (limit n : ℕ) (s : State) (v : List ℕ) → holds x anchor s.place ≡ false → Foretells ⊥ (run x limit code n at s v)

-- what may stand where a line or the text ends: its line end, or nothing, for which the byte 0 stands
abbrev pub is_at_end : ℕ → Bool
is_at_end b = (b == 0) || ((b == 10) || (b == 13))

-- where a byte stands, the assertion holds before a line feed, a carriage return or byte 0 alone
abbrev pub HoldsAtEnds : Assertion → Type 0
HoldsAtEnds a = (x : Context) (p : ℕ) → is_at_end (slice_index x.haystack p) ≡ false → holds x a p ≡ false

-- the code goes on from q at ends of lines and of the text alone
abbrev pub GoesOnAtEnds : List Instruction → ℕ → Type 0
GoesOnAtEnds code q = (a : Assertion) × HoldsAtEnds a × IsAnchored code a q

-- the code goes on from an instruction at line starts alone, and the set has line feeds
abbrev pub StartsLines : ByteFlags → List Instruction → ℕ → Type 0
StartsLines set code start = (member set 10 ≡ true) × IsAnchored code LineStart start

-- the code goes on from an instruction at boundaries of words alone, and the set has all but ASCII word characters
abbrev pub StartsWords : ByteFlags → List Instruction → ℕ → Type 0
StartsWords set code start = ((b : ℕ) → b < 256 → member set b ≡ false → is_word_byte b ≡ true) × IsAnchored code WordBoundary start

-- the code goes on only where the anchor says that matches start
abbrev pub StartsAt : Anchor → List Instruction → ℕ → Type 0
StartsAt Anywhere code start = Unit {0}
StartsAt AtStart code start = IsAnchored code TextStart start
StartsAt (AtLines set) code start = StartsLines set code start
StartsAt (AtWords set) code start = StartsWords set code start

-- one row for each of these instructions: the sets of the bytes at the first places of what is consumed from it on
pub record AreRows (code : List Instruction) (m : Meaning) (heads : List ℕ) (rows : List (Vec ByteFlags)) : Type 0 where
  pub count : length rows ≡ length heads
  pub each : (number : ℕ) (row : Vec ByteFlags) → slice_get rows number ≡ Some row → Foretold code m row.items 0 true (slice_index heads number)
