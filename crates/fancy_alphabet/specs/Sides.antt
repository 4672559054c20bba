-- What stands beside a place, as far as the tests of a place tell it.
use Rattle.std.specs.Prelude.{◌≡◌, ℕ, Bool, true, false, not, ◌&&◌, ◌||◌, List, length, slice_get, if◌then◌else◌, ◌==◌}
use Rattle.unicode.specs.Perl.{is_word_byte}
use Rattle.fancy_tree.specs.declared.tree.Assertion.{Assertion}
use Rattle.fancy_tree.specs.declared.tree.Assertion.TheVariants.{TextStart, TextEnd, LineStart, LineEnd, LineStartCrlf, LineEndCrlf, LastLine, LastLineCrlf, WordBoundary, NotWordBoundary, WordStart, WordEnd, WordStartHalf, WordEndHalf}
use Rattle.fancy_tree.specs.Sets.{differ}
use Rattle.fancy_input.specs.Lines.{is_line_feed, is_carriage_return, byte_before}
use Rattle.fancy_meaning.specs.Context.{Context, word_before, word_after}
use Rattle.fancy_code.specs.Instructions.{Instruction, Assert}
use Rattle.fancy_code.specs.Run.{instr_at}
use Rattle.fancy_alphabet.specs.declared.side.Side.{Side}
use Rattle.fancy_alphabet.specs.declared.side.Side.TheVariants as side
use Rattle.fancy_alphabet.specs.declared.side.Tests.{Tests}
use Rattle.fancy_alphabet.specs.declared.side.Tests.TheVariants as tests

-- nothing stands there, whether that counts or not
abbrev pub is_nothing : Side → Bool
is_nothing side.Other = false
is_nothing side.Word = false
is_nothing side.LineFeed = false
is_nothing side.CarriageReturn = false
is_nothing side.Edge = true
is_nothing side.Hidden = true

-- the text begins or ends there
abbrev pub is_edge : Side → Bool
is_edge side.Other = false
is_edge side.Word = false
is_edge side.LineFeed = false
is_edge side.CarriageReturn = false
is_edge side.Edge = true
is_edge side.Hidden = false

abbrev pub is_feed : Side → Bool
is_feed side.Other = false
is_feed side.Word = false
is_feed side.LineFeed = true
is_feed side.CarriageReturn = false
is_feed side.Edge = false
is_feed side.Hidden = false

abbrev pub is_return : Side → Bool
is_return side.Other = false
is_return side.Word = false
is_return side.LineFeed = false
is_return side.CarriageReturn = true
is_return side.Edge = false
is_return side.Hidden = false

abbrev pub is_worded : Side → Bool
is_worded side.Other = false
is_worded side.Word = true
is_worded side.LineFeed = false
is_worded side.CarriageReturn = false
is_worded side.Edge = false
is_worded side.Hidden = false

-- whether an assertion holds between these sides; that no line follows but empty ones is not told by them
abbrev pub holds_between : Side → Side → Assertion → Bool
holds_between before after TextStart = is_edge before
holds_between before after TextEnd = is_edge after
holds_between before after LineStart = is_nothing before || is_feed before
holds_between before after LineEnd = is_nothing after || is_feed after
holds_between before after LineStartCrlf = is_nothing before || (is_feed before || (is_return before && not (is_feed after)))
holds_between before after LineEndCrlf = is_nothing after || (is_return after || (is_feed after && not (is_return before)))
holds_between before after LastLine = false
holds_between before after LastLineCrlf = false
holds_between before after WordBoundary = differ (is_worded before) (is_worded after)
holds_between before after NotWordBoundary = not (differ (is_worded before) (is_worded after))
holds_between before after WordStart = not (is_worded before) && is_worded after
holds_between before after WordEnd = is_worded before && not (is_worded after)
holds_between before after WordStartHalf = not (is_worded before)
holds_between before after WordEndHalf = not (is_worded after)

-- whether the sides of a place tell where it holds
abbrev pub is_told_between : Assertion → Bool
is_told_between TextStart = true
is_told_between TextEnd = true
is_told_between LineStart = true
is_told_between LineEnd = true
is_told_between LineStartCrlf = true
is_told_between LineEndCrlf = true
is_told_between LastLine = false
is_told_between LastLineCrlf = false
is_told_between WordBoundary = true
is_told_between NotWordBoundary = true
is_told_between WordStart = true
is_told_between WordEnd = true
is_told_between WordStartHalf = true
is_told_between WordEndHalf = true

-- What stands before a place.
pub record IsBefore (x : Context) (p : ℕ) (s : Side) : Type 0 where
  pub start : is_nothing s ≡ (p == 0)
  pub counts : is_edge s ≡ ((p == 0) && not x.start_text_off)
  pub feed : is_feed s ≡ is_line_feed (byte_before x.haystack p)
  pub return : is_return s ≡ is_carriage_return (byte_before x.haystack p)
  pub word : is_worded s ≡ word_before x.meaning x.haystack p

-- What stands after a place.
pub record IsAfter (x : Context) (p : ℕ) (s : Side) : Type 0 where
  pub end : is_nothing s ≡ (p == length x.haystack)
  pub counts : is_edge s ≡ ((p == length x.haystack) && not x.end_text_off)
  pub feed : is_feed s ≡ is_line_feed (slice_get x.haystack p)
  pub return : is_return s ≡ is_carriage_return (slice_get x.haystack p)
  pub word : is_worded s ≡ word_after x.meaning x.haystack p

-- what an ASCII character is beside a place
abbrev pub side_of : ℕ → Side
side_of byte =
    if byte == 10 then side.LineFeed
    else (if byte == 13 then side.CarriageReturn else (if is_word_byte byte then side.Word else side.Other))

-- what nothing on a side is
abbrev pub nothing_where : Bool → Side
nothing_where suppressed = if suppressed then side.Hidden else side.Edge

-- what a character past ASCII is
abbrev pub wide_of : Bool → Side
wide_of is_word = if is_word then side.Word else side.Other

-- what of a side such tests tell apart
abbrev pub seen_as : Tests → Side → Side
seen_as tests.Nothing s = side.Other
seen_as tests.Words side.Other = side.Other
seen_as tests.Words side.Word = side.Word
seen_as tests.Words side.LineFeed = side.Other
seen_as tests.Words side.CarriageReturn = side.Other
seen_as tests.Words side.Edge = side.Other
seen_as tests.Words side.Hidden = side.Other
seen_as tests.All s = s

abbrev pub number_of : Side → ℕ
number_of side.Other = 0
number_of side.Word = 1
number_of side.LineFeed = 2
number_of side.CarriageReturn = 3
number_of side.Edge = 4
number_of side.Hidden = 5

-- how many sides they tell apart
abbrev pub sides_of : Tests → ℕ
sides_of tests.Nothing = 1
sides_of tests.Words = 2
sides_of tests.All = 6

-- whether a test of this kind is among those
abbrev pub tests_for : Assertion → Tests
tests_for TextStart = tests.All
tests_for TextEnd = tests.All
tests_for LineStart = tests.All
tests_for LineEnd = tests.All
tests_for LineStartCrlf = tests.All
tests_for LineEndCrlf = tests.All
tests_for LastLine = tests.Nothing
tests_for LastLineCrlf = tests.Nothing
tests_for WordBoundary = tests.Words
tests_for NotWordBoundary = tests.Words
tests_for WordStart = tests.Words
tests_for WordEnd = tests.Words
tests_for WordStartHalf = tests.Words
tests_for WordEndHalf = tests.Words

-- an assertion holds between sides where it holds between what is told apart of them
abbrev pub IsToldBy : Tests → Assertion → Type 0
IsToldBy t a = (before after : Side) → holds_between (seen_as t before) (seen_as t after) a ≡ holds_between before after a

-- so is each of the code
abbrev pub AreToldBy : Tests → List Instruction → Type 0
AreToldBy t code = (q : ℕ) (a : Assertion) (next : ℕ) → instr_at code q ≡ Assert a next → IsToldBy t a

-- what such tests tell apart of what stands before a place
abbrev pub IsBeforeAs : Context → ℕ → Tests → Side → Type 0
IsBeforeAs x p t seen = (s : Side) × IsBefore x p s × (seen ≡ seen_as t s)

-- and of what stands after it
abbrev pub IsAfterAs : Context → ℕ → Tests → Side → Type 0
IsAfterAs x p t seen = (s : Side) × IsAfter x p s × (seen ≡ seen_as t s)
