-- Where a match and its groups stand: within the haystack, and on places that are good to cut it at.
use Rattle.std.specs.Prelude.{◌≡◌, ℕ, ◌+◌, ◌≤◌, Bool, true, false, ◌||◌, IsTrue, List, length, Some, IsUtf8}
use Rattle.std.specs.Str.{IsAscii}
use Rattle.fancy_tree.specs.declared.tree.Meaning.{Meaning}
use Rattle.fancy_tree.specs.declared.tree.Meaning.TheVariants.{Unicode, Bytes, AsciiText}
use Rattle.fancy_tree.specs.Pattern.{Pattern, empty, character, member_of, in_any_case, raw_byte, backreference, assertion, group_test, keep_start, continue_here, group, repeat, look_ahead, look_behind, atomic, conditional, followed, or_else, last_branch}
use Rattle.fancy_input.specs.declared.span.Span.{Span}
pub use Rattle.fancy_bytes.specs.Firsts.{has_keep_start}
use Rattle.fancy_meaning.specs.Context.{Context, State, Unit_at, group_span, unit_at, units_back}
use Rattle.fancy_meaning.specs.Backreference.{past_backreference}
use Rattle.fancy_meaning.specs.Search.{Query, Answer, IsAccepted}

-- The test of a good place: `is_boundary` of text, and for bytes this one.
abbrev pub any_place : ℕ → Bool
any_place p = true

-- the haystack can be cut where the span starts and where it ends
pub record IsSpan (haystack : List ℕ) (good : ℕ → Bool) (span : Span) : Type 0 where
  pub ordered : span.start ≤ span.end
  pub within : span.end ≤ length haystack
  pub begins : IsTrue (good span.start)
  pub ends : IsTrue (good span.end)

-- the state's place and each of its groups stand well
pub record IsPlaced (haystack : List ℕ) (good : ℕ → Bool) (s : State) : Type 0 where
  pub within : s.place ≤ length haystack
  pub stands : IsTrue (good s.place)
  pub spans : (k : ℕ) (span : Span) → group_span s k ≡ Some span → IsSpan haystack good span

-- the pattern asks for a single byte somewhere
abbrev pub has_raw_byte : Pattern → Bool
has_raw_byte empty = false
has_raw_byte (character c) = false
has_raw_byte (member_of edges) = false
has_raw_byte (in_any_case edges) = false
has_raw_byte (raw_byte byte) = true
has_raw_byte (backreference folded number) = false
has_raw_byte (assertion a) = false
has_raw_byte (group_test number) = false
has_raw_byte keep_start = false
has_raw_byte continue_here = false
has_raw_byte (group index body) = has_raw_byte body
has_raw_byte (repeat low high kind body) = has_raw_byte body
has_raw_byte (look_ahead negated body) = has_raw_byte body
has_raw_byte (look_behind negated body) = has_raw_byte body
has_raw_byte (atomic body) = has_raw_byte body
has_raw_byte (conditional condition first second) = has_raw_byte condition || (has_raw_byte first || has_raw_byte second)
has_raw_byte (followed part rest) = has_raw_byte part || has_raw_byte rest
has_raw_byte (or_else branch others) = has_raw_byte branch || has_raw_byte others
has_raw_byte (last_branch branch) = has_raw_byte branch

-- the pattern moves the match's start inside of a look-around
abbrev pub has_keep_start_in_look_around : Pattern → Bool
has_keep_start_in_look_around empty = false
has_keep_start_in_look_around (character c) = false
has_keep_start_in_look_around (member_of edges) = false
has_keep_start_in_look_around (in_any_case edges) = false
has_keep_start_in_look_around (raw_byte byte) = false
has_keep_start_in_look_around (backreference folded number) = false
has_keep_start_in_look_around (assertion a) = false
has_keep_start_in_look_around (group_test number) = false
has_keep_start_in_look_around keep_start = false
has_keep_start_in_look_around continue_here = false
has_keep_start_in_look_around (group index body) = has_keep_start_in_look_around body
has_keep_start_in_look_around (repeat low high kind body) = has_keep_start_in_look_around body
has_keep_start_in_look_around (look_ahead negated body) = has_keep_start body
has_keep_start_in_look_around (look_behind negated body) = has_keep_start body
has_keep_start_in_look_around (atomic body) = has_keep_start_in_look_around body
has_keep_start_in_look_around (conditional condition first second) =
    has_keep_start_in_look_around condition || (has_keep_start_in_look_around first || has_keep_start_in_look_around second)
has_keep_start_in_look_around (followed part rest) = has_keep_start_in_look_around part || has_keep_start_in_look_around rest
has_keep_start_in_look_around (or_else branch others) = has_keep_start_in_look_around branch || has_keep_start_in_look_around others
has_keep_start_in_look_around (last_branch branch) = has_keep_start_in_look_around branch

-- an item is a character
abbrev pub reads_characters : Meaning → Bool
reads_characters Unicode = true
reads_characters Bytes = false
reads_characters AsciiText = true

-- What a pattern reads leads from good places to good places.
pub record Leads (x : Context) (pattern : Pattern) (good : ℕ → Bool) : Type 0 where
  pub items : (p : ℕ) (u : Unit_at) → p ≤ length x.haystack → IsTrue (good p) → unit_at x p ≡ Some u → IsTrue (good (p + u.width))
  pub bytes : has_raw_byte pattern ≡ true → (p : ℕ) → IsTrue (good p) → IsTrue (good (p + 1))
  -- the text of a group, found once more
  pub repeats : (folded : Bool) (number r : ℕ) (s : State) → IsPlaced x.haystack good s → past_backreference x folded number s ≡ Some r → IsTrue (good r)
  pub back : (n p r : ℕ) → IsTrue (good p) → units_back x n p ≡ Some r → IsTrue (good r)

-- A search whose matches stand on boundaries, with all their groups.
pub data KeepsBoundaries (q : Query) : Type 0 where
  -- it reads text by characters, and begins on boundaries
  by_characters : IsUtf8 q.haystack → reads_characters q.sought.meaning ≡ true → has_raw_byte q.sought.pattern ≡ false → IsTrue q.sought.on_boundaries
      → KeepsBoundaries q
  -- each place of the haystack is a boundary
  of_ascii : IsAscii q.haystack → KeepsBoundaries q

-- the match will have begun at k or after it, and at most at the state's place
pub record IsKeptFrom (k : ℕ) (s : State) : Type 0 where
  pub from : k ≤ s.kept
  pub to : s.kept ≤ s.place

-- What was found stands at or after its position, within the range, and its groups within the haystack.
pub record LiesWithin (q : Query) (good : ℕ → Bool) (f : Answer) : Type 0 where
  pub begins : f.position ≤ f.state.place
  pub ends : f.state.place ≤ q.request.range_end
  -- a pattern without `\K` moves no start
  pub kept : has_keep_start q.sought.pattern ≡ false → f.state.kept ≡ f.position
  -- one without it in look-around moves the start forward, at most to where the match ends
  pub forward : has_keep_start_in_look_around q.sought.pattern ≡ false → IsKeptFrom f.position f.state
  pub accepted : IsAccepted q f.position f.state
  pub starts : IsTrue (good f.position)
  pub keeps : IsTrue (good f.state.kept)
  pub placed : IsPlaced q.haystack good f.state
