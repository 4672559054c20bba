-- What every match goes on to, the bytes that matches may have, and where no match begins that goes on to it.
use Rattle.std.specs.Prelude.{◌≡◌, ℕ, ◌<◌, ◌≤◌, true, false, List, length, slice_index}
use Rattle.fancy_tree.specs.declared.tree.Meaning.{Meaning}
use Rattle.fancy_tree.specs.Pattern.{Pattern}
use Rattle.fancy_bytes.specs.Reads.{item_starts}
use Rattle.fancy_bytes.specs.Rows.{StandsFrom as RowStandsFrom}
use Rattle.fancy_bytes.specs.Sets.{ByteFlags, member}
use Rattle.fancy_required.specs.Ends.{ends_text}
use Rattle.fancy_required.specs.Told.{HasRow, HasText, StandsFrom}
use Rattle.fancy_prefilter.specs.declared.reach.Reach.{Reach}
use Rattle.fancy_prefilter.specs.declared.reach.Row.{Row as RowOfSets}
use Rattle.fancy_prefilter.specs.declared.reach.Target.{Target}
use Rattle.fancy_prefilter.specs.declared.reach.Target.TheVariants.{Row, Text, TextEnd}

-- the row is of a set or more, and whatever the pattern matches has it in it
abbrev pub IsRow : Meaning → Pattern → RowOfSets → Type 0
IsRow m p row = (0 < length row.window) × HasRow m p row.window

-- whatever the pattern matches, it has the text or the row in it, or ends at the end of the text
abbrev pub IsTarget : Meaning → Pattern → Target → Type 0
IsTarget m p (Text text) = HasText m p text.items
IsTarget m p (Row row) = IsRow m p row
IsTarget m p TextEnd = ends_text p ≡ true

-- what the pattern goes on to is that, and items of it begin with no byte but these
pub record IsReach (m : Meaning) (p : Pattern) (r : Reach) : Type 0 where
  pub target : IsTarget m p r.target
  pub apart : (b : ℕ) → b < 256 → member r.reads b ≡ false → item_starts m p b ≡ false

-- a byte of each set stands in a row, from some place on, at this one or later, before the end
pub record RowStands (haystack : List ℕ) (from end : ℕ) (row : List ByteFlags) : Type 0 where
  pub place : ℕ
  pub low : from ≤ place
  pub high : place < end
  pub stands : RowStandsFrom row haystack end 0 place

-- the target stands from some place on before the end, or at it
abbrev pub StandsAhead : Target → List ℕ → ℕ → ℕ → Type 0
StandsAhead (Text text) haystack from end = StandsFrom haystack from end text.items
StandsAhead (Row row) haystack from end = RowStands haystack from end row.window
StandsAhead TextEnd haystack from end = length haystack ≤ end

-- at the edge stands an ASCII character that no match has, and the target does not stand from a place on before it
pub record EndsRegion (r : Reach) (haystack : List ℕ) (from edge : ℕ) : Type 0 where
  pub ascii : slice_index haystack edge < 128
  pub apart : member r.reads (slice_index haystack edge) ≡ false
  pub none : ¬ StandsAhead r.target haystack from edge

-- the target stands nowhere from p on before the end, or not before an edge
pub data LacksTarget (r : Reach) (haystack : List ℕ) (end p : ℕ) : Type 0 where
  nowhere : ¬ StandsAhead r.target haystack p end → LacksTarget r haystack end p
  before : (edge : ℕ) → p ≤ edge → edge < end → EndsRegion r haystack p edge → LacksTarget r haystack end p
