-- What a search has read of the line ends that close its haystack.
use Rattle.std.specs.Prelude.{◌≡◌, ℕ, ◌<◌, ◌≤◌, Bool, true, false, List, length, drop}
use Rattle.fancy_input.specs.declared.last_lines.Row.{Row}
use Rattle.fancy_input.specs.declared.last_lines.LastLines.{LastLines}
use Rattle.fancy_input.specs.Lines.{are_line_feeds, are_line_ends}

-- only line ends, where a carriage return ends lines too or a line feed alone does
abbrev pub ends_only : Bool → List ℕ → Bool
ends_only false = are_line_feeds
ends_only true = are_line_ends

-- The row tells the truth of the places at which only such bytes follow.
pub record Told (only : List ℕ → Bool) (haystack : List ℕ) (row : Row) : Type 0 where
  pub before : (p : ℕ) → p < row.none_before → only (drop p haystack) ≡ false
  pub from : (p : ℕ) → row.all_from ≤ p → only (drop p haystack) ≡ true
  pub inside : row.all_from ≤ length haystack

pub record KnowsLastLines (haystack : List ℕ) (l : LastLines) : Type 0 where
  pub feeds : Told are_line_feeds haystack l.feeds
  pub ends : Told are_line_ends haystack l.ends
