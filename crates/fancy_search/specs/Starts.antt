-- Where a match may start, by the bytes that stand there, and where it may end.
use Rattle.std.specs.Prelude.{◌≡◌, ◌+◌, ◌≤◌, ◌<◌, ℕ, Bool, true, not, ◌||◌, List, Option, Some, None, length, slice_index}
use Rattle.fancy_tree.specs.declared.tree.Meaning.{Meaning}
use Rattle.fancy_tree.specs.Pattern.{Pattern}
use Rattle.fancy_bytes.specs.Firsts.{has_start_bytes, first_bytes}
use Rattle.fancy_input.specs.declared.input.Request.{Request}
use Rattle.fancy_meaning.specs.Search.{Answer, answer_at, attempt}
use Rattle.fancy_search.specs.declared.program.Program.{Program}
use Rattle.fancy_search.specs.Programs.{program_is_easy, asked_of}

-- A match may start right before this byte, or before none, at the end of what is searched: each match of a pattern with start bytes starts at one of them.
abbrev pub may_start : Meaning → Pattern → Option ℕ → Bool
may_start m p None = not (has_start_bytes p)
may_start m p (Some byte) = not (has_start_bytes p) || first_bytes m p byte

-- The pattern is easy, and no match of it starts so many places before this byte, whatever is asked.
pub record NeverHolds (s : Program) (place byte : ℕ) : Type 0 where
  pub easy : program_is_easy s ≡ true
  pub none : (haystack : List ℕ) (request : Request) (on : Bool) (p : ℕ) → ((k : ℕ) → slice_index haystack k < 256) → request.range_end ≤ length haystack
      → p ≤ request.range_end → slice_index haystack (p + place) ≡ byte → answer_at (asked_of s haystack request on) p ≡ None

-- The pattern is easy, and where an ASCII byte stands what an attempt finds ends past that byte or before, whatever is asked.
pub record EndsByOne (s : Program) : Type 0 where
  pub easy : program_is_easy s ≡ true
  pub ends : (haystack : List ℕ) (request : Request) (on : Bool) (p : ℕ) (a : Answer) → request.range_end ≤ length haystack → p < request.range_end → slice_index haystack p < 128
      → attempt (asked_of s haystack request on) p ≡ Some a → a.state.place ≤ p + 1
