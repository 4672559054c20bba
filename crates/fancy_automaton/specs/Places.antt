-- The places at which a search goes on.
use Rattle.std.specs.Prelude.{◌≡◌, ◌+◌, ◌<◌, ◌≤◌, ℕ, true}
use Rattle.fancy_code.specs.declared.attempt.Attempt.{Attempt}
use Rattle.fancy_code.specs.Attempt.{may_end_in}
use Rattle.fancy_prefilter.specs.Seen.{NoneMayStart}
use Rattle.fancy_states.specs.Search.{Passes}

-- p is a place, from the one on and up to the last, at which a match may begin, as far as is told, and none begins before it; or it is past the last. Where no match starts by its first byte, it is past the last.
pub record IsNextPlace (a : Attempt) (from p : ℕ) : Type 0 where
  pub forth : from ≤ p
  pub ends : p ≤ a.last + 1
  pub passed : (k : ℕ) → from ≤ k → k < p → Passes a k
  pub good : p ≤ a.last → may_end_in a p ≡ true
  pub some : p ≤ a.last → ¬ NoneMayStart a.code.now.prefilter.starts a.haystack.now a.last from (a.last + 1)
