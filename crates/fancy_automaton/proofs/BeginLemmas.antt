-- Where the leftmost match may begin, from how far a search has come.
use Rattle.std.proofs.Common.{ℕ, zero, suc, ◌+◌, ◌-◌, ◌≤◌, List, [], ◌∷◌, length, Option, Some, None, subst, arith, replicate}
use Rattle.std.specs.Prelude.{IfSome}
use Rattle.std.specs.Option.{option_or}
use Rattle.fancy_code.specs.declared.attempt.Attempt.{Attempt}
use Rattle.fancy_code.specs.Attempt.{context_in, instrs_in, may_end_in}
use Rattle.fancy_states.specs.Futures.{end_at, start_end}
use Rattle.fancy_states.specs.Search.{Going, found_or, leftmost_in}
use Rattle.fancy_states.specs.Steps.{first_tagged_end}
use Rattle.fancy_states.specs.Starts.{match_from}
use Rattle.fancy_states.specs.Ways.{Ends, tagged}
use Rattle.fancy_automaton.specs.Decided.{BeginsFrom}

-- a match that begins there or later, if there is one
abbrev pub From : ℕ → Option (ℕ × ℕ) → Type 0
From s o = IfSome o (λ e. s ≤ e.0)

from_or : (s : ℕ) (o r : Option (ℕ × ℕ)) → From s o → From s r → From s (option_or o r)
from_or s None r one two = two
from_or s (Some e) r one two = one

from_tagged : (s start : ℕ) (o : Option ℕ) → s ≤ start → From s (tagged start o)
from_tagged s start None le = tt
from_tagged s start (Some e) le = le

-- from two places on, and so from the later one
pub from_both : (s t m : ℕ) (o : Option (ℕ × ℕ)) → ((k : ℕ) → s ≤ k → t ≤ k → m ≤ k) → From s o → From t o → From m o
from_both s t m None later one two = tt
from_both s t m (Some e) later one two = later e.0 one two

-- all ways began at one place
from_ways : (s start : ℕ) → s ≤ start → (ends : Ends) (ways : List ℕ) (k : ℕ) → From s (first_tagged_end ends ways (replicate k start))
from_ways s start le ends [] k = tt
from_ways s start le ends (q ∷ qs) zero = tt
from_ways s start le ends (q ∷ qs) (suc k) =
    from_or s (tagged start (ends q)) (first_tagged_end ends qs (replicate k start)) (from_tagged s start (ends q) le) (from_ways s start le ends qs k)

from_found : (s start : ℕ) (end : Option ℕ) (rest : Option (ℕ × ℕ)) → s ≤ start → From s rest → From s (found_or (match_from start end) rest)
from_found s start None rest le other = other
from_found s start (Some e) rest le other = le

module _ (a : Attempt) where
  pub from_leftmost : (deep s n p : ℕ) → s ≤ p → From s (leftmost_in a deep n p)
  from_leftmost deep s zero p le = tt
  from_leftmost deep s (suc n) p le =
      let here = start_end (may_end_in a) (context_in a) a.last (instrs_in a) deep a.code.now.start p in
      from_or s (tagged p here) (leftmost_in a deep n (p + 1)) (from_tagged s p here le) (from_leftmost deep s n (p + 1) (omega (arith, le)))

  -- where all ways began at one place, and so did the match that was found, no other begins before both that place and the one where they wait
  pub sole_begins : (start place s : ℕ) (end : Option ℕ) (ways : List ℕ) → s ≤ start → s ≤ place
      → Going a ways (replicate (length ways) start) (match_from start end) place place → BeginsFrom a s
  sole_begins start place s end ways one two g deep begun =
      let ends = end_at (may_end_in a) (context_in a) a.last (instrs_in a) deep place in
      let rest = leftmost_in a deep (a.last + 1 - place) place in
      subst (From s) (g.under deep begun).answer
      (from_or s (first_tagged_end ends ways (replicate (length ways) start)) (found_or (match_from start end) rest) (from_ways s start one ends ways (length ways))
      (from_found s start end rest one (from_leftmost deep s (a.last + 1 - place) place two)))

  -- where none waits, and nothing was found
  pub idle_begins : (place : ℕ) → Going a [] [] None place place → BeginsFrom a place
  idle_begins place g deep begun =
      subst (From place) (g.under deep begun).answer (from_leftmost deep place (a.last + 1 - place) place (omega arith))
