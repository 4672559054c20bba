-- What stands for an iterator over matches with their groups.
use Rattle.std.specs.Prelude.{◌≡◌, ℕ, Bool, false, List, ◌∷◌, Option, Result, map}
use Rattle.fancy_tree.specs.declared.error.Error.{Error}
use Rattle.fancy_input.specs.declared.span.Span.{Span}
use Rattle.fancy_core.specs.declared.regex.Regex.{Regex}
use Rattle.fancy_core.specs.declared.captures.Captures.{Captures}
use Rattle.fancy_core.specs.declared.iter.Matches.{Matches}
use Rattle.fancy_core.specs.declared.iter.captures.CaptureMatches.{CaptureMatches}
use Rattle.fancy_search.specs.Groups.{spans_of}
use Rattle.fancy_search.specs.MatchList.{MatchItem}
use Rattle.fancy_core.specs.NextAnswers.{ByAnswer}
use Rattle.fancy_core.specs.Captures.{spans_in, searched_in, found_by}
use Rattle.fancy_core.specs.Regexes.{group_count_in}
use Rattle.fancy_core.specs.Searches.{matches_in_whole, matches_of_input, matches_onward}
use Rattle.fancy_input.specs.declared.input.Request.{Request}
use Rattle.fancy_search.specs.declared.searcher.Onward.{Onward}
use Rattle.fancy_input.specs.declared.regex_input.RegexInput.{RegexInput}
use Rattle.fancy_core.specs.Iterations.{regex_in, haystack_of, has_ended, left_in, end_in, allows_next, EndsMatches, RefusesMatch, StaysAsked}

-- the iteration over the matches alone
abbrev pub matches_in : {S : Type 0} {g : _} → CaptureMatches S g → Matches S g
matches_in m = m.matches

-- the spans of the groups of each of these, of so many groups
abbrev pub groups_of_each : ℕ → List MatchItem → List (List (Option Span))
groups_of_each n items = map (λ i. spans_of n i.found) items

-- the groups of the matches of a whole haystack
abbrev pub groups_in_whole : {S : Type 0} → Regex → (S → Bool) → (S → List ℕ) → S → List (List (Option Span))
groups_in_whole r text bytes haystack = groups_of_each (group_count_in r) (matches_in_whole r text bytes haystack)

-- the groups of the matches of an input
abbrev pub groups_of_input : {S : Type 0} {g : _} → Regex → (S → Bool) → (S → List ℕ) → RegexInput S g → List (List (Option Span))
groups_of_input r text bytes input = groups_of_each (group_count_in r) (matches_of_input r text bytes input)

-- the groups of the matches that a request has as a list goes on
abbrev pub groups_onward : Regex → Bool → List ℕ → Request → Onward → List (List (Option Span))
groups_onward r text haystack request o = groups_of_each (group_count_in r) (matches_onward r text haystack request o)

-- the groups of the matches that are left
abbrev pub groups_left : {S : Type 0} {g : _} → (S → Bool) → (S → List ℕ) → CaptureMatches S g → List (List (Option Span))
groups_left text bytes m = groups_of_each (group_count_in (regex_in (matches_in m))) (left_in text bytes (matches_in m))

-- The groups of a match, the first of those that were left, found by the regex in the haystack. The list's end stays where it is.
-- They stand only where the searches that they rest on kept within their limits.
pub record GivesCaptures {S : Type 0} {g h : _} (text : S → Bool) (bytes : S → List ℕ) (captures : Captures S h) (s t : CaptureMatches S g) : Type 0 where
  pub unended : has_ended (matches_in s) ≡ false
  pub first : groups_left text bytes s ≡ spans_in captures ∷ groups_left text bytes t
  pub within_text : searched_in captures ≡ haystack_of (matches_in s)
  pub within_regex : found_by captures ≡ regex_in (matches_in s)
  pub keeps_end : end_in text bytes (matches_in t) ≡ end_in text bytes (matches_in s)
  pub allowed : allows_next text bytes (matches_in s)
  pub goes_on : has_ended (matches_in t) ≡ false

-- One call of `next`, from s to t. A haystack is text where `text` holds of it, and has these bytes. The end and a refusal are as those of the matches alone.
pub record IsNextCaptures {S : Type 0} {g h : _} (text : S → Bool) (bytes : S → List ℕ) (s : CaptureMatches S g) (r : Option (Result (Captures S h) Error)) (t : CaptureMatches S g) : Type 0 where
  pub answers : ByAnswer r (EndsMatches text bytes (matches_in s) (matches_in t)) (λ x. GivesCaptures text bytes x s t) (λ e. RefusesMatch text bytes e (matches_in s) (matches_in t))
  pub same : StaysAsked (matches_in s) (matches_in t)
