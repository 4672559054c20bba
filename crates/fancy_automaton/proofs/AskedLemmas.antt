-- What an attempt that a request asks for finds is the answer of the search.
use Rattle.std.proofs.Common.{◌≡◌, ◌+◌, ◌-◌, ◌<◌, ◌≤◌, ◌∙◌, ℕ, Bool, true, false, List, Option, None, Some, option_map, Bor, ap, arith, refl, subst, sym}
use Rattle.std.specs.Prelude.{if◌then◌else◌, is_some, min, slice_index}
use Rattle.fancy_tree.specs.Pattern.{Pattern}
use Rattle.fancy_input.specs.declared.input.Request.{Request}
use Rattle.fancy_input.specs.declared.span.Span.{Span}
use Rattle.fancy_input.specs.Requests.{effective_start}
use Rattle.fancy_code.specs.declared.attempt.Attempt.{Attempt}
use Rattle.fancy_code.specs.declared.code.Code.{Code}
use Rattle.fancy_code.specs.Compile.{IsCodeOf}
use Rattle.fancy_code.specs.Queries.{query_of, unfiltered}
use Rattle.fancy_code.proofs.PositionLemmas.{positions_none}
use Rattle.fancy_meaning.specs.declared.options.SearchOptions.{SearchOptions}
use Rattle.fancy_meaning.specs.declared.reading.SuppressedEnds.{SuppressedEnds}
use Rattle.fancy_meaning.specs.Reading.{search_context, suppressed_ends}
use Rattle.fancy_meaning.specs.Search.{Answer, Query, answer_from, search}
use Rattle.fancy_meaning.proofs.AttemptLemmas.{search_over}
use Rattle.fancy_states.specs.Search.{BegunIn, IsFollowed, IsFoundAs, at_position, ends_in, ends_of, leftmost_in}
use Rattle.fancy_automaton.specs.Asked.{IsAsked}
use Rattle.fancy_automaton.specs.Decided.{BeginsFrom, IsAnsweredFrom, search_goal}
use Rattle.fancy_automaton.specs.Earliest.{HasMatch}
use Rattle.fancy_automaton.proofs.AnswerLemmas.{Deep, answered, begun, leftmost_is, passed, starts_none}
use Rattle.fancy_automaton.proofs.BeginLemmas.{from_both, from_leftmost}

-- the attempt of a request
abbrev attempt_of : Bor Code → Bor (List ℕ) → Request → SearchOptions → Option ℕ → Attempt
attempt_of code haystack request options limit = record {
  code = code;
  haystack = haystack;
  base = effective_start request;
  last = request.range_end;
  on_boundaries = options.on_boundaries;
  suppressed = suppressed_ends options.overrides request;
  step_limit = limit;
}

-- how many positions are tried, where there is one
abbrev tried : Bool → ℕ → ℕ
tried anchored left = if anchored then 1 else left

tried_in : (anchored : Bool) (k : ℕ) → 0 < k → (if anchored then (min 1 k) else k) ≡ tried anchored k
tried_in true k some = omega (arith, some)
tried_in false k some = refl

tried_within : (anchored : Bool) (first end : ℕ) → first ≤ end → first + tried anchored (end + 1 - first) ≤ end + 1
tried_within true first end le = omega (arith, le)
tried_within false first end le = omega (arith, le)

-- an answer has ends if there is one
some_ends : (o : Option Answer) → is_some (option_map ends_of o) ≡ is_some o
some_ends None = refl
some_ends (Some f) = refl

module _ (code : Bor Code) (haystack : Bor (List ℕ)) (request : Request) (options : SearchOptions) (limit : Option ℕ)
    (ordered : effective_start request ≤ request.range_end) (bytes : (k : ℕ) → slice_index haystack.now k < 256)
    (followed : IsFollowed (attempt_of code haystack request options limit)) (p : Pattern) (on : Bool) (is : IsCodeOf p code.now) where
  abbrev a : Attempt
  a = attempt_of code haystack request options limit

  abbrev q : Query
  q = query_of p code.now (unfiltered options) haystack.now request on

  abbrev left : ℕ
  left = request.range_end + 1 - effective_start request

  abbrev deep : ℕ
  deep = Deep q code.now is refl refl refl refl followed.inside (search_context haystack.now code.now.meaning a.suppressed a.base) (Some a.base) refl followed.plain

  begun_there : BegunIn a deep
  begun_there = record {
    known = begun q code.now is refl refl refl refl followed.inside (search_context haystack.now code.now.meaning a.suppressed a.base) (Some a.base) refl followed.plain;
    starts = starts_none q code.now is refl refl refl refl followed.inside (search_context haystack.now code.now.meaning a.suppressed a.base) (Some a.base) refl followed.plain bytes;
  }

  found_there : (found : Option Span) → option_map ends_in found ≡ leftmost_in a deep (tried request.anchored left) a.base
      → IsFoundAs code.now (option_map at_position found) (search q)
  found_there found ends =
      let n = tried request.anchored left in
      let all : answer_from q n a.base ≡ search q = ap (λ (k : ℕ). answer_from q k a.base) (sym (tried_in request.anchored left (omega (arith, ordered)))) in
      answered q code.now is refl refl refl refl followed.inside (search_context haystack.now code.now.meaning a.suppressed a.base) (Some a.base) refl followed.plain
      n a.base (tried_within request.anchored a.base request.range_end ordered) all found ends

  module _ (free : request.anchored ≡ false) where
    all : answer_from q left a.base ≡ search q
    all = ap (λ (k : ℕ). answer_from q k a.base) (rw free refl)

    matched_there : (found : Bool) → found ≡ is_some (leftmost_in a deep left a.base) → found ≡ is_some (search q)
    matched_there found is_found =
        is_found
        ∙ ap is_some (leftmost_is q code.now is refl refl refl refl followed.inside (search_context haystack.now code.now.meaning a.suppressed a.base) (Some a.base) refl followed.plain
        left a.base (omega (arith, ordered)))
        ∙ some_ends (answer_from q left a.base) ∙ ap is_some all

    begins_there : (told place : ℕ) → ((k : ℕ) → told ≤ k → a.base ≤ k → place ≤ k) → a.base ≤ place → place ≤ request.range_end + 1
        → BeginsFrom a told → IsAnsweredFrom q place
    begins_there told place later from to begins =
        let both = from_both told a.base place (search_goal a deep) later (begins deep begun_there) (from_leftmost a deep a.base left a.base (omega arith)) in
        ap (λ (k : ℕ). answer_from q k place) (omega arith)
        ∙ passed q code.now is refl refl refl refl followed.inside (search_context haystack.now code.now.meaning a.suppressed a.base) (Some a.base) refl followed.plain
        left a.base place (omega (arith, ordered)) from (omega (arith, to, ordered)) both
        ∙ all

-- an attempt that a request asks for is its attempt
as_asked : (a : Attempt) (code : Code) (haystack : List ℕ) (request : Request) (options : SearchOptions) → IsAsked a code haystack request options
    → a ≡ attempt_of a.code a.haystack request options a.step_limit
as_asked a code haystack request options is =
    ap (λ (k : ℕ). record a { base = k }) is.base ∙ ap (λ (k : ℕ). record a { base = effective_start request; last = k }) is.last
    ∙ ap (λ (b : Bool). record a { base = effective_start request; last = request.range_end; on_boundaries = b }) is.boundaries
    ∙ ap (λ (s : SuppressedEnds). record a { base = effective_start request; last = request.range_end; on_boundaries = options.on_boundaries; suppressed = s }) is.suppressed

module _ (a : Attempt) (code : Code) (haystack : List ℕ) (request : Request) (options : SearchOptions) (asked : IsAsked a code haystack request options) (followed : IsFollowed a)
    (p : Pattern) (on : Bool) (is : IsCodeOf p code) where
  ordered : effective_start request ≤ request.range_end
  ordered = omega (arith, asked.ordered, asked.base, asked.last)

  same : a ≡ attempt_of a.code a.haystack request options a.step_limit
  same = as_asked a code haystack request options asked

  -- what is found by its ends
  pub found_for : (found : Option Span)
      → ((deep : ℕ) → BegunIn a deep → option_map ends_in found ≡ leftmost_in a deep (if request.anchored then 1 else (a.last + 1 - a.base)) a.base)
      → IsFoundAs code (option_map at_position found) (search (query_of p code (unfiltered options) haystack request on))
  found_for found ends =
      let coded : IsCodeOf p a.code.now = rw asked.of_code is in
      let there = subst (λ (b : Attempt). (deep : ℕ) → BegunIn b deep → option_map ends_in found ≡ leftmost_in b deep (if request.anchored then 1 else (b.last + 1 - b.base)) b.base) same ends in
      let follows = subst IsFollowed same followed in
      rw (asked.of_code, asked.of_haystack) at (found_there a.code a.haystack request options a.step_limit ordered asked.bytes follows p on coded found
      (there _ (begun_there a.code a.haystack request options a.step_limit ordered asked.bytes follows p on coded)))

  -- whether something is
  pub matched_for : request.anchored ≡ false → (found : Bool) → HasMatch a found → found ≡ is_some (search (query_of p code (unfiltered options) haystack request on))
  matched_for free found has =
      let coded : IsCodeOf p a.code.now = rw asked.of_code is in
      let follows = subst IsFollowed same followed in
      let there = subst (λ (b : Attempt). HasMatch b found) same has in
      rw (asked.of_code, asked.of_haystack) at (matched_there a.code a.haystack request options a.step_limit ordered asked.bytes follows p on coded free found
      (there _ (begun_there a.code a.haystack request options a.step_limit ordered asked.bytes follows p on coded)))

  -- from which place on
  pub begins_for : request.anchored ≡ false → (told place : ℕ) → ((k : ℕ) → told ≤ k → effective_start request ≤ k → place ≤ k) → effective_start request ≤ place
      → place ≤ request.range_end + 1 → BeginsFrom a told → IsAnsweredFrom (query_of p code (unfiltered options) haystack request on) place
  begins_for free told place later from to begins =
      let coded : IsCodeOf p a.code.now = rw asked.of_code is in
      let follows = subst IsFollowed same followed in
      let there = subst (λ (b : Attempt). BeginsFrom b told) same begins in
      rw (asked.of_code, asked.of_haystack) at (begins_there a.code a.haystack request options a.step_limit ordered asked.bytes follows p on coded free told place later from to there)

-- where the range ends before it starts nothing is
pub none_for : (q : Query) → q.request.range_end < effective_start q.request → search q ≡ None
none_for q over = search_over q _ _ (positions_none q.request (omega (arith, over)))
