-- The positions that a search tries, told by the set of the bytes that each match starts at.
use Rattle.std.proofs.Common.{◌≡◌, ℕ, ◌+◌, ◌-◌, ◌<◌, ◌≤◌, Bool, true, false, not, ◌&&◌, ◌||◌, nat_lt, List, Option, Some, None, refl, sym, ap, ap₂, subst, ◌∙◌, arith, ltb-true, lt-ltb, slice_index, true≢false, if◌then◌else◌, min}
use Rattle.fancy_bytes.specs.Firsts.{nullable, first_bytes, has_start_bytes, AreStartBytes}
use Rattle.fancy_bytes.specs.Sets.{ByteFlags}
use Rattle.fancy_bytes.proofs.BoolLemmas.{parts_of}
use Rattle.std.proofs.lemmas.Option.{get_or_from_slice_get}
use Rattle.fancy_input.specs.Requests.{effective_start, positions}
use Rattle.fancy_tree.specs.declared.tree.Meaning.{Meaning}
use Rattle.fancy_input.specs.declared.input.Request.{Request}
use Rattle.fancy_code.specs.declared.code.Code.{Code}
use Rattle.fancy_meaning.specs.declared.options.SearchOptions.{SearchOptions}
use Rattle.fancy_code.specs.Compile.{IsCodeOf}
use Rattle.fancy_code.specs.Queries.{query_of}
use Rattle.fancy_meaning.specs.Search.{Query, answer_at, search}
use Rattle.fancy_prefilter.specs.Seen.{MayStart, MayNotStart, NoneMayStart, IsNextCandidate}
use Rattle.fancy_meaning.specs.Tried.{may_begin, tried, NoneTried}
use Rattle.fancy_meaning.proofs.SkipLemmas.{none_here}
use Rattle.fancy_code.proofs.StartLemmas.{none_starts}
use Rattle.fancy_meaning.proofs.SearchLemmas.{all_none}

-- The positions from the one on and before the other are not tried, and nothing is found there; the other is tried, if it is one of the search.
pub record ArePassed (q : Query) (seek : Bool) (from last place : ℕ) : Type 0 where
  pub passed : from ≤ place
  pub within : place ≤ last + 1
  pub starts : place ≤ last → tried seek q place ≡ true
  pub untried : (k : ℕ) → from ≤ k → k < place → tried seek q k ≡ false
  pub none : (k : ℕ) → from ≤ k → k < place → answer_at q k ≡ None

-- whether a first byte stands at p within the range
abbrev first_stands : Query → ℕ → Bool
first_stands q p = nat_lt p q.request.range_end && first_bytes q.sought.meaning q.sought.pattern (slice_index q.haystack p)

none_between : (k from place : ℕ) → place ≡ from → from ≤ k → k < place → ⊥
none_between k from place same low high = omega (arith, same, low, high)

module _ (q : Query) (bytes : (k : ℕ) → slice_index q.haystack k < 256) where
  begins : (starts : Option ByteFlags) → AreStartBytes q.sought.meaning q.sought.pattern starts → (p : ℕ) → MayStart starts q.haystack q.request.range_end p → may_begin q p ≡ true
  begins None is p may = ap (λ (b : Bool). not b || first_stands q p) is
  begins (Some set) is p may =
      ap (λ (b : Bool). not b || first_stands q p) is.0
      ∙ ap (λ (b : Bool). b && first_bytes q.sought.meaning q.sought.pattern (slice_index q.haystack p)) (lt-ltb p q.request.range_end may.0)
      ∙ sym (is.1 (slice_index q.haystack p) (bytes p))
      ∙ may.1

  begins_not : (starts : Option ByteFlags) → AreStartBytes q.sought.meaning q.sought.pattern starts → (p : ℕ) → MayNotStart starts q.haystack q.request.range_end p → may_begin q p ≡ false
  begins_not None is p never = absurd never
  begins_not (Some set) is p unseen = ap (λ (b : Bool). not b || first_stands q p) is.0 ∙ by (nat_lt p q.request.range_end) refl where
    by : (b : Bool) → nat_lt p q.request.range_end ≡ b → (b && first_bytes q.sought.meaning q.sought.pattern (slice_index q.haystack p)) ≡ false
    by true e = sym (is.1 (slice_index q.haystack p) (bytes p)) ∙ unseen (ltb-true p q.request.range_end e)
    by false e = refl

  -- where a match may not begin, it may not start by that set
  may_not_start : (starts : Option ByteFlags) → AreStartBytes q.sought.meaning q.sought.pattern starts → (p : ℕ) → may_begin q p ≡ false → MayNotStart starts q.haystack q.request.range_end p
  may_not_start None is p never = true≢false (sym (ap (λ (b : Bool). not b || first_stands q p) is) ∙ never)
  may_not_start (Some set) is p never = λ lt.
      is.1 (slice_index q.haystack p) (bytes p)
      ∙ sym (ap (λ (b : Bool). b && first_bytes q.sought.meaning q.sought.pattern (slice_index q.haystack p)) (lt-ltb p q.request.range_end lt))
      ∙ sym (ap (λ (b : Bool). not b || first_stands q p) is.0)
      ∙ never

  -- where none of the positions is tried, no match may start at any
  pub none_may_start : (starts : Option ByteFlags) → AreStartBytes q.sought.meaning q.sought.pattern starts → NoneTried true q
      → NoneMayStart starts q.haystack q.request.range_end (effective_start q.request) (q.request.range_end + 1)
  none_may_start starts is none p from before = may_not_start starts is p (none p from (omega (arith, before)))

  -- a search that seeks goes on at the next position where a match may start, and another at the next one
  pub are_passed : (starts : Option ByteFlags) → AreStartBytes q.sought.meaning q.sought.pattern starts → (seek : Bool) (from last place : ℕ) → from ≤ last + 1
      → (seek ≡ true → IsNextCandidate starts q.haystack q.request.range_end from last place) → (seek ≡ false → place ≡ from) → ArePassed q seek from last place
  are_passed starts is true from last place ordered sought each =
      let next = sought refl in
      record {
        passed = next.passed;
        within = next.within;
        starts = λ le. begins starts is place (next.stands le);
        untried = λ k low high. begins_not starts is k (next.none k low high);
        none = λ k low high. none_starts q starts is bytes k (next.none k low high);
      }
  are_passed starts is false from last place ordered sought each =
      let same = each refl in
      record {
        passed = omega (arith, same);
        within = omega (arith, same, ordered);
        starts = λ le. refl;
        untried = λ k low high. absurd (none_between k from place same low high);
        none = λ k low high. absurd (none_between k from place same low high);
      }

-- the same by the arguments of a search
pub passed_over : (q : Query) (code : Code) (options : SearchOptions) (haystack : List ℕ) (request : Request) (continues : Bool) → q ≡ query_of q.sought.pattern code options haystack request continues
    → ((k : ℕ) → slice_index haystack k < 256) → (from last place : ℕ) → from ≤ last + 1
    → (options.seek ≡ true → IsNextCandidate code.prefilter.starts haystack request.range_end from last place) → (options.seek ≡ false → place ≡ from)
    → IsCodeOf q.sought.pattern code → ArePassed q options.seek from last place
passed_over q code options haystack request continues is bytes from last place ordered sought each of =
    let here : haystack ≡ q.haystack = sym (ap (λ (r : Query). r.haystack) is) in
    let meant : code.meaning ≡ q.sought.meaning = sym (ap (λ (r : Query). r.sought.meaning) is) in
    are_passed q (subst (λ (h : List ℕ). (k : ℕ) → slice_index h k < 256) here bytes) code.prefilter.starts
    (subst (λ (m : Meaning). AreStartBytes m q.sought.pattern code.prefilter.starts) meant of.starts) options.seek from last place ordered
    (λ yes. subst (λ (r : Query). IsNextCandidate code.prefilter.starts r.haystack r.request.range_end from last place) (sym is) (sought yes)) each

denied : (b : Bool) → not b ≡ true → b ≡ false
denied true e = absurd (true≢false (sym e))
denied false e = refl

-- nothing is found at a position where no match may begin
untried_none : (q : Query) (p : ℕ) → may_begin q p ≡ false → answer_at q p ≡ None
untried_none q p never = by (has_start_bytes q.sought.pattern) refl where
  by : (b : Bool) → has_start_bytes q.sought.pattern ≡ b → answer_at q p ≡ None
  by false e = absurd (true≢false (sym (ap (λ (b : Bool). not b || first_stands q p) e) ∙ never))
  by true e =
      none_here q p (denied (nullable q.sought.pattern) (parts_of (not (nullable q.sought.pattern)) _ e).0)
      (λ h.
      let same : slice_index q.haystack p ≡ h.1.byte = get_or_from_slice_get q.haystack p h.1.byte 0 h.1.stands in
      true≢false (sym (ap₂ (λ (b c : Bool). b && c) (lt-ltb p q.request.range_end h.0) (ap (first_bytes q.sought.meaning q.sought.pattern) same ∙ h.1.passes))
      ∙ sym (ap (λ (b : Bool). not b || first_stands q p) e) ∙ never))

-- where a search that does not seek tries no position, there is none
pub not_seeking : (seek : Bool) (q : Query) → NoneTried seek q → NoneTried true q
not_seeking true q none = none
not_seeking false q none = λ p from to. absurd (true≢false (none p from to))

fewer : (b : Bool) (n k : ℕ) → k < (if b then (min 1 n) else n) → k < n
fewer true n k lt = omega (arith, lt)
fewer false n k lt = lt

-- each position of a search is within the range, or at its end
in_range : (r : Request) (k : ℕ) → effective_start r ≤ k → k < effective_start r + positions r → k ≤ r.range_end
in_range r k from before =
    let lt : k - effective_start r < positions r = omega (arith, from, before) in
    omega (arith, from, fewer r.anchored (r.range_end + 1 - effective_start r) (k - effective_start r) lt)

-- nothing is found where no position is tried
pub none_found : (seek : Bool) (q : Query) → NoneTried seek q → search q ≡ None
none_found seek q none =
    all_none q (positions q.request) (effective_start q.request)
    (λ k from before. untried_none q k (not_seeking seek q none k from (in_range q.request k from before)))
