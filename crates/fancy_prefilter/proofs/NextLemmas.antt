-- Where a search goes on to, by what tells where no match starts.
use Rattle.std.proofs.Common.{◌≡◌, ℕ, zero, suc, ◌+◌, ◌<◌, ◌≤◌, inl, inr, List, Option, Some, None, sym, subst, ◌∙◌, arith, true≢false, length, max}
use Rattle.std.proofs.lemmas.Bool.{cases_lt}
use Rattle.fancy_bytes.specs.Sets.{ByteFlags}
use Rattle.fancy_prefilter.specs.NextOpening.{FollowsNone, IsInsideWord, IsOffAnchor, LacksOpening, StartsNot, by_byte, by_anchor, by_opening, IsNextOpening}
use Rattle.fancy_prefilter.specs.Seeks.{NoneSeenBefore}
use Rattle.fancy_prefilter.specs.Seen.{MayStart, MayNotStart, IsNextCandidate}
use Rattle.fancy_prefilter.specs.declared.prefilter.Anchor.{Anchor}
use Rattle.fancy_prefilter.specs.declared.prefilter.Anchor.TheVariants.{AtStart, AtLines, AtWords}
use Rattle.fancy_prefilter.specs.declared.prefilter.Opening.{Opening}
use Rattle.fancy_prefilter.specs.declared.prefilter.Prefilter.{Prefilter}

-- a match that may start at p is no match that may not
pub starts_somewhere : (starts : Option ByteFlags) (haystack : List ℕ) (range_end p : ℕ) → MayStart starts haystack range_end p → MayNotStart starts haystack range_end p → ⊥
starts_somewhere None haystack range_end p may never = never
starts_somewhere (Some set) haystack range_end p may never = true≢false (sym may.1 ∙ never may.0)

-- what each match opens with does not stand
pub lacks_told : (f : Prefilter) (o : Opening) (haystack : List ℕ) (range_end p : ℕ) → f.opening ≡ o → LacksOpening o haystack range_end p → StartsNot f haystack range_end p
lacks_told f o haystack range_end p is lacks = by_opening (subst (λ (told : Opening). LacksOpening told haystack range_end p) (sym is) lacks)

module _ (f : Prefilter) (haystack : List ℕ) (range_end from last place : ℕ) (next : IsNextCandidate f.starts haystack range_end from last place) where
  -- where nothing else is told, the search goes on where a match may start
  pub next_first : IsNextOpening f haystack range_end from last place
  next_first = record {
    passed = next.passed;
    within = next.within;
    some = λ le none. starts_somewhere f.starts haystack range_end place (next.stands le) (none place next.passed (omega (arith, le)));
    none = λ k low high. by_byte (next.none k low high);
  }

  -- and else where what each match opens with stands, if there is a place that the first byte allows
  pub next_text : (p : ℕ) → place ≤ p → p ≤ last + 1 → ((k : ℕ) → place ≤ k → k < p → StartsNot f haystack range_end k) → IsNextOpening f haystack range_end from last p
  next_text p later within lacks = record {
    passed = omega (arith, next.passed, later);
    within = within;
    some = λ le none.
        let to : place ≤ last = omega (arith, le, later) in
        starts_somewhere f.starts haystack range_end place (next.stands to) (none place next.passed (omega (arith, to)));
    none = λ k low high. elim (cases_lt k place) [
      | inl lt ↦ by_byte (next.none k low lt)
      | inr ge ↦ lacks k ge high
    ];
  }

module _ (f : Prefilter) (haystack : List ℕ) (range_end from last : ℕ) where
  -- where no match starts before a place, the search goes on where one may start from there on
  pub next_seen : (seen place : ℕ) → from ≤ seen → ((k : ℕ) → from ≤ k → k < seen → StartsNot f haystack range_end k) → IsNextCandidate f.starts haystack range_end seen last place
      → IsNextOpening f haystack range_end from last place
  next_seen seen place later none next = record {
    passed = omega (arith, next.passed, later);
    within = next.within;
    some = λ le never. starts_somewhere f.starts haystack range_end place (next.stands le) (never place (omega (arith, next.passed, later)) (omega (arith, le)));
    none = λ k low high. elim (cases_lt k seen) [
      | inl lt ↦ none k low lt
      | inr ge ↦ by_byte (next.none k ge high)
    ];
  }

  -- so it does where what else is told is asked from there on
  pub next_on : (seen place : ℕ) → from ≤ seen → ((k : ℕ) → from ≤ k → k < seen → StartsNot f haystack range_end k) → IsNextOpening f haystack range_end seen last place
      → IsNextOpening f haystack range_end from last place
  next_on seen place later none next = record {
    passed = omega (arith, next.passed, later);
    within = next.within;
    some = λ le never. next.some le (λ k low high. never k (omega (arith, low, later)) high);
    none = λ k low high. elim (cases_lt k seen) [
      | inl lt ↦ none k low lt
      | inr ge ↦ next.none k ge high
    ];
  }

  -- where none starts at any place, there is no such place
  pub next_nowhere : from ≤ last + 1 → ((k : ℕ) → from ≤ k → StartsNot f haystack range_end k) → IsNextOpening f haystack range_end from last (last + 1)
  next_nowhere ordered none = record {
    passed = ordered;
    within = omega arith;
    some = λ le never. absurd (omega (arith, le));
    none = λ k low high. none k low;
  }

  -- past the text's start there is none for a match that starts there alone
  pub next_past : from ≤ last + 1 → f.anchor ≡ AtStart → 0 < from → IsNextOpening f haystack range_end from last (last + 1)
  next_past ordered only later = next_nowhere ordered (λ k low. by_anchor (subst (λ (a : Anchor). IsOffAnchor a haystack k) (sym only) (omega (arith, low, later))))

  -- a place where a match may start, where none starts before it
  pub next_may : (place : ℕ) → from ≤ place → place ≤ last → MayStart f.starts haystack range_end place → ((k : ℕ) → from ≤ k → k < place → StartsNot f haystack range_end k)
      → IsNextOpening f haystack range_end from last place
  next_may place later within may none = record {
    passed = later;
    within = omega (arith, within);
    some = λ le never. starts_somewhere f.starts haystack range_end place may (never place later (omega (arith, le)));
    none = none;
  }

-- where no match starts before a place, nor there, none starts up to it
pub none_past : (f : Prefilter) (haystack : List ℕ) (range_end from place : ℕ) → ((k : ℕ) → from ≤ k → k < place → StartsNot f haystack range_end k)
    → StartsNot f haystack range_end place → (k : ℕ) → from ≤ k → k < place + 1 → StartsNot f haystack range_end k
none_past f haystack range_end from place before here k low high =
    elim (cases_lt k place) [
      | inl lt ↦ before k low lt
      | inr ge ↦ subst (λ (p : ℕ). StartsNot f haystack range_end p) (omega (arith, ge, high)) here
    ]

-- past a place where no match starts there is none up to the next line
pub next_line : (f : Prefilter) (set : ByteFlags) (haystack : List ℕ) (range_end from place next : ℕ) → f.anchor ≡ AtLines set
    → ((k : ℕ) → from ≤ k → k < place → StartsNot f haystack range_end k) → StartsNot f haystack range_end place
    → ((k : ℕ) → place + 1 ≤ k → k < next → FollowsNone set haystack k) → (k : ℕ) → from ≤ k → k < next → StartsNot f haystack range_end k
next_line f set haystack range_end from place next is before here after k low high =
    elim (cases_lt k place) [
      | inl lt ↦ before k low lt
      | inr ge ↦ elim (cases_lt place k) [
        | inl past ↦ by_anchor (subst (λ (a : Anchor). IsOffAnchor a haystack k) (sym is) (after k (omega (arith, past)) high))
        | inr le ↦ subst (λ (p : ℕ). StartsNot f haystack range_end p) (omega (arith, ge, le)) here
      ]
    ]

-- no match starts before the first line
pub first_line : (f : Prefilter) (set : ByteFlags) (haystack : List ℕ) (range_end from next : ℕ) → f.anchor ≡ AtLines set
    → ((k : ℕ) → from ≤ k → k < next → FollowsNone set haystack k) → (k : ℕ) → from ≤ k → k < next → StartsNot f haystack range_end k
first_line f set haystack range_end from next is none k low high = by_anchor (subst (λ (a : Anchor). IsOffAnchor a haystack k) (sym is) (none k low high))

-- past where no byte of the set stands no place follows one
pub none_followed : (set : ByteFlags) (haystack : List ℕ) (from to k : ℕ) → NoneSeenBefore set haystack from to → from < k → k < to + 1 → FollowsNone set haystack k
none_followed set haystack from to zero none low high = absurd (omega (arith, low))
none_followed set haystack from to (suc q) none low high = none q (omega (arith, low)) (omega (arith, high))

-- where no byte of the set stands from one place on, the places after it up to the other are inside a word
pub inside_word : (set : ByteFlags) (haystack : List ℕ) (from to k : ℕ) → NoneSeenBefore set haystack from to → to ≤ length haystack → from < k → k < to → IsInsideWord set haystack k
inside_word set haystack from to k none le low high =
    (none_followed set haystack from to k none low (omega (arith, high)), (omega (arith, high, le), none k (omega (arith, low)) high))

-- so are those from a place inside a word on
pub still_inside : (set : ByteFlags) (haystack : List ℕ) (place to past k : ℕ) → IsInsideWord set haystack place → NoneSeenBefore set haystack place to → to ≤ length haystack
    → past ≡ max to (place + 1) → place ≤ k → k < past → IsInsideWord set haystack k
still_inside set haystack place to past k here none le is low high =
    elim (cases_lt place k) [
      | inl lt ↦ inside_word set haystack place to k none le lt (omega (arith, is, lt, high))
      | inr ge ↦ subst (λ (p : ℕ). IsInsideWord set haystack p) (omega (arith, low, ge)) here
    ]

-- no match starts inside a word
pub off_words : (f : Prefilter) (set : ByteFlags) (haystack : List ℕ) (range_end k : ℕ) → f.anchor ≡ AtWords set → IsInsideWord set haystack k → StartsNot f haystack range_end k
off_words f set haystack range_end k is inside = by_anchor (subst (λ (a : Anchor). IsOffAnchor a haystack k) (sym is) inside)

-- no match starts before the first place past a word, if none starts before a place inside it
pub none_inside : (f : Prefilter) (set : ByteFlags) (haystack : List ℕ) (range_end from place past : ℕ) → f.anchor ≡ AtWords set
    → ((k : ℕ) → from ≤ k → k < place → StartsNot f haystack range_end k) → ((k : ℕ) → place ≤ k → k < past → IsInsideWord set haystack k)
    → (k : ℕ) → from ≤ k → k < past → StartsNot f haystack range_end k
none_inside f set haystack range_end from place past is before inside k low high =
    elim (cases_lt k place) [
      | inl lt ↦ before k low lt
      | inr ge ↦ off_words f set haystack range_end k is (inside k ge high)
    ]
