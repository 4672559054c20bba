-- Where a text stands before the end, byte by byte.
use Rattle.std.proofs.Common.{◌≡◌, ℕ, zero, suc, ◌+◌, ◌-◌, ◌<◌, ◌≤◌, Some, List, [], ◌∷◌, length, drop, slice_index, sym, ap, subst, ◌∙◌, arith, inl, inr}
use Rattle.std.proofs.lemmas.List.{get_or-take, get_or-drop}
use Rattle.std.proofs.lemmas.Option.{get_or_from_slice_get, slice_get-get_or}
use Rattle.std.specs.Prelude.{slice_range}
use Rattle.std.proofs.lemmas.Bool.{cases_eq, cases_lt}
use Rattle.memchr.specs.Find.{OccursAt, Nowhere}
use Rattle.memchr.specs.Pairs.{HasPair, IsPairFinderOf, reach_of}
use Rattle.memchr.specs.declared.arch.all.packedpair.Finder.{Finder}
use Rattle.fancy_bytes.specs.Openings.{StandsBefore, NoneStandsBefore}
use Rattle.fancy_prefilter.proofs.ScanLemmas.{length_part}

pub record IsByteOf (haystack : List ℕ) (end : ℕ) (text : List ℕ) (p j : ℕ) : Type 0 where
  pub inside : p + j < end
  pub there : slice_index haystack (p + j) ≡ slice_index text j

pub byte_of : (haystack : List ℕ) (end : ℕ) (text : List ℕ) (p j : ℕ) → StandsBefore haystack end text p → j < length text → IsByteOf haystack end text p j
byte_of haystack end [] p j s lt = absurd (omega arith)
byte_of haystack end (b ∷ bs) p zero s lt = record {
  inside = omega (arith, s.0);
  there =
      let here : p + 0 ≡ p = omega arith in
      ap (slice_index haystack) here ∙ get_or_from_slice_get haystack p b 0 s.1;
}
byte_of haystack end (b ∷ bs) p (suc j) s lt =
    let later = byte_of haystack end bs (p + 1) j s.2 (omega arith) in
    let there : p + suc j ≡ p + 1 + j = omega arith in
    record { inside = omega (arith, later.inside); there = ap (slice_index haystack) there ∙ later.there }

pub text_within : (haystack : List ℕ) (end : ℕ) (text : List ℕ) (p : ℕ) → p ≤ end → StandsBefore haystack end text p → p + length text ≤ end
text_within haystack end [] p le s = omega (arith, le)
text_within haystack end (b ∷ bs) p le s = omega (arith, text_within haystack end bs (p + 1) (omega (arith, s.0)) s.2)

module _ (haystack : List ℕ) (from end : ℕ) (ordered : from ≤ end) (within : end ≤ length haystack) where
  -- a text that stands in the haystack occurs in the part that is scanned
  pub occurs : (text : List ℕ) (k : ℕ) → k ≤ end - from → StandsBefore haystack end text (from + k) → OccursAt (slice_range haystack from end) text k
  occurs text k le s = record {
    fits = omega (arith, text_within haystack end text (from + k) (omega (arith, ordered)) s, length_part haystack from end within, ordered);
    reads = λ j lt.
        let b = byte_of haystack end text (from + k) j s lt in
        let there : from + (k + j) ≡ from + k + j = omega arith in
        get_or-take (end - from) (drop from haystack) (k + j) 0 (omega (arith, b.inside, ordered))
        ∙ get_or-drop from haystack (k + j) 0
        ∙ ap (slice_index haystack) there
        ∙ b.there;
  }

  pub none_stands : (text : List ℕ) (n to : ℕ) → to ≡ from + n → n ≤ end - from + 1 → Nowhere (OccursAt (slice_range haystack from end) text) 0 n → NoneStandsBefore haystack end text from to
  none_stands text n to is le none k low high s =
      let there : from + (k - from) ≡ k = omega (arith, low) in
      none (k - from) (omega arith) (omega (arith, is, low, high)) (occurs text (k - from) (omega (arith, is, le, low, high)) (subst (StandsBefore haystack end text) (sym there) s))

  -- a text that does not occur at the start of the part does not stand where that begins
  pub not_here : (text : List ℕ) → ¬ OccursAt (slice_range haystack from end) text 0 → ¬ StandsBefore haystack end text from
  not_here text not s =
      let same : from + 0 ≡ from = omega arith in
      not (occurs text 0 (omega arith) (subst (StandsBefore haystack end text) (sym same) s))

  -- where a text occurs two bytes of it stand
  pair_stands : (f : Finder) (text : List ℕ) (k : ℕ) → IsPairFinderOf f text → OccursAt (slice_range haystack from end) text k → HasPair f (slice_range haystack from end) k
  pair_stands f text k is there = record {
    first = there.reads f.pair.index1 is.pair.first ∙ sym is.byte1;
    second = there.reads f.pair.index2 is.pair.second ∙ sym is.byte2;
  }

  -- where two bytes of a text do not stand, nor does the text
  pub none_paired : (f : Finder) (text : List ℕ) (n to : ℕ) → IsPairFinderOf f text → to ≡ from + n → n ≤ end - from + 1
      → ((k : ℕ) → k < n → k < length (slice_range haystack from end) - reach_of f → ¬ HasPair f (slice_range haystack from end) k)
      → NoneStandsBefore haystack end text from to
  none_paired f text n to is here le none k low high s =
      let there : from + (k - from) ≡ k = omega (arith, low) in
      let found = occurs text (k - from) (omega (arith, here, le, low, high)) (subst (StandsBefore haystack end text) (sym there) s) in
      none (k - from) (omega (arith, here, low, high)) (omega (arith, found.fits, is.pair.first, is.pair.second)) (pair_stands f text (k - from) is found)

-- the text stands at no place from one on, where it does not stand at that one and at none past it
pub none_past : (haystack : List ℕ) (end : ℕ) (text : List ℕ) (place to : ℕ) → ¬ StandsBefore haystack end text place → NoneStandsBefore haystack end text (place + 1) to
    → NoneStandsBefore haystack end text place to
none_past haystack end text place to not rest k low high s =
    elim (cases_eq k place) [
      | inl same ↦ not (subst (StandsBefore haystack end text) same s)
      | inr other ↦ rest k (omega (arith, low, other)) high s
    ]

-- the same of two parts
pub none_further : (haystack : List ℕ) (end : ℕ) (text : List ℕ) (from place to : ℕ) → NoneStandsBefore haystack end text from place → NoneStandsBefore haystack end text place to
    → NoneStandsBefore haystack end text from to
none_further haystack end text from place to before after k low high =
    elim (cases_lt k place) [
      | inl lt ↦ before k low lt
      | inr ge ↦ after k ge high
    ]

-- a text that stands, by its bytes

pub stands_by : (haystack : List ℕ) (end : ℕ) (text : List ℕ) (p : ℕ) → end ≤ length haystack → p + length text ≤ end
    → ((j : ℕ) → j < length text → slice_index haystack (p + j) ≡ slice_index text j) → StandsBefore haystack end text p
stands_by haystack end [] p within fits same = tt
stands_by haystack end (b ∷ bs) p within fits same =
    let here : p ≡ p + 0 = omega arith in (
      omega (arith, fits),
      slice_get-get_or haystack p 0 (omega (arith, fits, within)) ∙ ap Some (ap (slice_index haystack) here ∙ same 0 (omega arith)),
      stands_by haystack end bs (p + 1) within (omega (arith, fits))
          (λ j lt. let there : p + 1 + j ≡ p + suc j = omega arith in ap (slice_index haystack) there ∙ same (suc j) (omega (arith, lt))),
    )
