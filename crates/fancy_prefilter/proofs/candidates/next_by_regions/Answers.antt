use Rattle.std.proofs.Common.{◌+◌, ◌-◌, inl, inr, arith, le_refl, refl}
use Rattle.std.proofs.lemmas.Bool.{cases_lt}
use Rattle.fancy_prefilter.proofs.NextLemmas.{next_on}
use Rattle.fancy_prefilter.proofs.RegionLemmas.{lacks_before, lacks_from, starts_not}
use Rattle.fancy_prefilter.proofs.candidates.next_by_regions.Goals as goal

pub returns-then-opening-target : goal.returns-then-opening-target
returns-then-opening-target c =
    let f = c.args.prefilter.now in
    let haystack = c.args.haystack.now in
    next_on f haystack c.args.range_end c.args.from c.args.range_end c.in-Some.start c.next_by_opening-opening.result
    (omega (arith, c.loop-place.invariant.low, c.in-Some.ensures.passed))
    (λ k low high. elim (cases_lt k c.loop-place.place) [
      | inl lt ↦ c.loop-place.invariant.none k low lt
      | inr ge ↦
          starts_not f c.args.reach.now haystack c.args.range_end k c.requires.region
          (lacks_before c.args.reach.now haystack c.loop-place.place k (c.in-Some.start - 1) c.args.range_end ge (omega (arith, high)) (omega (arith, high, c.in-Some.ensures.before, c.in-Some.ensures.inside))
          (c.in-Some.ensures.region (omega (arith, ge, high))))
    ])
    c.next_by_opening-opening.ensures

pub returns-in_default : goal.returns-in_default
returns-in_default c = record {
  passed = c.requires.ordered;
  within = le_refl (c.args.range_end + 1);
  some = λ le. absurd (omega (arith, le));
  none = λ k low high. elim (cases_lt k c.loop-place.place) [
    | inl lt ↦ c.loop-place.invariant.none k low lt
    | inr ge ↦
        starts_not c.args.prefilter.now c.args.reach.now c.args.haystack.now c.args.range_end k c.requires.region
        (lacks_from c.args.reach.now c.args.haystack.now c.loop-place.place k c.args.range_end ge (c.in_default.ensures.none refl))
  ];
}

pub loop-place-preserved : goal.loop-place-preserved
loop-place-preserved c = record {
  low = omega (arith, c.loop-place.invariant.low, c.in-Some.ensures.passed, c.next_by_opening-opening.ensures.passed);
  high = c.next_by_opening-opening.ensures.within;
  none = λ k low high. elim (cases_lt k c.loop-place.place) [
    | inl lt ↦ c.loop-place.invariant.none k low lt
    | inr ge ↦ elim (cases_lt k c.in-Some.start) [
      | inl lt ↦
          starts_not c.args.prefilter.now c.args.reach.now c.args.haystack.now c.args.range_end k c.requires.region
          (lacks_before c.args.reach.now c.args.haystack.now c.loop-place.place k (c.in-Some.start - 1) c.args.range_end ge (omega (arith, lt)) (omega (arith, lt, c.in-Some.ensures.before, c.in-Some.ensures.inside))
          (c.in-Some.ensures.region (omega (arith, ge, lt))))
      | inr from ↦ c.next_by_opening-opening.ensures.none k from high
    ]
  ];
}
