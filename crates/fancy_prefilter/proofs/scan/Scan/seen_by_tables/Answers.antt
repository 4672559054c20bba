use Rattle.std.proofs.Common.{◌≡◌, ◌+◌, true, slice_index, sym, ap, ◌∙◌, arith}
use Rattle.fancy_bytes.specs.Sets.{ByteFlags, member}
use Rattle.fancy_prefilter.proofs.MarkLemmas.{bit_within, never_so, none_before}
use Rattle.fancy_prefilter.proofs.ScanLemmas.{none_seen_further, none_seen_at}
use Rattle.fancy_prefilter.proofs.scan.Scan.seen_by_tables.Goals as goal

pub loop-place-preserved-then-marks-eq0 : goal.loop-place-preserved-then-marks-eq0
loop-place-preserved-then-marks-eq0 c =
    let set = c.args.self.now in
    let haystack = c.args.haystack.now in
    record {
      passed = omega (arith, c.loop-place.invariant.passed);
      within = omega (arith, c.loop-place-test.true, c.loop-place.invariant.within);
      none = none_seen_further set haystack c.args.from c.loop-place.place (c.loop-place.place + 32) c.loop-place.invariant.none
          (never_so (λ p. member set (slice_index haystack p) ≡ true) c.loop-place.place c.marks-marks.result c.marks-marks.ensures c.if-marks-eq0.true);
    }

pub bounds-haystack-marked : goal.bounds-haystack-marked
bounds-haystack-marked c =
    let inside = bit_within c.marks-marks.result c.lowest.result c.marks-marks.ensures.few c.lowest.ensures.set in
    omega (arith, inside, c.loop-place-test.true, c.loop-place.invariant.within, c.requires.within)

pub returns-then-contains : goal.returns-then-contains
returns-then-contains c =
    let set = c.args.self.now in
    let haystack = c.args.haystack.now in
    let place = c.loop-place.place in
    let inside = bit_within c.marks-marks.result c.lowest.result c.marks-marks.ensures.few c.lowest.ensures.set in
    record {
      passed = omega (arith, c.loop-place.invariant.passed);
      within = omega (arith, inside, c.loop-place-test.true, c.loop-place.invariant.within);
      found = ap (λ (s : ByteFlags). member s (slice_index haystack (place + c.lowest.result))) (sym c.self.view_is) ∙ sym c.contains.ensures ∙ c.if-contains.true;
      none = none_seen_further set haystack c.args.from place (place + c.lowest.result) c.loop-place.invariant.none
          (none_before (λ p. member set (slice_index haystack p) ≡ true) place c.marks-marks.result c.marks-marks.ensures c.lowest.result inside c.lowest.ensures.first);
    }

pub loop-place-preserved : goal.loop-place-preserved
loop-place-preserved c =
    let set = c.args.self.now in
    let haystack = c.args.haystack.now in
    let place = c.loop-place.place in
    let inside = bit_within c.marks-marks.result c.lowest.result c.marks-marks.ensures.few c.lowest.ensures.set in
    record {
      passed = omega (arith, c.loop-place.invariant.passed);
      within = omega (arith, inside, c.loop-place-test.true, c.loop-place.invariant.within);
      none = none_seen_at set haystack c.args.from (place + c.lowest.result)
          (none_seen_further set haystack c.args.from place (place + c.lowest.result) c.loop-place.invariant.none
          (none_before (λ p. member set (slice_index haystack p) ≡ true) place c.marks-marks.result c.marks-marks.ensures c.lowest.result inside c.lowest.ensures.first))
          (ap (λ (s : ByteFlags). member s (slice_index haystack (place + c.lowest.result))) (sym c.self.view_is) ∙ sym c.contains.ensures ∙ c.if-contains.false);
    }
