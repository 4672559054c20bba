use Rattle.std.proofs.Common.{arith}
use Rattle.fancy_prefilter.proofs.NextLemmas.{first_line, next_line, next_may}
use Rattle.fancy_prefilter.proofs.candidates.next_by_lines.Goals as goal

pub loop-place-init : goal.loop-place-init
loop-place-init c =
    record {
      passed = c.next_line-place.ensures.passed;
      within = c.next_line-place.ensures.within;
      none = first_line c.args.prefilter.now c.args.feeds.now c.args.haystack.now c.args.range_end c.args.from c.next_line-place.result c.requires.lines c.next_line-place.ensures.none;
    }

pub loop-place-preserved : goal.loop-place-preserved
loop-place-preserved c =
    let next = c.next_line-place-in-loop-place in
    record {
      passed = omega (arith, next.ensures.passed, c.loop-place.invariant.passed);
      within = next.ensures.within;
      none = next_line c.args.prefilter.now c.args.feeds.now c.args.haystack.now c.args.range_end c.args.from c.loop-place.place next.result c.requires.lines c.loop-place.invariant.none
          (c.may_begin.ensures.never c.if-may_begin.false) next.ensures.none;
    }

pub returns-then-may_begin : goal.returns-then-may_begin
returns-then-may_begin c =
    next_may c.args.prefilter.now c.args.haystack.now c.args.range_end c.args.from c.args.last c.loop-place.place c.loop-place.invariant.passed c.loop-place-test.true
    (c.may_begin.ensures.may c.if-may_begin.true) c.loop-place.invariant.none

pub returns : goal.returns
returns c =
    record {
      passed = c.loop-place.invariant.passed;
      within = c.loop-place.invariant.within;
      some = λ le never. absurd (omega (arith, le, c.loop-place-test.false));
      none = c.loop-place.invariant.none;
    }
