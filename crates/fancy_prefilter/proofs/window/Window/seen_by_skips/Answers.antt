use Rattle.std.proofs.Common.{◌+◌, arith, sym, true≢false}
use Rattle.fancy_prefilter.proofs.WindowLemmas.{none_further, none_at}
use Rattle.fancy_prefilter.proofs.window.Window.seen_by_skips.Goals as goal

pub loop-place-preserved-then-skip-gt0 : goal.loop-place-preserved-then-skip-gt0
loop-place-preserved-then-skip-gt0 c =
    record {
      passed = omega (arith, c.loop-place.invariant.passed);
      none = none_further c.args.self.now c.args.haystack.now c.args.end c.args.from c.loop-place.place (c.loop-place.place + c.skip_at-skip.result) c.loop-place.invariant.none
          (c.skip_at-skip.ensures.none c.args.end);
    }

pub loop-place-preserved : goal.loop-place-preserved
loop-place-preserved c =
    record {
      passed = omega (arith, c.loop-place.invariant.passed);
      none = none_further c.args.self.now c.args.haystack.now c.args.end c.args.from c.loop-place.place (c.loop-place.place + 1) c.loop-place.invariant.none
          (none_at c.args.self.now c.args.haystack.now c.args.end c.loop-place.place (λ stands. true≢false (sym (c.if-stands_at.ensures.1 stands))));
    }
