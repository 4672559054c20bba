use Rattle.std.proofs.Common.{◌+◌, arith}
use Rattle.fancy_bytes.specs.Rows.{StandsFrom}
use Rattle.fancy_prefilter.proofs.MarkLemmas.{never_so}
use Rattle.fancy_prefilter.proofs.WindowLemmas.{none_further}
use Rattle.fancy_prefilter.proofs.window.Window.next_marked.Goals as goal

pub returns-then-marks-ne0-clause-marks : goal.returns-then-marks-ne0-clause-marks
returns-then-marks-ne0-clause-marks c some = c.marks-marks.ensures c.args.end

pub loop-place-preserved : goal.loop-place-preserved
loop-place-preserved c =
    record {
      passed = omega (arith, c.loop-place.invariant.passed);
      none = none_further c.args.self.now c.args.haystack.now c.args.end c.args.from c.loop-place.place (c.loop-place.place + 32) c.loop-place.invariant.none
          (never_so (λ p. StandsFrom c.args.self.now c.args.haystack.now c.args.end 0 p) c.loop-place.place c.marks-marks.result (c.marks-marks.ensures c.args.end) c.if-marks-ne0.false);
    }
