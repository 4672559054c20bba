use Rattle.std.proofs.Common.{Option, ◌∙◌, arith, ap, sym, slice_index}
use Rattle.fancy_prices.specs.declared.rows.Row.{Row}
use Rattle.fancy_prices.specs.Around.{costly_in}
use Rattle.fancy_prices.proofs.EntryLemmas.{passed_one, passed_up_to, row_next}
use Rattle.fancy_prices.proofs.entries.Told.next_near.Goals as goal

pub loop-place-preserved : goal.loop-place-preserved
loop-place-preserved c =
    record {
      passed = omega (arith, c.loop-place.invariant.passed);
      within = omega (arith, c.loop-place-test.true);
      row = sym (row_next c.args.self.now c.args.haystack.now c.loop-place.place (omega (arith, c.loop-place-test.true, c.requires.inside))) ∙ c.after-row.ensures;
      none = passed_one c.args.self.now c.args.haystack.now c.args.from c.loop-place.place c.loop-place.invariant.none
          (ap (λ (o : Option Row). costly_in o (slice_index c.args.haystack.now c.loop-place.place)) c.loop-place.invariant.row ∙ c.if-row-byte.false);
    }

pub returns : goal.returns
returns c =
    passed_up_to c.args.self.now c.args.haystack.now c.args.from c.loop-place.place c.args.to c.loop-place.invariant.within (omega (arith, c.loop-place-test.false)) c.loop-place.invariant.none
