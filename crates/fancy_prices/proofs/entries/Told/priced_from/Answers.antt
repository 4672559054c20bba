use Rattle.std.proofs.Common.{◌≡◌, ◌-◌, ◌+◌, ℕ, suc, Some, ◌∙◌, sym, subst, arith}
use Rattle.fancy_prices.specs.Entries.{TakeInAll, is_told}
use Rattle.fancy_prices.proofs.EntryLemmas.{one_told, one_more_told, row_next}
use Rattle.fancy_prices.proofs.entries.Told.priced_from.Goals as goal

pub loop-place-init : goal.loop-place-init
loop-place-init c =
    record {
      passed = omega arith;
      within = omega (arith, c.requires.ordered);
      few = omega arith;
      row = sym (row_next c.args.self.now c.args.haystack.now c.args.from (omega (arith, c.requires.ordered, c.requires.inside))) ∙ c.after-row.ensures;
      told = one_told (is_told (Some c.args.self.now)) c.args.haystack.now c.args.from _ c.args.price (omega arith) c.requires.told;
    }

pub loop-place-preserved : goal.loop-place-preserved
loop-place-preserved c =
    let told = is_told (Some c.args.self.now) in
    let haystack = c.args.haystack.now in
    let n : ℕ = c.loop-place.place - c.args.from in
    let here : c.loop-place.place ≡ c.args.from + n = omega (arith, c.loop-place.invariant.passed) in
    let more : suc n ≡ c.loop-place.place + 1 - c.args.from = omega (arith, c.loop-place.invariant.passed) in
    record {
      passed = omega (arith, c.loop-place.invariant.passed);
      within = omega (arith, c.loop-place-test.true);
      few = omega (arith, c.loop-place.invariant.few, c.loop-place.invariant.passed);
      row = sym (row_next c.args.self.now haystack c.loop-place.place (omega (arith, c.loop-place-test.true, c.requires.inside))) ∙ c.after-row-in-loop-place.ensures;
      told = subst (λ (k : ℕ). TakeInAll told haystack c.args.from k (c.loop-place.returns + c.in-Some.price.returns)) more
          (one_more_told told haystack c.args.from n c.loop-place.place c.loop-place.returns c.in-Some.price here c.in-Some.ensures c.loop-place.invariant.told);
    }
