use Rattle.std.proofs.Common.{◌∙◌, sym, arith}
use Rattle.fancy_prices.proofs.EntryLemmas.{passed_seen, passed_unseen, passed_up_to}
use Rattle.fancy_prices.proofs.entries.Told.next_far.Goals as goal

pub returns-in_default : goal.returns-in_default
returns-in_default c =
    record {
      passed = c.requires.ordered;
      within = omega arith;
      none = passed_unseen c.args.self.now c.args.haystack.now (λ k. omega (arith, c.type_inv.haystack k)) c.args.from c.loop-place.place c.args.to c.loop-place.invariant.within c.loop-place.invariant.none c.in_default.ensures;
    }

pub returns-then-is_costly : goal.returns-then-is_costly
returns-then-is_costly c =
    let seen = c.in-Some.ensures in
    record {
      passed = omega (arith, c.loop-place.invariant.passed, seen.passed);
      within = omega (arith, seen.within);
      none = passed_unseen c.args.self.now c.args.haystack.now (λ k. omega (arith, c.type_inv.haystack k)) c.args.from c.loop-place.place c.in-Some.seen seen.passed c.loop-place.invariant.none seen.none;
    }

pub loop-place-preserved : goal.loop-place-preserved
loop-place-preserved c =
    let seen = c.in-Some.ensures in
    record {
      passed = omega (arith, c.loop-place.invariant.passed, seen.passed);
      within = omega (arith, seen.within);
      none = passed_seen c.args.self.now c.args.haystack.now (λ k. omega (arith, c.type_inv.haystack k)) c.args.from c.loop-place.place c.args.to c.in-Some.seen c.loop-place.invariant.none seen (sym c.is_costly.ensures ∙ c.if-is_costly.false);
    }

pub returns : goal.returns
returns c =
    record {
      passed = c.requires.ordered;
      within = omega arith;
      none = passed_up_to c.args.self.now c.args.haystack.now c.args.from c.loop-place.place c.args.to c.loop-place.invariant.within (omega (arith, c.loop-place-test.false)) c.loop-place.invariant.none;
    }
