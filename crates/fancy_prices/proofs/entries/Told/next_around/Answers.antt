use Rattle.std.proofs.Common.{◌+◌, ◌∙◌, sym, arith}
use Rattle.fancy_prices.proofs.AroundLemmas.{passed_around}
use Rattle.fancy_prices.proofs.EntryLemmas.{next_past, passed_one}
use Rattle.fancy_prices.proofs.entries.Told.next_around.Goals as goal

pub returns-then-place-to : goal.returns-then-place-to
returns-then-place-to c =
    record {
      passed = c.requires.ordered;
      within = omega arith;
      none = passed_around c.args.self.now c.args.haystack.now (λ k. omega (arith, c.type_inv.haystack k)) c.in-Some.around (c.args.self.now.tells c.in-Some.around c.in-Some.is) c.args.to c.requires.inside
          c.args.from c.args.to (omega (arith, c.if-from-lt-BEFORE.false)) (omega arith) (λ k ge lt. c.next_opening-place.ensures.none k ge (omega (arith, lt, c.if-place-to.true)));
    }

pub returns-then-is_costly : goal.returns-then-is_costly
returns-then-is_costly c =
    record {
      passed = omega (arith, c.next_opening-place.ensures.passed, c.if-from-lt-BEFORE.false);
      within = omega (arith, c.if-place-to.false);
      none = passed_around c.args.self.now c.args.haystack.now (λ k. omega (arith, c.type_inv.haystack k)) c.in-Some.around (c.args.self.now.tells c.in-Some.around c.in-Some.is) c.args.to c.requires.inside
          c.args.from (c.next_opening-place.result + 2) (omega (arith, c.if-from-lt-BEFORE.false)) (omega (arith, c.if-place-to.false)) (λ k ge lt. c.next_opening-place.ensures.none k ge (omega (arith, lt)));
    }

pub returns : goal.returns
returns c =
    next_past c.args.self.now c.args.haystack.now c.args.from (c.next_opening-place.result + 2 + 1) c.args.to c.next_far-2.result
    (omega (arith, c.next_opening-place.ensures.passed, c.if-from-lt-BEFORE.false))
    (passed_one c.args.self.now c.args.haystack.now c.args.from (c.next_opening-place.result + 2)
    (passed_around c.args.self.now c.args.haystack.now (λ k. omega (arith, c.type_inv.haystack k)) c.in-Some.around (c.args.self.now.tells c.in-Some.around c.in-Some.is) c.args.to c.requires.inside
    c.args.from (c.next_opening-place.result + 2) (omega (arith, c.if-from-lt-BEFORE.false)) (omega (arith, c.if-place-to.false)) (λ k ge lt. c.next_opening-place.ensures.none k ge (omega (arith, lt))))
    (sym c.is_costly.ensures ∙ c.if-is_costly.false))
    c.next_far-2.ensures
