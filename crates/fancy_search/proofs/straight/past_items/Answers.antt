use Rattle.std.proofs.Common.{◌-◌, ◌∙◌, arith, sym}
use Rattle.fancy_search.specs.Straight.{test_of}
use Rattle.fancy_search.proofs.StraightLemmas.{items_counted, items_far, items_none, items_over, items_turn}
use Rattle.fancy_search.proofs.straight.past_items.Goals as goal

pub returns-in_default-clause-read : goal.returns-in_default-clause-read
returns-in_default-clause-read c x m h =
    let none = sym (c.past.ensures.read x m h) ∙ c.in_default.is in
    sym (c.items.invariant.read x m h ∙ items_none x (test_of c.args.item) c.args.places.end (c.args.places.end - c.items.past) c.items.past none)

pub returns-then-next-places-clause-read : goal.returns-then-next-places-clause-read
returns-then-next-places-clause-read c x m h =
    let some = sym (c.in-Some.ensures.read x m h) in
    sym (c.items.invariant.read x m h
    ∙ items_far x (test_of c.args.item) c.args.places.end (c.args.places.end - c.items.past) c.items.past c.in-Some.next some c.if-next-places.true)

pub items-preserved : goal.items-preserved
items-preserved c = record {
  read = λ x m h.
      (c.items.invariant.read x m h
      ∙ items_turn x (test_of c.args.item) c.args.places.end c.items.past c.in-Some.next (sym (c.in-Some.ensures.read x m h)) c.if-next-places.false);
  from = omega (arith, c.items.invariant.from, c.in-Some.ensures.beyond);
  within = omega (arith, c.if-next-places.false);
  counts = items_counted c.args.places.start c.items.past c.in-Some.next _ _ _ _ c.items.invariant.from c.in-Some.ensures.beyond
      c.items.invariant.counts c.count_step_within.ensures c.count_step_within-in-items.ensures;
}

pub returns-clause-read : goal.returns-clause-read
returns-clause-read c x m h =
    sym (c.items.invariant.read x m h ∙ items_over x (test_of c.args.item) c.args.places.end (c.args.places.end - c.items.past) c.items.past c.items-test.false)
