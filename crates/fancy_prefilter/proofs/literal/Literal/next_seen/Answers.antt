use Rattle.std.proofs.Common.{◌+◌, ◌-◌, sym, arith, true≢false}
use Rattle.fancy_prefilter.proofs.ScanLemmas.{length_part}
use Rattle.fancy_prefilter.proofs.StandsLemmas.{none_stands, not_here, none_further}
use Rattle.fancy_prefilter.proofs.literal.Literal.next_seen.Goals as goal

pub next_place-requires-clause-unseen : goal.next_place-requires-clause-unseen
next_place-requires-clause-unseen c =
    not_here c.args.haystack.now c.places.place c.args.end c.places.invariant.within c.requires.within c.args.self.now
    (λ occurs. true≢false (sym ((rw (c.deref.ensures.value, c.self.view_is) at c.if-is_prefix.ensures).1 occurs)))

pub returns-in-None-find-clause-none : goal.returns-in-None-find-clause-none
returns-in-None-find-clause-none c =
    let nowhere = rw (length_part c.args.haystack.now c.places.place c.args.end c.requires.within, c.deref-2.ensures.value, c.self.view_is) at c.in-None-find.ensures in
    none_further c.args.haystack.now c.args.end c.args.self.now c.args.from c.places.place (c.args.end + 1) c.places.invariant.none
    (none_stands c.args.haystack.now c.places.place c.args.end c.places.invariant.within c.requires.within c.args.self.now (c.args.end - c.places.place + 1) (c.args.end + 1)
    (omega (arith, c.places.invariant.within)) (omega arith) nowhere)

pub returns-in-Some-find-clause-none : goal.returns-in-Some-find-clause-none
returns-in-Some-find-clause-none c =
    let first = rw (c.deref-2.ensures.value, c.self.view_is) at c.in-Some-find.ensures in
    none_further c.args.haystack.now c.args.end c.args.self.now c.args.from c.places.place (c.places.place + c.in-Some-find.passed) c.places.invariant.none
    (none_stands c.args.haystack.now c.places.place c.args.end c.places.invariant.within c.requires.within c.args.self.now c.in-Some-find.passed (c.places.place + c.in-Some-find.passed)
    (omega arith) (omega (arith, length_part c.args.haystack.now c.places.place c.args.end c.requires.within, first.0.high)) first.0.before)
