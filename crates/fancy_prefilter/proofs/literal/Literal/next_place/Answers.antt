use Rattle.std.proofs.Common.{◌+◌, ◌-◌, arith}
use Rattle.fancy_prefilter.proofs.ScanLemmas.{length_part}
use Rattle.fancy_prefilter.proofs.StandsLemmas.{none_paired, none_past}
use Rattle.fancy_prefilter.proofs.literal.Literal.next_place.Goals as goal

pub returns-in-None-clause-none : goal.returns-in-None-clause-none
returns-in-None-clause-none c =
    let is = rw c.self.view_is at c.self.invariant in
    none_past c.args.haystack.now c.args.end c.args.self.now c.args.place (c.args.end + 1) c.requires.unseen
    (none_paired c.args.haystack.now (c.args.place + 1) c.args.end (omega (arith, c.requires.ordered, c.if-place-end.false)) c.requires.within
    c.self.inside.rarest c.args.self.now (c.args.end - (c.args.place + 1) + 1) (c.args.end + 1) is
    (omega (arith, c.requires.ordered, c.if-place-end.false)) (omega arith) (λ k lt inside. c.in-None.ensures k (omega arith) inside))

pub returns-in-Some-clause-none : goal.returns-in-Some-clause-none
returns-in-Some-clause-none c =
    let is = rw c.self.view_is at c.self.invariant in
    let first = c.in-Some.ensures in
    none_past c.args.haystack.now c.args.end c.args.self.now c.args.place (c.args.place + 1 + c.in-Some.passed) c.requires.unseen
    (none_paired c.args.haystack.now (c.args.place + 1) c.args.end (omega (arith, c.requires.ordered, c.if-place-end.false)) c.requires.within
    c.self.inside.rarest c.args.self.now c.in-Some.passed (c.args.place + 1 + c.in-Some.passed) is
    (omega arith) (omega (arith, first.0.high, length_part c.args.haystack.now (c.args.place + 1) c.args.end c.requires.within)) (λ k lt inside. first.0.before k (omega arith) lt))
