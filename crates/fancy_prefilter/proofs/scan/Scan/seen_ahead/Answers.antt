use Rattle.std.proofs.Common.{◌-◌, arith, subst}
use Rattle.std.specs.Prelude.{slice_range}
use Rattle.memchr.specs.Find.{Nowhere, Passes, is_byte}
use Rattle.fancy_prefilter.proofs.ScanLemmas.{only_of, length_part, none_seen, next_seen}
use Rattle.fancy_prefilter.proofs.scan.Scan.seen_ahead.Goals as goal

pub returns-in-None-memchr : goal.returns-in-None-memchr
returns-in-None-memchr c =
    let told = only_of c.self.inside.only c.in-Some.byte c.self.inside.set c.args.self.now c.in-Some.is c.self.view_is c.self.invariant.0 in
    let nowhere =
    subst (Nowhere (Passes (is_byte c.in-Some.byte) (slice_range c.args.haystack.now c.args.from c.args.to)) 0)
    (length_part c.args.haystack.now c.args.from c.args.to c.requires.within) c.in-None-memchr.ensures in
    none_seen c.args.self.now c.in-Some.byte c.args.haystack.now c.args.from c.args.to told (λ k. omega (arith, c.type_inv.haystack k)) (c.args.to - c.args.from) c.args.to
    (omega arith) (omega (arith, c.requires.ordered)) nowhere

pub returns-in-Some-memchr : goal.returns-in-Some-memchr
returns-in-Some-memchr c =
    let told = only_of c.self.inside.only c.in-Some.byte c.self.inside.set c.args.self.now c.in-Some.is c.self.view_is c.self.invariant.0 in
    let first = c.in-Some-memchr.ensures in
    next_seen c.args.self.now c.in-Some.byte c.args.haystack.now c.args.from c.args.to told (λ k. omega (arith, c.type_inv.haystack k)) c.in-Some-memchr.passed
    (omega (arith, first.0.high, length_part c.args.haystack.now c.args.from c.args.to c.requires.within)) first.0.before first.1
