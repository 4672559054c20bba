use Rattle.std.proofs.Common.{◌+◌, ◌≤◌, ℕ, subst, sym, arith}
use Rattle.std.specs.Prelude.{slice_range}
use Rattle.memchr.specs.Find.{Nowhere, OccursAt}
use Rattle.fancy_prefilter.specs.Regions.{StandsAhead}
use Rattle.fancy_prefilter.specs.declared.reach.Target.{Target}
use Rattle.fancy_prefilter.proofs.ScanLemmas.{length_part}
use Rattle.fancy_prefilter.proofs.RegionLemmas.{none_before, row_first, stands_nowhere}
use Rattle.fancy_prefilter.proofs.region.next_target.Goals as goal

pub returns-in_err-found-in-Text-clause-none : goal.returns-in_err-found-in-Text-clause-none
returns-in_err-found-in-Text-clause-none c none =
    let haystack = c.args.haystack.now in
    let part = slice_range haystack c.args.from c.args.end in
    let text = c.in-Text.text.items in
    subst (λ (t : Target). ¬ StandsAhead t haystack c.args.from c.args.end) (sym c.in-Text.is)
    (stands_nowhere haystack c.args.from c.args.end text c.requires.ordered c.requires.within
    (subst (λ (n : ℕ). Nowhere (OccursAt part text) 0 (n + 1)) (length_part haystack c.args.from c.args.end c.requires.within) (rw c.deref.ensures.value at c.in_err-found-in-Text.ensures)))

pub returns-in_ok-found-in-Text-clause-first : goal.returns-in_ok-found-in-Text-clause-first
returns-in_ok-found-in-Text-clause-first c edge after before =
    let haystack = c.args.haystack.now in
    let found = c.in_ok-found-in-Text.found in
    let first = rw c.deref.ensures.value at c.in_ok-found-in-Text.ensures in
    let inside : c.args.from + found ≤ c.args.end = omega (arith, first.0.high, length_part haystack c.args.from c.args.end c.requires.within, c.requires.ordered) in
    subst (λ (t : Target). ¬ StandsAhead t haystack c.args.from edge) (sym c.in-Text.is)
    (none_before haystack c.args.from c.args.end c.requires.ordered c.requires.within c.in-Text.text.items found edge after before inside first.0.before)

pub returns-in-Row-clause-first : goal.returns-in-Row-clause-first
returns-in-Row-clause-first c = row_first c.args.target.now c.in-Row.row c.args.haystack.now c.args.from c.args.end c.next_seen.result c.in-Row.is c.next_seen.ensures
