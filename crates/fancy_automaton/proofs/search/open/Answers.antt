use Rattle.std.proofs.Common.{[], None, refl, sym}
use Rattle.fancy_code.specs.Queries.{query_of, unfiltered}
use Rattle.fancy_automaton.proofs.AskedLemmas.{found_for, none_for}
use Rattle.fancy_automaton.proofs.GoingLemmas.{going_end, going_first, going_idle}
use Rattle.fancy_automaton.proofs.search.open.Goals as goal

pub returns-in_default-clause-none : goal.returns-in_default-clause-none
returns-in_default-clause-none c p on is =
    none_for (query_of p c.args.code.now (unfiltered c.args.options) c.args.haystack.now c.args.request on) c.in_default.ensures.none

pub returns-then-place-attempt-clause-none : goal.returns-then-place-attempt-clause-none
returns-then-place-attempt-clause-none c p on is =
    let a = c.in-Some.attempt in
    let place = c.next_opened-place.ensures in
    sym (found_for a c.args.code.now c.args.haystack.now c.args.request c.args.options c.in-Some.ensures.asked c.in-Some.ensures.followed p on is None
    (λ deep begun. rw c.requires.unanchored (going_end a [] [] None c.next_opened-place.result deep c.if-place-attempt.true place.ends begun
    (going_idle a [] [] None a.base c.next_opened-place.result place.forth place.ends refl place.passed (going_first a [] [] None refl refl refl))))).same
