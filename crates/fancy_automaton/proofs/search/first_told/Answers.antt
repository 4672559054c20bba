use Rattle.std.proofs.Common.{[], None, refl}
use Rattle.fancy_automaton.proofs.BeginLemmas.{idle_begins}
use Rattle.fancy_automaton.proofs.GoingLemmas.{going_first, going_idle}
use Rattle.fancy_automaton.proofs.search.first_told.Goals as goal

pub returns-then-scanned-attempt-clause-begins : goal.returns-then-scanned-attempt-clause-begins
returns-then-scanned-attempt-clause-begins c =
    let a = c.args.attempt.now in
    let place = c.next_start-scanned.ensures in
    idle_begins a c.next_start-scanned.result
    (going_idle a [] [] None a.base c.next_start-scanned.result place.forth place.ends refl place.passed (going_first a [] [] None refl refl refl))

pub new-from-requires-clause-going : goal.new-from-requires-clause-going
new-from-requires-clause-going c =
    let a = c.args.attempt.now in
    let place = c.next_start-scanned.ensures in
    going_idle a [] [] None a.base c.next_start-scanned.result place.forth place.ends refl place.passed (going_first a [] [] None refl refl refl)
