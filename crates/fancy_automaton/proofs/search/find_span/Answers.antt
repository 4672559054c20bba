use Rattle.std.proofs.Common.{[], None, arith, refl}
use Rattle.fancy_automaton.proofs.GoingLemmas.{going_end, going_first, going_idle}
use Rattle.fancy_automaton.proofs.search.find_span.Goals as goal

pub find_from-requires : goal.find_from-requires
find_from-requires c = record { followed = c.requires.followed; next = c.next_start-place.ensures; within = omega (arith, c.if-place-attempt.false); kept = c.requires.kept }

pub returns-then-place-attempt-clause-answer : goal.returns-then-place-attempt-clause-answer
returns-then-place-attempt-clause-answer c deep begun =
    let a = c.args.attempt.now in
    let place = c.next_start-place.ensures in
    going_end a [] [] None c.next_start-place.result deep c.if-place-attempt.true place.ends begun
    (going_idle a [] [] None a.base c.next_start-place.result place.forth place.ends refl place.passed (going_first a [] [] None refl refl refl))

pub returns-then-place-attempt-clause-kept : goal.returns-then-place-attempt-clause-kept
returns-then-place-attempt-clause-kept c = record {
  bounded = record { rows = c.requires.kept.bounded.rows; cells = c.requires.kept.bounded.cells; told = c.requires.kept.bounded.told };
  all = c.requires.kept.all;
}

pub returns-clause-idle : goal.returns-clause-idle
returns-clause-idle c none = absurd (c.next_start-place.ensures.some (omega (arith, c.if-place-attempt.false)) none)
