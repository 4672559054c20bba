use Rattle.std.proofs.Common.{◌+◌, ◌-◌, ◌*◌, ◌≤◌, ℕ, Some, refl, arith}
use Rattle.fancy_code.specs.CodeLength.{code_len}
use Rattle.fancy_runner.proofs.KeptTableLemmas.{all_again}
use Rattle.fancy_code.proofs.MarkingLemmas.{marks_none, row_inside}
use Rattle.fancy_runner.proofs.MarkLemmas.{marks_left, left_more}
use Rattle.fancy_runner.proofs.MarkLemmas.{unmarked_table}
use Rattle.fancy_runner.proofs.search.ready_table.Goals as goal

pub returns-in_default-clause-failed : goal.returns-in_default-clause-failed
returns-in_default-clause-failed c deep failed q i seen hit =
    let marking = c.args.attempt.now.code.now.marking in
    marks_none marking.numbers.items marking.weights.items marking.width c.reset.new.self (unmarked_table c.reset.new.self _ c.in_ok-reset.ensures) q (i - c.args.attempt.now.base) seen.1

pub returns-then-first-kept-clause-failed : goal.returns-then-first-kept-clause-failed
returns-then-first-kept-clause-failed c deep failed q i seen hit =
    let marking = c.args.attempt.now.code.now.marking in
    let row : ℕ = c.args.first - c.args.attempt.now.base in
    let left = marks_left marking.numbers.items marking.weights.items marking.width marking.numbered row c.args.table.now c.clear.new.self (rw c.marks-marks.ensures at c.clear.ensures) q (i - c.args.attempt.now.base) seen.1 in
    (rw c.in-Some.is at failed) q i ((seen.0.0, omega (arith, left.1, seen.0.1, c.requires.begins, rw c.in-Some.is at c.requires.reached), seen.0.2), left.0) hit

pub returns-else-first-kept-clause-failed : goal.returns-else-first-kept-clause-failed
returns-else-first-kept-clause-failed c deep failed q i seen hit =
    (rw c.in-Some.is at failed) q i ((seen.0.0, omega (arith, seen.0.1, c.if-first-kept.false), seen.0.2), seen.1) hit

pub returns-then-first-kept-clause-left : goal.returns-then-first-kept-clause-left
returns-then-first-kept-clause-left c =
    let marking = c.args.attempt.now.code.now.marking in
    let more = left_more marking.numbers.items marking.weights.items marking.width marking.numbered (c.args.first - c.args.attempt.now.base) c.args.table.now c.clear.new.self (rw c.marks-marks.ensures at c.clear.ensures)
    (code_len c.args.attempt.now.code.now) (c.args.attempt.now.last - c.args.attempt.now.base + 1) in
    rw c.in-Some.is (omega (arith, more, all_again (Some c.in-Some.kept) c.in-Some.kept c.args.attempt.now.code.now c.args.first refl c.if-first-kept.true))

pub clear-requires-clause-within : goal.clear-requires-clause-within
clear-requires-clause-within c =
    let width = c.args.attempt.now.code.now.marking.width in
    let row : ℕ = c.args.first - c.args.attempt.now.base in
    let rows : ℕ = c.args.attempt.now.last - c.args.attempt.now.base + 1 in
    let inside : row * width + width ≤ rows * width = row_inside row rows width (omega (arith, c.requires.ordered, c.requires.begins)) in
    rw c.marks-marks.ensures (omega (arith, inside, rw c.in-Some.is at c.requires.room))
