use Rattle.std.proofs.Common.{◌+◌, ◌-◌, ◌*◌, ◌≤◌, ℕ, arith}
use Rattle.fancy_code.specs.CodeLength.{code_len}
use Rattle.fancy_runner.proofs.MarkLemmas.{marks_kept, left_fewer}
use Rattle.fancy_code.proofs.MarkingLemmas.{row_inside}
use Rattle.fancy_runner.proofs.start.forget_behind.Goals as goal

pub returns-clause-failed : goal.returns-clause-failed
returns-clause-failed c deep failed q i seen hit =
    let marking = c.args.attempt.now.code.now.marking in
    failed q i (seen.0, marks_kept marking.numbers.items marking.weights.items marking.width (c.args.place - c.args.attempt.now.base) c.args.table.now c.forget.new.self (rw c.marks.ensures at c.forget.ensures) q (i - c.args.attempt.now.base) (omega (arith, seen.0.1)) seen.1) hit

pub returns-clause-left : goal.returns-clause-left
returns-clause-left c =
    let marking = c.args.attempt.now.code.now.marking in
    left_fewer marking.numbers.items marking.weights.items marking.width (c.args.place - c.args.attempt.now.base) c.args.table.now c.forget.new.self (rw c.marks.ensures at c.forget.ensures)
    (code_len c.args.attempt.now.code.now) (c.args.attempt.now.last - c.args.attempt.now.base + 1)

pub forget-requires : goal.forget-requires
forget-requires c =
    let width = c.args.attempt.now.code.now.marking.width in
    let row : ℕ = c.args.place - c.args.attempt.now.base in
    let rows : ℕ = c.args.attempt.now.last - c.args.attempt.now.base + 1 in
    let inside : row * width + width ≤ rows * width = row_inside row rows width (omega (arith, c.requires.row.high, c.requires.row.low)) in
    rw c.marks.ensures (omega (arith, inside, c.requires.row.room))
