use Rattle.std.proofs.Common.{◌≡◌, ◌+◌, ◌-◌, ◌<◌, ℕ, Some, sym, ◌∙◌, arith}
use Rattle.std.proofs.lemmas.Bool.{not-true}
use Rattle.fancy_code.specs.Code.{number_of}
use Rattle.fancy_code.specs.CodeLength.{code_len}
use Rattle.fancy_code.proofs.MarkingLemmas.{marks_new, left_less, bit_inside}
use Rattle.fancy_runner.proofs.runner.is_new.Goals as goal

pub returns-clause-adds : goal.returns-clause-adds
returns-clause-adds c =
    let marking = c.args.attempt.now.code.now.marking in
    let has : number_of c.args.attempt.now.code.now c.args.pair.at ≡ Some c.in-Some.number = sym c.mark_number.ensures ∙ c.in-Some.is in
    rw (c.mark.ensures.after, c.marks.ensures)
    (marks_new marking.numbers.items marking.weights.items marking.width c.args.table.now c.args.pair.at c.in-Some.number (c.args.pair.place - c.args.attempt.now.base) has marking.numbered.below marking.numbered.apart)

pub returns-clause-left : goal.returns-clause-left
returns-clause-left c new =
    let marking = c.args.attempt.now.code.now.marking in
    let row : ℕ = c.args.pair.place - c.args.attempt.now.base in
    let rows : ℕ = c.args.attempt.now.last - c.args.attempt.now.base + 1 in
    let has : number_of c.args.attempt.now.code.now c.args.pair.at ≡ Some c.in-Some.number = sym c.mark_number.ensures ∙ c.in-Some.is in
    let row_in : row < rows = omega (arith, c.requires.row.low, c.requires.row.high) in
    rw (c.mark.ensures.after, c.marks.ensures)
    (let less = left_less marking.numbers.items marking.weights.items marking.width c.args.table.now c.args.pair.at c.in-Some.number row has
    (code_len c.args.attempt.now.code.now) rows c.requires.here row_in
    (bit_inside row rows c.in-Some.number marking.width _ row_in (marking.numbered.below _ _ has) c.requires.row.room)
    (not-true _ (rw (c.marks.ensures) at (sym c.mark.ensures.new ∙ new))) in
    omega (arith, less))

pub mark-requires : goal.mark-requires
mark-requires c =
    let marking = c.args.attempt.now.code.now.marking in
    let row : ℕ = c.args.pair.place - c.args.attempt.now.base in
    let rows : ℕ = c.args.attempt.now.last - c.args.attempt.now.base + 1 in
    let has : number_of c.args.attempt.now.code.now c.args.pair.at ≡ Some c.in-Some.number = sym c.mark_number.ensures ∙ c.in-Some.is in
    let row_in : row < rows = omega (arith, c.requires.row.low, c.requires.row.high) in
    rw c.marks.ensures (bit_inside row rows c.in-Some.number marking.width _ row_in (marking.numbered.below _ _ has) c.requires.row.room)
