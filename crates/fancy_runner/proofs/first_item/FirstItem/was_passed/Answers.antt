use Rattle.std.proofs.Common.{◌≡◌, ◌+◌, ◌-◌, ◌*◌, ◌≤◌, ◌<◌, ℕ, Bool, Option, true, false, sym, ap, ◌∙◌, arith}
use Rattle.std.specs.Prelude.{slice_index_or}
use Rattle.fancy_meaning.specs.Context.{option_to}
use Rattle.fancy_code.specs.Code.{width_of}
use Rattle.fancy_code.proofs.MarkingLemmas.{bit_inside}
use Rattle.fancy_runner.specs.Attempt.{marks_in}
use Rattle.fancy_runner.proofs.FirstItemLemmas.{finds_none}
use Rattle.fancy_runner.proofs.first_item.FirstItem.was_passed.Goals as goal

pub returns-in-Some : goal.returns-in-Some
returns-in-Some c passed =
    let bit : ℕ → Bool = λ k. slice_index_or c.args.table.now ((c.in-Some.past - c.args.attempt.now.base) * width_of c.args.attempt.now.code.now + k) false in
    let seen : marks_in c.args.attempt.now c.args.table.now c.requires.opens.next c.in-Some.past ≡ true =
    ap (λ (o : Option ℕ). option_to o false bit) c.requires.opens.marked ∙ sym (rw c.marks.ensures at c.has.ensures) ∙ passed in
    finds_none c.args.attempt.now c.requires.easy c.args.self.now c.requires.opens c.args.table.now c.args.place c.in-Some.past
    (sym (c.past_member.ensures.past c.args.attempt.now.suppressed c.args.attempt.now.base) ∙ c.in-Some.is) c.in-Some.ensures.forth (omega (arith, c.if-past-attempt.true)) seen

pub has-requires : goal.has-requires
has-requires c =
    let marking = c.args.attempt.now.code.now.marking in
    let row : ℕ = c.in-Some.past - c.args.attempt.now.base in
    let rows : ℕ = c.args.attempt.now.last - c.args.attempt.now.base + 1 in
    let forth : c.args.place ≤ c.in-Some.past = c.in-Some.ensures.forth in
    let row_in : row < rows = omega (arith, c.requires.row.low, forth, c.if-past-attempt.true) in
    rw c.marks.ensures (bit_inside row rows c.args.self.now.number marking.width _ row_in (marking.numbered.below _ _ c.requires.opens.marked) c.requires.row.room)
