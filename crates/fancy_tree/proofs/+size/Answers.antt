use Rattle.std.proofs.Common.{◌-◌, length, map, sym, ap, ◌∙◌, arith}
use Rattle.fancy_tree.specs.Pattern.{pattern_of}
use Rattle.fancy_tree.proofs.PatternLemmas.{pattern-Repeat, pattern-Conditional}
use Rattle.fancy_tree.proofs.PartLemmas.{no_parts, some_parts}
use Rattle.fancy_tree.proofs.FittingLemmas.{no_part_size, part_size, no_branch_size, last_branch_size, branch_size, repeat_known, conditional_known}
use Rattle.fancy_tree.proofs.+size.Goals as goal

pub measure::size_of_sequence-loop-i-init : goal.measure::size_of_sequence-loop-i-init
measure::size_of_sequence-loop-i-init t c = no_part_size c.args.meaning c.args.parts.now

pub measure::size_of_sequence-loop-i-preserved : goal.measure::size_of_sequence-loop-i-preserved
measure::size_of_sequence-loop-i-preserved t c =
    part_size c.args.meaning c.args.parts.now c.loop-i.i (c.loop-i.i - 1) c.index-parts-i.result (omega (arith, c.loop-i-test.true)) (omega (arith, c.loop-i.auto.i, c.loop-i-test.true)) c.index-parts-i.is
    c.size.result c.loop-i.total c.plus-total.result c.size.ensures c.loop-i.invariant c.plus-total.ensures

pub measure::size_of_choice-returns-then-is_empty : goal.measure::size_of_choice-returns-then-is_empty
measure::size_of_choice-returns-then-is_empty t c =
    no_branch_size c.args.meaning (map pattern_of c.args.branches.now) (no_parts c.args.branches.now c.if-is_empty.ensures)

pub measure::size_of_choice-loop-i-init : goal.measure::size_of_choice-loop-i-init
measure::size_of_choice-loop-i-init t c =
    let some = some_parts (length c.args.branches.now) c.if-is_empty.ensures in
    record {
      known = last_branch_size c.args.meaning c.args.branches.now c.index-branches-last.result some c.index-branches-last.is c.size-shared.result c.size-shared.ensures;
      within = omega (arith, some);
    }

pub measure::size_of_choice-loop-i-preserved : goal.measure::size_of_choice-loop-i-preserved
measure::size_of_choice-loop-i-preserved t c = record {
  known = branch_size c.args.meaning c.args.branches.now c.loop-i.i (c.loop-i.i - 1) c.index-branches-i.result (omega (arith, c.loop-i-test.true)) c.loop-i.invariant.within c.index-branches-i.is
      c.size.result c.loop-i.shared c.common-shared.result c.size.ensures c.loop-i.invariant.known c.common-shared.ensures;
  within = omega (arith, c.loop-i.invariant.within);
}

pub tree::Tree::size-returns-in-Repeat : goal.tree::Tree::size-returns-in-Repeat
tree::Tree::size-returns-in-Repeat t c =
    repeat_known c.args.meaning c.in-Repeat.low c.in-Repeat.high c.in-Repeat.kind (pattern_of c.in-Repeat.body.value) (pattern_of c.args.self.now)
    (ap pattern_of c.in-Repeat.is ∙ pattern-Repeat c.in-Repeat.low c.in-Repeat.high c.in-Repeat.kind c.in-Repeat.body)
    c.size-in-Repeat.result c.size_of_repeat.result (rw c.deref-in-Repeat.ensures at c.size-in-Repeat.ensures) c.size_of_repeat.ensures

pub tree::Tree::size-returns-else-are_empty : goal.tree::Tree::size-returns-else-are_empty
tree::Tree::size-returns-else-are_empty t c =
    let is = ap pattern_of c.in-Conditional.is ∙ pattern-Conditional c.in-Conditional.condition c.in-Conditional.on_match c.in-Conditional.otherwise in
    conditional_known c.args.meaning (pattern_of c.in-Conditional.condition.value) (pattern_of c.in-Conditional.on_match.value) (pattern_of c.in-Conditional.otherwise.value) (pattern_of c.args.self.now) is
    (sym (rw (c.deref-in-Conditional-2.ensures, c.deref-in-Conditional-3.ensures) at c.if-are_empty.ensures))
    c.size-tested.result c.size-in-Conditional.result c.size-in-Conditional-2.result c.plus-matched.result c.common.result
    (rw c.deref-in-Conditional.ensures at c.size-tested.ensures) (rw c.deref-in-Conditional-4.ensures at c.size-in-Conditional.ensures) (rw c.deref-in-Conditional-5.ensures at c.size-in-Conditional-2.ensures)
    c.plus-matched.ensures c.common.ensures
