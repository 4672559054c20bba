use Rattle.std.proofs.Common.{◌∙◌, ◌||◌, Bool, List, true, false, sym, ap, map, arith}
use Rattle.fancy_tree.specs.declared.tree.Tree.{Tree}
use Rattle.fancy_tree.specs.Pattern.{Pattern, pattern_of}
use Rattle.fancy_tree.proofs.PatternLemmas.{pattern-Concat, pattern-Alternation}
use Rattle.fancy_bytes.specs.Firsts.{first_bytes}
use Rattle.fancy_bytes.specs.Sets.{member}
use Rattle.fancy_bytes.specs.Lists.{first_in_row, first_in_some}
use Rattle.fancy_bytes.proofs.ListLemmas.{first-in_sequence, first-in_any_choice, row_step, any_step}
use Rattle.fancy_bytes.proofs.BoolLemmas.{or_nothing}
use Rattle.fancy_bytes.proofs.start.+first.Goals as goal

pub add_first-returns-in-Concat : goal.add_first-returns-in-Concat
add_first-returns-in-Concat t c b lt =
    c.add_first_in_row.ensures b lt
    ∙ ap (λ (x : Bool). member c.args.set.now b || x)
    (ap (λ (ts : List Tree). first_in_row c.args.meaning (map pattern_of ts) b) c.deref-in-Concat.ensures.value
    ∙ sym (first-in_sequence c.args.meaning (map pattern_of c.in-Concat.parts.items) b)
    ∙ sym (ap (λ (p : Pattern). first_bytes c.args.meaning p b) (ap pattern_of c.in-Concat.is ∙ pattern-Concat c.in-Concat.parts)))

pub add_first-returns-in-Alternation : goal.add_first-returns-in-Alternation
add_first-returns-in-Alternation t c b lt =
    c.add_first_in_some.ensures b lt
    ∙ ap (λ (x : Bool). member c.args.set.now b || x)
    (ap (λ (ts : List Tree). first_in_some c.args.meaning (map pattern_of ts) b) c.deref-in-Alternation.ensures.value
    ∙ sym (first-in_any_choice c.args.meaning (map pattern_of c.in-Alternation.branches.items) b)
    ∙ sym (ap (λ (p : Pattern). first_bytes c.args.meaning p b) (ap pattern_of c.in-Alternation.is ∙ pattern-Alternation c.in-Alternation.branches)))

pub add_first_in_row-loop-i-preserved : goal.add_first_in_row-loop-i-preserved
add_first_in_row-loop-i-preserved t c b lt =
    row_step c.args.meaning c.args.trees.now c.loop-i.i c.index-trees-i.result b _ (member c.loop-i.set b) _ true (omega arith) c.index-trees-i.is
    (c.add_first.ensures b lt) (sym c.if-not-is_nullable.false ∙ c.is_nullable.ensures) (c.loop-i.invariant b lt)

pub add_first_in_row-returns-then-not-is_nullable : goal.add_first_in_row-returns-then-not-is_nullable
add_first_in_row-returns-then-not-is_nullable t c b lt =
    sym (or_nothing (member c.add_first.new.set b))
    ∙ row_step c.args.meaning c.args.trees.now c.loop-i.i c.index-trees-i.result b _ (member c.loop-i.set b) _ false (omega arith) c.index-trees-i.is
    (c.add_first.ensures b lt) (sym c.if-not-is_nullable.true ∙ c.is_nullable.ensures) (c.loop-i.invariant b lt)

pub add_first_in_some-loop-i-preserved : goal.add_first_in_some-loop-i-preserved
add_first_in_some-loop-i-preserved t c b lt =
    any_step c.args.meaning c.args.trees.now c.loop-i.i c.index-trees-i.result b _ (member c.loop-i.set b) _ (omega arith) c.index-trees-i.is
    (c.add_first.ensures b lt) (c.loop-i.invariant b lt)
