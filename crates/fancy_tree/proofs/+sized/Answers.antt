use Rattle.std.proofs.Common.{List, map, sym, ap, ◌∙◌, arith}
use Rattle.std.specs.List.{list_all}
use Rattle.std.proofs.lemmas.List.{length-map, get_or-map}
use Rattle.std.proofs.lemmas.List.Folds.{list_all_at}
use Rattle.fancy_tree.specs.declared.tree.Tree.{Tree}
use Rattle.fancy_tree.specs.Pattern.{pattern_of}
use Rattle.fancy_tree.specs.Sizes.{are_sized}
use Rattle.fancy_tree.proofs.PatternLemmas.{pattern-Concat, pattern-Alternation}
use Rattle.fancy_tree.proofs.LookBehindLemmas.{sized-in_sequence, sized-in_choice}
use Rattle.fancy_tree.proofs.+sized.Goals as goal

pub look_behind::are_sized-returns-then-not-is_sized : goal.look_behind::are_sized-returns-then-not-is_sized
look_behind::are_sized-returns-then-not-is_sized t c =
    sym
    (list_all_at (are_sized c.args.meaning) (map pattern_of c.args.trees.now) c.loop-i.i (pattern_of c.index-trees-i.result) (omega (arith, c.loop-i-test.true, length-map c.args.trees.now pattern_of))
    (ap (are_sized c.args.meaning) (get_or-map pattern_of c.args.trees.now c.loop-i.i c.index-trees-i.result (pattern_of c.index-trees-i.result) c.loop-i-test.true ∙ ap pattern_of (sym c.index-trees-i.is))
    ∙ (sym c.is_sized.ensures ∙ c.if-not-is_sized.true)))

pub tree::Tree::is_sized-returns-in-Concat : goal.tree::Tree::is_sized-returns-in-Concat
tree::Tree::is_sized-returns-in-Concat t c =
    c.are_sized.ensures
    ∙ (ap (λ (ts : List Tree). list_all (are_sized c.args.meaning) (map pattern_of ts)) c.deref-in-Concat.ensures.value
    ∙ (sym (sized-in_sequence c.args.meaning (map pattern_of c.in-Concat.parts.items)) ∙ ap (are_sized c.args.meaning) (sym (ap pattern_of c.in-Concat.is ∙ pattern-Concat c.in-Concat.parts))))

pub tree::Tree::is_sized-returns-in-Alternation : goal.tree::Tree::is_sized-returns-in-Alternation
tree::Tree::is_sized-returns-in-Alternation t c =
    c.are_sized-in-Alternation.ensures
    ∙ (ap (λ (ts : List Tree). list_all (are_sized c.args.meaning) (map pattern_of ts)) c.deref-in-Alternation.ensures.value
    ∙ (sym (sized-in_choice c.args.meaning (map pattern_of c.in-Alternation.branches.items)) ∙ ap (are_sized c.args.meaning) (sym (ap pattern_of c.in-Alternation.is ∙ pattern-Alternation c.in-Alternation.branches))))
