use Rattle.std.proofs.Common.{◌+◌, ◌∙◌, ◌&&◌, ◌||◌, Bool, List, sym, ap, map, drop, arith}
use Rattle.fancy_tree.specs.declared.tree.Tree.{Tree}
use Rattle.fancy_tree.specs.Pattern.{pattern_of}
use Rattle.fancy_tree.proofs.PatternLemmas.{pattern-Concat, pattern-Alternation}
use Rattle.fancy_bytes.specs.Firsts.{nullable}
use Rattle.fancy_bytes.specs.Lists.{all_nullable, some_nullable}
use Rattle.fancy_bytes.proofs.ListLemmas.{nullable-in_sequence, nullable-in_choice, all_here, some_here, no_part}
use Rattle.fancy_bytes.proofs.start.+nullable.Goals as goal

pub is_nullable-returns-in-Concat : goal.is_nullable-returns-in-Concat
is_nullable-returns-in-Concat t c =
    c.are_all_nullable.ensures
    ∙ ap (λ (ts : List Tree). all_nullable (map pattern_of ts)) c.deref-in-Concat.ensures.value
    ∙ sym (nullable-in_sequence (map pattern_of c.in-Concat.parts.items))
    ∙ sym (ap nullable (ap pattern_of c.in-Concat.is ∙ pattern-Concat c.in-Concat.parts))

pub is_nullable-returns-in-Alternation : goal.is_nullable-returns-in-Alternation
is_nullable-returns-in-Alternation t c =
    c.is_some_nullable.ensures
    ∙ ap (λ (ts : List Tree). some_nullable (map pattern_of ts)) c.deref-in-Alternation.ensures.value
    ∙ sym (nullable-in_choice (map pattern_of c.in-Alternation.branches.items))
    ∙ sym (ap nullable (ap pattern_of c.in-Alternation.is ∙ pattern-Alternation c.in-Alternation.branches))

pub are_all_nullable-loop-i-preserved : goal.are_all_nullable-loop-i-preserved
are_all_nullable-loop-i-preserved t c =
    c.loop-i.invariant
    ∙ all_here c.args.trees.now c.loop-i.i c.index-trees-i.result (omega arith) c.index-trees-i.is
    ∙ ap (λ (b : Bool). b && all_nullable (drop (c.loop-i.i + 1) (map pattern_of c.args.trees.now))) (sym c.is_nullable.ensures ∙ c.if-not-is_nullable.false)

pub are_all_nullable-returns-then-not-is_nullable : goal.are_all_nullable-returns-then-not-is_nullable
are_all_nullable-returns-then-not-is_nullable t c =
    sym (c.loop-i.invariant
    ∙ all_here c.args.trees.now c.loop-i.i c.index-trees-i.result (omega arith) c.index-trees-i.is
    ∙ ap (λ (b : Bool). b && all_nullable (drop (c.loop-i.i + 1) (map pattern_of c.args.trees.now))) (sym c.is_nullable.ensures ∙ c.if-not-is_nullable.true))

pub are_all_nullable-returns : goal.are_all_nullable-returns
are_all_nullable-returns t c = sym (c.loop-i.invariant ∙ ap all_nullable (no_part c.args.trees.now c.loop-i.i (omega arith)))

pub is_some_nullable-loop-i-preserved : goal.is_some_nullable-loop-i-preserved
is_some_nullable-loop-i-preserved t c =
    c.loop-i.invariant
    ∙ some_here c.args.trees.now c.loop-i.i c.index-trees-i.result (omega arith) c.index-trees-i.is
    ∙ ap (λ (b : Bool). b || some_nullable (drop (c.loop-i.i + 1) (map pattern_of c.args.trees.now))) (sym c.is_nullable.ensures ∙ c.if-is_nullable.false)

pub is_some_nullable-returns-then-is_nullable : goal.is_some_nullable-returns-then-is_nullable
is_some_nullable-returns-then-is_nullable t c =
    sym (c.loop-i.invariant
    ∙ some_here c.args.trees.now c.loop-i.i c.index-trees-i.result (omega arith) c.index-trees-i.is
    ∙ ap (λ (b : Bool). b || some_nullable (drop (c.loop-i.i + 1) (map pattern_of c.args.trees.now))) (sym c.is_nullable.ensures ∙ c.if-is_nullable.true))

pub is_some_nullable-returns : goal.is_some_nullable-returns
is_some_nullable-returns t c = sym (c.loop-i.invariant ∙ ap some_nullable (no_part c.args.trees.now c.loop-i.i (omega arith)))
