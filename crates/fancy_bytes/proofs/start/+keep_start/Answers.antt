use Rattle.std.proofs.Common.{◌+◌, ◌∙◌, ◌||◌, Bool, List, sym, ap, map, drop, arith}
use Rattle.fancy_tree.specs.declared.tree.Tree.{Tree}
use Rattle.fancy_tree.specs.Pattern.{pattern_of}
use Rattle.fancy_tree.proofs.PatternLemmas.{pattern-Concat, pattern-Alternation}
use Rattle.fancy_bytes.specs.Firsts.{has_keep_start}
use Rattle.fancy_bytes.specs.Lists.{some_keep_start}
use Rattle.fancy_bytes.proofs.ListLemmas.{keep_start-in_sequence, keep_start-in_choice, keep_start_here, no_part}
use Rattle.fancy_bytes.proofs.start.+keep_start.Goals as goal

pub has_keep_start-returns-in-Concat : goal.has_keep_start-returns-in-Concat
has_keep_start-returns-in-Concat t c =
    c.is_some_keep_start.ensures
    ∙ ap (λ (ts : List Tree). some_keep_start (map pattern_of ts)) c.deref-in-Concat.ensures.value
    ∙ sym (keep_start-in_sequence (map pattern_of c.in-Concat.parts.items))
    ∙ sym (ap has_keep_start (ap pattern_of c.in-Concat.is ∙ pattern-Concat c.in-Concat.parts))

pub has_keep_start-returns-in-Alternation : goal.has_keep_start-returns-in-Alternation
has_keep_start-returns-in-Alternation t c =
    c.is_some_keep_start-in-Alternation.ensures
    ∙ ap (λ (ts : List Tree). some_keep_start (map pattern_of ts)) c.deref-in-Alternation.ensures.value
    ∙ sym (keep_start-in_choice (map pattern_of c.in-Alternation.branches.items))
    ∙ sym (ap has_keep_start (ap pattern_of c.in-Alternation.is ∙ pattern-Alternation c.in-Alternation.branches))

pub is_some_keep_start-loop-i-preserved : goal.is_some_keep_start-loop-i-preserved
is_some_keep_start-loop-i-preserved t c =
    c.loop-i.invariant
    ∙ keep_start_here c.args.trees.now c.loop-i.i c.index-trees-i.result (omega arith) c.index-trees-i.is
    ∙ ap (λ (b : Bool). b || some_keep_start (drop (c.loop-i.i + 1) (map pattern_of c.args.trees.now))) (sym c.has_keep_start.ensures ∙ c.if-has_keep_start.false)

pub is_some_keep_start-returns-then-has_keep_start : goal.is_some_keep_start-returns-then-has_keep_start
is_some_keep_start-returns-then-has_keep_start t c =
    sym (c.loop-i.invariant
    ∙ keep_start_here c.args.trees.now c.loop-i.i c.index-trees-i.result (omega arith) c.index-trees-i.is
    ∙ ap (λ (b : Bool). b || some_keep_start (drop (c.loop-i.i + 1) (map pattern_of c.args.trees.now))) (sym c.has_keep_start.ensures ∙ c.if-has_keep_start.true))

pub is_some_keep_start-returns : goal.is_some_keep_start-returns
is_some_keep_start-returns t c = sym (c.loop-i.invariant ∙ ap some_keep_start (no_part c.args.trees.now c.loop-i.i (omega arith)))
