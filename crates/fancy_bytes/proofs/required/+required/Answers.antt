use Rattle.std.proofs.Common.{◌∙◌, List, sym, ap, map, arith}
use Rattle.fancy_tree.specs.declared.tree.Tree.{Tree}
use Rattle.fancy_tree.specs.Pattern.{Pattern, pattern_of}
use Rattle.fancy_tree.proofs.PatternLemmas.{pattern-Concat, pattern-Alternation}
use Rattle.fancy_bytes.specs.Required.{required_bytes}
use Rattle.fancy_bytes.specs.Sets.{member}
use Rattle.fancy_bytes.specs.Lists.{required_in_some, required_in_choice}
use Rattle.fancy_bytes.proofs.ListLemmas.{required-in_sequence, required-in_choice, some_step, each_step}
use Rattle.fancy_bytes.proofs.required.+required.Goals as goal

pub required_bytes-returns-in-Concat : goal.required_bytes-returns-in-Concat
required_bytes-returns-in-Concat t c b lt =
    c.required_in_row.ensures b lt
    ∙ ap (λ (ts : List Tree). required_in_some c.args.meaning (map pattern_of ts) b) c.deref-in-Concat.ensures.value
    ∙ sym (required-in_sequence c.args.meaning (map pattern_of c.in-Concat.parts.items) b)
    ∙ sym (ap (λ (p : Pattern). required_bytes c.args.meaning p b) (ap pattern_of c.in-Concat.is ∙ pattern-Concat c.in-Concat.parts))

pub required_bytes-returns-in-Alternation : goal.required_bytes-returns-in-Alternation
required_bytes-returns-in-Alternation t c b lt =
    c.required_in_each.ensures b lt
    ∙ ap (λ (ts : List Tree). required_in_choice c.args.meaning (map pattern_of ts) b) c.deref-in-Alternation.ensures.value
    ∙ sym (required-in_choice c.args.meaning (map pattern_of c.in-Alternation.branches.items) b)
    ∙ sym (ap (λ (p : Pattern). required_bytes c.args.meaning p b) (ap pattern_of c.in-Alternation.is ∙ pattern-Alternation c.in-Alternation.branches))

pub required_in_row-loop-i-preserved : goal.required_in_row-loop-i-preserved
required_in_row-loop-i-preserved t c b lt =
    some_step c.args.meaning c.args.trees.now c.loop-i.i c.index-trees-i.result b (member c.loop-i.set b) _ _ _ (omega arith) c.index-trees-i.is
    (c.union-set.ensures b lt) (c.required_bytes-more.ensures b lt) (c.loop-i.invariant b lt)

pub required_in_each-loop-i-preserved : goal.required_in_each-loop-i-preserved
required_in_each-loop-i-preserved t c b lt =
    each_step c.args.meaning c.args.trees.now c.loop-i.i c.index-trees-i.result b (member c.loop-i.set b) _ _ _ (omega arith) c.index-trees-i.is
    (c.intersection-set.ensures b lt) (c.required_bytes-more.ensures b lt) (c.loop-i.invariant b lt)
