use Rattle.std.proofs.Common.{◌∙◌, ◌||◌, Bool, List, sym, ap, map, arith}
use Rattle.fancy_tree.specs.declared.tree.Tree.{Tree}
use Rattle.fancy_tree.specs.Pattern.{Pattern, pattern_of}
use Rattle.fancy_tree.proofs.PatternLemmas.{pattern-Concat, pattern-Alternation}
use Rattle.fancy_bytes.specs.Reads.{item_starts, item_starts_in}
use Rattle.fancy_bytes.specs.Sets.{member}
use Rattle.fancy_bytes.proofs.ReadLemmas.{starts-in_sequence, starts-in_choice, starts_step}
use Rattle.fancy_bytes.proofs.reads.+reads.Goals as goal

pub add_item_starts-returns-in-Concat : goal.add_item_starts-returns-in-Concat
add_item_starts-returns-in-Concat t c b lt =
    c.add_item_starts_in.ensures b lt
    ∙ ap (λ (x : Bool). member c.args.set.now b || x)
    (ap (λ (ts : List Tree). item_starts_in c.args.meaning (map pattern_of ts) b) c.deref-in-Concat.ensures.value
    ∙ sym (starts-in_sequence c.args.meaning (map pattern_of c.in-Concat.parts.items) b)
    ∙ sym (ap (λ (p : Pattern). item_starts c.args.meaning p b) (ap pattern_of c.in-Concat.is ∙ pattern-Concat c.in-Concat.parts)))

pub add_item_starts-returns-in-Alternation : goal.add_item_starts-returns-in-Alternation
add_item_starts-returns-in-Alternation t c b lt =
    c.add_item_starts_in-in-Alternation.ensures b lt
    ∙ ap (λ (x : Bool). member c.args.set.now b || x)
    (ap (λ (ts : List Tree). item_starts_in c.args.meaning (map pattern_of ts) b) c.deref-in-Alternation.ensures.value
    ∙ sym (starts-in_choice c.args.meaning (map pattern_of c.in-Alternation.branches.items) b)
    ∙ sym (ap (λ (p : Pattern). item_starts c.args.meaning p b) (ap pattern_of c.in-Alternation.is ∙ pattern-Alternation c.in-Alternation.branches)))

pub add_item_starts_in-loop-i-preserved : goal.add_item_starts_in-loop-i-preserved
add_item_starts_in-loop-i-preserved t c b lt =
    starts_step c.args.meaning c.args.trees.now c.loop-i.i c.index-trees-i.result b _ (member c.loop-i.set b) _ (omega arith) c.index-trees-i.is
    (c.add_item_starts.ensures b lt) (c.loop-i.invariant b lt)
