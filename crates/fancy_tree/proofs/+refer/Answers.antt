use Rattle.std.proofs.Common.{rules, ◌<◌, length, map, Vec, Box, Global, sym, ap, ◌∙◌, arith}
use Rattle.std.proofs.lemmas.List.{length-map}
use Rattle.fancy_tree.specs.declared.tree.Tree.{Tree}
use Rattle.fancy_tree.specs.Pattern.{pattern_of, group, repeat, look_ahead, look_behind, atomic, in_sequence, in_choice}
use Rattle.fancy_tree.specs.Refers.{number_in, refers_to}
use Rattle.fancy_tree.proofs.PatternLemmas.{pattern_equations, pattern-Conditional}
use Rattle.fancy_tree.proofs.RefersLemmas.{refers_to-in_sequence, refers_to-in_choice, same_conditional, changed_next}
use Rattle.fancy_tree.proofs.+refer.Goals as goal

pub tree::Tree::refer-returns-in-Backreference : goal.tree::Tree::refer-returns-in-Backreference
unfolding Rattle.fancy_tree.specs.declared.tree.Tree.TheViews.out-Tree refers_to denote.Hole.Carrier.out
tree::Tree::refer-returns-in-Backreference t c = rw c.in-Backreference.is (search (rules, pattern_equations))

pub tree::Tree::refer-returns-in-GroupTest : goal.tree::Tree::refer-returns-in-GroupTest
unfolding Rattle.fancy_tree.specs.declared.tree.Tree.TheViews.out-Tree refers_to denote.Hole.Carrier.out
tree::Tree::refer-returns-in-GroupTest t c = rw c.in-GroupTest.is (search (rules, pattern_equations))

pub tree::Tree::refer-returns-in-Group : goal.tree::Tree::refer-returns-in-Group
unfolding Rattle.fancy_tree.specs.declared.tree.Tree.TheViews.out-Tree refers_to denote.Hole.Carrier.out
tree::Tree::refer-returns-in-Group t c =
    let inside = c.refer.ensures ∙ ap (λ (x : Tree). refers_to (number_in c.args.numbers.now) (pattern_of x)) (c.deref_mut.ensures.value ∙ ap (λ (b : Box Tree Global). b.value) c.in-Group.body-is) in
    rw c.in-Group.is (search (rules, pattern_equations, ap (group c.in-Group.index) inside))

pub tree::Tree::refer-returns-in-Repeat : goal.tree::Tree::refer-returns-in-Repeat
unfolding Rattle.fancy_tree.specs.declared.tree.Tree.TheViews.out-Tree refers_to denote.Hole.Carrier.out
tree::Tree::refer-returns-in-Repeat t c =
    let inside = c.refer-in-Repeat.ensures ∙ ap (λ (x : Tree). refers_to (number_in c.args.numbers.now) (pattern_of x)) (c.deref_mut-in-Repeat.ensures.value ∙ ap (λ (b : Box Tree Global). b.value) c.in-Repeat.body-is) in
    rw c.in-Repeat.is (search (rules, pattern_equations, ap (repeat c.in-Repeat.low c.in-Repeat.high c.in-Repeat.kind) inside))

pub tree::Tree::refer-returns-in-LookAhead : goal.tree::Tree::refer-returns-in-LookAhead
unfolding Rattle.fancy_tree.specs.declared.tree.Tree.TheViews.out-Tree refers_to denote.Hole.Carrier.out
tree::Tree::refer-returns-in-LookAhead t c =
    let inside = c.refer-in-LookAhead.ensures ∙ ap (λ (x : Tree). refers_to (number_in c.args.numbers.now) (pattern_of x)) (c.deref_mut-in-LookAhead.ensures.value ∙ ap (λ (b : Box Tree Global). b.value) c.in-LookAhead.body-is) in
    rw c.in-LookAhead.is (search (rules, pattern_equations, ap (look_ahead c.in-LookAhead.negated) inside))

pub tree::Tree::refer-returns-in-LookBehind : goal.tree::Tree::refer-returns-in-LookBehind
unfolding Rattle.fancy_tree.specs.declared.tree.Tree.TheViews.out-Tree refers_to denote.Hole.Carrier.out
tree::Tree::refer-returns-in-LookBehind t c =
    let inside = c.refer-in-LookBehind.ensures ∙ ap (λ (x : Tree). refers_to (number_in c.args.numbers.now) (pattern_of x)) (c.deref_mut-in-LookBehind.ensures.value ∙ ap (λ (b : Box Tree Global). b.value) c.in-LookBehind.body-is) in
    rw c.in-LookBehind.is (search (rules, pattern_equations, ap (look_behind c.in-LookBehind.negated) inside))

pub tree::Tree::refer-returns-in-Atomic : goal.tree::Tree::refer-returns-in-Atomic
unfolding Rattle.fancy_tree.specs.declared.tree.Tree.TheViews.out-Tree refers_to denote.Hole.Carrier.out
tree::Tree::refer-returns-in-Atomic t c =
    let inside = c.refer-in-Atomic.ensures ∙ ap (λ (x : Tree). refers_to (number_in c.args.numbers.now) (pattern_of x)) (c.deref_mut-in-Atomic.ensures.value ∙ ap (λ (b : Box Tree Global). b.value) c.in-Atomic.body-is) in
    rw c.in-Atomic.is (search (rules, pattern_equations, ap (atomic) inside))

pub tree::Tree::refer-returns-in-Conditional : goal.tree::Tree::refer-returns-in-Conditional
unfolding refers_to
tree::Tree::refer-returns-in-Conditional t c =
    let first = c.refer-in-Conditional.ensures ∙ ap (λ (x : Tree). refers_to (number_in c.args.numbers.now) (pattern_of x)) (c.deref_mut-in-Conditional.ensures.value ∙ ap (λ (b : Box Tree Global). b.value) c.in-Conditional.condition-is) in
    let second = c.refer-in-Conditional-2.ensures ∙ ap (λ (x : Tree). refers_to (number_in c.args.numbers.now) (pattern_of x)) (c.deref_mut-in-Conditional-2.ensures.value ∙ ap (λ (b : Box Tree Global). b.value) c.in-Conditional.on_match-is) in
    let third = c.refer-in-Conditional-3.ensures ∙ ap (λ (x : Tree). refers_to (number_in c.args.numbers.now) (pattern_of x)) (c.deref_mut-in-Conditional-3.ensures.value ∙ ap (λ (b : Box Tree Global). b.value) c.in-Conditional.otherwise-is) in
    pattern-Conditional _ _ _
    ∙ (same_conditional first second third
    ∙ sym (ap (λ (x : Tree). refers_to (number_in c.args.numbers.now) (pattern_of x)) c.in-Conditional.is
    ∙ ap (refers_to (number_in c.args.numbers.now)) (pattern-Conditional c.in-Conditional.condition c.in-Conditional.on_match c.in-Conditional.otherwise)))

pub tree::Tree::refer-returns-in-Concat : goal.tree::Tree::refer-returns-in-Concat
unfolding Rattle.fancy_tree.specs.declared.tree.Tree.TheViews.out-Tree denote.Hole.Carrier.out
tree::Tree::refer-returns-in-Concat t c =
    let inside = c.refer_all.ensures ∙ ap (λ (v : Vec Tree Global). map (refers_to (number_in c.args.numbers.now)) (map pattern_of v.items)) c.in-Concat.parts-is in
    rw c.in-Concat.is (search (rules, pattern_equations, refers_to-in_sequence, ap in_sequence inside))

pub tree::Tree::refer-returns-in-Alternation : goal.tree::Tree::refer-returns-in-Alternation
unfolding Rattle.fancy_tree.specs.declared.tree.Tree.TheViews.out-Tree denote.Hole.Carrier.out
tree::Tree::refer-returns-in-Alternation t c =
    let inside = c.refer_all-in-Alternation.ensures ∙ ap (λ (v : Vec Tree Global). map (refers_to (number_in c.args.numbers.now)) (map pattern_of v.items)) c.in-Alternation.branches-is in
    rw c.in-Alternation.is (search (rules, pattern_equations, refers_to-in_choice, ap in_choice inside))

pub refer::refer_all-loop-i-preserved : goal.refer::refer_all-loop-i-preserved
refer::refer_all-loop-i-preserved t c =
    let below : c.loop-i.i < length c.loop-i.trees.items = omega (arith, c.loop-i-test.true, c.loop-i.invariant.unvisited.0, c.len-i-end.ensures, c.loop-i.trees.ok.0) in
    record {
      unvisited = search rules;
      done = changed_next pattern_of (refers_to (number_in c.args.numbers.now)) c.loop-i.trees.items (map pattern_of c.args.trees.now.items) c.loop-i.i c.index_mut.result.now c.refer.new.self
          below (c.loop-i.invariant.unvisited.0 ∙ sym (length-map c.args.trees.now.items pattern_of)) c.loop-i.invariant.done c.index_mut.ensures.value c.refer.ensures;
    }
