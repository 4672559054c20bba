use Rattle.std.proofs.Common.{◌≡◌, ◌∙◌, ◌++◌, Bool, true, false, List, ℕ, sym, ap, subst, map, arith}
use Rattle.std.proofs.lemmas.List.{append-nil}
use Rattle.std.specs.Prelude.{IfOk}
use Rattle.fancy_tree.specs.declared.tree.Tree.{Tree}
use Rattle.fancy_tree.specs.Pattern.{pattern_of}
use Rattle.fancy_tree.proofs.PatternLemmas.{pattern-Concat, pattern-Alternation}
use Rattle.fancy_bytes.specs.Openings.{opening, is_literal, opening_of_row, are_literal}
use Rattle.fancy_bytes.proofs.OpeningLemmas.{opening-in_sequence, literal-in_sequence, opening-in_choice, literal-in_choice, row_step, literal_step}
use Rattle.fancy_bytes.proofs.opening.+opening.Goals as goal

pub add_opening-returns-in-Concat-clause-added : goal.add_opening-returns-in-Concat-clause-added
add_opening-returns-in-Concat-clause-added t c =
    let same =
    ap (λ (ts : List Tree). opening_of_row c.args.meaning (map pattern_of ts)) c.deref-in-Concat.ensures.value
    ∙ sym (opening-in_sequence c.args.meaning (map pattern_of c.in-Concat.parts.items))
    ∙ sym (ap (opening c.args.meaning) (ap pattern_of c.in-Concat.is ∙ pattern-Concat c.in-Concat.parts)) in
    subst (λ (bytes : List ℕ). IfOk c.add_openings.result (λ whole. c.add_openings.new.text.items ≡ c.args.text.now.items ++ bytes)) same c.add_openings.ensures.added

pub add_opening-returns-in-Concat-clause-literal : goal.add_opening-returns-in-Concat-clause-literal
add_opening-returns-in-Concat-clause-literal t c =
    let same =
    ap (λ (ts : List Tree). are_literal c.args.meaning (map pattern_of ts)) c.deref-in-Concat.ensures.value
    ∙ sym (literal-in_sequence c.args.meaning (map pattern_of c.in-Concat.parts.items))
    ∙ sym (ap (is_literal c.args.meaning) (ap pattern_of c.in-Concat.is ∙ pattern-Concat c.in-Concat.parts)) in
    subst (λ (b : Bool). IfOk c.add_openings.result (λ whole. whole ≡ b)) same c.add_openings.ensures.literal

pub add_opening-returns-in-Alternation-clause-added : goal.add_opening-returns-in-Alternation-clause-added
add_opening-returns-in-Alternation-clause-added t c =
    let none = ap (opening c.args.meaning) (ap pattern_of c.in-Alternation.is ∙ pattern-Alternation c.in-Alternation.field-0) ∙ opening-in_choice c.args.meaning (map pattern_of c.in-Alternation.field-0.items) in
    sym (ap (λ (bytes : List ℕ). c.args.text.now.items ++ bytes) none ∙ append-nil c.args.text.now.items)

pub add_opening-returns-in-Alternation-clause-literal : goal.add_opening-returns-in-Alternation-clause-literal
add_opening-returns-in-Alternation-clause-literal t c =
    sym (ap (is_literal c.args.meaning) (ap pattern_of c.in-Alternation.is ∙ pattern-Alternation c.in-Alternation.field-0) ∙ literal-in_choice c.args.meaning (map pattern_of c.in-Alternation.field-0.items))

pub add_openings-returns-then-not-branch-clause-added : goal.add_openings-returns-then-not-branch-clause-added
add_openings-returns-then-not-branch-clause-added t c =
    sym (append-nil c.add_opening.new.text.items)
    ∙ row_step c.args.meaning c.args.trees.now c.loop-i.i c.index-trees-i.result c.loop-i.text.items c.add_opening.new.text.items _ false (omega arith) c.index-trees-i.is
    c.in_ok-add_opening.ensures.added (sym c.if-not-branch.true ∙ c.in_ok-add_opening.ensures.literal) c.loop-i.invariant.0

pub add_openings-returns-then-not-branch-clause-literal : goal.add_openings-returns-then-not-branch-clause-literal
add_openings-returns-then-not-branch-clause-literal t c =
    literal_step c.args.meaning c.args.trees.now c.loop-i.i c.index-trees-i.result _ false (omega arith) c.index-trees-i.is
    (sym c.if-not-branch.true ∙ c.in_ok-add_opening.ensures.literal) c.loop-i.invariant.1

pub add_openings-loop-i-preserved : goal.add_openings-loop-i-preserved
add_openings-loop-i-preserved t c = (
  row_step c.args.meaning c.args.trees.now c.loop-i.i c.index-trees-i.result c.loop-i.text.items c.add_opening.new.text.items _ true (omega arith) c.index-trees-i.is
      c.in_ok-add_opening.ensures.added (sym c.if-not-branch.false ∙ c.in_ok-add_opening.ensures.literal) c.loop-i.invariant.0,
  literal_step c.args.meaning c.args.trees.now c.loop-i.i c.index-trees-i.result _ true (omega arith) c.index-trees-i.is
      (sym c.if-not-branch.false ∙ c.in_ok-add_opening.ensures.literal) c.loop-i.invariant.1,
)
