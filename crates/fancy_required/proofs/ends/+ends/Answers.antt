use Rattle.std.proofs.Common.{◌≡◌, ◌∙◌, ◌-◌, List, length, map, sym, ap, arith}
use Rattle.std.proofs.lemmas.Bool.{eqb-false}
use Rattle.fancy_tree.specs.declared.tree.Tree.{Tree}
use Rattle.fancy_tree.specs.Pattern.{pattern_of, in_sequence}
use Rattle.fancy_tree.proofs.PatternLemmas.{pattern-Concat, pattern-Alternation}
use Rattle.fancy_required.specs.Ends.{ends_text}
use Rattle.fancy_required.proofs.EndsLemmas.{ends-in_choice, last_part}
use Rattle.fancy_required.proofs.ends.+ends.Goals as goal

pub ends_text-returns-in-Concat : goal.ends_text-returns-in-Concat
ends_text-returns-in-Concat t c =
    c.ends_text_in_row.ensures
    ∙ ap (λ (ts : List Tree). ends_text (in_sequence (map pattern_of ts))) c.deref-in-Concat.ensures.value
    ∙ ap ends_text (sym (ap pattern_of c.in-Concat.is ∙ pattern-Concat c.in-Concat.parts))

pub ends_text-returns-in-Alternation : goal.ends_text-returns-in-Alternation
ends_text-returns-in-Alternation t c =
    ends-in_choice (map pattern_of c.in-Alternation.field-0.items)
    ∙ ap ends_text (sym (ap pattern_of c.in-Alternation.is ∙ pattern-Alternation c.in-Alternation.field-0))

pub ends_text_in_row-returns : goal.ends_text_in_row-returns
ends_text_in_row-returns t c =
    let some : length c.args.trees.now ≡ 0 → ⊥ = eqb-false (length c.args.trees.now) 0 (sym c.if-is_empty.ensures) in
    c.ends_text.ensures
    ∙ last_part c.args.trees.now (length c.args.trees.now - 1) c.index-trees-trees.result (omega (arith, some)) c.index-trees-trees.is
