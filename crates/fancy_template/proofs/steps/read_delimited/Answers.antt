use Rattle.std.proofs.Common.{◌∙◌}
use Rattle.fancy_template.specs.Expanders.{syntax_of}
use Rattle.fancy_template.proofs.RowLemmas.{empty_row}
use Rattle.fancy_template.proofs.FormLemmas.{not_opened, no_name, not_closed, named}
use Rattle.fancy_template.proofs.steps.read_delimited.Goals as goal

pub returns-in_default : goal.returns-in_default
returns-in_default c = not_opened (syntax_of c.args.expander.now) _ (rw c.opening.ensures at c.in_default.ensures)

pub returns-then-is_empty : goal.returns-then-is_empty
returns-then-is_empty c = no_name (syntax_of c.args.expander.now) _ (rw c.opening.ensures at c.in-Some.ensures.0) _ (rw c.opening.ensures at c.in-Some.ensures.1) (empty_row _ _ _ c.split_row.ensures.text c.split_row.ensures.row c.is_empty.ensures ∙ c.if-is_empty.true)

pub returns-in-Some-after_word : goal.returns-in-Some-after_word
returns-in-Some-after_word c =
    named (syntax_of c.args.expander.now) _ (rw c.opening.ensures at c.in-Some.ensures.0) _ (rw c.opening.ensures at c.in-Some.ensures.1) (empty_row _ _ _ c.split_row.ensures.text c.split_row.ensures.row c.is_empty.ensures ∙ c.if-is_empty.false)
    (rw (← c.split_row.ensures.rest) (rw c.closing.ensures at c.in-Some-after_word.ensures.0)) _ _ c.split_row.ensures.row (rw (← c.split_row.ensures.rest) (rw c.closing.ensures at c.in-Some-after_word.ensures.1))

pub returns-in-None : goal.returns-in-None
returns-in-None c =
    not_closed (syntax_of c.args.expander.now) _ (rw c.opening.ensures at c.in-Some.ensures.0) _ (rw c.opening.ensures at c.in-Some.ensures.1) (empty_row _ _ _ c.split_row.ensures.text c.split_row.ensures.row c.is_empty.ensures ∙ c.if-is_empty.false)
    (rw (← c.split_row.ensures.rest) (rw c.closing.ensures at c.in-None.ensures))
