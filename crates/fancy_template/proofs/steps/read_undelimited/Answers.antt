use Rattle.std.proofs.Common.{rules, ◌∙◌}
use Rattle.fancy_template.specs.Expanders.{syntax_of}
use Rattle.fancy_template.proofs.RowLemmas.{empty_row}
use Rattle.fancy_template.proofs.FormLemmas.{no_bare_name, bare_name}
use Rattle.fancy_template.proofs.steps.read_undelimited.Goals as goal

pub returns-then-is_empty : goal.returns-then-is_empty
returns-then-is_empty c = no_bare_name (syntax_of c.args.expander.now) _ (search rules) (empty_row _ _ _ c.split_row.ensures.text c.split_row.ensures.row c.is_empty.ensures ∙ c.if-is_empty.true)

pub returns : goal.returns
returns c = bare_name (syntax_of c.args.expander.now) _ (search rules) (empty_row _ _ _ c.split_row.ensures.text c.split_row.ensures.row c.is_empty.ensures ∙ c.if-is_empty.false) _ _ c.split_row.ensures.row c.split_row.ensures.rest
