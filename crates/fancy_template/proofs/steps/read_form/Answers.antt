use Rattle.fancy_template.specs.Expanders.{syntax_of}
use Rattle.fancy_template.proofs.FormLemmas.{a_mark, a_delimited, an_undelimited, at_last}
use Rattle.fancy_template.proofs.steps.read_form.Goals as goal

pub returns-in-Some : goal.returns-in-Some
returns-in-Some c = a_mark (syntax_of c.args.expander.now) _ c.in-Some.ensures.0 _ c.in-Some.ensures.1

pub returns-in-Some-read_delimited : goal.returns-in-Some-read_delimited
returns-in-Some-read_delimited c = a_delimited (syntax_of c.args.expander.now) _ c.in_default.ensures _ c.in-Some-read_delimited.ensures

pub returns-in-Some-read_undelimited : goal.returns-in-Some-read_undelimited
returns-in-Some-read_undelimited c = an_undelimited (syntax_of c.args.expander.now) _ c.in_default.ensures c.in_default-read_delimited.ensures _ c.in-Some-read_undelimited.ensures

pub returns : goal.returns
returns c = at_last (syntax_of c.args.expander.now) _ c.in_default.ensures c.in_default-read_delimited.ensures c.in_default-read_undelimited.ensures _ c.read_number.ensures
