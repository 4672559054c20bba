use Rattle.fancy_template.proofs.TemplateLemmas.{cuts_all, cuts_steps}
use Rattle.fancy_template.proofs.laws.template_is_cut_in_one_way.Goals as goal

pub returns-clause-some : goal.returns-clause-some
returns-clause-some c = cuts_all

pub returns-clause-one : goal.returns-clause-one
returns-clause-one c = cuts_steps
