use Rattle.fancy_template.proofs.ReadLemmas.{doubled_is_read, delimited_is_read, undelimited_is_read, digits_are_read}
use Rattle.fancy_template.proofs.laws.forms_are_read.Goals as goal

pub returns-clause-doubled : goal.returns-clause-doubled
returns-clause-doubled c = doubled_is_read

pub returns-clause-delimited : goal.returns-clause-delimited
returns-clause-delimited c = delimited_is_read

pub returns-clause-undelimited : goal.returns-clause-undelimited
returns-clause-undelimited c = undelimited_is_read

pub returns-clause-digits : goal.returns-clause-digits
returns-clause-digits c = digits_are_read
