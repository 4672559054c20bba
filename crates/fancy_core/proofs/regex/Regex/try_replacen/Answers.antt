use Rattle.fancy_search.proofs.ResultLemmas.{if_ok, if_err}
use Rattle.fancy_core.proofs.regex.Regex.try_replacen.Goals as goal

pub returns-clause-text : goal.returns-clause-text
returns-clause-text g c = if_ok _ _ (λ _ w. (c.try_replacen_by.new.replacer, w.0, w.1)) c.try_replacen_by.result c.try_replacen_by.ensures.text

pub returns-clause-refused : goal.returns-clause-refused
returns-clause-refused g c = if_err _ _ (λ _ w. (c.try_replacen_by.new.replacer, w)) c.try_replacen_by.result c.try_replacen_by.ensures.refused
