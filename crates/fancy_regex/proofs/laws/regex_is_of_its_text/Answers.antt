use Rattle.fancy_regex.proofs.laws.regex_is_of_its_text.Goals as goal

pub returns : goal.returns
returns c = c.args._regex.now.spelled
