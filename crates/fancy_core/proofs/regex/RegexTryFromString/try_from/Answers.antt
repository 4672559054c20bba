use Rattle.fancy_core.proofs.regex.RegexTryFromString.try_from.Goals as goal

pub returns : goal.returns
returns c = rw c.default.ensures at c.with_options.ensures
