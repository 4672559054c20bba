use Rattle.fancy_regex_c.proofs.handle.Kept.find.Goals as goal

pub returns-in-Regex-clause-answer : goal.returns-in-Regex-clause-answer
returns-in-Regex-clause-answer c = rw (c.in-Regex.is, ← c.deref.ensures) c.find_in.ensures.answer
