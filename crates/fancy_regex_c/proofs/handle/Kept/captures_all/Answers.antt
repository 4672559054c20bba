use Rattle.fancy_regex_c.proofs.handle.Kept.captures_all.Goals as goal

pub returns-in-Regex : goal.returns-in-Regex
returns-in-Regex c = rw (c.in-Regex.is, ← c.deref.ensures) c.captures_all_of_bytes.ensures
