use Rattle.fancy_regex_c.proofs.handle.Kept.tokens.Goals as goal

pub returns-in-Set : goal.returns-in-Set
returns-in-Set c = rw (c.in-Set.is, ← c.deref.ensures) c.tokens_of_bytes.ensures
