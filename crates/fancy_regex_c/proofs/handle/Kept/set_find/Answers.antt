use Rattle.fancy_regex_c.proofs.handle.Kept.set_find.Goals as goal

pub returns-in-Set : goal.returns-in-Set
returns-in-Set c = rw (c.in-Set.is, ← c.deref.ensures) c.set_find_in.ensures
