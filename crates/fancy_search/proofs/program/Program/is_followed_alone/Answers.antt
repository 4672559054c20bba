use Rattle.fancy_search.proofs.program.Program.is_followed_alone.Goals as goal

pub returns-clause-places : goal.returns-clause-places
returns-clause-places c e = c.can_follow.ensures.places e c.args.asked.now.haystack.now c.args.asked.now.utf8
