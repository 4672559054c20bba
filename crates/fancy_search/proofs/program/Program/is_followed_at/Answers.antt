use Rattle.fancy_search.proofs.program.Program.is_followed_at.Goals as goal

pub returns-then-can_follow-clause-plain : goal.returns-then-can_follow-clause-plain
returns-then-can_follow-clause-plain c e = c.can_follow.ensures.plain c.if-can_follow.true

pub returns-then-can_follow-clause-places : goal.returns-then-can_follow-clause-places
returns-then-can_follow-clause-places c e = c.can_follow.ensures.places c.if-can_follow.true c.args.asked.now.haystack.now c.args.asked.now.utf8
