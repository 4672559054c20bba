use Rattle.fancy_search.proofs.program.Program.attempt_in_list.Goals as goal

pub follow_at-requires-clause-plain : goal.follow_at-requires-clause-plain
follow_at-requires-clause-plain c = c.is_followed_at-followed.ensures.plain c.if-not-followed.false

pub follow_at-requires-clause-whole : goal.follow_at-requires-clause-whole
follow_at-requires-clause-whole c = c.is_followed_at-followed.ensures.whole c.if-not-followed.false
