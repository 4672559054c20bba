use Rattle.fancy_regex.proofs.set.RegexSet.answer_from.Goals as goal

pub answer_in-requires-clause-groups : goal.answer_in-requires-clause-groups
answer_in-requires-clause-groups g c =
    let s = c.args.self.now in
    rw (c.request.ensures.value, c.as_bytes-bytes.ensures.bytes, c.haystack-haystack.ensures) at (c.at-groups.ensures.held s.members.items s.listed)

pub answer_in-requires-clause-only : goal.answer_in-requires-clause-only
answer_in-requires-clause-only g c =
    let s = c.args.self.now in
    rw (c.request.ensures.value, c.as_bytes-bytes.ensures.bytes, c.haystack-haystack.ensures) at (c.at-groups.ensures.only s.members.items s.told)
