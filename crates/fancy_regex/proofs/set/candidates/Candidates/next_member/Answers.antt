use Rattle.std.proofs.Common.{◌/◌}
use Rattle.fancy_regex.specs.Candidates.{NoGroupFrom, IsNextGroup}
use Rattle.fancy_regex.proofs.CandidateLemmas.{if_none, no_member, next_member, none_before_count}
use Rattle.fancy_regex.proofs.set.candidates.Candidates.next_member.Goals as goal

pub returns-in_default : goal.returns-in_default
returns-in_default c =
    let width = c.args.self.now.width in
    no_member c.args.groups width c.args.from c.args.self.now.some c.args.count
    (if_none (NoGroupFrom c.args.groups (c.args.from / width)) (IsNextGroup c.args.groups (c.args.from / width)) c.first_from.result c.in_default.not-Some c.first_from.ensures)

pub returns-then-index-count : goal.returns-then-index-count
returns-then-index-count c =
    next_member c.args.groups c.args.self.now.width c.args.from c.args.self.now.some c.in-Some.group c.max-index.result c.max-index.ensures c.in-Some.ensures c.args.count c.if-index-count.true

pub returns-else-index-count : goal.returns-else-index-count
returns-else-index-count c =
    none_before_count c.args.groups c.args.self.now.width c.args.from c.args.self.now.some c.in-Some.group c.max-index.result c.max-index.ensures c.in-Some.ensures c.args.count c.if-index-count.false
