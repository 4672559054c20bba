use Rattle.std.proofs.Common.{sym, subst}
use Rattle.fancy_code.specs.Code.{instrs_of}
use Rattle.fancy_code.specs.Instructions.{edges_in}
use Rattle.fancy_prices.specs.declared.facts.Ending.{Ending}
use Rattle.fancy_prices.specs.Prices.{StopsNeverBehind}
use Rattle.fancy_prices.proofs.BehindLemmas.{last_member}
use Rattle.fancy_prices.proofs.FlagLemmas.{off}
use Rattle.fancy_prices.proofs.free.member_ends_otherwise.Goals as goal

pub returns-then-is_match : goal.returns-then-is_match
returns-then-is_match c told at is =
    subst (λ (e : Ending). StopsNeverBehind (instrs_of c.args.code.now) e 0 0 at) (sym c.in-Last.is)
    (last_member (instrs_of c.args.code.now) c.in-Last.kind c.args.next (c.is_match.ensures c.if-is_match.true) at (edges_in c.args.set.now) is (c.may_end_member.ensures (off _ told)))
