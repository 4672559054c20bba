use Rattle.std.proofs.Common.{sym, subst}
use Rattle.fancy_code.specs.Code.{instrs_of}
use Rattle.fancy_prices.specs.declared.facts.Ending.{Ending}
use Rattle.fancy_prices.specs.Prices.{StopsNeverBehind}
use Rattle.fancy_prices.proofs.BehindLemmas.{last_character, second_character}
use Rattle.fancy_prices.proofs.FlagLemmas.{off}
use Rattle.fancy_prices.proofs.free.ends_otherwise.Goals as goal

pub returns-then-is_match : goal.returns-then-is_match
returns-then-is_match c told at is =
    subst (λ (e : Ending). StopsNeverBehind (instrs_of c.args.code.now) e 0 0 at) (sym c.in-Last.is)
    (last_character (instrs_of c.args.code.now) c.in-Last.kind c.args.next (c.is_match.ensures c.if-is_match.true) at c.args.character is (c.may_end.ensures (off _ told)))

pub returns-then-reads_low : goal.returns-then-reads_low
returns-then-reads_low c told at is =
    subst (λ (e : Ending). StopsNeverBehind (instrs_of c.args.code.now) e 0 0 at) (sym c.in-Second.is)
    (second_character (instrs_of c.args.code.now) c.in-Second.byte c.args.character c.args.next (c.reads_low.ensures c.if-reads_low.true) (c.may_end_with.ensures (off _ told)) at is)
