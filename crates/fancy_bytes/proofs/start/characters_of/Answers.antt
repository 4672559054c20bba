use Rattle.fancy_bytes.proofs.ItemLemmas.{from_ascii, from_none, from_two, from_first_three, from_half, from_three, from_first_four, from_four, from_last_four, from_past}
use Rattle.std.proofs.Common.{arith}
use Rattle.fancy_bytes.proofs.start.characters_of.Goals as goal

pub returns-then-byte-lt128-clause-between : goal.returns-then-byte-lt128-clause-between
returns-then-byte-lt128-clause-between c x = from_ascii x c.args.byte c.if-byte-lt128.true

pub returns-then-byte-lt194-clause-between : goal.returns-then-byte-lt194-clause-between
returns-then-byte-lt194-clause-between c x = from_none x c.args.byte (omega (arith, c.if-byte-lt128.false)) c.if-byte-lt194.true

pub returns-then-byte-lt224-clause-between : goal.returns-then-byte-lt224-clause-between
returns-then-byte-lt224-clause-between c x = from_two x c.args.byte (omega (arith, c.if-byte-lt194.false)) c.if-byte-lt224.true

pub returns-then-byte-eq224-clause-between : goal.returns-then-byte-eq224-clause-between
returns-then-byte-eq224-clause-between c x = from_first_three x c.args.byte c.if-byte-eq224.true

pub returns-then-byte-eq237-clause-between : goal.returns-then-byte-eq237-clause-between
returns-then-byte-eq237-clause-between c x = from_half x c.args.byte c.if-byte-eq237.true

pub returns-then-byte-lt240-clause-between : goal.returns-then-byte-lt240-clause-between
returns-then-byte-lt240-clause-between c x =
    from_three x c.args.byte (omega (arith, c.if-byte-lt224.false, c.if-byte-eq224.false)) c.if-byte-eq237.false c.if-byte-lt240.true

pub returns-then-byte-eq240-clause-between : goal.returns-then-byte-eq240-clause-between
returns-then-byte-eq240-clause-between c x = from_first_four x c.args.byte c.if-byte-eq240.true

pub returns-then-byte-lt244-clause-between : goal.returns-then-byte-lt244-clause-between
returns-then-byte-lt244-clause-between c x =
    from_four x c.args.byte (omega (arith, c.if-byte-lt240.false, c.if-byte-eq240.false)) c.if-byte-lt244.true

pub returns-then-byte-eq244-clause-between : goal.returns-then-byte-eq244-clause-between
returns-then-byte-eq244-clause-between c x = from_last_four x c.args.byte c.if-byte-eq244.true

pub returns-else-byte-eq244-clause-between : goal.returns-else-byte-eq244-clause-between
returns-else-byte-eq244-clause-between c x = from_past x c.args.byte (omega (arith, c.if-byte-lt244.false, c.if-byte-eq244.false))
