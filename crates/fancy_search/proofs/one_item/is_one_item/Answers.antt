use Rattle.std.proofs.Common.{suc, refl}
use Rattle.fancy_search.proofs.one_item.is_one_item.Goals as goal

pub ways-init : goal.ways-init
ways-init c ones = ones

pub returns-in_default : goal.returns-in_default
returns-in_default c one = c.ways.invariant (0, c.reads_one.ensures one)

pub ways-preserved : goal.ways-preserved
ways-preserved c ones =
    let ways = c.in-Some.ways in
    c.ways.invariant (suc ones.0, (ways.first, ways.second, c.in-Some.ensures, c.if-not-reads_one.ensures refl, ones.1))
