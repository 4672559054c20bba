use Rattle.std.proofs.Common.{arith}
use Rattle.fancy_states.proofs.CellLemmas.{row_within}
use Rattle.fancy_automaton.proofs.front.Front.follow.Goals as goal

pub rest-requires : goal.rest-requires
rest-requires c =
    let reached = c.walk-to.ensures.reaches in
    row_within c.args.cells.now.rows.lists.items c.walk-to.result.stand.next reached.sole.0 reached.sole.1.waits

pub returns : goal.returns
returns c =
    let reached = c.walk-to.ensures.reaches in
    record {
      front = c.in_ok-rest.ensures.front c.args.attempt.now reached.sole;
      forth = omega (arith, reached.forth, c.in-Some.ensures.stand);
      ends = reached.sole.1.within;
    }
