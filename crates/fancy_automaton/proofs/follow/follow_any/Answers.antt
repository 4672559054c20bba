use Rattle.std.proofs.Common.{◌∙◌, ap, arith, not}
use Rattle.fancy_automaton.specs.Decided.{search_goal}
use Rattle.fancy_automaton.proofs.WalkLemmas.{decided_sole, sole_decided, sole_holds, sole_opens}
use Rattle.fancy_automaton.proofs.follow.follow_any.Goals as goal

pub returns : goal.returns
returns c =
    let a = c.args.attempt.now in
    let cells = c.args.cells.now in
    let at = c.places.at in
    let is = c.places.invariant.sole in
    let some = c.is_none.ensures ∙ ap not c.places-test.false in
    record {
      reaches = record {
        sole = decided_sole a cells c.lengthen.result is.1.followed (sole_holds a cells at is) c.lengthen.ensures.row c.lengthen.ensures.placed
            (c.lengthen.ensures.opens (sole_opens a cells at is)) (c.lengthen.ensures.found some) (c.lengthen.ensures.decided (search_goal a) (sole_decided a cells at is some));
        forth = omega (arith, c.places.invariant.forth, c.lengthen.ensures.forth);
      };
    }
