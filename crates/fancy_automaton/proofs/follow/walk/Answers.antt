use Rattle.std.proofs.Common.{arith, subst, sym}
use Rattle.fancy_automaton.specs.Sole.{Reaches}
use Rattle.fancy_automaton.proofs.follow.walk.Goals as goal
use Rattle.fancy_automaton.proofs.follow.walk.Goals.{then-not-is_wide_at, else-not-is_wide_at}

pub returns-else-is_wide_at : goal.returns-else-is_wide_at
returns-else-is_wide_at c =
    let reached = Reaches c.args.attempt.now c.args.cells.now c.args.from.stand.place in
    record {
      reaches = elim c.if-not-is_wide_at.branch [
        | then-not-is_wide_at w ↦ subst reached (sym w.to-is) w.follow-to.ensures.reaches
        | else-not-is_wide_at w ↦ subst reached (sym w.to-is) (record { sole = c.requires.sole; forth = omega arith })
      ];
    }
