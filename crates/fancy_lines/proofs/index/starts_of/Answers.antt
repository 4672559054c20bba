use Rattle.std.proofs.Common.{rules, arith}
use Rattle.fancy_lines.proofs.LineLemmas.{next_feed, next_other}
use Rattle.fancy_lines.proofs.index.starts_of.Goals.{then-text-at-eq10+in_ok-push, else-text-at-eq10}
use Rattle.fancy_lines.proofs.index.starts_of.Goals as goal

pub loop-at-preserved : goal.loop-at-preserved
loop-at-preserved c =
    elim c.if-text-at-eq10.branch [
      | then-text-at-eq10+in_ok-push w ↦
          next_feed c.loop-at.at c.args.text.now c.if-text-at-eq10.starts.items c.loop-at.starts.items (omega arith) (search rules) c.loop-at.invariant (search rules)
      | else-text-at-eq10 w ↦
          next_other c.loop-at.at c.args.text.now c.if-text-at-eq10.starts.items c.loop-at.starts.items (omega arith) (search rules) c.loop-at.invariant (search rules)
    ]
