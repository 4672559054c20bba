use Rattle.std.proofs.Common.{rules, arith}
use Rattle.fancy_lines.proofs.LineLemmas.{counts_feed, counts_other}
use Rattle.fancy_lines.proofs.line.since_feed.Goals.{then-text-at-eq10, else-text-at-eq10}
use Rattle.fancy_lines.proofs.line.since_feed.Goals as goal

pub loop-at-preserved : goal.loop-at-preserved
loop-at-preserved c =
    let low = c.loop-at.invariant.1 in
    elim c.if-text-at-eq10.branch [
      | then-text-at-eq10 w ↦
          (counts_feed c.loop-at.at c.loop-at.count c.if-text-at-eq10.count c.args.text.now (omega arith) (search rules) (search rules), (let e = w.count-is in omega (arith, e)))
      | else-text-at-eq10 w ↦ (
        counts_other c.loop-at.at c.loop-at.count c.if-text-at-eq10.count c.args.text.now (omega arith) (search rules) c.loop-at.invariant.0 (search rules),
        (let e = w.count-is in omega (arith, e, low)),
      )
    ]
