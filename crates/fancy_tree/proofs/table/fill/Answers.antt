use Rattle.std.proofs.Common.{arith, subst, ◌≡◌, ◌+◌, ◌*◌}
use Rattle.fancy_tree.specs.Sets.{has}
use Rattle.fancy_tree.specs.SetViews.{Cut}
use Rattle.fancy_tree.proofs.CharSetLemmas.{table_more}
use Rattle.fancy_tree.proofs.table.fill.Goals as goal

pub loop-i-preserved : goal.loop-i-preserved
loop-i-preserved c =
    let next : 64 * c.loop-i.i + 64 ≡ 64 * (c.loop-i.i + 1) = omega arith in
    record {
      cut = subst (Cut c.args.edges.now c.next_word.new.passed) next c.next_word.ensures.cut;
      table = table_more c.loop-i.words (has c.args.edges.now) c.loop-i.i c.next_word.result (omega arith) c.loop-i.invariant.table c.next_word.ensures.bits;
    }
