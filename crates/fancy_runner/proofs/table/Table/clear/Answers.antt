use Rattle.std.proofs.Common.{◌+◌, List, Bool, sym, subst, arith}
use Rattle.fancy_runner.specs.Table.{IsCleared}
use Rattle.fancy_runner.proofs.TableLemmas.{cleared_none, cleared_more}
use Rattle.fancy_runner.proofs.table.Table.clear.Goals as goal

pub pairs-init : goal.pairs-init
pairs-init c = record { cleared = cleared_none c.args.self.now c.args.from }

pub pairs-preserved : goal.pairs-preserved
pairs-preserved c = record {
  cleared = subst (λ (bits : List Bool). IsCleared c.args.self.now bits c.args.from (c.pairs.k + 1)) (sym c.unmark.ensures)
      (cleared_more c.args.self.now c.pairs.self c.args.from c.pairs.k (omega (arith, c.requires.within, c.pairs-test.true)) c.pairs.invariant.cleared);
}
