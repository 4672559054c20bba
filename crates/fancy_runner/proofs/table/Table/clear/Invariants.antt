use Rattle.fancy_runner.specs.Table.{IsCleared}
use Rattle.fancy_runner.proofs.table.Table.clear.Given as goal

abbrev pub invariant-pairs : goal.invariant-pairs
invariant-pairs l = record {
  cleared : IsCleared l.fn.self l.self l.fn.from l.k;
}
