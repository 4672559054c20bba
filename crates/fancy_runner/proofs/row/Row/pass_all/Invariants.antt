use Rattle.std.proofs.Common.{◌≡◌, ◌++◌, length}
use Rattle.std.specs.Prelude.{reverse}
use Rattle.fancy_runner.proofs.row.Row.pass_all.Given as goal

abbrev pub invariant-threads : goal.invariant-threads
invariant-threads l = reverse l.self ++ l.row ≡ reverse l.fn.self ++ l.fn.row

abbrev pub decreases-threads : goal.decreases-threads
decreases-threads l = length l.self
