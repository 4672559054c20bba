use Rattle.std.proofs.Common.{◌≡◌, [], drop, ◌-◌}
use Rattle.std.specs.Prelude.{vec_len}
use Rattle.fancy_runner.specs.Backlog.{threads_in_backlog}
use Rattle.fancy_code.specs.Code.{instrs_of}
use Rattle.fancy_runner.proofs.backlog.Backlog.next_way.Given as goal

abbrev pub invariant-passed : goal.invariant-passed
invariant-passed l = record {
  threads : threads_in_backlog (instrs_of l.code) l.fn.self ≡ threads_in_backlog (instrs_of l.code) l.self;
  current : l.self.current ≡ l.fn.self.current;
  branches : drop l.self.begun l.self.saved.branches.items ≡ [];
}

abbrev pub decreases-passed : goal.decreases-passed
decreases-passed l = vec_len l.self.saved.passed - l.self.gone
