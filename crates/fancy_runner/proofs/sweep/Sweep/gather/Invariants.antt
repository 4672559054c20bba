use Rattle.std.proofs.Common.{◌≡◌, length}
use Rattle.fancy_runner.specs.Sweep.{AreRising}
use Rattle.fancy_runner.specs.Sweeps.{backlog_in, left_in_sweep, IsDrained, KeepsFound}
use Rattle.fancy_runner.proofs.sweep.Sweep.gather.Given as goal

abbrev pub invariant-threads : goal.invariant-threads
invariant-threads l = record {
  same : left_in_sweep l.code l.self ≡ left_in_sweep l.code l.fn.self;
  rising : AreRising (backlog_in l.code l.self);
  drained : IsDrained l.code l.self;
  kept : KeepsFound l.fn.self l.self;
}

abbrev pub decreases-threads : goal.decreases-threads
decreases-threads l = length (backlog_in l.code l.self)
