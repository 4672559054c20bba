use Rattle.std.proofs.Common.{◌≡◌, take}
use Rattle.fancy_states.specs.Starts.{starts_from}
use Rattle.fancy_states.proofs.starts.Starts.follow.Given as goal

abbrev pub invariant-loop-way : goal.invariant-loop-way
invariant-loop-way l = record {
  waits : l.self.waiting ≡ l.fn.self.waiting;
  after : l.self.spare.items ≡ starts_from l.fn.self.waiting.items (take l.way-index l.came);
}
