use Rattle.std.proofs.Common.{◌≡◌, take}
use Rattle.std.specs.Prelude.{reverse}
use Rattle.fancy_code.specs.Code.{instrs_of}
use Rattle.fancy_runner.specs.Threads.{slots_after}
use Rattle.fancy_runner.proofs.threads.write_groups.Given as goal

abbrev pub invariant-pairs : goal.invariant-pairs
invariant-pairs l = l.slots.items ≡ slots_after (instrs_of l.code) (reverse (take l.n l.pairs)) l.fn.slots.items
