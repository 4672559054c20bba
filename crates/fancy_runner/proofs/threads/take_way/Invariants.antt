use Rattle.std.proofs.Common.{◌≡◌, List}
use Rattle.std.specs.Prelude.{reverse, vec_len}
use Rattle.fancy_code.specs.declared.slot.Slot.{Slot}
use Rattle.fancy_code.specs.Code.{instrs_of}
use Rattle.fancy_code.specs.Thread.{Thread}
use Rattle.fancy_runner.specs.Threads.{saved_after}
use Rattle.fancy_runner.proofs.threads.take_way.Given as goal

abbrev pub invariant-passed : goal.invariant-passed
invariant-passed l = (slots : List Slot) (ts : List Thread)
    → saved_after (instrs_of l.code) (reverse l.passed.items) slots ts ≡ saved_after (instrs_of l.code) (reverse l.fn.passed.items) slots ts

abbrev pub decreases-passed : goal.decreases-passed
decreases-passed l = vec_len l.passed
