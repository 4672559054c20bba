-- What threads saved.
use Rattle.std.specs.Prelude.{reverse}
use Rattle.fancy_runner.specs.Threads.{KeptThreads, threads_at}
use Rattle.fancy_runner.specs.declared.threads.Saved.{Saved}

-- what is kept of the threads
abbrev pub kept_of : Saved → KeptThreads
kept_of k = record { slots = k.slots.items; saved = threads_at k.slots.items (reverse k.branches.items); passed = reverse k.passed.items }
