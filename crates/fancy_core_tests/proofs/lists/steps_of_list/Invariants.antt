use Rattle.std.proofs.Common.{length, ◌+◌, ◌-◌, ◌≡◌, ◌≤◌}
use Rattle.fancy_bytes.specs.Lacks.{AreKnown}
use Rattle.fancy_input.specs.Work.{steps_of, returns_of}
use Rattle.fancy_input.specs.Requests.{effective_start}
use Rattle.fancy_search.specs.KeptTables.{IsKeptIn}
use Rattle.fancy_core_tests.proofs.lists.steps_of_list.Given as goal

abbrev pub invariant-matches : goal.invariant-matches
invariant-matches g l = record {
  whole : l.request.range_end ≡ length l.haystack;
  begins : l.request.range_start ≡ 0;
  paired : returns_of l.work ≤ steps_of l.work;
  known : AreKnown l.known l.haystack;
  kept : IsKeptIn l.program l.haystack l.request l.kept (effective_start l.request) l.cache;
}

abbrev pub decreases-matches : goal.decreases-matches
decreases-matches g l = length l.haystack + 1 - l.request.start
