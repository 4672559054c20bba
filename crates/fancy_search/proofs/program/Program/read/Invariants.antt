use Rattle.std.proofs.Common.{◌≡◌, ◌+◌, ◌-◌, ◌*◌, ◌≤◌, Bool}
use Rattle.fancy_code.specs.CodeLength.{code_len}
use Rattle.fancy_input.specs.Requests.{effective_start}
use Rattle.fancy_input.specs.Work.{steps_of}
use Rattle.fancy_meaning.specs.Search.{answer_from, search}
use Rattle.fancy_prefilter.specs.Seen.{NoneMayStart}
use Rattle.fancy_states.specs.Counts.{AddsSteps}
use Rattle.fancy_search.specs.Programs.{asked_of}
use Rattle.fancy_search.proofs.program.Program.read.Given as goal

abbrev pub invariant-places : goal.invariant-places
invariant-places l = record {
  left : (on : Bool) → search (asked_of l.self l.haystack l.request on) ≡ answer_from (asked_of l.self l.haystack l.request on) (l.last + 1 - l.place) l.place;
  passed : l.first ≤ l.place;
  within : l.place ≤ l.last + 1;
  starts : l.place ≤ l.last → ¬ NoneMayStart l.self.code.prefilter.starts l.haystack l.request.range_end (effective_start l.request) (l.request.range_end + 1);
  idle : NoneMayStart l.self.code.prefilter.starts l.haystack l.request.range_end (effective_start l.request) (l.request.range_end + 1) → steps_of l.work ≡ steps_of l.fn.work;
  counts : AddsSteps (code_len l.self.code * (l.place - l.first)) l.fn.work l.work;
}

abbrev pub decreases-places : goal.decreases-places
decreases-places l = l.last + 1 - l.place
