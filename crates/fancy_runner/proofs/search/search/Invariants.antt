use Rattle.std.proofs.Common.{◌≡◌, None, ◌+◌, ◌-◌, ◌*◌, ◌<◌, ◌≤◌, ◌^◌, Bool, length}
use Rattle.fancy_tree.specs.Pattern.{Pattern}
use Rattle.fancy_runner.specs.Attempt.{AllFailedIn, bits_in, owed_in}
use Rattle.fancy_code.specs.Code.{due_of}
use Rattle.fancy_code.specs.Compile.{IsCodeOf, depth}
use Rattle.fancy_code.specs.Queries.{query_of, unfiltered}
use Rattle.fancy_runner.specs.KeptTable.{table_in, steps_from, taken_again}
use Rattle.fancy_runner.specs.Runs.{Worked}
use Rattle.fancy_input.specs.Requests.{effective_start}
use Rattle.fancy_prefilter.specs.Seen.{NoneMayStart}
use Rattle.fancy_meaning.specs.Search.{search, answer_from}
use Rattle.fancy_input.specs.Work.{steps_of}
use Rattle.fancy_runner.proofs.search.search.Given as goal

abbrev pub invariant-loop-place : goal.invariant-loop-place
invariant-loop-place l = record {
  left : (p : Pattern) (on : Bool) → IsCodeOf p l.code → search (query_of p l.code (unfiltered l.fn.wanted.options) l.haystack l.fn.wanted.request on)
      ≡ answer_from (query_of p l.code (unfiltered l.fn.wanted.options) l.haystack l.fn.wanted.request on) (l.last + 1 - l.place) l.place;
  begins : l.base ≤ l.place;
  passed : l.first ≤ l.place;
  within : l.place ≤ l.last + 1;
  dropped : l.kept ≡ None;
  starts : l.place ≤ l.last → ¬ NoneMayStart l.code.prefilter.starts l.haystack l.fn.wanted.request.range_end (effective_start l.fn.wanted.request) (l.fn.wanted.request.range_end + 1);
  idle : NoneMayStart l.code.prefilter.starts l.haystack l.fn.wanted.request.range_end (effective_start l.fn.wanted.request) (l.fn.wanted.request.range_end + 1) → steps_of l.work ≡ steps_of l.fn.work;
  failed : (p : Pattern) → IsCodeOf p l.code → AllFailedIn l.attempt l.place (depth (length l.haystack) p + 1) l.cache.notes.table;
  room : length l.cache.notes.table ≡ bits_in l.attempt;
  small : length l.cache.notes.table < 2 ^ 64;
  spent : steps_of l.work + owed_in l.attempt l.cache.notes.table + (l.fn.wanted.request.range_end + 1 - l.place) * due_of l.code l.code.start
      ≤ steps_of l.fn.work + (steps_from l.fn.kept l.code l.fn.wanted.request (effective_start l.fn.wanted.request) (table_in l.fn.cache) + taken_again l.fn.kept l.code (effective_start l.fn.wanted.request));
  worked : Worked l.attempt l.cache.notes l.cache.notes l.fn.work l.work;
}

abbrev pub decreases-loop-place : goal.decreases-loop-place
decreases-loop-place l = l.last + 1 - l.place
