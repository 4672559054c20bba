use Rattle.std.proofs.Common.{◌≡◌, ◌≤◌, ◌-◌, ◌*◌}
use Rattle.fancy_meaning.specs.Context.{Context}
use Rattle.fancy_states.specs.Counts.{AddsSteps}
use Rattle.fancy_search.specs.Straight.{past_items, test_of}
use Rattle.fancy_search.proofs.straight.past_items.Given as goal

abbrev pub invariant-items : goal.invariant-items
invariant-items l = record {
  read : (x : Context) → x.meaning ≡ l.meaning → x.haystack ≡ l.haystack → past_items x (test_of l.item) l.places.end (l.places.end - l.places.start) l.places.start
      ≡ past_items x (test_of l.item) l.places.end (l.places.end - l.past) l.past;
  from : l.places.start ≤ l.past;
  within : l.past - l.places.start ≤ l.places.end - l.places.start;
  counts : AddsSteps (2 * (l.past - l.places.start)) l.fn.work l.work;
}

abbrev pub decreases-items : goal.decreases-items
decreases-items l = l.places.end - l.past
