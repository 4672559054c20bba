use Rattle.std.proofs.Common.{◌≡◌, ◌+◌, ◌-◌, ◌≤◌, true}
use Rattle.fancy_meaning.specs.Events.{marks_in, returns_in}
use Rattle.fancy_meaning.specs.Search.{search, returns, choices, answer_from, gone_from}
use Rattle.fancy_input.specs.Requests.{effective_start}
use Rattle.fancy_input.specs.Work.{steps_of, returns_of, IsWithin}
use Rattle.fancy_meaning.specs.Tried.{tried, NoneTried}
use Rattle.fancy_machine.specs.Asked.{HeedsLimit}
use Rattle.fancy_machine.specs.Attempt.{KnowsSeen}
use Rattle.fancy_machine.specs.Parts.{KeepsCounts}
use Rattle.fancy_machine.proofs.search.search.Given as goal

abbrev pub invariant-loop-place : goal.invariant-loop-place
invariant-loop-place g l = record {
  left : search g.q ≡ answer_from g.q (l.last + 1 - l.place) l.place;
  count : returns_of l.work + returns_in (gone_from g.q (tried l.fn.asked.options.now.seek g.q) (l.last + 1 - l.place) l.place) ≡ returns_of l.fn.work + returns g.q (tried l.fn.asked.options.now.seek g.q);
  room : marks_in (gone_from g.q (tried l.fn.asked.options.now.seek g.q) (l.last + 1 - l.place) l.place) ≤ choices g.q (tried l.fn.asked.options.now.seek g.q);
  tries : l.place ≤ l.last → tried l.fn.asked.options.now.seek g.q l.place ≡ true;
  passed : effective_start l.fn.asked.request ≤ l.place;
  idle : NoneTried l.fn.asked.options.now.seek g.q → steps_of l.work ≡ steps_of l.fn.work;
  fits : returns_of l.work ≤ returns_of l.fn.work + l.fn.asked.options.now.backtrack_limit;
  counts : KeepsCounts l.fn.work l.work;
  seen : KnowsSeen l.attempt l.cache.seen;
  heeds : HeedsLimit l.fn.asked.options.now.stack_limit l.fn.cache l.cache;
  within : IsWithin l.fn.asked.options.now.step_limit l.fn.work → IsWithin l.fn.asked.options.now.step_limit l.work;
}

abbrev pub decreases-loop-place : goal.decreases-loop-place
decreases-loop-place g l = l.last + 1 - l.place

abbrev pub ghost-pass_priced : goal.ghost-pass_priced
ghost-pass_priced g a = g.q

abbrev pub ghost-try_position : goal.ghost-try_position
ghost-try_position g a = g.q

abbrev pub ghost-pass_run : goal.ghost-pass_run
ghost-pass_run g a = g.q
