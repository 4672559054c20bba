use Rattle.std.proofs.Common.{◌≡◌, ◌∙◌, Ok, Some, refl, ap, arith}
use Rattle.std.specs.Box.{with_value}
use Rattle.std.proofs.lemmas.Result.{err_from_is_err_and}
use Rattle.fancy_input.specs.Requests.{effective_start}
use Rattle.fancy_search.specs.declared.cache.Cache.{Cache}
use Rattle.fancy_tree.specs.declared.error.Error.{Error}
use Rattle.fancy_search.specs.declared.cache.Engine.TheVariants.{Runner}
use Rattle.fancy_search.specs.KeptTables.{KeepsTable, table_kept}
use Rattle.fancy_search.proofs.KeptTablesLemmas.{if_some_at, found_table, found_steps, steps_hold, found_spent, found_goes_on}
use Rattle.fancy_runner.proofs.KeptTableLemmas.{again_paid}
use Rattle.fancy_input.specs.Work.{steps_of}
use Rattle.fancy_search.specs.SearchCounts.{RefusesEasy}
use Rattle.fancy_search.proofs.ResultLemmas.{if_any, if_ok, if_err}
use Rattle.fancy_search.proofs.StraightLemmas.{counts_kept}
use Rattle.fancy_search.proofs.program.Program.search_easy.Goals as goal
use Rattle.fancy_search.proofs.program.Program.search_easy.Goals.{else-is_steps-via-else-is_steps, else-is_steps-via-then-is_steps+else-not-is_led, else-is_steps-via-then-is_steps+then-not-is_led+in-None-1}

pub run-requires-clause-kept : goal.run-requires-clause-kept
run-requires-clause-kept c = if_some_at _ (table_kept c.args.kept.now) (λ k. KeepsTable c.args.self.now c.args.asked.now.haystack.now c.args.asked.now.request.now k (effective_start c.args.asked.now.request.now) c.args.cache.now.runner) c.table-table.ensures c.requires.kept.0

pub follow-requires-clause-followable : goal.follow-requires-clause-followable
follow-requires-clause-followable c = record {
  inside = c.args.asked.now.inside;
  easy = c.requires.easy;
  plain = c.if-is_followed.ensures.plain refl;
  places = c.if-is_followed.ensures.places refl;
}

pub search_followed-found-requires-clause-followable : goal.search_followed-found-requires-clause-followable
search_followed-found-requires-clause-followable c = record {
  inside = c.args.asked.now.inside;
  easy = c.requires.easy;
  plain = c.if-is_followed.ensures.plain refl;
  places = c.if-is_followed.ensures.places refl;
}

pub returns-then-allows_all_steps-2-clause-served : goal.returns-then-allows_all_steps-2-clause-served
returns-then-allows_all_steps-2-clause-served c =
    let same = elim c.else-is_steps.branch as (λ _. c.else-is_steps.cache.machine ≡ c.args.cache.now.machine) [
      | else-is_steps-via-else-is_steps w ↦ ap (λ (k : Cache). k.machine) w.cache-is
      | else-is_steps-via-then-is_steps+else-not-is_led w ↦ ap (λ (k : Cache). k.machine) w.cache-is
      | else-is_steps-via-then-is_steps+then-not-is_led+in-None-1 w ↦ ap (λ (k : Cache). k.machine) w.cache-is
    ] in record {
      answer = if_ok _ _ (λ m is. is c.args.asked.now.continues) c.search_followed-found.result c.search_followed-found.ensures.answer;
      held = c.search_followed-found.ensures.held;
      counts = c.search_followed-found.ensures.counts;
      idle = c.search_followed-found.ensures.idle c.args.asked.now.continues;
      refused = if_err _ (RefusesEasy c.args.self.now) (λ e memory. rw memory tt) c.search_followed-found.result c.search_followed-found.ensures.refused;
      apart = c.search_followed-found.ensures.apart ∙ same;
    }

pub returns-then-allows_all_steps-clause-served : goal.returns-then-allows_all_steps-clause-served
returns-then-allows_all_steps-clause-served c = record {
  answer = if_ok _ _ (λ m is. c.without_groups-cache.ensures.answer m _ _ _ (is c.args.asked.now.continues)) c.follow.result c.follow.ensures.answer;
  held = λ asked. if_any _ (λ _. c.without_groups-cache.ensures.held (c.is_led.ensures c.if-not-is_led.true asked)) c.follow.result;
  counts = c.follow.ensures.counts;
  idle = c.follow.ensures.idle c.args.asked.now.continues;
  refused = if_err _ (RefusesEasy c.args.self.now) (λ e memory. rw memory tt) c.follow.result c.follow.ensures.refused;
  apart = refl;
}

pub returns-clause-served : goal.returns-clause-served
returns-clause-served c = record {
  answer = c.in_ok-found.ensures.answer c.args.asked.now.continues;
  held = λ _. if_any {E = Error} _ (λ _. refl) (Ok c.in_ok-found.found);
  counts = c.in_ok-found.ensures.counts;
  idle = c.run.ensures.idle c.args.asked.now.continues;
  refused = tt;
  apart = refl;
}

pub returns-in_err-found-clause-served : goal.returns-in_err-found-clause-served
returns-in_err-found-clause-served c =
    let q = err_from_is_err_and c.from_residual.result c.from_residual.ensures.1 in
    rw (q.1, q.2) record {
      answer = tt;
      held = λ _. tt;
      counts = c.in_err-found.ensures.counts;
      idle = c.run.ensures.idle c.args.asked.now.continues;
      refused = c.in_err-found.ensures.refused;
      apart = refl;
    }

pub returns-clause-kept : goal.returns-clause-kept
returns-clause-kept c = (found_table c.args.self.now c.args.asked.now.haystack.now (record c.args.cache.now { served = Runner; runner = c.run.new.cache }) c.args.asked.now.request.now c.run.new.kept c.in_ok-found.found c.in_ok-found.ensures.kept)

pub returns-clause-bounded : goal.returns-clause-bounded
returns-clause-bounded c =
    let bounded = rw c.table-table.ensures at c.run.ensures.bounded in
    omega (arith, bounded, again_paid (table_kept c.args.kept.now) c.args.self.now.code (effective_start c.args.asked.now.request.now))

pub returns-clause-fresh : goal.returns-clause-fresh
returns-clause-fresh c none =
    let bounded = rw (c.table-table.ensures, none) at c.run.ensures.bounded in
    omega (arith, bounded)

pub returns-clause-spent : goal.returns-clause-spent
returns-clause-spent c =
    (found_spent c.args.self.now c.args.asked.now.request.now c.args.kept.now c.run.new.kept c.in_ok-found.found (rw c.table-table.ensures at c.in_ok-found.ensures.left)
    (record c.args.cache.now { served = Runner; runner = c.run.new.cache }) _ (steps_of c.run.new.work) (rw c.table-table.ensures at c.in_ok-found.ensures.spent))

pub returns-clause-goes_on : goal.returns-clause-goes_on
returns-clause-goes_on c =
    (found_goes_on c.args.self.now c.args.asked.now.request.now c.args.kept.now c.run.new.kept c.in_ok-found.found (rw c.table-table.ensures at c.in_ok-found.ensures.left))

pub returns-in_err-found-clause-bounded : goal.returns-in_err-found-clause-bounded
returns-in_err-found-clause-bounded c =
    let bounded = rw c.table-table.ensures at c.run.ensures.bounded in
    omega (arith, bounded, again_paid (table_kept c.args.kept.now) c.args.self.now.code (effective_start c.args.asked.now.request.now))

pub returns-in_err-found-clause-fresh : goal.returns-in_err-found-clause-fresh
returns-in_err-found-clause-fresh c none =
    let bounded = rw (c.table-table.ensures, none) at c.run.ensures.bounded in
    omega (arith, bounded)

pub returns-then-allows_all_steps-clause-kept : goal.returns-then-allows_all_steps-clause-kept
returns-then-allows_all_steps-clause-kept c =
    if_ok _ _ (λ m _. found_steps c.args.self.now c.args.asked.now.haystack.now
    (record c.args.cache.now { served = c.without_groups-cache.result; steps = Some (with_value c.in-Some.steps c.follow.new.steps) })
    c.args.asked.now.request.now c.follow.new.kept m c.follow.ensures.left (λ _. steps_hold c.args.self.now (with_value c.in-Some.steps c.follow.new.steps) c.follow.ensures.kept))
    c.follow.result c.follow.ensures.answer

pub returns-then-allows_all_steps-2-2-clause-served : goal.returns-then-allows_all_steps-2-2-clause-served
returns-then-allows_all_steps-2-2-clause-served c = record {
  answer = c.read.ensures.answer c.args.asked.now.continues;
  held = λ _. if_any {E = Error} _ (λ _. refl) (Ok c.read.result);
  counts = counts_kept c.args.self.now c.args.asked.now.request.now c.read.result _ _ c.requires.room (c.if-allows_all_steps-2.ensures refl) c.read.ensures.counts;
  idle = c.read.ensures.idle c.args.asked.now.continues;
  refused = tt;
  apart = refl;
}
