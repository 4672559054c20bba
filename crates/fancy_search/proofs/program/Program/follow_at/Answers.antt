use Rattle.std.proofs.Common.{◌≡◌, ◌∙◌, ℕ, Option, None, Some, replicate, false}
use Rattle.std.specs.Box.{with_value}
use Rattle.fancy_search.specs.declared.cache.AttemptNotes.{AttemptNotes}
use Rattle.fancy_code.specs.declared.found.Found.{Found}
use Rattle.fancy_code.specs.Queries.{answer_with}
use Rattle.fancy_meaning.specs.Search.{attempt}
use Rattle.fancy_search.specs.KeptTables.{KeepsNotes, kept_from}
use Rattle.fancy_search.specs.Programs.{query_in}
use Rattle.fancy_search.specs.SearchCounts.{RefusesEasy}
use Rattle.fancy_search.proofs.KeptTablesLemmas.{noted_steps, steps_hold}
use Rattle.fancy_search.proofs.ResultLemmas.{if_ok, if_err}
use Rattle.fancy_search.proofs.SearchedLemmas.{attempted, found_ungrouped}
use Rattle.fancy_search.proofs.program.Program.follow_at.Goals as goal

pub follow-found-requires-clause-followable : goal.follow-found-requires-clause-followable
follow-found-requires-clause-followable c = record {
  inside = rw c.anchored_at-from_position.ensures c.args.asked.now.inside;
  easy = c.requires.easy;
  plain = c.requires.plain;
  places = c.requires.places;
}

pub follow-found-requires-clause-allowed : goal.follow-found-requires-clause-allowed
follow-found-requires-clause-allowed c = rw c.anchored_at-from_position.ensures c.requires.allowed

pub follow-found-requires-clause-kept : goal.follow-found-requires-clause-kept
follow-found-requires-clause-kept c = rw c.deref_mut.ensures.value c.in_ok-steps.ensures

pub returns-clause-answer : goal.returns-clause-answer
returns-clause-answer c =
    if_ok _ (λ m. answer_with (replicate c.args.self.now.code.groups None) m ≡ attempt (query_in c.args.self.now c.args.asked.now) c.args.position)
    (λ m is. rw c.anchored_at-from_position.ensures at (found_ungrouped c.args.self.now.code m _ c.requires.whole (is false)) ∙ attempted c.args.self.now c.args.asked.now c.args.position c.requires.easy c.requires.tries)
    c.follow-found.result c.follow-found.ensures.answer

pub returns-clause-notes : goal.returns-clause-notes
returns-clause-notes c =
    let notes : AttemptNotes = record { kept = c.follow-found.new.kept; notes = c.args.notes.now.notes; steps = Some (with_value c.in_ok-steps.steps c.follow-found.new.steps) } in
    let kept = λ (place : ℕ). noted_steps c.args.self.now c.args.asked.now.haystack.now c.args.asked.now.request.now place notes c.follow-found.ensures.left (steps_hold c.args.self.now (with_value c.in_ok-steps.steps c.follow-found.new.steps) c.follow-found.ensures.kept) in
    record {
      after = if_ok _ (λ (m : Option Found). KeepsNotes c.args.self.now c.args.asked.now.haystack.now c.args.asked.now.request.now (kept_from m c.args.position) notes) (λ m _. kept (kept_from m c.args.position)) c.follow-found.result c.follow-found.ensures.answer;
      dropped = if_err _ _ (λ e _. kept c.args.position) c.follow-found.result c.follow-found.ensures.refused;
    }

pub returns-clause-refused : goal.returns-clause-refused
returns-clause-refused c = if_err _ (RefusesEasy c.args.self.now) (λ e memory. rw memory tt) c.follow-found.result c.follow-found.ensures.refused
