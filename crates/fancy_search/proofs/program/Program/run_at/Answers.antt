use Rattle.std.proofs.Common.{◌≡◌, ◌∙◌, Option, refl, arith, false, IfSome}
use Rattle.fancy_code.specs.declared.found.Found.{Found}
use Rattle.fancy_search.specs.declared.cache.Kept.TheVariants.{Runner}
use Rattle.fancy_code.specs.Queries.{answer_with}
use Rattle.fancy_meaning.specs.Search.{attempt}
use Rattle.fancy_runner.specs.Groups.{groups_in}
use Rattle.fancy_search.specs.KeptTables.{KeepsNotes, kept_from, table_kept}
use Rattle.fancy_search.specs.Programs.{query_in}
use Rattle.fancy_search.proofs.KeptTablesLemmas.{noted_before, noted_after, starts_here, ahead_at, ahead_past, none_so}
use Rattle.fancy_search.proofs.ResultLemmas.{if_ok, if_err, if_ok_both}
use Rattle.fancy_search.proofs.SearchedLemmas.{attempted}
use Rattle.fancy_search.proofs.program.Program.run_at.Goals as goal

pub run-found-requires-clause-kept : goal.run-found-requires-clause-kept
run-found-requires-clause-kept c = rw (c.table-table.ensures, c.swap_notes.ensures.given, c.anchored_at-from_position.ensures) (noted_before c.args.self.now c.args.asked.now.haystack.now c.args.asked.now.request.now c.args.position c.args.notes.now c.requires.notes)

pub returns-clause-answer : goal.returns-clause-answer
returns-clause-answer c =
    rw c.swap_notes-2.ensures.given
    (if_ok _ (λ m. answer_with (groups_in c.run-found.new.cache) m ≡ attempt (query_in c.args.self.now c.args.asked.now) c.args.position)
    (λ m is. is false ∙ attempted c.args.self.now c.args.asked.now c.args.position c.requires.easy c.requires.tries) c.run-found.result (rw c.anchored_at-from_position.ensures at c.run-found.ensures.answer))

pub returns-clause-notes : goal.returns-clause-notes
returns-clause-notes c =
    let q = query_in c.args.self.now c.args.asked.now in
    let answer = if_ok _ (λ m. answer_with (groups_in c.run-found.new.cache) m ≡ attempt q c.args.position)
    (λ m is. is false ∙ attempted c.args.self.now c.args.asked.now c.args.position c.requires.easy c.requires.tries) c.run-found.result (rw c.anchored_at-from_position.ensures at c.run-found.ensures.answer) in
    let here = if_ok_both _ _ (λ (m : Option Found). IfSome m (λ f. f.start ≡ c.args.position)) (λ m e h. starts_here q c.args.position (groups_in c.run-found.new.cache) m e h) c.run-found.result answer c.run-found.ensures.here in
    record {
      after = rw c.swap_notes-2.ensures.taken
          (if_ok_both _ _ (λ (m : Option Found). KeepsNotes c.args.self.now c.args.asked.now.haystack.now c.args.asked.now.request.now (kept_from m c.args.position) (record { kept = Runner c.run-found.new.kept; notes = c.run-found.new.cache.notes; steps = c.args.notes.now.steps }))
          (λ m h k. noted_after c.args.self.now c.args.asked.now.haystack.now c.args.asked.now.request.now c.args.position c.run-found.new.kept (record { kept = Runner c.run-found.new.kept; notes = c.run-found.new.cache.notes; steps = c.args.notes.now.steps }) m refl c.requires.tries.from c.requires.tries.to h k) c.run-found.result here (rw c.anchored_at-from_position.ensures at c.run-found.ensures.kept));
      dropped = if_err _ _ (λ e none. rw none (tt, λ steps. cc)) c.run-found.result c.run-found.ensures.dropped;
    }

pub returns-clause-bounded : goal.returns-clause-bounded
returns-clause-bounded c =
    let same = ahead_at (table_kept c.args.notes.now.kept) c.args.self.now.code c.args.asked.now.request.now c.args.position c.args.notes.now.notes.table c.requires.tries.from c.requires.tries.to in
    omega (arith, same, rw (c.table-table.ensures, c.swap_notes.ensures.given, c.anchored_at-from_position.ensures) at c.run-found.ensures.bounded)

pub returns-clause-spent : goal.returns-clause-spent
returns-clause-spent c =
    let same = ahead_at (table_kept c.args.notes.now.kept) c.args.self.now.code c.args.asked.now.request.now c.args.position c.args.notes.now.notes.table c.requires.tries.from c.requires.tries.to in
    let past = ahead_past c.run-found.new.kept c.args.self.now.code c.args.asked.now.request.now c.args.position c.run-found.new.cache.notes.table c.requires.tries.from c.requires.tries.to in
    rw c.swap_notes-2.ensures.taken
    (if_ok _ _ (λ m h. none_so _ _ (λ p. omega (arith, p, same, past)) m h) c.run-found.result (rw (c.table-table.ensures, c.swap_notes.ensures.given, c.anchored_at-from_position.ensures) at c.run-found.ensures.passed))

pub returns-clause-counts : goal.returns-clause-counts
returns-clause-counts c = c.run-found.ensures.counts

pub returns-clause-refused : goal.returns-clause-refused
returns-clause-refused c = c.run-found.ensures.refused
