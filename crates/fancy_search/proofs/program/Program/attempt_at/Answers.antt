use Rattle.std.proofs.Common.{◌∙◌, sym, ◌+◌, arith, true≢false}
use Rattle.fancy_search.specs.Cached.{cached_groups}
use Rattle.fancy_search.specs.KeptTables.{table_kept}
use Rattle.fancy_search.specs.Programs.{query_in}
use Rattle.fancy_search.proofs.ResultLemmas.{if_ok, if_err}
use Rattle.fancy_search.proofs.SearchedLemmas.{attempt_stands}
use Rattle.fancy_search.proofs.KeptTablesLemmas.{noted_past}
use Rattle.fancy_runner.proofs.KeptTableLemmas.{fewer_ahead}
use Rattle.fancy_search.proofs.TriedAtLemmas.{untried_at, untaken_at}
use Rattle.fancy_search.proofs.program.Program.attempt_at.Goals as goal

pub returns-clause-stands : goal.returns-clause-stands
returns-clause-stands c =
    if_ok _ _ (attempt_stands c.args.self.now c.args.asked.now (cached_groups c.run_at.new.cache) c.args.position c.requires.tries.to) c.run_at.result c.run_at.ensures.answer

pub returns-clause-units : goal.returns-clause-units
returns-clause-units c = omega (arith, c.run_at.ensures.units)

pub returns-then-not-is_tried-clause-answer : goal.returns-then-not-is_tried-clause-answer
returns-then-not-is_tried-clause-answer c = sym (untried_at c.args.self.now (query_in c.args.self.now c.args.asked.now) c.args.position c.args.asked.now.inside (sym c.is_tried.ensures.tried ∙ c.if-not-is_tried.true))

pub returns-then-not-is_tried-clause-allowed : goal.returns-then-not-is_tried-clause-allowed
returns-then-not-is_tried-clause-allowed c hard =
    let none = untaken_at c.args.self.now (query_in c.args.self.now c.args.asked.now) c.args.position (sym c.is_tried.ensures.tried ∙ c.if-not-is_tried.true) in
    omega (arith, none)

pub returns-then-not-is_tried-clause-bounded : goal.returns-then-not-is_tried-clause-bounded
returns-then-not-is_tried-clause-bounded c easy = omega arith

pub returns-then-not-is_tried-clause-spent : goal.returns-then-not-is_tried-clause-spent
returns-then-not-is_tried-clause-spent c easy =
    let fewer = fewer_ahead (table_kept c.args.notes.now.kept) c.args.self.now.code c.args.asked.now.request.now c.args.position (c.args.position + 1) c.args.notes.now.notes.table (omega arith) in
    omega (arith, fewer)

pub attempt_hard-requires-clause-hard : goal.attempt_hard-requires-clause-hard
attempt_hard-requires-clause-hard c = sym c.args.self.now.decided ∙ c.if-not-self.true

pub returns-then-not-self-clause-bounded : goal.returns-then-not-self-clause-bounded
returns-then-not-self-clause-bounded c easy = absurd (true≢false (sym easy ∙ sym c.args.self.now.decided ∙ c.if-not-self.true))

pub returns-then-not-self-clause-spent : goal.returns-then-not-self-clause-spent
returns-then-not-self-clause-spent c easy = absurd (true≢false (sym easy ∙ sym c.args.self.now.decided ∙ c.if-not-self.true))

pub returns-then-not-self-clause-notes : goal.returns-then-not-self-clause-notes
returns-then-not-self-clause-notes c = record {
  after = if_ok _ _ (λ m stands. noted_past c.args.self.now c.args.asked.now c.args.position c.args.notes.now m stands c.requires.notes) c.attempt_hard.result c.attempt_hard.ensures.stands;
  dropped = if_err _ _ (λ _ _. c.requires.notes) c.attempt_hard.result c.attempt_hard.ensures.refused;
}

pub returns-then-not-self-clause-easy : goal.returns-then-not-self-clause-easy
returns-then-not-self-clause-easy c easy = absurd (true≢false (sym easy ∙ sym c.args.self.now.decided ∙ c.if-not-self.true))
