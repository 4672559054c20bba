use Rattle.std.proofs.Common.{◌∙◌, sym, arith}
use Rattle.fancy_search.specs.Cached.{cached_groups}
use Rattle.fancy_search.specs.Programs.{query_in}
use Rattle.fancy_search.proofs.ResultLemmas.{if_ok}
use Rattle.fancy_search.proofs.SearchedLemmas.{attempt_stands}
use Rattle.fancy_search.proofs.TriedAtLemmas.{untried_at, untaken_at}
use Rattle.fancy_search.proofs.program.Program.attempt_hard.Goals as goal

pub returns-clause-stands : goal.returns-clause-stands
returns-clause-stands c =
    if_ok _ _ (attempt_stands c.args.self.now c.args.asked.now (cached_groups c.backtrack_at.new.cache) c.args.position c.requires.tries.to) c.backtrack_at.result c.backtrack_at.ensures.answer

pub returns-then-not-is_tried-clause-answer : goal.returns-then-not-is_tried-clause-answer
returns-then-not-is_tried-clause-answer c = sym (untried_at c.args.self.now (query_in c.args.self.now c.args.asked.now) c.args.position c.args.asked.now.inside (sym c.is_tried.ensures.tried ∙ c.if-not-is_tried.true))

pub returns-then-not-is_tried-clause-allowed : goal.returns-then-not-is_tried-clause-allowed
returns-then-not-is_tried-clause-allowed c hard =
    let none = untaken_at c.args.self.now (query_in c.args.self.now c.args.asked.now) c.args.position (sym c.is_tried.ensures.tried ∙ c.if-not-is_tried.true) in
    omega (arith, none)
