use Rattle.std.proofs.Common.{arith}
use Rattle.fancy_states.proofs.RememberedLemmas.{remembers, recalls}
use Rattle.fancy_input.proofs.WorkLemmas.{runs_all}
use Rattle.fancy_search.specs.Programs.{program_step_limit}
use Rattle.fancy_search.specs.SearchCounts.{step_bound}
use Rattle.fancy_search.proofs.SearchedLemmas.{known, known_groups, nowhere}
use Rattle.fancy_search.proofs.ProgramSizeLemmas.{parts_of_easy}
use Rattle.fancy_search.proofs.program.Program.follow.Goals as goal

pub returns-after-not-serve_on-clause-answer : goal.returns-after-not-serve_on-clause-answer
returns-after-not-serve_on-clause-answer c on =
    let easy = parts_of_easy _ _ _ c.requires.followable.easy in
    record {
      same = rw (easy.1, easy.2) (known _ _ c.args.self.now.compiled
          (λ compiled. rw (c.args.self.now.meant, c.for_search-options.ensures) at (c.in-Ok.ensures.answer _ on compiled.coded).same));
      none = λ none. rw (easy.1, easy.2) (known_groups _ _ c.args.self.now.compiled
          (λ compiled. rw (c.args.self.now.meant, c.for_search-options.ensures) at ((c.in-Ok.ensures.answer _ on compiled.coded).none none)));
    }

pub returns-after-not-serve_on-clause-counts : goal.returns-after-not-serve_on-clause-counts
returns-after-not-serve_on-clause-counts c = record {
  steps = c.find.ensures.steps;
  returns = omega (arith, c.find.ensures.returns);
  paired = omega (arith, c.find.ensures.returns, c.find.ensures.steps, c.requires.paired);
  within = (runs_all (program_step_limit c.args.self.now) (step_bound c.args.self.now c.args.request) c.args.work.now c.find.new.work c.requires.allowed c.find.ensures.units c.find.ensures.bounded).within;
  limited = λ e. cc;
}

pub returns-in-Err-clause-counts : goal.returns-in-Err-clause-counts
returns-in-Err-clause-counts c = record {
  steps = c.find.ensures.steps;
  returns = omega (arith, c.find.ensures.returns);
  paired = omega (arith, c.find.ensures.returns, c.find.ensures.steps, c.requires.paired);
  within = (runs_all (program_step_limit c.args.self.now) (step_bound c.args.self.now c.args.request) c.args.work.now c.find.new.work c.requires.allowed c.find.ensures.units c.find.ensures.bounded).within;
  limited = λ e. cc;
}

pub returns-after-not-serve_on-clause-idle : goal.returns-after-not-serve_on-clause-idle
returns-after-not-serve_on-clause-idle c on none = nowhere c.args.self.now c.args.haystack.now c.args.request on _ _ (λ k. omega (arith, c.type_inv.haystack k)) none c.find.ensures.idle

pub returns-in-Err-clause-idle : goal.returns-in-Err-clause-idle
returns-in-Err-clause-idle c on none = nowhere c.args.self.now c.args.haystack.now c.args.request on _ _ (λ k. omega (arith, c.type_inv.haystack k)) none c.find.ensures.idle

pub returns-after-not-serve_on-clause-kept : goal.returns-after-not-serve_on-clause-kept
returns-after-not-serve_on-clause-kept c = record {
  true_of = rw c.serve_on.ensures.cells (remembers c.find.new.cells c.args.self.now.code c.find.ensures.all);
  within = rw c.serve_on.ensures.cells c.find.ensures.kept;
}

pub returns-in-Err-clause-kept : goal.returns-in-Err-clause-kept
returns-in-Err-clause-kept c = record {
  true_of = remembers c.find.new.cells c.args.self.now.code c.find.ensures.all;
  within = c.find.ensures.kept;
}

pub find-requires-clause-all : goal.find-requires-clause-all
find-requires-clause-all c = recalls c.args.steps.now.cells c.args.self.now.code c.requires.kept.true_of
