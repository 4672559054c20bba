use Rattle.std.proofs.Common.{Err, ap, arith, refl}
use Rattle.fancy_code.proofs.ClassifyLemmas.{easy_code}
use Rattle.fancy_search.proofs.RefusalLemmas.{easily_refused, out_of_steps}
use Rattle.fancy_search.proofs.SearchedLemmas.{known, nowhere}
use Rattle.fancy_search.proofs.LaterLemmas.{all_answered}
use Rattle.fancy_search.proofs.ProgramSizeLemmas.{parts_of_easy}
use Rattle.fancy_search.proofs.program.Program.run.Goals as goal

pub search-requires-clause-easy : goal.search-requires-clause-easy
search-requires-clause-easy c = easy_code _ (c.args.self.now.light (parts_of_easy _ _ _ c.requires.easy).0)

pub returns-in-Ok-clause-answer : goal.returns-in-Ok-clause-answer
returns-in-Ok-clause-answer c on =
    let easy = parts_of_easy _ _ _ c.requires.easy in
    rw (easy.1, easy.2) (known _ _ c.args.self.now.compiled
    (λ compiled. all_answered _ _ _ (rw (c.args.self.now.meant, c.for_search-options.ensures) at (c.in-Ok.ensures.answer _ on compiled.coded)) (c.in-Ok.ensures.ended refl)))

pub returns-in-Ok-clause-counts : goal.returns-in-Ok-clause-counts
returns-in-Ok-clause-counts c =
    let heeds = rw c.for_search-options.ensures at c.search.ensures.heeds in
    record {
      steps = c.search.ensures.steps;
      returns = c.search.ensures.returns;
      paired = omega (arith, c.search.ensures.paired, c.search.ensures.steps, c.search.ensures.returns, c.requires.paired);
      within = heeds.within;
      limited = λ e. cc;
    }

pub returns-in-Ok-clause-idle : goal.returns-in-Ok-clause-idle
returns-in-Ok-clause-idle c on none =
    nowhere c.args.self.now c.args.haystack.now c.args.request.now on _ _ (λ k. omega (arith, c.type_inv.haystack k)) none c.search.ensures.idle

pub returns-in-Err-clause-counts : goal.returns-in-Err-clause-counts
returns-in-Err-clause-counts c =
    let heeds = rw c.for_search-options.ensures at c.search.ensures.heeds in
    let limited = rw c.for_search-options.ensures at c.in-Err.ensures.limited in
    record {
      steps = c.search.ensures.steps;
      returns = c.search.ensures.returns;
      paired = omega (arith, c.search.ensures.paired, c.search.ensures.steps, c.search.ensures.returns, c.requires.paired);
      within = heeds.within;
      limited = λ e. limited (ap Err (out_of_steps c.in-Err.refusal (rw c.error_of.ensures at e)));
    }

pub returns-in-Err-clause-idle : goal.returns-in-Err-clause-idle
returns-in-Err-clause-idle c on none =
    nowhere c.args.self.now c.args.haystack.now c.args.request.now on _ _ (λ k. omega (arith, c.type_inv.haystack k)) none c.search.ensures.idle

pub returns-in-Err-clause-refused : goal.returns-in-Err-clause-refused
returns-in-Err-clause-refused c =
    let limited = rw c.for_search-options.ensures at c.in-Err.ensures.limited in
    rw c.error_of.ensures (easily_refused c.args.self.now c.search.new.work c.in-Err.refusal c.in-Err.ensures.refused (λ e. limited (ap Err e)))
