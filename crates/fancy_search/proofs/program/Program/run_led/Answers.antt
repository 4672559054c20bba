use Rattle.std.proofs.Common.{◌+◌, ◌∙◌, Option, arith, refl, sym, inl, inr}
use Rattle.std.proofs.lemmas.Result.{err_from_is_err_and}
use Rattle.fancy_input.specs.Requests.{effective_start}
use Rattle.fancy_automaton.specs.Decided.{IsAnsweredFrom}
use Rattle.fancy_code.specs.declared.found.Found.{Found}
use Rattle.fancy_meaning.specs.Search.{Query}
use Rattle.fancy_states.proofs.RememberedLemmas.{remembers, recalls}
use Rattle.fancy_search.specs.Programs.{asked_of, program_length, program_options, program_step_limit}
use Rattle.fancy_search.specs.SearchCounts.{step_bound}
use Rattle.fancy_search.proofs.LaterLemmas.{fewer_from, rest_none, rest_same, rest_untried, without_filters, work_for_fewer}
use Rattle.fancy_search.proofs.RefusalLemmas.{only_memory}
use Rattle.fancy_search.proofs.SearchedLemmas.{known}
use Rattle.fancy_search.proofs.program.Program.run_led.Goals as goal

pub find_candidate-requires-clause-all : goal.find_candidate-requires-clause-all
find_candidate-requires-clause-all c = recalls c.args.steps.now.cells c.args.self.now.code c.requires.kept.true_of

pub returns-in_default-clause-kept : goal.returns-in_default-clause-kept
returns-in_default-clause-kept c = record { true_of = remembers c.find_candidate.new.cells c.args.self.now.code c.find_candidate.ensures.all; within = c.find_candidate.ensures.kept }

pub returns-then-from-request-clause-kept : goal.returns-then-from-request-clause-kept
returns-then-from-request-clause-kept c = record { true_of = remembers c.find_candidate.new.cells c.args.self.now.code c.find_candidate.ensures.all; within = c.find_candidate.ensures.kept }

pub returns-in_err-found-clause-kept : goal.returns-in_err-found-clause-kept
returns-in_err-found-clause-kept c = record { true_of = remembers c.find_candidate.new.cells c.args.self.now.code c.find_candidate.ensures.all; within = c.find_candidate.ensures.kept }

pub learn-kept-requires-clause-kept : goal.learn-kept-requires-clause-kept
learn-kept-requires-clause-kept c = record { true_of = remembers c.find_candidate.new.cells c.args.self.now.code c.find_candidate.ensures.all; within = c.find_candidate.ensures.kept }

pub returns-then-from-request-clause-answer : goal.returns-then-from-request-clause-answer
returns-then-from-request-clause-answer c on =
    let told = c.in-Ok.from.told in
    let answered = without_filters c.args.self.now c.args.haystack.now c.args.request on c.requires.followable.easy (λ (q : Query). IsAnsweredFrom q told)
    (known _ _ c.args.self.now.compiled (λ compiled. rw (c.args.self.now.meant, c.for_search-options.ensures) at (c.in-Ok.ensures.answer _ on compiled.coded))) in
    sym (rest_none (asked_of c.args.self.now c.args.haystack.now c.args.request on) told (omega (arith, c.if-from-request.true)) answered)

pub returns-in_err-found-clause-idle : goal.returns-in_err-found-clause-idle
returns-in_err-found-clause-idle c on none =
    c.run.ensures.idle on (rest_untried c.args.self.now c.args.haystack.now c.args.request c.in-Ok.from.told c.in-Ok.ensures.forth (program_options c.args.self.now).seek on none)

pub returns-in_err-found-clause-refused : goal.returns-in_err-found-clause-refused
returns-in_err-found-clause-refused c =
    let rest = record c.args.request { start = c.in-Ok.from.told } in
    let fewer = fewer_from (program_length c.args.self.now) (effective_start c.args.request) (effective_start rest) (c.args.request.range_end + 1) (omega (arith, c.in-Ok.ensures.forth)) in
    let allowed = work_for_fewer (program_step_limit c.args.self.now) (step_bound c.args.self.now c.args.request) (step_bound c.args.self.now rest) c.args.work.now fewer c.requires.allowed in
    let q = err_from_is_err_and c.from_residual.result c.from_residual.ensures.1 in
    rw (q.1, q.2) (only_memory {A = Option Found} c.args.self.now _ c.in_err-found.ensures.refused (c.in_err-found.ensures.unlimited refl allowed))

pub returns-clause-answer : goal.returns-clause-answer
returns-clause-answer c on =
    let told = c.in-Ok.from.told in
    let answered = without_filters c.args.self.now c.args.haystack.now c.args.request on c.requires.followable.easy (λ (q : Query). IsAnsweredFrom q told)
    (known _ _ c.args.self.now.compiled (λ compiled. rw (c.args.self.now.meant, c.for_search-options.ensures) at (c.in-Ok.ensures.answer _ on compiled.coded))) in
    let same = rest_same c.args.self.now c.args.haystack.now c.args.request told c.in-Ok.ensures.forth on on c.requires.followable.easy c.requires.followable.inside c.requires.unanchored
    (omega (arith, c.if-from-request.false)) answered in
    c.in_ok-found.ensures.answer on ∙ same

pub returns-clause-idle : goal.returns-clause-idle
returns-clause-idle c on none =
    c.learn-kept.ensures.idle on none
    ∙ c.run.ensures.idle on (rest_untried c.args.self.now c.args.haystack.now c.args.request c.in-Ok.from.told c.in-Ok.ensures.forth (program_options c.args.self.now).seek on none)

pub returns-clause-bounded : goal.returns-clause-bounded
returns-clause-bounded c =
    let rest = record c.args.request { start = c.in-Ok.from.told } in
    let fewer = fewer_from (program_length c.args.self.now) (effective_start c.args.request) (effective_start rest) (c.args.request.range_end + 1) (omega (arith, c.in-Ok.ensures.forth)) in
    elim c.learn-kept.ensures.bounded [
      | inl same ↦ omega (arith, same, fewer, c.run.ensures.bounded)
      | inr more ↦ omega (arith, more, c.steps.ensures, c.steps-before.ensures)
    ]
