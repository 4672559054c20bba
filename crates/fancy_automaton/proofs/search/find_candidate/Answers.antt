use Rattle.std.proofs.Common.{arith, subst, sym}
use Rattle.fancy_states.specs.Cells.{IsFor}
use Rattle.fancy_automaton.proofs.AskedLemmas.{begins_for}
use Rattle.fancy_automaton.proofs.search.find_candidate.Goals as goal

pub first_told-requires-clause-kept : goal.first_told-requires-clause-kept
first_told-requires-clause-kept c =
    record { bounded = c.requires.kept; all = subst (IsFor c.args.cells.now) (sym c.in-Some.ensures.asked.of_code) c.requires.all }

pub returns-in_err-candidate-clause-all : goal.returns-in_err-candidate-clause-all
returns-in_err-candidate-clause-all c = subst (IsFor c.first_told.new.cells) c.in-Some.ensures.asked.of_code c.first_told.ensures.kept.all

pub returns-clause-all : goal.returns-clause-all
returns-clause-all c = subst (IsFor c.first_told.new.cells) c.in-Some.ensures.asked.of_code c.first_told.ensures.kept.all

pub returns-clause-answer : goal.returns-clause-answer
returns-clause-answer c p on is =
    let asked = c.in-Some.ensures.asked in
    begins_for c.in-Some.attempt c.args.code.now c.args.haystack.now c.args.request c.args.options asked c.in-Some.ensures.followed p on is c.requires.unanchored
    c.in_ok-candidate.candidate.told c.max.result (λ k one two. omega (arith, one, two, c.max.ensures, c.effective_start-first.ensures))
    (omega (arith, c.max.ensures, c.effective_start-first.ensures))
    (omega (arith, c.max.ensures, c.effective_start-first.ensures, c.in_ok-candidate.ensures.ends, asked.last, asked.ordered, asked.base)) c.in_ok-candidate.ensures.begins
