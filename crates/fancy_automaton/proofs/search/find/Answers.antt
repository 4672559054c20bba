use Rattle.std.proofs.Common.{Option, refl, subst, sym}
use Rattle.fancy_code.specs.Queries.{query_of, unfiltered}
use Rattle.fancy_code.specs.declared.found.Found.{Found}
use Rattle.fancy_meaning.specs.Search.{search}
use Rattle.fancy_states.specs.Cells.{IsFor}
use Rattle.fancy_states.specs.Search.{IsFoundAs}
use Rattle.fancy_automaton.proofs.AskedLemmas.{found_for, none_for}
use Rattle.fancy_automaton.proofs.search.find.Goals as goal

pub returns-in_default-clause-answer : goal.returns-in_default-clause-answer
returns-in_default-clause-answer c p on is =
    let none = none_for (query_of p c.args.code.now (unfiltered c.args.options) c.args.haystack.now c.args.request on) c.in_default.ensures.none in
    rw none (record { same = refl; none = λ _. refl })

pub span_in-requires-clause-kept : goal.span_in-requires-clause-kept
span_in-requires-clause-kept c =
    record { bounded = c.requires.kept; all = subst (IsFor c.args.cells.now) (sym c.in-Some.ensures.asked.of_code) c.requires.all }

pub returns-in_err-found-clause-all : goal.returns-in_err-found-clause-all
returns-in_err-found-clause-all c = subst (IsFor c.span_in.new.cells) c.in-Some.ensures.asked.of_code c.span_in.ensures.kept.all

pub returns-clause-all : goal.returns-clause-all
returns-clause-all c = subst (IsFor c.span_in.new.cells) c.in-Some.ensures.asked.of_code c.span_in.ensures.kept.all

pub returns-clause-answer : goal.returns-clause-answer
returns-clause-answer c p on is =
    let found = found_for c.in-Some.attempt c.args.code.now c.args.haystack.now c.args.request c.args.options c.in-Some.ensures.asked c.in-Some.ensures.followed p on is
    c.in_ok-found.found c.in_ok-found.ensures.answer in
    subst (λ (m : Option Found). IsFoundAs c.args.code.now m (search (query_of p c.args.code.now (unfiltered c.args.options) c.args.haystack.now c.args.request on)))
    (sym c.found_by.ensures) found
