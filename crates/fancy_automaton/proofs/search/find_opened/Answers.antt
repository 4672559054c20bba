use Rattle.std.proofs.Common.{Option, subst, sym}
use Rattle.fancy_code.specs.Queries.{query_of, unfiltered}
use Rattle.fancy_code.specs.declared.found.Found.{Found}
use Rattle.fancy_meaning.specs.Search.{search}
use Rattle.fancy_states.specs.Search.{IsFoundAs}
use Rattle.fancy_automaton.proofs.AskedLemmas.{found_for}
use Rattle.fancy_automaton.proofs.search.find_opened.Goals as goal

pub returns-clause-answer : goal.returns-clause-answer
returns-clause-answer c code haystack request options is p on coded =
    let found = found_for c.args.opened.now.attempt code haystack request options is.asked c.requires.opened.followed p on coded c.in_ok-found.found
    (λ deep begun. rw is.unanchored (c.in_ok-found.ensures.answer deep begun)) in
    subst (λ (m : Option Found). IsFoundAs code m (search (query_of p code (unfiltered options) haystack request on))) (sym c.found_by.ensures) found
