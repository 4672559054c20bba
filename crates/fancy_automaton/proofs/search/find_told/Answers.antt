use Rattle.std.proofs.Common.{Option, subst, sym}
use Rattle.fancy_code.specs.Queries.{query_of, unfiltered}
use Rattle.fancy_code.specs.declared.found.Found.{Found}
use Rattle.fancy_meaning.specs.Search.{search}
use Rattle.fancy_states.specs.Search.{IsFoundAs}
use Rattle.fancy_automaton.proofs.AskedLemmas.{found_for}
use Rattle.fancy_automaton.proofs.search.find_told.Goals as goal

pub returns : goal.returns
returns c p on is =
    let found = found_for c.in-Some.attempt c.args.code.now c.args.haystack.now c.args.request c.args.options c.in-Some.ensures.asked c.in-Some.ensures.followed p on is
    c.in_ok-found.found (λ deep begun. rw c.requires.anchored (c.in_ok-found.ensures deep begun)) in
    subst (λ (m : Option Found). IsFoundAs c.args.code.now m (search (query_of p c.args.code.now (unfiltered c.args.options) c.args.haystack.now c.args.request on)))
    (sym c.found_by.ensures) found
