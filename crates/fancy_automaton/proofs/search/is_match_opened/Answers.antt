use Rattle.fancy_automaton.proofs.AskedLemmas.{matched_for}
use Rattle.fancy_automaton.proofs.search.is_match_opened.Goals as goal

pub returns-clause-answer : goal.returns-clause-answer
returns-clause-answer c code haystack request options is p on coded =
    matched_for c.args.opened.now.attempt code haystack request options is.asked c.requires.opened.followed p on coded is.unanchored c.in_ok-found.found
    c.in_ok-found.ensures.answer
