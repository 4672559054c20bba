use Rattle.std.proofs.Common.{Some, None, [], ap, ◌∙◌}
use Rattle.fancy_search.proofs.SearchedLemmas.{found_by}
use Rattle.fancy_core.proofs.NoneLemmas.{none_found}
use Rattle.fancy_core.proofs.regex.Regex.find_input_with.Goals as goal

pub returns-in_default-clause-none : goal.returns-in_default-clause-none
returns-in_default-clause-none g c =
    none_found (g.S.Input.span) None _
    (found_by _ [] None (rw (c.in_default.is, c.as_bytes.ensures.bytes, c.haystack-haystack.ensures, c.request-request.ensures.value) at c.in_ok-found.ensures.served.answer))

pub returns-clause-none : goal.returns-clause-none
returns-clause-none g c =
    none_found (g.S.Input.span) (Some c.make_match.result) _
    (ap Some c.make_match.ensures.span
    ∙ found_by _ _ (Some c.in-Some.found) (rw (c.in-Some.is, c.as_bytes.ensures.bytes, c.haystack-haystack.ensures, c.request-request.ensures.value) at c.in_ok-found.ensures.served.answer))
