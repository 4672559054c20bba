use Rattle.fancy_core.proofs.NoneLemmas.{none_found}
use Rattle.fancy_core.proofs.regex.Regex.find_input.Goals as goal

pub returns-clause-none : goal.returns-clause-none
returns-clause-none g c =
    let e = c.in_ok-found.ensures.found in
    rw (c.haystack.ensures, c.request.ensures.value) at (none_found (g.S.Input.span) c.in_ok-found.found _ e)
