use Rattle.fancy_core.proofs.regex.Regex.find.Goals as goal

pub returns-clause-none : goal.returns-clause-none
returns-clause-none g c = rw (c.new-whole.ensures.request, c.new-whole.ensures.haystack) at c.in_ok-found.ensures.none
