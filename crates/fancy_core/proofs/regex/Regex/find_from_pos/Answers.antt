use Rattle.fancy_core.proofs.regex.Regex.find_from_pos.Goals as goal

pub returns-clause-none : goal.returns-clause-none
returns-clause-none g c =
    rw (c.from_pos-input.ensures.request, c.new.ensures.request, c.from_pos-input.ensures.haystack, c.new.ensures.haystack) at c.in_ok-found.ensures.none
