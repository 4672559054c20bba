use Rattle.std.proofs.Common.{◌≡◌, ◌∷◌, Some}
use Rattle.fancy_code.specs.declared.found.Found.{Found}
use Rattle.fancy_search.specs.Groups.{spans_of}
use Rattle.fancy_search.specs.Cached.{found_at, found_span}
use Rattle.fancy_search.proofs.groups.others_found.Given as goal

abbrev pub invariant-loop-number : goal.invariant-loop-number
invariant-loop-number l = (found : Found) → Some (found_span found) ∷ l.others.items ≡ spans_of l.number (found_at found l.cache)
