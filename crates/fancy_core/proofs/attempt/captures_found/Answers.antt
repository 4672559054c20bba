use Rattle.std.proofs.Common.{subst, sym}
use Rattle.fancy_search.specs.Groups.{AreCut}
use Rattle.fancy_core.proofs.attempt.captures_found.Goals as goal

pub new-requires : goal.new-requires
new-requires g c = record { placed = subst (AreCut _ _) (sym c.in_ok-groups.ensures) c.requires.cut }
