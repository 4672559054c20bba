use Rattle.std.proofs.Common.{◌∙◌, ap, subst, sym}
use Rattle.fancy_search.specs.Groups.{AreCut}
use Rattle.fancy_core.proofs.ReplaceLemmas.{seen_is}
use Rattle.fancy_core.proofs.rewriting.Rewriting.captures_at.Goals as goal

pub new-requires : goal.new-requires
new-requires c = record { placed = rw c.haystack.ensures (subst (AreCut _ _) (sym c.in_ok-groups.ensures) (c.requires.groups.cut _)) }

pub returns-clause-seen : goal.returns-clause-seen
returns-clause-seen c = seen_is _ _ c.new.ensures.regex (ap (λ (z : _). z.now) (c.new.ensures.haystack ∙ c.haystack.ensures)) (c.new.ensures.groups ∙ c.in_ok-groups.ensures)
