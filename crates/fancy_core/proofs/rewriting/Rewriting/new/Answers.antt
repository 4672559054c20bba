use Rattle.std.proofs.Common.{ℕ, List, ap, ◌∙◌}
use Rattle.std.specs.Borrow.{Bor}
use Rattle.fancy_core.proofs.AllowedLemmas.{allows_first}
use Rattle.fancy_core.proofs.rewriting.Rewriting.new.Goals as goal

pub returns-clause-allowed : goal.returns-clause-allowed
returns-clause-allowed c later =
    allows_first c.args.regex.now c.args.text.now _ c.args.limit _ _ _ _ _ (ap (λ (h : Bor (List ℕ)). h.now) (c.new-2.ensures.haystack ∙ c.new.ensures.haystack))
    (c.new-2.ensures.request ∙ c.new.ensures.request) c.limit_of.ensures c.new-2.ensures.continues c.new-2.ensures.skips_empty c.new-2.ensures.ended later
