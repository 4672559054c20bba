use Rattle.std.proofs.Common.{subst, sym}
use Rattle.fancy_tree.specs.declared.tree.Assertion.{Assertion}
use Rattle.fancy_prices.specs.Facts.{HoldsWith}
use Rattle.fancy_prices.proofs.FactLemmas.{boundary_holds, no_boundary_holds}
use Rattle.fancy_prices.proofs.facts.Facts.holds.Goals as goal

pub returns-in-WordBoundary : goal.returns-in-WordBoundary
returns-in-WordBoundary c e = subst (λ (a : Assertion). HoldsWith a c.args.self) (sym c.in-WordBoundary.is) (boundary_holds c.args.self (c.fails.ensures e))

pub returns-in-NotWordBoundary : goal.returns-in-NotWordBoundary
returns-in-NotWordBoundary c e =
    subst (λ (a : Assertion). HoldsWith a c.args.self) (sym c.in-NotWordBoundary.is) (no_boundary_holds c.args.self (c.fails-in-NotWordBoundary.ensures e))
