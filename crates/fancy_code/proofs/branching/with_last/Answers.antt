use Rattle.std.proofs.Common.{ℕ, List, sym, subst}
use Rattle.fancy_code.specs.Branches.{Chooses}
use Rattle.fancy_code.proofs.BranchingLemmas.{splits_chosen}
use Rattle.fancy_code.proofs.branching.with_last.Goals as goal

pub returns : goal.returns
returns c code q splits = subst (λ (hs : List ℕ). Chooses code q hs) (sym c.in_ok-push.ensures.items) (splits_chosen code q c.args.heads.items c.args.at splits)
