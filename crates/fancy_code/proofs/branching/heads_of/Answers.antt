use Rattle.std.proofs.Common.{ℕ, List, sym, subst}
use Rattle.fancy_code.specs.Branches.{SplitsTo}
use Rattle.fancy_code.specs.Code.{instrs_of}
use Rattle.fancy_code.proofs.BranchingLemmas.{splits_more}
use Rattle.fancy_code.proofs.branching.heads_of.Goals as goal

pub returns-in_default : goal.returns-in_default
returns-in_default c = c.with_last.ensures (instrs_of c.args.code.now) c.args.first c.loop.invariant

pub loop-preserved : goal.loop-preserved
loop-preserved c =
    subst (λ (hs : List ℕ). SplitsTo (instrs_of c.args.code.now) c.args.first hs c.in-Some.ways.second) (sym c.in_ok-push.ensures.items)
    (splits_more (instrs_of c.args.code.now) c.args.first c.loop.heads.items c.loop.at c.in-Some.ways.first c.in-Some.ways.second c.loop.invariant c.in-Some.ensures)

pub returns : goal.returns
returns c = c.with_last-2.ensures (instrs_of c.args.code.now) c.args.first c.loop.invariant
