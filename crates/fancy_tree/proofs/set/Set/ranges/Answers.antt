use Rattle.std.proofs.Common.{◌∙◌, sym, ap, subst, arith, ◌+◌}
use Rattle.fancy_tree.specs.Sets.{AreEdges, has}
use Rattle.fancy_tree.proofs.EdgesLemmas.{listed_start, listed_more, listed_all}
use Rattle.fancy_tree.proofs.set.Set.ranges.Goals as goal

pub loop-i-init : goal.loop-i-init
loop-i-init c = listed_start _ _ c.new-out.ensures.items

pub overflow_sub-edges : goal.overflow_sub-edges
overflow_sub-edges c =
    let a : AreEdges c.edges-edges.result.now = subst AreEdges (sym c.edges-edges.ensures) c.args.self.now.are_edges in
    let up = a.rising c.loop-i.i (c.loop-i.i + 1) (omega arith) c.loop-i-test.true in omega arith

pub loop-i-preserved : goal.loop-i-preserved
loop-i-preserved c =
    let a : AreEdges c.edges-edges.result.now = subst AreEdges (sym c.edges-edges.ensures) c.args.self.now.are_edges in
    listed_more _ _ _ c.loop-i.i a.rising c.loop-i.invariant c.loop-i-test.true c.in_ok-push.ensures.items

pub returns : goal.returns
returns c =
    let a : AreEdges c.edges-edges.result.now = subst AreEdges (sym c.edges-edges.ensures) c.args.self.now.are_edges in
    λ x. listed_all _ _ _ x c.loop-i.invariant a.closed c.loop-i-test.false ∙ ap (λ es. has es x) c.edges-edges.ensures
