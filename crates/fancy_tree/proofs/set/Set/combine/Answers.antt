use Rattle.std.proofs.Common.{arith, sym, ap, ap₂, ◌∙◌, subst, refl, ◌+◌, length}
use Rattle.fancy_tree.specs.Sets.{is_odd, has, AreEdges}
use Rattle.fancy_tree.specs.Members.{applied}
use Rattle.fancy_tree.proofs.EdgesLemmas.{merged_start, merged_kept, merged_pushed, merged_done, nearest_within, nearest_above, fewer_left, one_more, operation_none, unlike, alike, odd_len}
use Rattle.fancy_tree.proofs.set.Set.combine.Goals as goal

pub loop-at-init : goal.loop-at-init
loop-at-init c = record {
  merged = (0, rw c.in_ok-edges.ensures.items (merged_start _ _ _ (operation_none c.args.how)));
  room = let e = ap length c.in_ok-edges.ensures.items in let r = c.in_ok-edges.ensures.capacity in omega arith;
}

pub loop-at-preserved-then-turns : goal.loop-at-preserved-then-turns
unfolding is_odd
loop-at-preserved-then-turns c =
    let m = c.loop-at.invariant.merged.1 in
    let a : AreEdges c.edges-a.result.now = subst AreEdges (sym c.edges-a.ensures) c.args.self.now.are_edges in
    let b : AreEdges c.edges-b.result.now = subst AreEdges (sym c.edges-b.ensures) c.args.other.now.are_edges in
    record {
      merged = (
        c.in-Some.at + 1,
        merged_pushed m (nearest_above m c.in-Some.ensures) (nearest_within a b c.in-Some.ensures) c.in-Some.ensures c.skip_edge-i.ensures.cut c.skip_edge-j.ensures.cut c.push_reserved.ensures.items
            (unlike _ _ _ _ c.if-turns.true (odd_len _ _ (c.len.ensures ∙ c.loop-at.edges.ok.0)) c.keeps.ensures),
      );
      room =
          let fewer = fewer_left m c.in-Some.ensures c.skip_edge-i.ensures.forward c.skip_edge-j.ensures.forward c.skip_edge-i.ensures.progress c.skip_edge-j.ensures.progress in
          let more = one_more _ _ c.in-Some.at c.push_reserved.ensures.items in
          let room = c.loop-at.invariant.room in
          let kept = c.push_reserved.ensures.capacity in omega arith;
    }

pub loop-at-preserved : goal.loop-at-preserved
unfolding is_odd
loop-at-preserved c =
    let m = c.loop-at.invariant.merged.1 in
    let a : AreEdges c.edges-a.result.now = subst AreEdges (sym c.edges-a.ensures) c.args.self.now.are_edges in
    let b : AreEdges c.edges-b.result.now = subst AreEdges (sym c.edges-b.ensures) c.args.other.now.are_edges in
    record {
      merged = (
        c.in-Some.at + 1,
        merged_kept m (nearest_above m c.in-Some.ensures) (nearest_within a b c.in-Some.ensures) c.in-Some.ensures c.skip_edge-i.ensures.cut c.skip_edge-j.ensures.cut refl
            (alike _ _ _ _ c.if-turns.false (odd_len _ _ (c.len.ensures ∙ c.loop-at.edges.ok.0)) c.keeps.ensures),
      );
      room = let room = c.loop-at.invariant.room in let i = c.skip_edge-i.ensures.forward in let j = c.skip_edge-j.ensures.forward in omega arith;
    }

pub returns : goal.returns
returns c = λ x. ap (λ es. has es x) c.trim.ensures ∙ (merged_done c.loop-at.invariant.merged.1 c.in_default.ensures.0 c.in_default.ensures.1 x
    ∙ ap₂ (applied c.args.how) (ap (λ es. has es x) c.edges-a.ensures) (ap (λ es. has es x) c.edges-b.ensures))

pub next_edge-requires-clause-a_rises : goal.next_edge-requires-clause-a_rises
next_edge-requires-clause-a_rises c = rw c.edges-a.ensures c.args.self.now.are_edges.rising

pub next_edge-requires-clause-b_rises : goal.next_edge-requires-clause-b_rises
next_edge-requires-clause-b_rises c = rw c.edges-b.ensures c.args.other.now.are_edges.rising

pub skip_edge-i-requires-clause-rising : goal.skip_edge-i-requires-clause-rising
skip_edge-i-requires-clause-rising c = rw c.edges-a.ensures c.args.self.now.are_edges.rising

pub skip_edge-j-requires-clause-rising : goal.skip_edge-j-requires-clause-rising
skip_edge-j-requires-clause-rising c = rw c.edges-b.ensures c.args.other.now.are_edges.rising
