use Rattle.std.proofs.Common.{◌∙◌, List, Bool, ap, arith}
use Rattle.std.proofs.lemmas.Bool.Decides.{nat_tests}
use Rattle.fancy_tree.specs.Sets.{has, is_odd}
use Rattle.fancy_tree.proofs.EdgesLemmas.{has_cut}
use Rattle.fancy_bytes.specs.Sets.{member}
use Rattle.fancy_bytes.proofs.EdgeLemmas.{byte_added, byte_passed}
use Rattle.fancy_bytes.proofs.edges.add_ascii.Goals as goal
use Rattle.fancy_bytes.proofs.edges.add_ascii.Goals.{then-next-eq1, else-next-eq1}

pub loop-byte-preserved : goal.loop-byte-preserved
unfolding is_odd
loop-byte-preserved c = record {
  cut = c.skip_edge-next.ensures.cut;
  added = λ b lt.
      elim c.if-next-eq1.branch [
        | then-next-eq1 w ↦
            ap (λ (s : List Bool). member s b) w.set-is
            ∙ byte_added (has c.args.edges.now) c.loop-byte.byte b _ (member c.loop-byte.set b) _
            (has_cut _ _ _ c.skip_edge-next.ensures.cut ∙ grind (arith, nat_tests, w.if-next-eq1.true)) (c.loop-byte.invariant.added b lt) (w.insert.ensures b lt)
        | else-next-eq1 w ↦
            ap (λ (s : List Bool). member s b) w.set-is
            ∙ byte_passed (has c.args.edges.now) c.loop-byte.byte b _ (member c.loop-byte.set b)
            (has_cut _ _ _ c.skip_edge-next.ensures.cut ∙ grind (arith, nat_tests, w.if-next-eq1.false)) (c.loop-byte.invariant.added b lt)
      ];
}
