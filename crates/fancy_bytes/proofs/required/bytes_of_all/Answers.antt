use Rattle.std.proofs.Common.{◌∙◌, arith}
use Rattle.fancy_bytes.specs.Sets.{member}
use Rattle.fancy_bytes.proofs.EdgeLemmas.{part_step, part_reversed, part_open}
use Rattle.fancy_bytes.proofs.required.bytes_of_all.Goals as goal

pub returns-then-to-from : goal.returns-then-to-from
returns-then-to-from c b lt =
    c.new.ensures b lt
    ∙ part_reversed c.args.meaning c.args.edges.now b c.loop-i.i (member c.loop-i.set b) _ c.loop-i-test.true c.if-to-from.true (c.loop-i.invariant.left b lt)

pub loop-i-preserved : goal.loop-i-preserved
loop-i-preserved c = record {
  within = omega (arith, c.loop-i-test.true);
  left = λ b lt.
      part_step c.args.meaning c.args.edges.now b c.loop-i.i (member c.loop-i.set b) _ _ c.loop-i-test.true (omega (arith, c.if-to-from.false))
      (c.keep_common.ensures b lt) (c.loop-i.invariant.left b lt);
}

pub returns-then-i-edges : goal.returns-then-i-edges
returns-then-i-edges c b lt =
    c.new-then-i-edges.ensures b lt
    ∙ part_open c.args.meaning c.args.edges.now b c.loop-i.i (member c.loop-i.set b) _ (omega (arith, c.if-i-edges.true, c.loop-i-test.false)) (c.loop-i.invariant.left b lt)
