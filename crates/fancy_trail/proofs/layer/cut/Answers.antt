use Rattle.std.proofs.Common.{◌∙◌, arith, length, ap, length-append}
use Rattle.fancy_trail.proofs.LayerLemmas.{counted_snoc, saves_one, saves_none, take_snoc}
use Rattle.fancy_trail.proofs.layer.cut.Goals as goal

pub overflow_sub-branches : goal.overflow_sub-branches
overflow_sub-branches c =
    omega (arith, c.layers.invariant.counted, counted_snoc _ _ c.in-Some.layer c.in-Some.ensures.items, c.earlier.ensures)

pub overflow_sub-branches-then-is_saved : goal.overflow_sub-branches-then-is_saved
overflow_sub-branches-then-is_saved c =
    omega (arith, c.layers.invariant.counted, counted_snoc _ _ c.in-Some.layer c.in-Some.ensures.items, c.earlier.ensures, saves_one c.in-Some.layer.kind c.if-is_saved.ensures)

pub layers-preserved-then-is_saved : goal.layers-preserved-then-is_saved
layers-preserved-then-is_saved c =
    let n = ap length c.in-Some.ensures.items ∙ length-append c.pop.new.self.items _ in
    record {
      counted = omega (arith, c.layers.invariant.counted, counted_snoc _ _ c.in-Some.layer c.in-Some.ensures.items, c.earlier.ensures, saves_one c.in-Some.layer.kind c.if-is_saved.ensures);
      fits = omega (arith, n, c.layers-test.true, c.layers.layers.ok.0, c.pop.new.self.ok.0);
      kept = take_snoc c.args.len _ _ c.in-Some.layer c.in-Some.ensures.items (omega (arith, c.layers-test.true, c.layers.layers.ok.0)) ∙ c.layers.invariant.kept;
      fewer = omega (arith, c.layers.invariant.fewer);
    }

pub layers-preserved : goal.layers-preserved
layers-preserved c =
    let n = ap length c.in-Some.ensures.items ∙ length-append c.pop.new.self.items _ in
    record {
      counted = omega (arith, c.layers.invariant.counted, counted_snoc _ _ c.in-Some.layer c.in-Some.ensures.items, c.earlier.ensures, saves_none c.in-Some.layer.kind c.if-is_saved.ensures);
      fits = omega (arith, n, c.layers-test.true, c.layers.layers.ok.0, c.pop.new.self.ok.0);
      kept = take_snoc c.args.len _ _ c.in-Some.layer c.in-Some.ensures.items (omega (arith, c.layers-test.true, c.layers.layers.ok.0)) ∙ c.layers.invariant.kept;
      fewer = omega (arith, c.layers.invariant.fewer);
    }
