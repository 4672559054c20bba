use Rattle.std.proofs.Common.{◌+◌, ◌∙◌, sym, slice_index}
use Rattle.fancy_prefilter.specs.Keys.{key_at}
use Rattle.fancy_prefilter.proofs.KeyLemmas.{key_step, key_done}
use Rattle.fancy_prefilter.proofs.key_table.key_at.Goals as goal

pub loop-i-preserved : goal.loop-i-preserved
loop-i-preserved c = record {
  small = c.mixed-seed.ensures.small;
  key = key_step c.args.haystack.now c.loop-i.seed c.mixed-seed.result c.args.width c.args.place c.loop-i.i c.loop-i-test.true (c.mixed-seed.ensures.mixed (slice_index c.args.haystack.now (c.args.place + c.loop-i.i)) (sym c.class_of.ensures)) ∙ c.loop-i.invariant.key;
}

pub returns : goal.returns
returns c = record {
  key = key_done c.args.haystack.now c.loop-i.seed c.args.width c.args.place c.loop-i.i (key_at c.args.width c.args.haystack.now c.args.place) c.loop-i-test.false c.loop-i.invariant.key;
  small = c.loop-i.invariant.small;
}
