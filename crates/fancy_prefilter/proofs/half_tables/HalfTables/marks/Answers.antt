use Rattle.fancy_prefilter.proofs.LaneLemmas.{marks_are}
use Rattle.fancy_prefilter.proofs.half_tables.HalfTables.marks.Goals as goal

pub returns : goal.returns
returns c =
    marks_are c.args.self.now.low c.args.self.now.high c.args.haystack.now c.by_low_halves.result c.by_high_halves.result c.args.place c.common_bits.result c.by_low_halves.ensures
    c.by_high_halves.ensures c.common_bits.ensures.common c.common_bits.ensures.few
