use Rattle.std.proofs.Common.{w64}
use Rattle.std.proofs.lemmas.Nat.Bits.{bit_at_clear_other}
use Rattle.fancy_prefilter.proofs.MarkLemmas.{cleared_less}
use Rattle.fancy_prefilter.proofs.marks.without.Goals as goal

pub returns-clause-fewer : goal.returns-clause-fewer
returns-clause-fewer c = cleared_less c.args.marks c.args.bit c.requires.bound c.ranges.marks.fits c.requires.set

pub returns-clause-kept : goal.returns-clause-kept
returns-clause-kept c k lt other = bit_at_clear_other w64 c.args.marks c.args.bit c.requires.bound k lt other
