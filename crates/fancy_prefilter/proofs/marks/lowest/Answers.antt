use Rattle.std.proofs.Common.{w64}
use Rattle.std.proofs.lemmas.Nat.Bits.{bit_at-trailing_zeros}
use Rattle.fancy_prefilter.proofs.marks.lowest.Goals as goal

pub returns : goal.returns
returns c =
    let told = bit_at-trailing_zeros w64 c.args.marks c.requires c.ranges.marks.fits in
    record { bound = told.0; set = told.1; first = told.2 }
