use Rattle.std.proofs.Common.{◌≡◌, ℕ, ◌%◌, List, length, get_or, replicate, ◌∙◌, arith, bit_and}
use Rattle.std.proofs.lemmas.Nat.{and_mask}
use Rattle.std.specs.Simd.Lanes.{zip2}
use Rattle.fancy_prefilter.specs.HalfTables.{AreLanes}
use Rattle.fancy_prefilter.proofs.LaneLemmas.{lanes_with, places_fit, entries_read}
use Rattle.fancy_prefilter.proofs.half_tables.by_low_halves.Goals as goal

low : (bytes : List ℕ) → length bytes ≡ 32 → AreLanes (λ k. get_or bytes k 0 % 16) (zip2 bit_and bytes (replicate 32 15))
low bytes long =
    let masked = lanes_with bit_and bytes 15 long in
    record { all = masked.all; each = λ k lt. masked.each k lt ∙ and_mask (get_or bytes k 0) 4 }

pub swizzle : goal.swizzle
swizzle c =
    places_fit c.args.table.now c.twice.result (zip2 bit_and c.args.bytes (replicate 32 15)) (λ k. get_or c.args.bytes k 0 % 16) c.twice.ensures (low c.args.bytes c.fits-bytes.0) (λ k lt. omega arith)

pub returns : goal.returns
returns c =
    entries_read c.args.table.now c.twice.result (zip2 bit_and c.args.bytes (replicate 32 15)) (λ k. get_or c.args.bytes k 0 % 16) c.twice.ensures (low c.args.bytes c.fits-bytes.0) (λ k lt. omega arith)
