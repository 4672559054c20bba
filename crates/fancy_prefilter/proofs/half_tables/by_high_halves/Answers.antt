use Rattle.std.proofs.Common.{◌≡◌, ℕ, ◌/◌, ◌^◌, ◌<◌, List, length, get_or, replicate, arith, w8, Fits}
use Rattle.std.proofs.lemmas.Simd.{Each1-get_or}
use Rattle.std.specs.Simd.Lanes.{zip2, Each1}
use Rattle.fancy_prefilter.proofs.LaneLemmas.{lanes_with, places_fit, entries_read}
use Rattle.fancy_prefilter.proofs.half_tables.by_high_halves.Goals as goal

-- the high half of a byte is below 16
small : (bytes : List ℕ) → length bytes ≡ 32 → Each1 (Fits w8) bytes → (k : ℕ) → k < 32 → get_or bytes k 0 / 16 < 16
small bytes long fit k lt = omega (arith, (Each1-get_or (Fits w8) bytes k 0 (omega (arith, lt, long)) fit).fits)

pub swizzle : goal.swizzle
swizzle c =
    let bytes = c.args.bytes in
    places_fit c.args.table.now c.twice.result (zip2 (λ a b. a / 2 ^ b) bytes (replicate 32 4)) (λ k. get_or bytes k 0 / 16) c.twice.ensures (lanes_with (λ a b. a / 2 ^ b) bytes 4 c.fits-bytes.0)
    (small bytes c.fits-bytes.0 c.fits-bytes.1)

pub returns : goal.returns
returns c =
    let bytes = c.args.bytes in
    entries_read c.args.table.now c.twice.result (zip2 (λ a b. a / 2 ^ b) bytes (replicate 32 4)) (λ k. get_or bytes k 0 / 16) c.twice.ensures (lanes_with (λ a b. a / 2 ^ b) bytes 4 c.fits-bytes.0)
    (small bytes c.fits-bytes.0 c.fits-bytes.1)
