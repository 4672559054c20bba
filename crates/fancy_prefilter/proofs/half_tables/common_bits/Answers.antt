use Rattle.std.proofs.Common.{◌≡◌, ℕ, ◌<◌, sym, subst}
use Rattle.std.specs.Int.{bit_at}
use Rattle.fancy_prefilter.proofs.LaneLemmas.{common_set, common_few, mask_of_common}
use Rattle.fancy_prefilter.proofs.half_tables.common_bits.Goals as goal

pub returns-clause-common : goal.returns-clause-common
returns-clause-common c k lt common =
    let a = c.args.a in
    let b = c.args.b in
    subst (λ (m : ℕ). bit_at m k ≡ 1) (sym (mask_of_common a b c.fits-a.0 c.fits-b.0)) (common_set a b k c.fits-a.0 c.fits-b.0 lt common)

pub returns-clause-few : goal.returns-clause-few
returns-clause-few c =
    let a = c.args.a in
    let b = c.args.b in
    subst (λ (m : ℕ). m < 4294967296) (sym (mask_of_common a b c.fits-a.0 c.fits-b.0)) (common_few a b c.fits-a.0 c.fits-b.0)
