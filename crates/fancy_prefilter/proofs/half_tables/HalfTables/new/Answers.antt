use Rattle.std.proofs.Common.{◌≡◌, ℕ, ◌/◌, ◌%◌, ◌<◌, get_or, replicate, sym, subst, ap₂, arith, bit_and}
use Rattle.std.proofs.lemmas.Simd.{get_or-replicate}
use Rattle.fancy_prefilter.proofs.half_tables.HalfTables.new.Goals as goal

-- tables of ones let each byte through
pub returns : goal.returns
returns c b lt is =
    let both : bit_and (get_or (replicate 16 255) (b % 16) 0) (get_or (replicate 16 255) (b / 16) 0) ≡ bit_and 255 255 =
    ap₂ bit_and (get_or-replicate 16 (b % 16) 255 0 (omega arith)) (get_or-replicate 16 (b / 16) 255 0 (omega (arith, lt))) in
    subst (λ (n : ℕ). 0 < n) (sym both) (omega arith)
