use Rattle.std.proofs.Common.{ℕ, ◌+◌, refl, slice_index}
use Rattle.fancy_prefilter.proofs.KeyLemmas.{last_after}
use Rattle.fancy_prefilter.proofs.key_scan.keys_after.Goals as goal

pub returns-clause-are : goal.returns-clause-are
returns-clause-are c haystack p class are =
    let byte : ℕ = slice_index haystack (p + 3) in
    last_after haystack p c.args.last.one c.args.last.two c.args.last.three are byte c.mixed.result c.mixed-2.result c.mixed-3.result refl
    (c.mixed.ensures.mixed byte class) (c.mixed-2.ensures.mixed byte class) (c.mixed-3.ensures.mixed byte class)
