use Rattle.std.proofs.Common.{◌≡◌, ◌%◌, ◌++◌, length, get_or, take, refl, ◌∙◌, arith, get_or-take, length-take-le}
use Rattle.std.proofs.lemmas.List.{get_or_append_left}
use Rattle.std.proofs.lemmas.List.FromFn.{get_or-map-range_with_len}
use Rattle.fancy_prefilter.proofs.half_tables.twice.Goals as goal

pub returns : goal.returns
returns c =
    let entries = take 16 c.args.table.now in
    let all : length entries ≡ 16 = length-take-le 16 c.args.table.now (omega arith) in
    record {
      all = refl;
      each = λ k lt.
          get_or-map-range_with_len (λ j. get_or (entries ++ entries) (j % 16) 0) 0 32 k k 0 lt (omega arith)
          ∙ get_or_append_left entries entries 0 (k % 16) (omega (arith, all)) ∙ get_or-take 16 c.args.table.now (k % 16) 0 (omega arith);
    }
