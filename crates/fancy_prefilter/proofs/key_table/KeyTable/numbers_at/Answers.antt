use Rattle.std.proofs.Common.{◌≡◌, ◌+◌, ℕ, List, ◌∙◌, slice_index, arith}
use Rattle.std.proofs.lemmas.Grind.{get_or_default_zero}
use Rattle.fancy_prefilter.proofs.key_table.KeyTable.numbers_at.Goals as goal

pub returns-clause-rise : goal.returns-clause-rise
returns-clause-rise c i j low lt high within =
    let starts : List ℕ = c.args.self.now.starts.items in
    let key : ℕ = c.key_at-key.result in
    let sized = c.args.self.now.sized in
    let small = c.key_at-key.ensures.small in
    let first : c.index.result.now ≡ slice_index starts key = c.index.ensures ∙ get_or_default_zero starts key c.index.result.now (omega (arith, sized, small)) in
    let second : c.index-2.result.now ≡ slice_index starts (key + 1) = c.index-2.ensures ∙ get_or_default_zero starts (key + 1) c.index-2.result.now (omega (arith, sized, small)) in
    c.args.self.now.rising key small i j (omega (arith, first, low)) lt (omega (arith, second, high, c.min.ensures)) within
