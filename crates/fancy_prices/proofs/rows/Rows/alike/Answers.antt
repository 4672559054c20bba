use Rattle.std.proofs.Common.{◌≡◌, ◌<◌, ◌∙◌, ◌++◌, ◌∷◌, [], ℕ, List, ap, arith, replicate, slice_index}
use Rattle.std.proofs.lemmas.List.{get_or-replicate}
use Rattle.fancy_prices.specs.declared.rows.Row.{Row}
use Rattle.fancy_prices.proofs.RowLemmas.{alike_tell}
use Rattle.fancy_prices.proofs.rows.Rows.alike.Goals as goal

zeros : (b : ℕ) → b < 256 → slice_index (replicate 256 0) b ≡ 0
zeros b lt = get_or-replicate 256 b 0 0 lt

pub invariant_of-result : goal.invariant_of-result
invariant_of-result c = record {
  some = omega (arith, c.in_ok-push.ensures.len);
  numbered = λ b lt. omega (arith, zeros b lt, c.in_ok-push.ensures.len);
}

pub returns : goal.returns
returns c =
    alike_tell c.args.code.now (record { rows = c.push.new.self; numbers = replicate 256 0; some = c.result-1.given.0; numbered = c.result-1.given.1.0 }) c.new.result c.args.plain
    (c.in_ok-push.ensures.items ∙ ap (λ (l : List Row). l ++ c.new.result ∷ []) c.new-rows.ensures.items) c.new.ensures zeros c.requires
