use Rattle.std.proofs.Common.{◌≡◌, ◌<◌, ◌∙◌, ◌++◌, ◌∷◌, [], ℕ, List, ap, arith, replicate, slice_index}
use Rattle.std.specs.Prelude.{vec_len}
use Rattle.std.proofs.lemmas.List.{get_or-replicate}
use Rattle.fancy_prices.specs.declared.rows.Row.{Row}
use Rattle.fancy_prices.proofs.RowLemmas.{two_tell}
use Rattle.fancy_prices.proofs.rows.Rows.apart.Goals as goal

ones : (b : ℕ) → b < 256 → slice_index (replicate 256 1) b ≡ 1
ones b lt = get_or-replicate 256 b 1 0 lt

pub loop-kind-init : goal.loop-kind-init
loop-kind-init c =
    let some : 0 < vec_len c.push-2.new.self = omega (arith, c.in_ok-push-2.ensures.len) in
    let numbered : (b : ℕ) → b < 256 → slice_index (replicate 256 1) b < vec_len c.push-2.new.self = λ b lt. omega (arith, ones b lt, c.in_ok-push.ensures.len, c.in_ok-push-2.ensures.len) in (
      some,
      numbered,
      two_tell c.args.code.now (record { rows = c.push-2.new.self; numbers = replicate 256 1; some = some; numbered = numbered }) c.new.result c.new-2.result c.prices_after.result c.args.plain.now
          (c.in_ok-push-2.ensures.items ∙ ap (λ (l : List Row). l ++ c.new-2.result ∷ []) (c.in_ok-push.ensures.items ∙ ap (λ (l : List Row). l ++ c.new.result ∷ []) c.new-rows.ensures.items)) c.new.ensures c.new-2.ensures ones c.prices_after.ensures c.requires,
    )

pub invariant_of-rows : goal.invariant_of-rows
invariant_of-rows c = record { some = c.loop-kind.invariant.0; numbered = c.loop-kind.invariant.1 }

pub with-requires-clause-others : goal.with-requires-clause-others
with-requires-clause-others c = c.loop-kind.invariant.2

pub loop-kind-preserved : goal.loop-kind-preserved
loop-kind-preserved c = (c.in_ok-rows.rows.some, c.in_ok-rows.rows.numbered, c.in_ok-rows.ensures)

pub invariant_of-rows-2 : goal.invariant_of-rows-2
invariant_of-rows-2 c = record { some = c.loop-kind.invariant.0; numbered = c.loop-kind.invariant.1 }

pub returns : goal.returns
returns c = c.loop-kind.invariant.2
