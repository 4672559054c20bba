use Rattle.std.proofs.Common.{ℕ, ◌∙◌, inl, inr, sym, ap, subst, arith, true≢false}
use Rattle.std.proofs.lemmas.Bool.{cases_eq}
use Rattle.fancy_bytes.specs.Sets.{member}
use Rattle.fancy_code.specs.Code.{instrs_of}
use Rattle.fancy_splits.specs.Splits.{byte_alone}
use Rattle.fancy_prices.specs.Prices.{Dies}
use Rattle.fancy_splits.proofs.front.dies_at_each.Goals as goal
use Rattle.fancy_splits.proofs.front.dies_at_each.Goals.{else-is_item-via-then-is_item+else-not-is_free, else-is_item-via-else-is_item}

pub loop-here-preserved : goal.loop-here-preserved
loop-here-preserved c b lt is =
    elim (cases_eq b c.loop-here.here) [
      | inl same ↦
          elim c.else-is_item.branch [
            | else-is_item-via-then-is_item+else-not-is_free w ↦ subst dies (sym same) (w.is_free.ensures w.if-not-is_free.false)
            | else-is_item-via-else-is_item w ↦ absurd (true≢false (sym is ∙ ap (member c.args.split.now.items) same ∙ sym c.is_item.ensures ∙ w.if-is_item.false))
          ]
      | inr other ↦ c.loop-here.invariant b (omega (arith, lt, other)) is
    ]
  where
    dies : ℕ → Type 0
    dies k = Dies (instrs_of c.args.code.now) c.args.code.now.meaning (byte_alone k) 0 0 c.args.at

pub returns : goal.returns
returns c e b lt is = c.loop-here.invariant b (omega (arith, lt, c.loop-here-test.false)) is
