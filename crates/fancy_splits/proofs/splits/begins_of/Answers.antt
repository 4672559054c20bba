use Rattle.std.proofs.Common.{ℕ, ◌∙◌, inl, inr, sym, ap, subst, arith}
use Rattle.std.proofs.lemmas.Bool.{cases_eq}
use Rattle.fancy_bytes.specs.Sets.{ByteFlags, member}
use Rattle.fancy_code.specs.Code.{instrs_of}
use Rattle.fancy_splits.specs.Splits.{byte_alone}
use Rattle.fancy_prices.specs.Prices.{Dies}
use Rattle.fancy_splits.proofs.SplitLemmas.{misses_more}
use Rattle.fancy_splits.proofs.splits.begins_of.Goals as goal
use Rattle.fancy_splits.proofs.splits.begins_of.Goals.{then-not-is_free, else-not-is_free}

pub loop-here-preserved : goal.loop-here-preserved
loop-here-preserved c b lt lacks =
    elim c.if-not-is_free.branch [
      | then-not-is_free w ↦
          misses_more c.loop-here.bytes _ c.loop-here.here w.insert.ensures dies (omega (arith, c.loop-here-test.true)) c.loop-here.invariant b lt
          (ap (λ (s : ByteFlags). member s b) (sym w.bytes-is) ∙ lacks)
      | else-not-is_free w ↦
          elim (cases_eq b c.loop-here.here) [
            | inl same ↦ subst dies (sym same) (c.is_free.ensures w.if-not-is_free.false)
            | inr other ↦ c.loop-here.invariant b (omega (arith, lt, other)) (ap (λ (s : ByteFlags). member s b) (sym w.bytes-is) ∙ lacks)
          ]
    ]
  where
    dies : ℕ → Type 0
    dies k = Dies (instrs_of c.args.code.now) c.args.code.now.meaning (byte_alone k) 0 0 c.args.at

pub returns : goal.returns
returns c b lt lacks = c.loop-here.invariant b (omega (arith, lt, c.loop-here-test.false)) lacks
