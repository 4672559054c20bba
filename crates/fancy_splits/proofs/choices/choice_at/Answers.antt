use Rattle.std.proofs.Common.{None, ◌∙◌, arith, length-set}
use Rattle.fancy_code.specs.Code.{instrs_of}
use Rattle.fancy_splits.specs.Splits.{LeadsBy}
use Rattle.fancy_prices.proofs.EntryLemmas.{one_more}
use Rattle.fancy_splits.proofs.PassageLemmas.{leads_kept}
use Rattle.fancy_splits.proofs.choices.choice_at.Goals as goal

pub loop-here-preserved : goal.loop-here-preserved
loop-here-preserved c =
    let size = c.loop-here.invariant.size in
    let kept = c.number_at.ensures.kept in
    record {
      size = length-set c.loop-here.numbers c.loop-here.here _ ∙ size;
      noted = one_more None (LeadsBy (instrs_of c.args.code.now) c.args.code.now.meaning c.number_at.new.passages.items c.args.at) c.loop-here.numbers c.loop-here.here _ (omega (arith, size, c.loop-here-test.true))
          (c.in_ok-numbers.ensures.noted c.args.at c.in-Some.ensures) (λ b lt. leads_kept (instrs_of c.args.code.now) c.args.code.now.meaning b _ _ c.args.at _ kept (c.loop-here.invariant.noted b lt));
    }
