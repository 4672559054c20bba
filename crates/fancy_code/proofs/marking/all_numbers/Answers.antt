use Rattle.std.proofs.Common.{◌∙◌, sym, length, arith, length-append, ap, Option, ℕ}
use Rattle.fancy_code.proofs.MarkingLemmas.{each_more}
use Rattle.fancy_code.proofs.marking.all_numbers.Goals as goal

pub loop-at-preserved : goal.loop-at-preserved
loop-at-preserved c = record {
  many = omega (arith, c.loop-at.invariant.many, ap length c.in_ok-push.ensures.items, length-append {A = Option ℕ}, c.loop-at.numbers.ok.0, c.push.new.self.ok.0);
  each = each_more c.loop-at.numbers.items _ c.loop-at.at (sym c.loop-at.numbers.ok.0 ∙ c.loop-at.invariant.many) c.in_ok-push.ensures.items c.loop-at.invariant.each;
}
