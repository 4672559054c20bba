use Rattle.std.proofs.Common.{ℕ, ◌∷◌, ◌∙◌, List, [], length, sym, ap, subst, arith, length-append}
use Rattle.std.specs.Prelude.{slice_get}
use Rattle.std.specs.Option.{ForSome}
use Rattle.fancy_code.specs.Choices.{BeginAt, GoesRound}
use Rattle.fancy_code.specs.Code.{instrs_of}
use Rattle.fancy_prefilter.specs.declared.choice.Beginnings.{Beginnings}
use Rattle.fancy_code.proofs.BranchingLemmas.{each_more}
use Rattle.fancy_code.proofs.choosing.beginnings_of.Goals as goal

pub loop-at-preserved : goal.loop-at-preserved
loop-at-preserved c = record {
  count = omega (arith, ap length c.in_ok-push.ensures.items, length-append c.loop-at.all.items (c.in_ok-beginnings.beginnings ∷ []), c.loop-at.invariant.count);
  begin = λ q b e.
      each_more (λ (n : ℕ) (y : Beginnings). BeginAt (instrs_of c.args.code.now) c.args.code.now.meaning y n × ForSome y.item_loop (λ l. GoesRound (instrs_of c.args.code.now) c.args.code.now.meaning l n)) c.loop-at.all.items c.in_ok-beginnings.beginnings
      c.loop-at.invariant.begin
      (subst (λ (n : ℕ). BeginAt (instrs_of c.args.code.now) c.args.code.now.meaning c.in_ok-beginnings.beginnings n × ForSome c.in_ok-beginnings.beginnings.item_loop (λ l. GoesRound (instrs_of c.args.code.now) c.args.code.now.meaning l n)) (sym c.loop-at.invariant.count) (c.in_ok-beginnings.ensures.begin, c.in_ok-beginnings.ensures.round))
      q b (sym (ap (λ (all : List Beginnings). slice_get all q) c.in_ok-push.ensures.items) ∙ e);
}
