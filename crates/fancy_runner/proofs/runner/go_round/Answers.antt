use Rattle.std.proofs.Common.{◌+◌, ℕ, sym, ◌∙◌, subst, ap, arith}
use Rattle.fancy_runner.specs.declared.pair.Pair.{Pair}
use Rattle.fancy_runner.specs.Runs.{GoesOn}
use Rattle.fancy_runner.proofs.LoopLemmas.{choice_goes, item_goes}
use Rattle.fancy_runner.proofs.WentOnLemmas.{went_then}
use Rattle.fancy_runner.proofs.runner.go_round.Goals as goal

pub move_on-requires-clause-goes : goal.move_on-requires-clause-goes
move_on-requires-clause-goes c =
    subst (λ (q : ℕ). GoesOn c.args.attempt.now (record { at = q; place = c.items.pair.place }) (record { at = c.args.item_loop.now.item; place = c.items.pair.place })) (sym c.items.invariant.at)
    (choice_goes c.args.attempt.now c.args.item_loop.now c.args.start.at c.requires.round c.items.pair.place c.requires.bytes
    (sym c.contains.ensures ∙ c.if-contains.true) (omega (arith, c.items-test.true)))

pub returns-then-not-move_on : goal.returns-then-not-move_on
returns-then-not-move_on c = went_then c.items.invariant.went c.move_on.ensures.went

pub move_on-requires-in-items-clause-goes : goal.move_on-requires-in-items-clause-goes
move_on-requires-in-items-clause-goes c =
    subst (λ (p : Pair). GoesOn c.args.attempt.now p (record { at = c.args.start.at; place = c.items.pair.place + 1 })) (sym (c.move_on.ensures.moved c.if-not-move_on.false))
    (item_goes c.args.attempt.now c.args.item_loop.now c.args.start.at c.requires.round c.items.pair.place c.requires.bytes
    (sym c.contains.ensures ∙ c.if-contains.true) (omega (arith, c.items-test.true, c.requires.inside)) c.items-test.true)

pub returns-then-not-move_on-2 : goal.returns-then-not-move_on-2
returns-then-not-move_on-2 c = went_then (went_then c.items.invariant.went c.move_on.ensures.went) c.move_on-in-items.ensures.went

pub items-preserved : goal.items-preserved
items-preserved c = record {
  at = ap (λ (p : Pair). p.at) (c.move_on-in-items.ensures.moved c.if-not-move_on-2.false);
  went = went_then (went_then c.items.invariant.went c.move_on.ensures.went) c.move_on-in-items.ensures.went;
}
