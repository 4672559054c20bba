use Rattle.std.proofs.Common.{◌+◌, ◌-◌, ◌∙◌, sym, arith}
use Rattle.fancy_machine.specs.Attempt.{reading}
use Rattle.fancy_machine.proofs.BackLemmas.{back_none, back_step, back_over}
use Rattle.fancy_machine.proofs.units.units_back.Goals as goal

pub returns-then-at-eq0 : goal.returns-then-at-eq0
returns-then-at-eq0 c x =
    sym (back_none (reading c.args.haystack.now c.args.meaning x) (c.args.units - c.loop-done.done) c.loop-done.at (omega (arith, c.loop-done-test.true)) c.if-at-eq0.true) ∙ c.loop-done.invariant x

pub loop-done-preserved : goal.loop-done-preserved
loop-done-preserved c x =
    sym (back_step (reading c.args.haystack.now c.args.meaning x) (c.args.units - c.loop-done.done) (c.args.units - (c.loop-done.done + 1)) c.loop-done.at c.previous-at.result
    (omega (arith, c.loop-done-test.true)) (omega (arith, c.if-at-eq0.false)) c.previous-at.ensures) ∙ c.loop-done.invariant x

pub returns : goal.returns
returns c x =
    sym (back_over (reading c.args.haystack.now c.args.meaning x) (c.args.units - c.loop-done.done) c.loop-done.at (omega (arith, c.loop-done-test.false))) ∙ c.loop-done.invariant x
