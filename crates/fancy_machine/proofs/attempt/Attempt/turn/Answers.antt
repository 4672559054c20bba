use Rattle.std.proofs.Common.{Err, sym, ap}
use Rattle.fancy_machine.specs.Attempt.{accepts, code_in}
use Rattle.fancy_machine.proofs.MachineLemmas.{turn_on, turn_dead, turn_bad, turn_found, turn_more}
use Rattle.fancy_machine.proofs.RefusalLemmas.{passed_on}
use Rattle.fancy_machine.proofs.attempt.Attempt.turn.Goals as goal

pub returns-in-On-clause-turned : goal.returns-in-On-clause-turned
returns-in-On-clause-turned c deep w known =
    turn_on (code_in c.args.self.now deep) c.args.self.now.options.now.longest (accepts c.args.self.now) c.args.best.now w c.args.trail.now.now c.args.trail.now.frames c.step.new.trail.now c.step.new.trail.frames
    (rw c.in-On.is at (c.in_ok-next.ensures.followed.stepped deep w known))

pub returns-in-Dead-clause-turned : goal.returns-in-Dead-clause-turned
returns-in-Dead-clause-turned c deep w known =
    turn_dead (code_in c.args.self.now deep) c.args.self.now.options.now.longest (accepts c.args.self.now) c.args.best.now w c.args.trail.now.now c.args.trail.now.frames c.step.new.trail.now c.step.new.trail.frames
    (rw c.in-Dead.is at (c.in_ok-next.ensures.followed.stepped deep w known))

pub returns-then-not-accepts-clause-turned : goal.returns-then-not-accepts-clause-turned
returns-then-not-accepts-clause-turned c deep w known =
    turn_bad (code_in c.args.self.now deep) c.args.self.now.options.now.longest (accepts c.args.self.now) c.args.best.now w c.args.trail.now.now c.args.trail.now.frames c.step.new.trail.now c.step.new.trail.frames
    (rw c.in-Found.is at (c.in_ok-next.ensures.followed.stepped deep w known)) (sym c.if-not-accepts.ensures)

pub returns-else-self-clause-turned : goal.returns-else-self-clause-turned
returns-else-self-clause-turned c deep w known =
    turn_found (code_in c.args.self.now deep) c.args.self.now.options.now.longest (accepts c.args.self.now) c.args.best.now w c.args.trail.now.now c.args.trail.now.frames c.step.new.trail.now c.step.new.trail.frames
    (rw c.in-Found.is at (c.in_ok-next.ensures.followed.stepped deep w known)) (sym c.if-not-accepts.ensures) c.if-self.false

pub returns-then-self-clause-turned : goal.returns-then-self-clause-turned
returns-then-self-clause-turned c deep w known =
    turn_more (code_in c.args.self.now deep) c.args.self.now.options.now.longest (accepts c.args.self.now) c.args.best.now w c.args.trail.now.now c.args.trail.now.frames c.step.new.trail.now c.step.new.trail.frames c.offer.new.self
    (rw c.in-Found.is at (c.in_ok-next.ensures.followed.stepped deep w known)) (sym c.if-not-accepts.ensures) c.if-self.true c.in_ok-offer-in-Found.ensures

pub returns-in_err-next-clause-crowded : goal.returns-in_err-next-clause-crowded
returns-in_err-next-clause-crowded c e = c.in_err-next.ensures.followed.crowded (ap Err (passed_on c.from_residual.result _ _ c.from_residual.ensures.1 e))
