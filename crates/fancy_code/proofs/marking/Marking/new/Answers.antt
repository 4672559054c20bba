use Rattle.fancy_code.proofs.marking.Marking.new.Goals as goal

pub returns-then-is_paid-clause-paid : goal.returns-then-is_paid-clause-paid
returns-then-is_paid-clause-paid c sets = rw (c.deref-3.ensures.value, c.deref-4.ensures.value) at (c.is_paid.ensures.paid sets c.if-is_paid.true)

pub returns-clause-paid : goal.returns-clause-paid
returns-clause-paid c sets = c.in_ok-all.ensures.paid sets c.args.start
