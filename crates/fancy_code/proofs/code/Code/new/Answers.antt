use Rattle.fancy_code.proofs.code.Code.new.Goals as goal

pub invariant_of-result-clause-paid : goal.invariant_of-result-clause-paid
invariant_of-result-clause-paid c = rw c.deref.ensures.value at (c.in_ok-marking.ensures.paid c.args.sets.items)
