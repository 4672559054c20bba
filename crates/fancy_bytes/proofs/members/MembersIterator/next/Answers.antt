use Rattle.std.proofs.Common.{◌∙◌, sym, arith}
use Rattle.fancy_bytes.proofs.SetLemmas.{member_comes, none_comes, none_left, one_fewer}
use Rattle.fancy_bytes.proofs.members.MembersIterator.next.Goals as goal

pub loop-self-preserved : goal.loop-self-preserved
loop-self-preserved c =
    sym (none_comes c.loop-self.self.set.now c.loop-self.self.next (omega arith) (sym c.contains.ensures ∙ c.if-contains.false)) ∙ c.loop-self.invariant

pub returns-then-contains-clause-steps : goal.returns-then-contains-clause-steps
returns-then-contains-clause-steps c =
    sym c.loop-self.invariant
    ∙ member_comes c.loop-self.self.set.now c.loop-self.self.next (omega arith) (sym c.contains.ensures ∙ c.if-contains.true)

pub returns-then-contains-clause-goes : goal.returns-then-contains-clause-goes
returns-then-contains-clause-goes c =
    let first =
    sym c.loop-self.invariant
    ∙ member_comes c.loop-self.self.set.now c.loop-self.self.next (omega arith) (sym c.contains.ensures ∙ c.if-contains.true) in
    record { on = λ f. (tt, f, one_fewer _ _ _ first); keeps = tt; rests = λ f. tt }

pub returns-clause-steps : goal.returns-clause-steps
returns-clause-steps c =
    let end = none_left c.loop-self.self.set.now c.loop-self.self.next (omega (arith, c.loop-self-test.false)) in
    (sym c.loop-self.invariant ∙ end, end)
