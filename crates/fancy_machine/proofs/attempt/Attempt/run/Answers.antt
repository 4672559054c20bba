use Rattle.std.proofs.Common.{◌≡◌, ◌+◌, ◌-◌, ◌∙◌, Err, refl, arith, ap}
use Rattle.fancy_input.specs.Work.{returns_of}
use Rattle.fancy_machine.proofs.RefusalLemmas.{passed_on}
use Rattle.fancy_machine.proofs.attempt.Attempt.run.Goals as goal

pub returns-in_err-next-clause-refused : goal.returns-in_err-next-clause-refused
returns-in_err-next-clause-refused g c e =
    let least = c.in_err-next.ensures.went.refused (ap Err (passed_on c.from_residual.result _ _ c.from_residual.ensures.1 e)) g.deep _ _ _ c.steps.invariant.searching in
    omega (arith, least)

pub returns-in_err-next-clause-bounded : goal.returns-in_err-next-clause-bounded
returns-in_err-next-clause-bounded g c = c.advance.ensures.went.bounded g.deep _ _ _ c.steps.invariant.searching

pub returns-in_err-next-clause-crowded : goal.returns-in_err-next-clause-crowded
returns-in_err-next-clause-crowded g c e =
    let few = c.in_err-next.ensures.went.crowded (ap Err (passed_on c.from_residual.result _ _ c.from_residual.ensures.1 e)) g.deep _ _ _ _ c.steps.invariant.searching in
    omega (arith, few, c.steps.invariant.most)

pub steps-smaller-in-On : goal.steps-smaller-in-On
steps-smaller-in-On g c = (rw c.in-On.is at (c.in_ok-next.ensures.went.advanced g.deep _ _ _ _ c.steps.invariant.searching)).1

pub steps-preserved-in-On : goal.steps-preserved-in-On
steps-preserved-in-On g c =
    let on = rw c.in-On.is at (c.in_ok-next.ensures.went.advanced g.deep _ _ _ _ c.steps.invariant.searching) in
    let more : returns_of c.steps.work + (returns_of c.advance.new.work - returns_of c.steps.work) ≡ returns_of c.advance.new.work = omega (arith, c.advance.ensures.counts.counts.returns) in
    record {
      searching = rw more at on.0;
      room = c.advance.ensures.counts.fits;
      steps = omega (arith, c.advance.ensures.counts.counts.steps, c.steps.invariant.steps);
      returns = omega (arith, c.advance.ensures.counts.counts.returns, c.steps.invariant.returns);
      units = omega (arith, c.advance.ensures.counts.counts.units, c.steps.invariant.units);
      paired = λ pairs. c.advance.ensures.counts.counts.paired (c.steps.invariant.paired pairs);
      most = c.advance.ensures.went.most ∙ c.steps.invariant.most;
      within = λ _. c.advance.ensures.counts.within (c.if-is_spent.ensures.open refl);
      seen = c.advance.ensures.seen;
    }

pub returns-in-Found-clause-answer : goal.returns-in-Found-clause-answer
returns-in-Found-clause-answer g c = (rw c.in-Found.is at (c.in_ok-next.ensures.went.advanced g.deep _ _ _ _ c.steps.invariant.searching)).0

pub returns-in-Found-clause-count : goal.returns-in-Found-clause-count
returns-in-Found-clause-count g c =
    let found = rw c.in-Found.is at (c.in_ok-next.ensures.went.advanced g.deep _ _ _ _ c.steps.invariant.searching) in
    omega (arith, found.1, c.advance.ensures.counts.counts.returns)

pub returns-in-Found-clause-bounded : goal.returns-in-Found-clause-bounded
returns-in-Found-clause-bounded g c = c.advance.ensures.went.bounded g.deep _ _ _ c.steps.invariant.searching

pub returns-in_err-taken-in-Dead-clause-refused : goal.returns-in_err-taken-in-Dead-clause-refused
returns-in_err-taken-in-Dead-clause-refused g c e =
    let dead = rw c.in-Dead.is at (c.in_ok-next.ensures.went.advanced g.deep _ _ _ _ c.steps.invariant.searching) in
    let more : returns_of c.steps.work + (returns_of c.advance.new.work - returns_of c.steps.work) ≡ returns_of c.advance.new.work = omega (arith, c.advance.ensures.counts.counts.returns) in
    let least = c.in_err-taken-in-Dead.ensures.takes.refused (ap Err (passed_on c.from_residual-in_err-taken-in-Dead.result _ _ c.from_residual-in_err-taken-in-Dead.ensures.1 e)) g.deep _ _ _ _ (rw more at dead.0) in
    omega (arith, least)

pub returns-in_err-taken-in-Dead-clause-bounded : goal.returns-in_err-taken-in-Dead-clause-bounded
returns-in_err-taken-in-Dead-clause-bounded g c =
    let dead = rw c.in-Dead.is at (c.in_ok-next.ensures.went.advanced g.deep _ _ _ _ c.steps.invariant.searching) in
    let more : returns_of c.steps.work + (returns_of c.advance.new.work - returns_of c.steps.work) ≡ returns_of c.advance.new.work = omega (arith, c.advance.ensures.counts.counts.returns) in
    c.back.ensures.takes.bounded g.deep _ _ _ _ (rw more at dead.0)

pub returns-then-not-taken-clause-answer : goal.returns-then-not-taken-clause-answer
returns-then-not-taken-clause-answer g c =
    let dead = rw c.in-Dead.is at (c.in_ok-next.ensures.went.advanced g.deep _ _ _ _ c.steps.invariant.searching) in
    let end = rw c.if-not-taken.true at (c.in_ok-taken-in-Dead.ensures.back g.deep _ _ _ _ _ dead.0) in
    c.give.ensures.given ∙ end.0

pub returns-then-not-taken-clause-count : goal.returns-then-not-taken-clause-count
returns-then-not-taken-clause-count g c =
    let dead = rw c.in-Dead.is at (c.in_ok-next.ensures.went.advanced g.deep _ _ _ _ c.steps.invariant.searching) in
    let end = rw c.if-not-taken.true at (c.in_ok-taken-in-Dead.ensures.back g.deep _ _ _ _ _ dead.0) in
    omega (arith, end.1, c.advance.ensures.counts.counts.returns, c.back.ensures.counts.returns)

pub returns-then-not-taken-clause-bounded : goal.returns-then-not-taken-clause-bounded
returns-then-not-taken-clause-bounded g c =
    let dead = rw c.in-Dead.is at (c.in_ok-next.ensures.went.advanced g.deep _ _ _ _ c.steps.invariant.searching) in
    let end = rw c.if-not-taken.true at (c.in_ok-taken-in-Dead.ensures.back g.deep _ _ _ _ _ dead.0) in
    omega (arith, end.1, c.advance.ensures.counts.counts.returns, c.back.ensures.counts.returns)

pub steps-smaller : goal.steps-smaller
steps-smaller g c =
    let dead = rw c.in-Dead.is at (c.in_ok-next.ensures.went.advanced g.deep _ _ _ _ c.steps.invariant.searching) in
    let went = rw c.if-not-taken.false at (c.in_ok-taken-in-Dead.ensures.back g.deep _ _ _ _ _ dead.0) in
    omega (arith, dead.1, went.1)

pub steps-preserved : goal.steps-preserved
steps-preserved g c =
    let dead = rw c.in-Dead.is at (c.in_ok-next.ensures.went.advanced g.deep _ _ _ _ c.steps.invariant.searching) in
    let went = rw c.if-not-taken.false at (c.in_ok-taken-in-Dead.ensures.back g.deep _ _ _ _ _ dead.0) in
    let more : returns_of c.steps.work + (returns_of c.advance.new.work - returns_of c.steps.work) + (returns_of c.back.new.work - returns_of c.advance.new.work) ≡ returns_of c.back.new.work =
    omega (arith, c.advance.ensures.counts.counts.returns, c.back.ensures.counts.returns) in
    record {
      searching = rw more at went.0;
      room = c.back.ensures.heeds.fits;
      steps = omega (arith, c.back.ensures.counts.steps, c.advance.ensures.counts.counts.steps, c.steps.invariant.steps);
      returns = omega (arith, c.back.ensures.counts.returns, c.advance.ensures.counts.counts.returns, c.steps.invariant.returns);
      units = omega (arith, c.back.ensures.counts.units, c.advance.ensures.counts.counts.units, c.steps.invariant.units);
      paired = λ pairs. c.back.ensures.counts.paired (c.advance.ensures.counts.counts.paired (c.steps.invariant.paired pairs)) (c.advance.ensures.counts.counts.ahead (c.steps.invariant.paired pairs));
      most = c.back.ensures.takes.most ∙ c.advance.ensures.went.most ∙ c.steps.invariant.most;
      within = λ _. c.back.ensures.heeds.within (c.advance.ensures.counts.within (c.if-is_spent.ensures.open refl));
      seen = c.advance.ensures.seen;
    }
