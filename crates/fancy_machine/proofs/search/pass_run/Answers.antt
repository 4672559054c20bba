use Rattle.std.proofs.Common.{◌≡◌, ◌+◌, ◌-◌, Err, ap, subst, arith}
use Rattle.fancy_input.specs.Work.{returns_of}
use Rattle.fancy_machine.specs.Front.{GoesPast, returns_over}
use Rattle.fancy_machine.proofs.FrontLemmas.{passes_over}
use Rattle.fancy_machine.proofs.RefusalLemmas.{passed_on}
use Rattle.fancy_machine.proofs.search.pass_run.Goals as goal

pub returns-in_err-count_returns-clause-refused : goal.returns-in_err-count_returns-clause-refused
returns-in_err-count_returns-clause-refused g c e =
    let past = passes_over g.q c.args.attempts.now c.requires.0 c.requires.1.0 c.requires.1.1.1.0 c.args.positions.now.last c.requires.1.1.0 c.args.positions.now.front.now c.requires.1.1.1.1.1.1 c.in-Some.front c.in-Some.is c.args.positions.now.seek c.if-positions.false c.in-Some-positions_to_pass.items c.args.from c.in-Some-positions_to_pass.ensures in
    let lt = c.in_err-count_returns.ensures.refused (ap Err (passed_on c.from_residual.result _ _ c.from_residual.ensures.1 e)) in
    omega (arith, lt, past.count, c.returns_over-returns.ensures)

pub returns-in_err-count_returns-clause-bounded : goal.returns-in_err-count_returns-clause-bounded
returns-in_err-count_returns-clause-bounded g c =
    let past = passes_over g.q c.args.attempts.now c.requires.0 c.requires.1.0 c.requires.1.1.1.0 c.args.positions.now.last c.requires.1.1.0 c.args.positions.now.front.now c.requires.1.1.1.1.1.1 c.in-Some.front c.in-Some.is c.args.positions.now.seek c.if-positions.false c.in-Some-positions_to_pass.items c.args.from c.in-Some-positions_to_pass.ensures in
    omega (arith, c.count_returns.ensures.adds.most, past.count, c.returns_over-returns.ensures)

pub returns-clause-passed : goal.returns-clause-passed
returns-clause-passed g c =
    let past = passes_over g.q c.args.attempts.now c.requires.0 c.requires.1.0 c.requires.1.1.1.0 c.args.positions.now.last c.requires.1.1.0 c.args.positions.now.front.now c.requires.1.1.1.1.1.1 c.in-Some.front c.in-Some.is c.args.positions.now.seek c.if-positions.false c.in-Some-positions_to_pass.items c.args.from c.in-Some-positions_to_pass.ensures in
    let count : returns_over c.in-Some.front.before.returns c.in-Some-positions_to_pass.items ≡ returns_of c.count_returns.new.self - returns_of c.args.work.now =
    omega (arith, c.returns_over-returns.ensures, c.in_ok-count_returns.ensures.counted) in
    subst (GoesPast g.q c.args.positions.now.seek c.args.positions.now.last c.args.from (c.args.from + c.in-Some-positions_to_pass.items)) count past

pub returns-clause-bounded : goal.returns-clause-bounded
returns-clause-bounded g c =
    let past = passes_over g.q c.args.attempts.now c.requires.0 c.requires.1.0 c.requires.1.1.1.0 c.args.positions.now.last c.requires.1.1.0 c.args.positions.now.front.now c.requires.1.1.1.1.1.1 c.in-Some.front c.in-Some.is c.args.positions.now.seek c.if-positions.false c.in-Some-positions_to_pass.items c.args.from c.in-Some-positions_to_pass.ensures in
    omega (arith, c.count_returns.ensures.adds.most, past.count, c.returns_over-returns.ensures)
