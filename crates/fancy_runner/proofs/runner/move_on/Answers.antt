use Rattle.std.proofs.Common.{◌<◌, inl, refl, arith, length}
use Rattle.fancy_code.specs.Attempt.{context_in, instrs_in, may_end_in}
use Rattle.fancy_code.specs.Code.{marks_of}
use Rattle.fancy_code.proofs.InstructionLemmas.{length-instrs_of}
use Rattle.fancy_input.proofs.WorkLemmas.{one_step}
use Rattle.fancy_runner.specs.Attempt.{marks_in}
use Rattle.fancy_runner.specs.Threads.{thread_of}
use Rattle.fancy_runner.proofs.RunnerLemmas.{adds_mark, run_on}
use Rattle.fancy_runner.proofs.WentOnLemmas.{runs_one}
use Rattle.fancy_runner.proofs.runner.move_on.Goals as goal

pub returns-clause-went : goal.returns-clause-went
returns-clause-went c =
    let a = c.args.attempt.now in
    let one = one_step c.args.work.now c.count_step_within.new.self c.count_step_within.ensures in
    let less = c.is_new.ensures.left c.if-not-is_new.false in
    let there : c.args.pair.now.at < length (instrs_in a) = omega (arith, c.requires.here, length-instrs_of a.code.now) in
    record {
      running = λ low kept deep goal slots saved begins r.
          run_on (may_end_in a) (context_in a) low a.last (instrs_in a) c.requires.easy deep kept goal (marks_in a c.args.table.now) (marks_in a c.is_new.new.table)
          (thread_of c.args.pair.now slots) (thread_of c.args.next slots) saved saved r
          (adds_mark (may_end_in a) (context_in a) low a.last (instrs_in a) c.requires.easy deep a.base (marks_of a.code.now c.args.table.now) (marks_of a.code.now c.is_new.new.table)
          c.args.pair.now.at c.args.pair.now.place begins c.requires.row.low c.is_new.ensures.adds)
          (inl (c.requires.goes.went kept deep slots r.known, refl)) c.requires.goes.forth;
      forth = c.requires.goes.forth;
      high = λ h. c.requires.goes.high;
      room = c.is_new.ensures.room;
      spent = omega (arith, less, one.one, c.requires.goes.paid, a.code.now.paid.pays c.args.pair.now.at there);
      steps = one.more;
      counted = λ few. omega (arith, c.requires.goes.near, one.counted few);
      returns = one.returns;
      heeds = runs_one a.step_limit c.args.work.now c.count_step_within.new.self (c.is_spent.ensures.open c.if-is_spent.false) one;
    }
