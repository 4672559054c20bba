use Rattle.std.proofs.Common.{◌++◌, List, Option, sym, subst, arith}
use Rattle.fancy_runner.specs.Backlog.{threads_in_backlog}
use Rattle.fancy_code.specs.Code.{instrs_of}
use Rattle.fancy_runner.specs.Sweep.{AllPast, AreRising}
use Rattle.fancy_runner.specs.Sweeps.{taken_out}
use Rattle.fancy_code.specs.Thread.{Thread}
use Rattle.fancy_runner.specs.Threads.{thread_of}
use Rattle.fancy_runner.specs.declared.pair.Pair.{Pair}
use Rattle.fancy_runner.proofs.SweepLemmas.{rising_past, rising_front}
use Rattle.fancy_runner.proofs.SweepsLemmas.{took_all}
use Rattle.fancy_runner.proofs.sweep.Sweep.gather_one.Goals as goal

pub returns-then-pair-place-clause-past : goal.returns-then-pair-place-clause-past
returns-then-pair-place-clause-past c is_false rising drained =
    let before = threads_in_backlog (instrs_of c.args.code.now) c.args.self.now.backlog in
    let slots = c.args.self.now.backlog.saved.slots.items in
    subst (λ (o : Option Pair). AllPast c.args.place (before ++ taken_out o slots)) (sym c.in-Some.is)
    (rising_past c.args.place before (thread_of c.in-Some.pair slots)
    (subst (λ (o : Option Pair). AreRising (before ++ taken_out o slots)) c.in-Some.is rising) (omega (arith, c.if-pair-place.true)))

pub returns-clause-rising : goal.returns-clause-rising
returns-clause-rising c rising =
    let before = threads_in_backlog (instrs_of c.args.code.now) c.args.self.now.backlog in
    let slots = c.args.self.now.backlog.saved.slots.items in
    subst (λ (x : List Thread). AreRising x) (sym (took_all (instrs_of c.args.code.now) c.oldest-self.result c.args.self.now.backlog c.oldest-self.new.self c.oldest-self.ensures))
    (rising_front before (taken_out c.args.self.now.waiting slots) rising)
