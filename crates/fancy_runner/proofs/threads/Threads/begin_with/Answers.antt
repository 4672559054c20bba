use Rattle.std.proofs.Common.{ℕ, Option, replicate, sym, ap, ◌∙◌}
use Rattle.std.specs.Prelude.{reverse}
use Rattle.fancy_code.specs.Instructions.{Open}
use Rattle.fancy_runner.specs.Threads.{KeptThreads, slots_past, with_group}
use Rattle.fancy_code.specs.Thread.{empty_slot}
use Rattle.fancy_runner.proofs.ThreadsLemmas.{none_at}
use Rattle.fancy_runner.proofs.threads.Threads.begin_with.Goals as goal

pub returns-in-Some-clause-slots : goal.returns-in-Some-clause-slots
returns-in-Some-clause-slots c =
    c.begin_group.ensures 0
    ∙ ap (slots_past (Open c.in-Some.group 0) c.args.place) (ap (λ (k : KeptThreads). k.slots) c.self.view_is ∙ c.in_ok-begin.ensures.slots)
    ∙ ap (λ (o : Option ℕ). with_group o c.args.place (replicate c.args.count empty_slot)) (sym c.in-Some.is)

pub returns-in-Some-clause-fresh : goal.returns-in-Some-clause-fresh
returns-in-Some-clause-fresh c = (
  none_at c.self.inside.slots.items c.begin_group.new.slots.items (reverse c.self.inside.branches.items) (ap (λ (k : KeptThreads). k.saved) c.self.view_is ∙ c.in_ok-begin.ensures.fresh.0),
  ap (λ (k : KeptThreads). k.passed) c.self.view_is ∙ c.in_ok-begin.ensures.fresh.1,
)
