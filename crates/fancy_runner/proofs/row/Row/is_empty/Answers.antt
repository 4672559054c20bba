use Rattle.std.proofs.Common.{ℕ, ap, ◌∙◌, ◌==◌}
use Rattle.fancy_runner.proofs.RowLemmas.{threads_count}
use Rattle.fancy_runner.proofs.row.Row.is_empty.Goals as goal

pub returns : goal.returns
returns c =
    c.is_empty.ensures
    ∙ ap (λ (n : ℕ). n == 0) (c.self.inside.waiting.ok.0 ∙ threads_count c.self.inside.waiting.items c.self.inside.slots.items _ c.self.view_is)
