use Rattle.std.proofs.Common.{◌∙◌, ◌++◌, ◌∷◌, [], ℕ, List, ap, subst, map}
use Rattle.fancy_states.specs.Cells.{HasRow}
use Rattle.fancy_states.specs.Steps.{at_of}
use Rattle.fancy_states.proofs.CellLemmas.{keeps_row}
use Rattle.fancy_states.proofs.rows.target_of.Goals as goal

pub returns-clause-leads : goal.returns-clause-leads
returns-clause-leads c = record {
  waits = keeps_row c.intern.new.rows.lists.items c.intern-2.new.rows.lists.items c.in_ok-next.next (map at_of c.args.next.now) c.in_ok-begun.ensures.rows.kept
      (subst (λ (ws : List ℕ). HasRow c.intern.new.rows.lists.items c.in_ok-next.next ws) (c.deref.ensures.value ∙ c.in_ok-gather.ensures) c.in_ok-next.ensures.row);
  opens = subst (λ (ws : List ℕ). HasRow c.intern-2.new.rows.lists.items c.in_ok-begun.begun ws)
      (c.deref-2.ensures.value ∙ c.in_ok-push.ensures.items ∙ ap (λ (ws : List ℕ). ws ++ c.args.start ∷ []) c.in_ok-gather.ensures) c.in_ok-begun.ensures.row;
}
