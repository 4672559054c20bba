use Rattle.std.proofs.Common.{◌≡◌, ℕ, ◌+◌, ◌∙◌, List, sym, ap, get_or}
use Rattle.std.specs.Prelude.{slice_get}
use Rattle.std.proofs.lemmas.List.{get_or_default}
use Rattle.fancy_states.specs.Slots.{unknown}
use Rattle.fancy_states.specs.Transitions.{IsView}
use Rattle.fancy_states.specs.declared.transitions.Transition.{Transition}
use Rattle.fancy_states.specs.declared.transitions.Transitions.{Transitions}
use Rattle.fancy_states.proofs.TransitionLemmas.{told_at}
use Rattle.fancy_states.proofs.transitions.View.entry.Goals as goal

pub returns-in-Some : goal.returns-in-Some
returns-in-Some c cells table row before byte view told seen starts here =
    told_at cells table row byte c.args.column before c.in-Some.entry.now (ap (λ (cs : List ℕ). slice_get cs byte) (sym view.columns) ∙ here) seen
    (there table view ∙ ap (λ (n : ℕ). get_or table.entries.items (n + c.args.column) unknown) starts) told
  where
    there : (table : Transitions) → IsView table c.args.self → c.in-Some.entry.now ≡ get_or table.entries.items (c.args.start + c.args.column) unknown
    there table view =
        c.in-Some.ensures.lookup.1 ∙ get_or_default c.args.self.entries.now (c.args.start + c.args.column) c.in-Some.entry.now unknown c.in-Some.ensures.lookup.3.0
        ∙ ap (λ (es : List Transition). get_or es (c.args.start + c.args.column) unknown) view.entries
