use Rattle.std.proofs.Common.{◌≡◌, ◌∙◌, List, rules, subst, sym}
use Rattle.std.specs.Global.{Vec}
use Rattle.std.specs.Prelude.{ℕ}
use Rattle.fancy_states.specs.Cells.{HasRow}
use Rattle.fancy_states.proofs.CellLemmas.{has_row}
use Rattle.fancy_states.proofs.rows.Rows.has.Goals as goal

pub returns-in-Some : goal.returns-in-Some
returns-in-Some c same =
    subst (λ (ls : List (Vec ℕ)). HasRow ls c.args.r c.args.ways.now) c.deref.ensures.value
    (has_row c.deref.result.now c.args.r c.in-Some.row.now c.in-Some.row.now _ c.in-Some.ensures.lookup.3.0 c.in-Some.ensures.lookup.1
    (sym c.as_slice.ensures.value ∙ (let here : c.as_slice.result.now ≡ c.args.ways.now = search rules in here)))
