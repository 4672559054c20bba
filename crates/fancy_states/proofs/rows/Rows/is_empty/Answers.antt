use Rattle.std.proofs.Common.{◌≡◌, ℕ, [], List, length, rules, subst}
use Rattle.std.specs.Global.{Vec}
use Rattle.fancy_states.specs.Cells.{HasRow}
use Rattle.fancy_states.proofs.CellLemmas.{has_row}
use Rattle.fancy_states.proofs.SearchLemmas.{no_items}
use Rattle.fancy_states.proofs.rows.Rows.is_empty.Goals as goal

pub returns-in-Some : goal.returns-in-Some
returns-in-Some c none =
    let short : length c.in-Some.row.now.items ≡ 0 = search rules in
    subst (λ (ls : List (Vec ℕ)). HasRow ls c.args.r []) c.deref.ensures.value
    (has_row c.deref.result.now c.args.r c.in-Some.row.now c.in-Some.row.now _ c.in-Some.ensures.lookup.3.0 c.in-Some.ensures.lookup.1
    (no_items c.in-Some.row.now.items short))
