use Rattle.std.proofs.Common.{◌≡◌, ℕ, [], ◌∷◌, List, length, rules, subst, sym, ◌∙◌}
use Rattle.std.specs.Global.{Vec}
use Rattle.fancy_states.specs.Cells.{HasRow}
use Rattle.fancy_states.proofs.CellLemmas.{has_row, one_item}
use Rattle.fancy_states.proofs.rows.Rows.has_alone.Goals as goal

pub returns-then-len-eq1 : goal.returns-then-len-eq1
returns-then-len-eq1 c alone =
    let is : c.index.result.now ≡ c.args.way = search rules in
    let one : length c.in-Some.row.now.items ≡ 1 = search rules in
    subst (λ (ls : List (Vec ℕ)). HasRow ls c.args.r (c.args.way ∷ [])) c.deref.ensures.value
    (has_row c.deref.result.now c.args.r c.in-Some.row.now c.in-Some.row.now _ c.in-Some.ensures.lookup.3.0 c.in-Some.ensures.lookup.1
    (one_item c.in-Some.row.now.items c.args.way c.index.result.now one (sym c.index.ensures ∙ is)))
