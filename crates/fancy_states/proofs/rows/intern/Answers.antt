use Rattle.std.proofs.Common.{◌≡◌, List, arith, length, subst}
use Rattle.std.specs.Prelude.{ℕ}
use Rattle.fancy_states.specs.Cells.{HasRow}
use Rattle.fancy_states.proofs.CellLemmas.{last_row}
use Rattle.fancy_states.proofs.rows.intern.Goals as goal

pub returns-clause-row : goal.returns-clause-row
returns-clause-row c =
    let later = c.push.new.self.items in
    let n : c.len-r.result ≡ length c.args.rows.now.lists.items = omega arith in
    subst (λ (ws : List ℕ). HasRow later c.len-r.result ws) c.in_ok-row.ensures
    (last_row c.args.rows.now.lists.items later c.len-r.result c.in_ok-row.row c.in_ok-push.ensures.items n)
