use Rattle.std.proofs.Common.{◌≡◌, ◌∙◌, ℕ, Option, Some, ap, arith, length, sym}
use Rattle.std.specs.Prelude.{slice_get}
use Rattle.std.specs.Global.{Vec}
use Rattle.std.proofs.lemmas.Option.{slice_get-get_or}
use Rattle.fancy_states.specs.Cells.{items_or}
use Rattle.fancy_automaton.proofs.SoleLemmas.{sole_led}
use Rattle.fancy_automaton.proofs.amid.Amid.new.Goals as goal

pub returns-clause-led : goal.returns-clause-led
returns-clause-led c a sole nothing =
    let rows = c.args.cells.now.rows.lists.items in
    let v = c.index.result.now in
    let there : slice_get rows c.args.at.stand.next ≡ Some v = slice_get-get_or rows c.args.at.stand.next v c.requires ∙ ap Some (sym c.index.ensures) in
    let many : c.len.result ≡ length v.items = omega arith in
    sole_led a c.args.cells.now c.args.at c.len.result sole nothing (many ∙ sym (ap (λ (o : Option (Vec ℕ)). length (items_or o)) there))
