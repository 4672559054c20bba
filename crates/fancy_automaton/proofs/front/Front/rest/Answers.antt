use Rattle.std.proofs.Common.{◌≡◌, ◌∙◌, Option, Some, ap, arith, length, refl, sym, ℕ}
use Rattle.std.specs.Prelude.{slice_get}
use Rattle.std.specs.Global.{Vec}
use Rattle.std.proofs.lemmas.Option.{slice_get-get_or}
use Rattle.fancy_states.specs.Cells.{items_or}
use Rattle.fancy_automaton.proofs.SoleLemmas.{front_sole}
use Rattle.fancy_automaton.proofs.front.Front.rest.Goals as goal

pub returns : goal.returns
returns c =
    let cells = c.args.cells.now in
    let rows = cells.rows.lists.items in
    let from = c.args.from in
    let v = c.index.result.now in
    let there : slice_get rows from.stand.next ≡ Some v = slice_get-get_or rows from.stand.next v c.requires ∙ ap Some (sym c.index.ensures) in
    let many : c.len-waiting.result ≡ length v.items = omega arith in
    record {
      front = λ a sole.
          front_sole a cells from _ c.len-waiting.result sole refl refl c.in_ok-fill.ensures
          (many ∙ sym (ap (λ (o : Option (Vec ℕ)). length (items_or o)) there)) c.span_from-self.ensures;
    }
