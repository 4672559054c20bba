use Rattle.std.proofs.Common.{◌≡◌, ℕ, List, false, sym, subst}
use Rattle.fancy_tree.specs.Sets.{has}
use Rattle.fancy_code.specs.Instructions.{edges_in}
use Rattle.fancy_prices.proofs.FlagLemmas.{on}
use Rattle.fancy_prices.proofs.free.may_begin_member.Goals as goal

pub returns : goal.returns
returns c fails =
    c.may_begin.ensures (has (edges_in c.args.set.now)) (sym c.contains-is_item.ensures)
    (λ narrow d high. subst (λ (e : List ℕ). has e d ≡ false) c.edges.ensures (c.is_ascii.ensures (on c.is_ascii.result narrow) d high))
    fails
