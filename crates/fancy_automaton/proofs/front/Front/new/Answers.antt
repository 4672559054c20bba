use Rattle.std.proofs.Common.{refl}
use Rattle.fancy_automaton.proofs.SoleLemmas.{sole_kept}
use Rattle.fancy_automaton.proofs.front.Front.new.Goals as goal

pub returns-clause-front : goal.returns-clause-front
returns-clause-front c a sole =
    c.in_ok-rest.ensures.front a
    (sole_kept a c.args.cells.now _ c.args.from (record { bounded = λ b. record { rows = b.rows; cells = b.cells; told = b.told }; stays = λ code is. is }) refl refl sole)
