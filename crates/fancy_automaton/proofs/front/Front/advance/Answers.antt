use Rattle.std.proofs.Common.{refl}
use Rattle.fancy_states.proofs.CellLemmas.{row_within}
use Rattle.fancy_automaton.proofs.front.Front.advance.Goals as goal

pub make_place-requires : goal.make_place-requires
make_place-requires c =
    let is = c.requires.stands.front in
    record { row = row_within c.args.cells.now.rows.lists.items c.args.self.now.next _ is.waits; kept = record { bounded = is.kept; all = is.all } }

pub step-requires-clause-stands : goal.step-requires-clause-stands
step-requires-clause-stands c = record {
  front = c.in_ok-make_place.ensures.front c.args.attempt.now c.args.place c.args.place refl c.requires.stands.front;
  good = c.requires.stands.good;
  within = c.requires.stands.within;
}
