use Rattle.std.proofs.Common.{◌∙◌, ap, arith, length, map, refl}
use Rattle.fancy_code.proofs.ThreadLemmas.{map-replicate}
use Rattle.fancy_trail.specs.Layers.{spot_of}
use Rattle.fancy_trail.specs.Log.{cell_slot, empty_cell}
use Rattle.fancy_trail.proofs.WriteLemmas.{begun_log}
use Rattle.fancy_trail.proofs.trail.Trail.begin.Goals as goal

pub invariant_of-self-2 : goal.invariant_of-self-2
invariant_of-self-2 c =
    let cells = c.begin_cells.new.cells.items in
    let empty = c.begin_cells.ensures.empty in
    rw (c.clear.ensures.items, c.clear-2.ensures.items)
    (refl, omega arith, omega arith, refl, begun_log cells empty, λ _. (refl, ap (map cell_slot) empty ∙ map-replicate cell_slot (length cells) empty_cell))

pub invariant_of-self-in_err-begin_cells : goal.invariant_of-self-in_err-begin_cells
invariant_of-self-in_err-begin_cells c =
    let cells = c.begin_cells.new.cells.items in
    let empty = c.begin_cells.ensures.empty in
    rw (c.clear.ensures.items, c.clear-2.ensures.items)
    (refl, omega arith, omega arith, refl, begun_log cells empty, λ _. (refl, ap (map cell_slot) empty ∙ map-replicate cell_slot (length cells) empty_cell))

pub returns-clause-begun : goal.returns-clause-begun
returns-clause-begun c = ap (spot_of c.args.at c.args.limit c.args.place c.args.place) (ap (map cell_slot) c.in_ok-begin_cells.ensures.begun ∙ map-replicate cell_slot c.args.count empty_cell)
