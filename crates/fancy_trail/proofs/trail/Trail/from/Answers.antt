use Rattle.std.proofs.Common.{List, ap, ◌∙◌, get_or, slice_index}
use Rattle.fancy_code.specs.Thread.{slot_from}
use Rattle.fancy_trail.specs.declared.log.Cell.{Cell}
use Rattle.fancy_trail.specs.Frames.{Held}
use Rattle.fancy_trail.specs.Log.{empty_cell}
use Rattle.fancy_trail.proofs.LayerLemmas.{slot_known}
use Rattle.fancy_trail.proofs.trail.Trail.from.Goals as goal

pub returns : goal.returns
returns c =
    slot_known slot_from c.self.inside.cells.items c.args.group c.cell_at.result (c.cell_at.ensures ∙ ap (λ (cs : List Cell). get_or cs c.args.group empty_cell) c.deref.ensures.value)
    ∙ ap (λ (h : Held). slice_index h.now.starts c.args.group) c.self.view_is
