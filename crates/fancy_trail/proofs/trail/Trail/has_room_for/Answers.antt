use Rattle.std.proofs.Common.{arith, map}
use Rattle.std.proofs.lemmas.Bool.{le-leb, leb-true}
use Rattle.fancy_trail.specs.Log.{cell_slot}
use Rattle.fancy_trail.proofs.LayerLemmas.{saved_frames}
use Rattle.fancy_trail.proofs.trail.Trail.has_room_for.Goals as goal

pub returns : goal.returns
returns c =
    let n = saved_frames c.self.inside.log.items (map cell_slot c.self.inside.cells.items) c.self.inside.layers.items in
    rw (← c.self.view_is) (
      λ t. omega (arith, n, c.self.invariant.0, c.self.invariant.1, leb-true c.args.count _ t),
      λ le. le-leb c.args.count _ (omega (arith, le, n, c.self.invariant.0)),
    )
