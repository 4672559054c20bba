use Rattle.std.proofs.Common.{map, arith}
use Rattle.fancy_trail.specs.Log.{cell_slot}
use Rattle.fancy_trail.proofs.RegionLemmas.{opens_top}
use Rattle.fancy_trail.proofs.TrailStops.{ended_by_any}
use Rattle.fancy_trail.proofs.trail.Trail.closes_at_any_stop.Goals as goal

pub index-requires : goal.index-requires
index-requires c =
    omega (arith, (opens_top c.self.inside.log.items (map cell_slot c.self.inside.cells.items) c.self.inside.region c.self.inside.layers.items c.self.invariant.3 (λ none. omega (arith, none, c.if-top-gt0.true))).0, c.if-top-gt0.true, c.self.inside.layers.ok.0)

pub returns-then-top-gt0 : goal.returns-then-top-gt0
returns-then-top-gt0 c any =
    ended_by_any _ _ _ _ _ _ _ c.self.view_is c.self.invariant.3 0 c.index.result.now c.index.ensures (λ none. omega (arith, none, c.if-top-gt0.true)) (c.is_ended_by_any.ensures any)
