use Rattle.std.proofs.Common.{arith, map, sym, subst}
use Rattle.fancy_trail.specs.Log.{cell_slot}
use Rattle.fancy_trail.specs.Frames.{Held}
use Rattle.fancy_trail.specs.Left.{Stops}
use Rattle.fancy_trail.specs.Ways.{within_at, at_place}
use Rattle.fancy_code.specs.declared.step.Next.TheVariants.{On}
use Rattle.fancy_trail.proofs.RegionLemmas.{opens_top}
use Rattle.fancy_trail.proofs.TrailStops.{stops_bare, stops_elsewhere, stops_atom, stops_condition, stops_look, stops_denial, no_branch, is_open}
use Rattle.fancy_trail.proofs.trail.Trail.stop.Goals as goal

pub returns-then-top-eq0-clause-stopped : goal.returns-then-top-eq0-clause-stopped
returns-then-top-eq0-clause-stopped c = stops_bare _ _ _ _ _ _ _ c.self.view_is c.self.invariant.3 c.args.next c.if-top-eq0.true

pub index-layer-requires : goal.index-layer-requires
index-layer-requires c =
    omega (arith, (opens_top c.self.inside.log.items (map cell_slot c.self.inside.cells.items) c.self.inside.region c.self.inside.layers.items c.self.invariant.3 c.if-top-eq0.false).0, c.if-top-eq0.false, c.self.inside.layers.ok.0)

pub returns-then-not-is_ended-clause-stopped : goal.returns-then-not-is_ended-clause-stopped
returns-then-not-is_ended-clause-stopped c = stops_elsewhere _ _ _ _ _ _ _ c.self.view_is c.self.invariant.3 c.args.next c.index-layer.result.now c.index-layer.ensures c.if-top-eq0.false c.if-not-is_ended.ensures

pub leave-requires : goal.leave-requires
leave-requires c = is_open _ _ _ _ _ _ _ c.self.view_is c.self.invariant.3 c.args.next c.index-layer.result.now c.index-layer.ensures c.if-top-eq0.false

pub returns-in-Branch-clause-stopped : goal.returns-in-Branch-clause-stopped
returns-in-Branch-clause-stopped c = no_branch _ _ _ _ _ _ _ c.self.view_is c.self.invariant.3 c.args.next c.index-layer.result.now c.index-layer.ensures c.if-top-eq0.false c.in-Branch.is

pub returns-in-Atom-clause-stopped : goal.returns-in-Atom-clause-stopped
returns-in-Atom-clause-stopped c =
    subst (λ (h : Held). Stops On c.args.next c.args.self.now (within_at c.args.next c.index-layer.result.now.limit h.now) h.frames) (sym c.self-2.view_is)
    (stops_atom _ _ _ _ _ _ _ c.self.view_is c.self.invariant.3 c.args.next c.index-layer.result.now c.index-layer.ensures c.if-top-eq0.false c.leave.new.self c.leave.ensures.now c.leave.ensures.left c.in-Atom.is)

pub returns-in-Condition-clause-stopped : goal.returns-in-Condition-clause-stopped
returns-in-Condition-clause-stopped c =
    subst (λ (h : Held). Stops On c.args.next c.args.self.now (within_at c.args.next c.index-layer.result.now.limit h.now) h.frames) (sym c.self-2.view_is)
    (stops_condition _ _ _ _ _ _ _ c.self.view_is c.self.invariant.3 c.args.next c.index-layer.result.now c.index-layer.ensures c.if-top-eq0.false c.leave.new.self c.leave.ensures.now c.leave.ensures.left c.in-Condition.is)

pub returns-in-Look-clause-stopped : goal.returns-in-Look-clause-stopped
returns-in-Look-clause-stopped c =
    let x = c.index-layer.result.now in
    subst (λ (h : Held). Stops On c.args.next c.args.self.now (within_at x.at x.limit (at_place x.at x.place h.now)) h.frames) (sym c.self-2.view_is)
    (stops_look _ _ _ _ _ _ _ c.self.view_is c.self.invariant.3 c.args.next c.index-layer.result.now c.index-layer.ensures c.if-top-eq0.false c.leave.new.self c.leave.ensures.now c.leave.ensures.left c.in-Look.field-0 c.if-not-is_ended.ensures c.in-Look.is)

pub returns-in-Denial-clause-stopped : goal.returns-in-Denial-clause-stopped
returns-in-Denial-clause-stopped c = stops_denial _ _ _ _ _ _ _ c.self.view_is c.self.invariant.3 c.args.next c.index-layer.result.now c.index-layer.ensures c.if-top-eq0.false c.leave.new.self c.leave.ensures.now c.leave.ensures.left c.in-Denial.field-0 c.if-not-is_ended.ensures c.in-Denial.is
