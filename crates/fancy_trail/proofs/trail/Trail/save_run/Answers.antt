use Rattle.std.proofs.Common.{◌≡◌, ◌+◌, ◌-◌, ◌∙◌, ap, arith, map, refl, rules, sym}
use Rattle.fancy_trail.specs.declared.layer.Layer.{Layer}
use Rattle.fancy_trail.specs.Log.{cell_slot}
use Rattle.fancy_trail.specs.Frames.{Held}
use Rattle.fancy_trail.specs.Layers.{earlier, spot_of, frames_of}
use Rattle.fancy_trail.specs.Ways.{saved_run}
use Rattle.fancy_trail.proofs.LayerLemmas.{counted_snoc, frames_made, run_frames, saved_frames}
use Rattle.fancy_trail.proofs.RegionLemmas.{pushed}
use Rattle.fancy_trail.proofs.RoomLemmas.{room}
use Rattle.fancy_trail.proofs.WriteLemmas.{saved_log}
use Rattle.fancy_trail.specs.declared.layer.Kind.TheVariants as k
use Rattle.fancy_trail.proofs.trail.Trail.save_run.Goals as goal

pub overflow_add-self : goal.overflow_add-self
overflow_add-self c =
    let n = saved_frames c.self.inside.log.items (map cell_slot c.self.inside.cells.items) c.self.inside.layers.items in
    omega (arith, room _ c.args.self.now c.args.count _ c.self.view_is (n ∙ sym c.self.invariant.0) (c.if-not-has_room_for.ensures.0 refl), c.self.ranges)

pub invariant_of-self-2 : goal.invariant_of-self-2
invariant_of-self-2 c =
    let l : Layer = record { kind = k.Branch; by = c.self.inside.at; at = c.args.at; from = c.args.from; place = c.args.from + (c.args.count - 1); kept = c.self.inside.kept; limit = c.self.inside.limit; log = c.len.result; region = c.self.inside.region } in
    let n = saved_frames c.self.inside.log.items (map cell_slot c.self.inside.cells.items) c.self.inside.layers.items in
    let p = pushed _ _ _ c.self.inside.layers.items c.put_layer.new.layers.items l c.in_ok-put_layer.ensures.items c.self.invariant.2 c.self.invariant.3 (omega (arith, c.len.ensures, c.self.inside.log.ok.0)) refl refl in (
      omega (arith, c.self.invariant.0, counted_snoc _ _ l c.in_ok-put_layer.ensures.items, c.if-count-eq0.false),
      room _ c.args.self.now c.args.count _ c.self.view_is (n ∙ sym c.self.invariant.0) (c.if-not-has_room_for.ensures.0 refl),
      p.0,
      p.1,
      saved_log c.self.inside.layers.items c.self.inside.log.items c.self.inside.cells.items c.self.invariant.2 c.self.invariant.4 c.put_layer.new.layers.items l c.in_ok-put_layer.ensures.items (omega (arith, c.len.ensures, c.self.inside.log.ok.0)),
      c.self.invariant.5,
    )

pub returns : goal.returns
returns c =
    let l : Layer = record { kind = k.Branch; by = c.self.inside.at; at = c.args.at; from = c.args.from; place = c.args.from + (c.args.count - 1); kept = c.self.inside.kept; limit = c.self.inside.limit; log = c.len.result; region = c.self.inside.region } in
    let slots = map cell_slot c.self.inside.cells.items in
    let below = frames_of c.self.inside.log.items slots c.self.inside.layers.items in
    let run : earlier l ≡ c.args.count - 1 = omega arith in
    let laid = frames_made c.self.inside.log.items slots c.self.inside.layers.items c.put_layer.new.layers.items l (c.args.count - 1) c.in_ok-put_layer.ensures.items (omega (arith, c.len.ensures, c.self.inside.log.ok.0)) run
    ∙ run_frames c.args.at c.args.from c.args.count (c.args.count - 1) (spot_of c.self.inside.at c.self.inside.limit c.self.inside.place c.self.inside.kept slots) below (omega (arith, c.if-count-eq0.false))
    ∙ ap (λ (h : Held). saved_run c.args.at c.args.from c.args.count h.now h.frames) c.self.view_is in
    record { now = ap (λ (h : Held). h.now) c.self.view_is; laid = laid; refused = search rules; unlimited = search rules; full = search rules; most = ap (λ (h : Held). h.most) c.self.view_is }
