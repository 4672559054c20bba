use Rattle.std.proofs.Common.{◌≡◌, List, [], ◌∷◌, ◌++◌, ◌∙◌, ap, arith, length, map, refl, rules, sym}
use Rattle.fancy_trail.specs.declared.layer.Layer.{Layer}
use Rattle.fancy_trail.specs.Log.{cell_slot}
use Rattle.fancy_trail.specs.Ways.{saved_ways}
use Rattle.fancy_trail.specs.Frames.{Frame, Held}
use Rattle.fancy_trail.specs.Layers.{frame_by, spot_of}
use Rattle.fancy_trail.proofs.LayerLemmas.{alone, counted_snoc, frames_made, saved_frames}
use Rattle.fancy_trail.proofs.RegionLemmas.{pushed}
use Rattle.fancy_trail.proofs.RoomLemmas.{room}
use Rattle.fancy_trail.proofs.WriteLemmas.{saved_log}
use Rattle.fancy_trail.specs.declared.layer.Kind.TheVariants as k
use Rattle.fancy_trail.proofs.trail.Trail.save_two.Goals as goal

pub overflow_add-self : goal.overflow_add-self
overflow_add-self c =
    let n = saved_frames c.self.inside.log.items (map cell_slot c.self.inside.cells.items) c.self.inside.layers.items in
    omega (arith, room _ c.args.self.now 2 _ c.self.view_is (n ∙ sym c.self.invariant.0) (c.if-not-has_room_for.ensures.0 refl), c.self.ranges)

pub invariant_of-self-2 : goal.invariant_of-self-2
invariant_of-self-2 c =
    let lower : Layer = record { kind = k.Branch; by = c.self.inside.at; at = c.args.outer; from = c.self.inside.place; place = c.self.inside.place; kept = c.self.inside.kept; limit = c.self.inside.limit; log = c.len.result; region = c.self.inside.region } in
    let upper : Layer = record lower { at = c.args.inner } in
    let all = c.put_two.new.layers.items in
    let below : List Layer = c.self.inside.layers.items ++ lower ∷ [] in
    let n = saved_frames c.self.inside.log.items (map cell_slot c.self.inside.cells.items) c.self.inside.layers.items in
    let made : c.len.result ≡ length c.self.inside.log.items = omega (arith, c.len.ensures, c.self.inside.log.ok.0) in
    let p = pushed _ _ _ c.self.inside.layers.items below lower refl c.self.invariant.2 c.self.invariant.3 made refl refl in
    let q = pushed _ _ _ below all upper c.in_ok-put_two.ensures.items p.0 p.1 made refl refl in
    let logged = saved_log c.self.inside.layers.items c.self.inside.log.items c.self.inside.cells.items c.self.invariant.2 c.self.invariant.4 below lower refl made in (
      omega (arith, c.self.invariant.0, counted_snoc _ _ upper c.in_ok-put_two.ensures.items, counted_snoc _ below lower refl, alone lower refl, alone upper refl),
      room _ c.args.self.now 2 _ c.self.view_is (n ∙ sym c.self.invariant.0) (c.if-not-has_room_for.ensures.0 refl),
      q.0,
      q.1,
      saved_log below c.self.inside.log.items c.self.inside.cells.items p.0 logged all upper c.in_ok-put_two.ensures.items made,
      c.self.invariant.5,
    )

pub returns : goal.returns
returns c =
    let lower : Layer = record { kind = k.Branch; by = c.self.inside.at; at = c.args.outer; from = c.self.inside.place; place = c.self.inside.place; kept = c.self.inside.kept; limit = c.self.inside.limit; log = c.len.result; region = c.self.inside.region } in
    let upper : Layer = record lower { at = c.args.inner } in
    let below : List Layer = c.self.inside.layers.items ++ lower ∷ [] in
    let slots = map cell_slot c.self.inside.cells.items in
    let made : c.len.result ≡ length c.self.inside.log.items = omega (arith, c.len.ensures, c.self.inside.log.ok.0) in
    let laid = frames_made c.self.inside.log.items slots below c.put_two.new.layers.items upper 0 c.in_ok-put_two.ensures.items made (alone upper refl)
    ∙ ap (λ (fs : List Frame). frame_by k.Branch (spot_of c.args.inner c.self.inside.limit c.self.inside.place c.self.inside.kept slots) ∷ fs) (frames_made c.self.inside.log.items slots c.self.inside.layers.items below lower 0 refl made (alone lower refl))
    ∙ ap (λ (h : Held). saved_ways (c.args.outer ∷ c.args.inner ∷ []) h.now h.frames) c.self.view_is in
    record { now = ap (λ (h : Held). h.now) c.self.view_is; laid = laid; refused = search rules; unlimited = search rules; full = search rules; most = ap (λ (h : Held). h.most) c.self.view_is }
