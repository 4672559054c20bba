use Rattle.std.proofs.Common.{◌∷◌, ◌∙◌, ap, arith, map, refl}
use Rattle.fancy_trail.specs.Log.{cell_slot}
use Rattle.fancy_trail.specs.declared.layer.Layer.{Layer}
use Rattle.fancy_trail.specs.Frames.{Held}
use Rattle.fancy_trail.specs.Layers.{frame_by}
use Rattle.fancy_trail.specs.Ways.{at_instr}
use Rattle.fancy_trail.proofs.LayerLemmas.{alone, counted_snoc, frames_made}
use Rattle.fancy_trail.proofs.RegionLemmas.{pushed}
use Rattle.fancy_trail.proofs.WriteLemmas.{saved_log}
use Rattle.fancy_trail.proofs.trail.Trail.enter.Goals as goal

pub invariant_of-self-2 : goal.invariant_of-self-2
invariant_of-self-2 c =
    let l : Layer = record { kind = c.args.kind; by = c.self.inside.at; at = c.args.at; from = c.self.inside.place; place = c.self.inside.place; kept = c.self.inside.kept; limit = c.self.inside.limit; log = c.len.result; region = c.self.inside.region } in
    let p = pushed _ _ c.len-2.result c.self.inside.layers.items c.put_layer.new.layers.items l c.in_ok-put_layer.ensures.items c.self.invariant.2 c.self.invariant.3 (omega (arith, c.len.ensures, c.self.inside.log.ok.0)) refl (omega (arith, c.len-2.ensures)) in (
      omega (arith, c.self.invariant.0, counted_snoc _ _ l c.in_ok-put_layer.ensures.items, alone l refl, c.requires),
      c.self.invariant.1,
      p.0,
      rw c.region_by-self-inside.ensures p.1,
      saved_log c.self.inside.layers.items c.self.inside.log.items c.self.inside.cells.items c.self.invariant.2 c.self.invariant.4 c.put_layer.new.layers.items l c.in_ok-put_layer.ensures.items (omega (arith, c.len.ensures, c.self.inside.log.ok.0)),
      c.self.invariant.5,
    )

pub returns : goal.returns
returns c =
    let l : Layer = record { kind = c.args.kind; by = c.self.inside.at; at = c.args.at; from = c.self.inside.place; place = c.self.inside.place; kept = c.self.inside.kept; limit = c.self.inside.limit; log = c.len.result; region = c.self.inside.region } in
    let laid = frames_made c.self.inside.log.items (map cell_slot c.self.inside.cells.items) c.self.inside.layers.items c.put_layer.new.layers.items l 0 c.in_ok-put_layer.ensures.items (omega (arith, c.len.ensures, c.self.inside.log.ok.0)) (alone l refl)
    ∙ ap (λ (h : Held). frame_by c.args.kind (at_instr c.args.at h.now) ∷ h.frames) c.self.view_is in
    record { now = ap (λ (h : Held). h.now) c.self.view_is; laid = laid; most = ap (λ (h : Held). h.most) c.self.view_is }
