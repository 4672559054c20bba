use Rattle.std.proofs.Common.{◌<◌, ◌∙◌, ap, arith, length, length-append, map, refl, sym, true≢false}
use Rattle.std.proofs.lemmas.List.{get_or_read, get_or-map, map-set}
use Rattle.fancy_code.specs.Thread.{empty_slot}
use Rattle.fancy_trail.specs.declared.log.Cell.{Cell}
use Rattle.fancy_trail.specs.declared.log.Write.{Write}
use Rattle.fancy_trail.specs.Frames.{Held}
use Rattle.fancy_trail.specs.Log.{cell_slot, empty_cell}
use Rattle.fancy_trail.specs.Ways.{written}
use Rattle.fancy_trail.proofs.LayerLemmas.{frames_write, rises_more, written_spot}
use Rattle.fancy_trail.proofs.WriteLemmas.{logged, unlogged}
use Rattle.fancy_trail.proofs.trail.Trail.write.Goals as goal

pub invariant_of-self : goal.invariant_of-self
invariant_of-self c =
    let lt : c.args.group < length c.self.inside.cells.items = omega (arith, c.if-group-len.false, c.self.inside.cells.ok.0) in
    let new : Cell = record { slot = c.args.slot; level = c.index-old.result.now.level } in
    let old = get_or_read c.self.inside.cells.items c.args.group c.index-old.result.now lt c.index-old.ensures empty_cell in (
      c.self.invariant.0,
      c.self.invariant.1,
      c.self.invariant.2,
      c.self.invariant.3,
      (unlogged c.self.inside.layers.items c.self.inside.log.items c.self.inside.cells.items c.self.invariant.2 c.self.invariant.4 c.args.group c.index-old.result.now lt old new refl (omega (arith, c.if-old-self.true, c.self.invariant.0))).0,
      λ e. absurd (true≢false e),
    )

pub returns-then-old-self : goal.returns-then-old-self
returns-then-old-self c =
    let lt : c.args.group < length c.self.inside.cells.items = omega (arith, c.if-group-len.false, c.self.inside.cells.ok.0) in
    let new : Cell = record { slot = c.args.slot; level = c.index-old.result.now.level } in
    let old = get_or_read c.self.inside.cells.items c.args.group c.index-old.result.now lt c.index-old.ensures empty_cell in
    let same = unlogged c.self.inside.layers.items c.self.inside.log.items c.self.inside.cells.items c.self.invariant.2 c.self.invariant.4 c.args.group c.index-old.result.now lt old new refl (omega (arith, c.if-old-self.true, c.self.invariant.0)) in
    record {
      now = written_spot _ _ _ _ c.args.group c.self.inside.cells.items _ ∙ ap (λ (h : Held). written c.args.group c.args.slot h.now) c.self.view_is;
      frames = same.1 ∙ ap (λ (h : Held). h.frames) c.self.view_is;
      most = ap (λ (h : Held). h.most) c.self.view_is;
    }

pub invariant_of-self-2 : goal.invariant_of-self-2
invariant_of-self-2 c =
    let lt : c.args.group < length c.self.inside.cells.items = omega (arith, c.if-group-len.false, c.self.inside.cells.ok.0) in
    let new : Cell = record { slot = c.args.slot; level = c.self.inside.branches } in
    let old = get_or_read c.self.inside.cells.items c.args.group c.index-old.result.now lt c.index-old.ensures empty_cell in (
      c.self.invariant.0,
      c.self.invariant.1,
      rises_more 0 (length c.self.inside.log.items) _ c.self.inside.layers.items (omega (arith, ap length c.in_ok-put_write.ensures.items, length-append {A = Write})) c.self.invariant.2,
      c.self.invariant.3,
      rw c.in_ok-put_write.ensures.items (logged c.self.inside.layers.items c.self.inside.log.items c.self.inside.cells.items c.self.invariant.2 c.self.invariant.4 c.args.group c.index-old.result.now lt old new _ c.self.invariant.0 refl (omega (arith, c.if-old-self.false, c.self.invariant.0))),
      λ e. absurd (true≢false e),
    )

pub returns : goal.returns
returns c =
    let lt : c.args.group < length c.self.inside.cells.items = omega (arith, c.if-group-len.false, c.self.inside.cells.ok.0) in
    let w : Write = record { group = c.args.group; old = c.index-old.result.now } in
    let old = get_or_read c.self.inside.cells.items c.args.group c.index-old.result.now lt c.index-old.ensures empty_cell in
    let frames = frames_write (map cell_slot c.self.inside.cells.items) c.self.inside.log.items c.self.inside.layers.items w c.args.slot c.self.invariant.2
    (ap cell_slot old ∙ sym (get_or-map cell_slot c.self.inside.cells.items c.args.group empty_cell empty_slot lt)) in
    record {
      now = written_spot _ _ _ _ c.args.group c.self.inside.cells.items _ ∙ ap (λ (h : Held). written c.args.group c.args.slot h.now) c.self.view_is;
      frames = rw (c.in_ok-put_write.ensures.items, map-set) (frames ∙ ap (λ (h : Held). h.frames) c.self.view_is);
      most = ap (λ (h : Held). h.most) c.self.view_is;
    }
