use Rattle.std.proofs.Common.{◌≡◌, ◌∙◌, List, ◌∷◌, length, map, drop, arith, ap, ap₂, sym, subst}
use Rattle.fancy_code.specs.declared.slot.Slot.{Slot}
use Rattle.fancy_trail.specs.declared.log.Write.{Write}
use Rattle.fancy_input.specs.Work.{returns_of, went_back}
use Rattle.fancy_trail.specs.Frames.{Spot, Frame}
use Rattle.fancy_trail.specs.Layers.{spot_of, spot_at, frame_by, frames_of}
use Rattle.fancy_trail.specs.Ways.{IsSpent, Takes}
use Rattle.fancy_trail.proofs.LayerLemmas.{saves_one, saves_none, took_branches, took_frames, took_rises, rises_more, frames_undone, takes_by, takes_past, spent_past, unspent_by, unspent_past}
use Rattle.fancy_trail.specs.Log.{cell_slot, old_cell, old_slot, undone_by}
use Rattle.fancy_trail.proofs.LogLemmas.{undone-map}
use Rattle.fancy_trail.proofs.RegionLemmas.{took_regions}
use Rattle.fancy_trail.proofs.WriteLemmas.{unsaved_log}
use Rattle.fancy_trail.proofs.DropLemmas.{popped}
use Rattle.fancy_trail.proofs.trail.Trail.back.Goals as goal

pub layers-preserved : goal.layers-preserved
layers-preserved c =
    let l = c.in-Some.layer in
    let log = c.layers.self-inside.log.items in
    let slots = map cell_slot c.layers.self-inside.cells.items in
    let rest = c.take_last.new.layers.items in
    let e : frames_of log slots c.layers.self-inside.layers.items ≡ frame_by l.kind (spot_at log slots l) ∷ frames_of log slots rest = took_frames c.layers.self-inside.layers.items rest l c.in-Some.ensures log slots in
    let r = took_rises c.layers.self-inside.layers.items rest l c.in-Some.ensures (length log) c.layers.invariant.rises in
    record {
      branches = omega (arith, c.layers.invariant.branches, took_branches c.layers.self-inside.layers.items rest l c.in-Some.ensures, saves_none l.kind c.if-not-is_saved.ensures);
      few = c.layers.invariant.few;
      rises = rises_more 0 l.log (length log) rest r.1 r.0;
      knows = took_regions c.layers.self-inside.layers.items rest l _ c.in-Some.ensures c.layers.invariant.knows;
      unwritten = c.layers.invariant.unwritten;
      logged = unsaved_log c.layers.self-inside.layers.items rest l c.in-Some.ensures log c.layers.self-inside.cells.items c.layers.invariant.logged (saves_none l.kind c.if-not-is_saved.ensures);
      most = c.layers.invariant.most;
      work = c.layers.invariant.work;
      takes = λ y more t. c.layers.invariant.takes y more (subst (λ (fs : List Frame). Takes fs y more) (sym e) (takes_past l.kind (spot_at log slots l) y _ more c.if-not-is_saved.ensures t));
      spent = λ t. c.layers.invariant.spent (subst IsSpent (sym e) (spent_past l.kind (spot_at log slots l) _ c.if-not-is_saved.ensures t));
      unspent = λ t. unspent_past l.kind (spot_at log slots l) _ c.if-not-is_saved.ensures (subst IsSpent e (c.layers.invariant.unspent t));
    }

pub overflow_sub-self : goal.overflow_sub-self
overflow_sub-self c =
    omega (arith, c.layers.invariant.branches, took_branches c.layers.self-inside.layers.items c.take_last.new.layers.items c.in-Some.layer c.in-Some.ensures, saves_one c.in-Some.layer.kind c.if-not-is_saved.ensures)

pub undo-requires : goal.undo-requires
undo-requires c =
    let l = c.in-Some.layer in
    let log = c.layers.self-inside.log.items in
    let r = took_rises c.layers.self-inside.layers.items c.take_last.new.layers.items l c.in-Some.ensures (length log) c.layers.invariant.rises in
    omega (arith, r.1, c.layers.self-inside.log.ok.0)

pub invariant_of-self : goal.invariant_of-self
invariant_of-self c =
    let i = c.layers.invariant in
    rw c.in_default.ensures.1 (i.branches, i.few, i.rises, i.knows, i.logged, i.unwritten)

pub returns-then-returns-limit-clause-took : goal.returns-then-returns-limit-clause-took
returns-then-returns-limit-clause-took c =
    let l = c.in-Some.layer in
    let i = c.layers.invariant in
    let log = c.layers.self-inside.log.items in
    let slots = map cell_slot c.layers.self-inside.cells.items in
    let rest = c.take_last.new.layers.items in
    let e : frames_of log slots c.layers.self-inside.layers.items ≡ frame_by l.kind (spot_at log slots l) ∷ frames_of log slots rest = took_frames c.layers.self-inside.layers.items rest l c.in-Some.ensures log slots in (
      λ t. unspent_by l.kind (spot_at log slots l) (frames_of log slots rest) c.if-not-is_saved.ensures (subst IsSpent e (i.unspent t)),
      omega (arith, c.requires, c.if-returns-limit.true, c.returns.ensures, ap returns_of i.work),
      i.work,
    )

pub invariant_of-self-then-returns-limit : goal.invariant_of-self-then-returns-limit
invariant_of-self-then-returns-limit c =
    let i = c.layers.invariant in
    popped _ _ _ _ _ _ c.in-Some.layer _ _ c.in-Some.ensures c.if-not-is_saved.ensures (i.branches, i.few, i.rises, i.knows, i.logged, i.unwritten) _ _ c.undo.ensures.log c.undo.ensures.cells

pub invariant_of-self-in-layers : goal.invariant_of-self-in-layers
invariant_of-self-in-layers c =
    let i = c.layers.invariant in
    popped _ _ _ _ _ _ c.in-Some.layer _ _ c.in-Some.ensures c.if-not-is_saved.ensures (i.branches, i.few, i.rises, i.knows, i.logged, i.unwritten) _ _ c.undo.ensures.log c.undo.ensures.cells

pub returns-in-layers-clause-took : goal.returns-in-layers-clause-took
returns-in-layers-clause-took c =
    let l = c.in-Some.layer in
    let log = c.layers.self-inside.log.items in
    let slots = map cell_slot c.layers.self-inside.cells.items in
    let rest = c.take_last.new.layers.items in
    let new = map cell_slot c.undo.new.cells.items in
    let r = took_rises c.layers.self-inside.layers.items rest l c.in-Some.ensures (length log) c.layers.invariant.rises in
    let e : frames_of log slots c.layers.self-inside.layers.items ≡ frame_by l.kind (spot_at log slots l) ∷ frames_of log slots rest = took_frames c.layers.self-inside.layers.items rest l c.in-Some.ensures log slots in
    let back : new ≡ undone_by old_slot slots (drop l.log log) = ap (map cell_slot) c.undo.ensures.cells ∙ undone-map cell_slot old_cell c.layers.self-inside.cells.items (drop l.log log) in
    let below : frames_of c.undo.new.log.items new rest ≡ frames_of log slots rest = ap₂ (λ (g : List Write) (s : List Slot). frames_of g s rest) c.undo.ensures.log back ∙ frames_undone slots log l.log rest r.0 r.1 in
    let here : spot_of l.at l.limit l.place l.kept new ≡ spot_at log slots l = ap (spot_of l.at l.limit l.place l.kept) back in (
      c.layers.invariant.takes _ _ (subst (λ (fs : List Frame). Takes fs (spot_of l.at l.limit l.place l.kept new) (frames_of c.undo.new.log.items new rest)) (sym e)
          (subst (λ (y : Spot). Takes (frame_by l.kind (spot_at log slots l) ∷ frames_of log slots rest) y (frames_of c.undo.new.log.items new rest)) (sym here)
          (subst (λ (fs : List Frame). Takes (frame_by l.kind (spot_at log slots l) ∷ frames_of log slots rest) (spot_at log slots l) fs) (sym below)
          (takes_by l.kind (spot_at log slots l) (frames_of log slots rest) c.if-not-is_saved.ensures)))),
      c.layers.invariant.most,
      c.count_return.ensures ∙ ap went_back c.layers.invariant.work,
      omega (arith, c.if-returns-limit.false, c.returns.ensures, ap returns_of c.layers.invariant.work),
    )
