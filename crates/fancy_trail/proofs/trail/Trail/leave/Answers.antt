use Rattle.std.proofs.Common.{◌-◌, ◌≤◌, ◌∙◌, ℕ, List, ap, arith, drop, filter, map, take}
use Rattle.fancy_trail.specs.declared.layer.Layer.{Layer}
use Rattle.fancy_trail.specs.declared.log.Write.{Write}
use Rattle.fancy_trail.specs.Log.{cell_level, cell_slot, is_kept, lowered}
use Rattle.fancy_trail.specs.Layers.{frames_of, branches_in}
use Rattle.fancy_trail.proofs.RegionLemmas.{regions_take}
use Rattle.fancy_trail.proofs.TrailStops.{leaves_top, opened_within}
use Rattle.fancy_trail.proofs.WriteLemmas.{x_within, low_kept, left, unthinned, thinned_unwritten}
use Rattle.fancy_trail.proofs.trail.Trail.leave.Goals as goal

pub overflow_sub-len : goal.overflow_sub-len
overflow_sub-len c =
    omega (arith, (opened_within _ _ _ _ _ _ _ c.self.view_is c.self.invariant.3 c.requires).0)

pub index-lowest-requires : goal.index-lowest-requires
index-lowest-requires c =
    omega (arith, (opened_within _ _ _ _ _ _ _ c.self.view_is c.self.invariant.3 c.requires).1, c.self.inside.layers.ok.0)

pub cut-requires-clause-fits : goal.cut-requires-clause-fits
cut-requires-clause-fits c =
    omega (arith, (opened_within _ _ _ _ _ _ _ c.self.view_is c.self.invariant.3 c.requires).1, c.self.inside.layers.ok.0)

pub thin-requires-clause-fits : goal.thin-requires-clause-fits
thin-requires-clause-fits c =
    let within = opened_within _ _ _ _ _ _ _ c.self.view_is c.self.invariant.3 c.requires in
    omega (arith, c.self.inside.log.ok.0, x_within c.self.inside.layers.items c.self.inside.log.items c.self.inside.cells.items c.self.invariant.2 c.self.invariant.4 (c.self.inside.region - 1) c.index-lowest.result.now within.1 c.index-lowest.ensures)

pub thin-requires-clause-low : goal.thin-requires-clause-low
thin-requires-clause-low c =
    let within = opened_within _ _ _ _ _ _ _ c.self.view_is c.self.invariant.3 c.requires in
    rw (c.cut.ensures.counted, c.cut.ensures.kept) (low_kept c.self.inside.layers.items c.self.inside.log.items c.self.inside.cells.items c.self.invariant.2 c.self.invariant.4 (c.self.inside.region - 1) c.index-lowest.result.now within.1 c.index-lowest.ensures)

pub invariant_of-self : goal.invariant_of-self
invariant_of-self c =
    let within = opened_within _ _ _ _ _ _ _ c.self.view_is c.self.invariant.3 c.requires in
    let b = c.cut.ensures.counted ∙ ap branches_in c.cut.ensures.kept in
    let log = c.thin.ensures.log ∙ ap (λ (n : ℕ). filter (is_kept n) c.self.inside.log.items) b in
    let l = left c.self.inside.layers.items c.self.inside.log.items c.self.inside.cells.items c.self.invariant.2 c.self.invariant.4 (c.self.inside.region - 1) c.index-lowest.result.now within.1 c.index-lowest.ensures c.thin.new.cells.items c.thin.ensures.slots
    (c.thin.ensures.levels ∙ ap (λ (n : ℕ). lowered n (map cell_level c.self.inside.cells.items) (drop c.index-lowest.result.now.log c.self.inside.log.items)) b) in (
      c.cut.ensures.counted,
      omega (arith, c.cut.ensures.fewer, c.self.invariant.1),
      rw (c.cut.ensures.kept, log) l.0,
      rw c.cut.ensures.kept (regions_take 0 0 (c.self.inside.region - 1) c.self.inside.region c.self.inside.layers.items c.index-lowest.result.now within.1 c.index-lowest.ensures c.self.invariant.3),
      rw (c.cut.ensures.kept, log) l.1,
      λ e. thinned_unwritten _ _ _ _ _ c.thin.ensures.log c.thin.ensures.slots (c.self.invariant.5 e),
    )

pub returns-then-self-saved-clause-left : goal.returns-then-self-saved-clause-left
returns-then-self-saved-clause-left c r rest h =
    let within = opened_within _ _ _ _ _ _ _ c.self.view_is c.self.invariant.3 c.requires in
    let b = c.cut.ensures.counted ∙ ap branches_in c.cut.ensures.kept in
    let log = c.thin.ensures.log ∙ ap (λ (n : ℕ). filter (is_kept n) c.self.inside.log.items) b in
    let l = left c.self.inside.layers.items c.self.inside.log.items c.self.inside.cells.items c.self.invariant.2 c.self.invariant.4 (c.self.inside.region - 1) c.index-lowest.result.now within.1 c.index-lowest.ensures c.thin.new.cells.items c.thin.ensures.slots
    (c.thin.ensures.levels ∙ ap (λ (n : ℕ). lowered n (map cell_level c.self.inside.cells.items) (drop c.index-lowest.result.now.log c.self.inside.log.items)) b) in
    ap (λ (ls : List Layer). frames_of c.thin.new.log.items (map cell_slot c.thin.new.cells.items) ls) c.cut.ensures.kept
    ∙ ap (λ (ws : List Write). frames_of ws (map cell_slot c.thin.new.cells.items) (take (c.self.inside.region - 1) c.self.inside.layers.items)) log ∙ l.2
    ∙ leaves_top _ _ _ _ _ _ _ c.self.view_is c.self.invariant.3 c.requires c.index-lowest.result.now c.index-lowest.ensures r rest h

pub invariant_of-self-else-self-saved : goal.invariant_of-self-else-self-saved
invariant_of-self-else-self-saved c =
    let within = opened_within _ _ _ _ _ _ _ c.self.view_is c.self.invariant.3 c.requires in
    let ls = c.self.inside.layers.items in
    let none : branches_in ls ≤ branches_in (take (c.self.inside.region - 1) ls) = omega (arith, c.if-self-saved.false, c.cut.ensures.counted, ap branches_in c.cut.ensures.kept, c.self.invariant.0) in
    let l = unthinned ls c.self.inside.log.items c.self.inside.cells.items c.self.invariant.2 c.self.invariant.4 (c.self.inside.region - 1) c.index-lowest.result.now within.1 c.index-lowest.ensures none in (
      c.cut.ensures.counted,
      omega (arith, c.cut.ensures.fewer, c.self.invariant.1),
      rw c.cut.ensures.kept l.0,
      rw c.cut.ensures.kept (regions_take 0 0 (c.self.inside.region - 1) c.self.inside.region ls c.index-lowest.result.now within.1 c.index-lowest.ensures c.self.invariant.3),
      rw c.cut.ensures.kept l.1,
      c.self.invariant.5,
    )

pub returns-else-self-saved-clause-left : goal.returns-else-self-saved-clause-left
returns-else-self-saved-clause-left c r rest h =
    ap (λ (ls : List Layer). frames_of c.self.inside.log.items (map cell_slot c.self.inside.cells.items) ls) c.cut.ensures.kept
    ∙ leaves_top _ _ _ _ _ _ _ c.self.view_is c.self.invariant.3 c.requires c.index-lowest.result.now c.index-lowest.ensures r rest h
