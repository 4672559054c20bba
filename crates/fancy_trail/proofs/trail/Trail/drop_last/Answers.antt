use Rattle.std.proofs.Common.{◌≡◌, ◌+◌, ◌-◌, ◌<◌, ◌≤◌, ◌++◌, ℕ, suc, List, take, length, map, set, ◌∙◌, refl, sym, ap, subst, arith, rules}
use Rattle.std.proofs.lemmas.List.{get_or_default}
use Rattle.fancy_trail.specs.declared.layer.Kind.TheVariants as k
use Rattle.fancy_trail.specs.declared.layer.Layer.{Layer}
use Rattle.fancy_trail.specs.Frames.{Frame, Held}
use Rattle.fancy_trail.specs.Layers.{frames_of, less_one, earlier}
use Rattle.fancy_trail.specs.Log.{cell_slot}
use Rattle.fancy_trail.specs.Ways.{SavedOn}
use Rattle.fancy_trail.proofs.DropLemmas.{Fits, left_some, left_none, fits_left, drops_left, run_branches}
use Rattle.fancy_trail.proofs.LayerLemmas.{last_set, took_rises}
use Rattle.fancy_trail.proofs.trail.Trail.drop_last.Goals as goal

pub undo-requires : goal.undo-requires
undo-requires c =
    let l = c.index.result.now in
    let below = last_set (c.len-len.result - 1) c.self.inside.layers.items l l (omega (arith, c.len-len.ensures, c.if-len-eq0.false, c.self.inside.layers.ok.0)) c.index.ensures in
    let r = took_rises c.self.inside.layers.items (take (c.len-len.result - 1) c.self.inside.layers.items ++ less_one l) l (take (c.len-len.result - 1) c.self.inside.layers.items, below.0, refl) (length c.self.inside.log.items) c.self.invariant.2 in
    omega (arith, r.1, c.self.inside.log.ok.0)

pub overflow_sub-self : goal.overflow_sub-self
overflow_sub-self c =
    let l = c.index.result.now in
    let below = last_set (c.len-len.result - 1) c.self.inside.layers.items l l (omega (arith, c.len-len.ensures, c.if-len-eq0.false, c.self.inside.layers.ok.0)) c.index.ensures in
    let kind : l.kind ≡ k.Branch = search rules in
    let many = run_branches c.self.inside.layers.items _ l below.0 kind in
    omega (arith, many, c.self.invariant.0, c.if-count-earlier.true, c.earlier-earlier.ensures)

pub overflow_sub-self-2 : goal.overflow_sub-self-2
overflow_sub-self-2 c =
    let l = c.index.result.now in
    let below = last_set (c.len-len.result - 1) c.self.inside.layers.items l l (omega (arith, c.len-len.ensures, c.if-len-eq0.false, c.self.inside.layers.ok.0)) c.index.ensures in
    let kind : l.kind ≡ k.Branch = search rules in
    let many = run_branches c.self.inside.layers.items _ l below.0 kind in
    omega (arith, many, c.self.invariant.0, c.earlier-earlier.ensures)

pub invariant_of-self : goal.invariant_of-self
invariant_of-self c =
    let all = c.self.inside.layers.items in
    let l = c.index.result.now in
    let n = c.args.count in
    let i = c.len-len.result - 1 in
    let len : length all ≡ suc i = omega (arith, c.len-len.ensures, c.if-len-eq0.false, c.self.inside.layers.ok.0) in
    let some : 0 < n = omega (arith, c.if-count-eq0.false) in
    let le : n ≤ earlier l = omega (arith, c.if-count-earlier.true, c.earlier-earlier.ensures) in
    let few : n ≤ earlier l + 1 = omega (arith, le) in
    let kind : l.kind ≡ k.Branch = search rules in
    let same : l ≡ c.index_mut.result.now = c.index.ensures ∙ get_or_default all i l c.index_mut.result.now (omega (arith, len)) ∙ sym c.index_mut.ensures.value in
    subst (λ (x : Layer). Fits (c.self.inside.branches - n) c.self.inside.most l.region c.self.inside.written (set all i (record x { place = l.place - n })) c.undo.new.log.items c.undo.new.cells.items) same
    (fits_left all l i n len c.index.ensures some few kind _ _ _ _ c.self.inside.log.items c.self.inside.cells.items c.self.invariant
    c.undo.new.log.items c.undo.new.cells.items c.undo.ensures.log c.undo.ensures.cells _
    (left_some all l i n len c.index.ensures some few kind _ le refl))

pub invariant_of-self-2 : goal.invariant_of-self-2
invariant_of-self-2 c =
    let all = c.self.inside.layers.items in
    let l = c.index.result.now in
    let n = earlier l + 1 in
    let i = c.len-len.result - 1 in
    let len : length all ≡ suc i = omega (arith, c.len-len.ensures, c.if-len-eq0.false, c.self.inside.layers.ok.0) in
    let some : 0 < n = omega arith in
    let few : n ≤ earlier l + 1 = omega arith in
    let kind : l.kind ≡ k.Branch = search rules in
    let told : c.earlier-earlier.result + 1 ≡ n = omega (arith, c.earlier-earlier.ensures) in
    rw told
    (fits_left all l i n len c.index.ensures some few kind _ _ _ _ c.self.inside.log.items c.self.inside.cells.items c.self.invariant
    c.undo.new.log.items c.undo.new.cells.items c.undo.ensures.log c.undo.ensures.cells _
    (left_none all l i n len c.index.ensures some few kind _ (omega arith) (c.pop.ensures.rest ∙ ap (λ (j : ℕ). take (j - 1) all) (sym c.len-len.ensures))))

pub returns-then-count-earlier-clause-dropped : goal.returns-then-count-earlier-clause-dropped
returns-then-count-earlier-clause-dropped c =
    let all = c.self.inside.layers.items in
    let l = c.index.result.now in
    let n = c.args.count in
    let i = c.len-len.result - 1 in
    let len : length all ≡ suc i = omega (arith, c.len-len.ensures, c.if-len-eq0.false, c.self.inside.layers.ok.0) in
    let some : 0 < n = omega (arith, c.if-count-eq0.false) in
    let le : n ≤ earlier l = omega (arith, c.if-count-earlier.true, c.earlier-earlier.ensures) in
    let few : n ≤ earlier l + 1 = omega (arith, le) in
    let kind : l.kind ≡ k.Branch = search rules in
    let same : l ≡ c.index_mut.result.now = c.index.ensures ∙ get_or_default all i l c.index_mut.result.now (omega (arith, len)) ∙ sym c.index_mut.ensures.value in
    subst (λ (x : Layer). SavedOn n c.args.self.now.frames (frames_of c.undo.new.log.items (map cell_slot c.undo.new.cells.items) (set all i (record x { place = l.place - n })))) same
    (subst (λ (fs : List Frame). SavedOn n fs (frames_of c.undo.new.log.items (map cell_slot c.undo.new.cells.items) (set all i (record l { place = l.place - n })))) (ap (λ (h : Held). h.frames) c.self.view_is)
    (drops_left all l i n len c.index.ensures some few kind _ _ _ _ c.self.inside.log.items c.self.inside.cells.items c.self.invariant
    c.undo.new.log.items c.undo.new.cells.items c.undo.ensures.log c.undo.ensures.cells _
    (left_some all l i n len c.index.ensures some few kind _ le refl)))

pub returns-clause-dropped : goal.returns-clause-dropped
returns-clause-dropped c =
    let all = c.self.inside.layers.items in
    let l = c.index.result.now in
    let n = earlier l + 1 in
    let i = c.len-len.result - 1 in
    let len : length all ≡ suc i = omega (arith, c.len-len.ensures, c.if-len-eq0.false, c.self.inside.layers.ok.0) in
    let some : 0 < n = omega arith in
    let few : n ≤ earlier l + 1 = omega arith in
    let kind : l.kind ≡ k.Branch = search rules in
    let told : c.earlier-earlier.result + 1 ≡ n = omega (arith, c.earlier-earlier.ensures) in
    rw told
    (subst (λ (fs : List Frame). SavedOn n fs (frames_of c.undo.new.log.items (map cell_slot c.undo.new.cells.items) c.pop.new.self.items)) (ap (λ (h : Held). h.frames) c.self.view_is)
    (drops_left all l i n len c.index.ensures some few kind _ _ _ _ c.self.inside.log.items c.self.inside.cells.items c.self.invariant
    c.undo.new.log.items c.undo.new.cells.items c.undo.ensures.log c.undo.ensures.cells _
    (left_none all l i n len c.index.ensures some few kind _ (omega arith) (c.pop.ensures.rest ∙ ap (λ (j : ℕ). take (j - 1) all) (sym c.len-len.ensures)))))
