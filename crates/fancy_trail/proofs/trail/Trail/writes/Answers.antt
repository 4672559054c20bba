use Rattle.std.proofs.Common.{◌≡◌, ◌≤◌, ℕ, arith, length, map, subst, sym}
use Rattle.std.proofs.lemmas.List.{length-map}
use Rattle.std.proofs.Math.Nat.{mul-le-mul_right}
use Rattle.fancy_code.specs.Thread.{slot_span}
use Rattle.fancy_trail.specs.Frames.{Held, saved}
use Rattle.fancy_trail.specs.Log.{cell_slot, writes_allowed}
use Rattle.fancy_trail.specs.Layers.{branches_in}
use Rattle.fancy_trail.proofs.LayerLemmas.{saved_frames}
use Rattle.fancy_trail.proofs.WriteLemmas.{few}
use Rattle.fancy_trail.proofs.trail.Trail.writes.Goals as goal

pub returns-clause-few : goal.returns-clause-few
returns-clause-few c =
    let log = c.self.inside.log.items in
    let slots = map cell_slot c.self.inside.cells.items in
    let ls = c.self.inside.layers.items in
    let count : length (map slot_span slots) ≡ length c.self.inside.cells.items = omega (arith, length-map slots slot_span, length-map c.self.inside.cells.items cell_slot) in
    let le = subst (λ (n : ℕ). length log ≤ writes_allowed (branches_in ls) n) (sym count) (few ls log c.self.inside.cells.items c.self.invariant.4) in
    subst (λ (h : Held). c.len.result ≤ writes_allowed (saved h.frames) (length h.now.state.captures)) c.self.view_is
    (subst (λ (n : ℕ). c.len.result ≤ writes_allowed n (length (map slot_span slots))) (sym (saved_frames log slots ls)) (omega (arith, le, c.len.ensures, c.self.inside.log.ok.0)))

pub returns-clause-bounded : goal.returns-clause-bounded
returns-clause-bounded c =
    let log = c.self.inside.log.items in
    let slots = map cell_slot c.self.inside.cells.items in
    let ls = c.self.inside.layers.items in
    let count : length (map slot_span slots) ≡ length c.self.inside.cells.items = omega (arith, length-map slots slot_span, length-map c.self.inside.cells.items cell_slot) in
    let le = subst (λ (n : ℕ). length log ≤ writes_allowed (branches_in ls) n) (sym count) (few ls log c.self.inside.cells.items c.self.invariant.4) in
    let most = mul-le-mul_right (length (map slot_span slots)) (subst (λ (n : ℕ). n ≤ c.self.inside.most) c.self.invariant.0 c.self.invariant.1) in
    subst (λ (h : Held). c.len.result ≤ writes_allowed h.most (length h.now.state.captures)) c.self.view_is (omega (arith, le, most, c.len.ensures, c.self.inside.log.ok.0))
