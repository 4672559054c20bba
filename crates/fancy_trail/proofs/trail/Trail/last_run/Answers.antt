use Rattle.std.proofs.Common.{◌≡◌, ◌+◌, ◌-◌, ◌++◌, ℕ, suc, List, take, map, ap, subst, sym, arith, rules}
use Rattle.fancy_trail.specs.declared.layer.Layer.{Layer}
use Rattle.fancy_trail.specs.declared.layer.Kind.TheVariants as k
use Rattle.fancy_trail.specs.Frames.{Frame, Held}
use Rattle.fancy_trail.specs.Layers.{frames_of, earlier}
use Rattle.fancy_trail.specs.Log.{cell_slot}
use Rattle.fancy_trail.specs.Ways.{EndsInRun}
use Rattle.fancy_trail.proofs.DropLemmas.{rest_after, run_last, earlier_le}
use Rattle.fancy_trail.proofs.LayerLemmas.{last_set}
use Rattle.fancy_trail.proofs.trail.Trail.last_run.Goals as goal

pub returns : goal.returns
returns c =
    let all = c.self.inside.layers.items in
    let l = c.index.result.now in
    let i = c.len-len.result - 1 in
    let log = c.self.inside.log.items in
    let slots = map cell_slot c.self.inside.cells.items in
    let below = last_set i all l l (omega (arith, c.len-len.ensures, c.if-len-eq0.false, c.self.inside.layers.ok.0)) c.index.ensures in
    let kind : l.kind ≡ k.Branch = search rules in
    let gs = frames_of log slots (take i all ++ rest_after (suc (earlier l)) l) in
    let one : suc (earlier l) ≡ earlier l + 1 = omega arith in
    let run : EndsInRun l.at l.place (earlier l + 1) (frames_of log slots all) gs =
    subst (λ (m : ℕ). EndsInRun l.at l.place m (frames_of log slots all) gs) one
    (subst (λ (ls : List Layer). EndsInRun l.at l.place (suc (earlier l)) (frames_of log slots ls) gs) (sym below.0) (run_last (earlier l) (take i all) l log slots kind (omega arith))) in
    let many : l.place - (l.place - c.earlier.result) + 1 ≡ earlier l + 1 = omega (arith, c.earlier.ensures, earlier_le l) in
    record {
      run = (gs, rw many (subst (λ (fs : List Frame). EndsInRun l.at l.place (earlier l + 1) fs gs) (ap (λ (h : Held). h.frames) c.self.view_is) run));
      ordered = omega arith;
    }

pub overflow_sub-result : goal.overflow_sub-result
overflow_sub-result c = omega (arith, c.earlier.ensures, earlier_le c.index.result.now)
