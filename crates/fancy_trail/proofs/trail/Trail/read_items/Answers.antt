use Rattle.std.proofs.Common.{◌≡◌, ℕ, suc, ◌+◌, ◌-◌, ◌<◌, Option, Some, None, sym, ap, ◌∙◌, arith}
use Rattle.std.proofs.lemmas.Result.{on_ok_weaker}
use Rattle.fancy_trail.specs.Frames.{Spot, Held}
use Rattle.fancy_trail.specs.Ways.{at_instr, at_place, closed_at, opened_at, past_items}
use Rattle.fancy_trail.proofs.ItemLemmas.{alone_items, group_items}
use Rattle.fancy_trail.proofs.trail.Trail.read_items.Goals.{in-Some+else-count-gt0, in_default}
use Rattle.fancy_trail.proofs.trail.Trail.read_items.Goals as goal

-- the last item of some is read in its group
last_item : (x y z t : Spot) (g next place count : ℕ) (group : Option ℕ) → group ≡ Some g → 0 < count → place ≡ x.state.place → y ≡ at_place next (place + count - 1) x → z ≡ opened_at g next y
    → t ≡ at_place next (place + count) z → closed_at g next t ≡ at_instr next (past_items group count x)
last_item x y z t g next place count group is some here first opened second =
    let n = count - 1 in
    let last : place + count - 1 ≡ x.state.place + n = omega (arith, some, here) in
    let end : place + count ≡ x.state.place + suc n = omega (arith, some, here) in
    let same : suc n ≡ count = omega (arith, some) in
    ap (closed_at g next) (second ∙ ap (at_place next (place + count)) (opened ∙ ap (opened_at g next) first))
    ∙ ap (λ (p : ℕ). closed_at g next (at_place next (place + count) (opened_at g next (at_place next p x)))) last
    ∙ ap (λ (p : ℕ). closed_at g next (at_place next p (opened_at g next (at_place next (x.state.place + n) x)))) end
    ∙ sym (group_items g next n x)
    ∙ ap (λ (m : ℕ). at_instr next (past_items (Some g) m x)) same
    ∙ ap (λ (o : Option ℕ). at_instr next (past_items o count x)) (sym is)

pub returns-then-count-gt0 : goal.returns-then-count-gt0
returns-then-count-gt0 c =
    let now = on_ok_weaker c.close_group.result
    (λ e. e
    ∙ last_item c.args.self.now.now c.go_to.new.self.now c.open_group.new.self.now c.go_to-then-count-gt0.new.self.now c.in-Some.group c.args.next c.self.inside.place c.args.count c.args.group
    c.in-Some.is c.if-count-gt0.true (ap (λ (h : Held). h.now.state.place) c.self.view_is) c.go_to.ensures.now c.in_ok-open_group.ensures.now c.go_to-then-count-gt0.ensures.now)
    c.close_group.ensures.now in
    record {
      now = now;
      frames = on_ok_weaker c.close_group.result (λ e. e ∙ c.go_to-then-count-gt0.ensures.frames ∙ c.in_ok-open_group.ensures.frames ∙ c.go_to.ensures.frames) c.close_group.ensures.frames;
      most = c.close_group.ensures.most ∙ c.go_to-then-count-gt0.ensures.most ∙ c.open_group.ensures.most ∙ c.go_to.ensures.most;
    }

pub returns : goal.returns
returns c =
    let now = c.go_to-2.ensures.now
    ∙ ap (λ (p : ℕ). at_place c.args.next (p + c.args.count) c.args.self.now.now) (ap (λ (h : Held). h.now.state.place) c.self.view_is)
    ∙ sym (alone_items c.args.group c.args.count c.args.next c.args.self.now.now alone) in
    record { now = now; frames = c.go_to-2.ensures.frames; most = c.go_to-2.ensures.most }
  where
    alone : 0 < c.args.count → c.args.group ≡ None
    alone some =
        elim c.match-group.branch [
          | in-Some+else-count-gt0 w ↦ absurd (omega (arith, some, w.if-count-gt0.false))
          | in_default w ↦ w.in_default.is
        ]
