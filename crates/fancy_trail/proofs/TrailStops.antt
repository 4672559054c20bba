-- A way stops, and ends a region.
use Rattle.std.proofs.Common.{◌≡◌, ◌≢◌, ◌<◌, ℕ, ◌-◌, Some, [], ◌∷◌, Bool, true, false, List, length, take, arith, refl, sym, ap, ◌∙◌, subst, true≢false}
use Rattle.std.specs.Prelude.{slice_index_or}
use Rattle.fancy_code.specs.declared.step.Next.{Next}
use Rattle.fancy_code.specs.declared.step.Next.TheVariants.{On, Dead, Found}
use Rattle.fancy_code.specs.declared.slot.Slot.{Slot}
use Rattle.fancy_trail.specs.declared.log.Write.{Write}
use Rattle.fancy_meaning.specs.Context.{State}
use Rattle.fancy_code.specs.Run.{Raw, Note, Stop, fetched, Go}
use Rattle.fancy_trail.specs.declared.layer.Layer.{Layer}
use Rattle.fancy_trail.specs.declared.layer.Kind.{Kind}
use Rattle.fancy_trail.specs.Frames.{Spot, Region, Frame, Held, Within, Atom, LookAround, Denial, Condition}
use Rattle.fancy_trail.specs.Layers.{frame_by, spot_at, frames_of, is_region, KnowRegions}
use Rattle.fancy_trail.specs.Left.{Stops, IsStep, finish}
use Rattle.fancy_trail.specs.Ways.{IsBare, IsEndedByAny, HasInnermost, ends_kind, wanted_by, within_at, at_place}
use Rattle.fancy_trail.proofs.RegionLemmas.{bare_by, opens_top, innermost_same, not_bare, region_frame}
use Rattle.fancy_trail.proofs.StopLemmas.{stop_bare, stop_elsewhere, stop_atom, stop_look, stop_denial, stop_condition}
use Rattle.fancy_trail.specs.declared.layer.Kind.TheVariants as k

-- the region of a layer that a way does not end
unended : (j : Kind) (x : Spot) (s : State) → false ≡ ends_kind j x.state.place s.place → (r : Region) × (frame_by j x ≡ Within r) × (wanted_by r s ≡ false)
unended k.Branch x s e = absurd (true≢false (sym e))
unended k.Atom x s e = absurd (true≢false (sym e))
unended (k.Look behind) x s e = (LookAround behind x.at x.state.place x.limit, refl, sym e)
unended (k.Denial behind) x s e = (Denial behind x, refl, sym e)
unended k.Condition x s e = absurd (true≢false (sym e))

-- a region that each way that stops ends
any_ended : (j : Kind) (x : Spot) → is_region j ≡ true → ((from p : ℕ) → ends_kind j from p ≡ true) → (r : Region) × (frame_by j x ≡ Within r) × ((s : State) → wanted_by r s ≡ true)
any_ended k.Branch x e any = absurd (true≢false (sym e))
any_ended k.Atom x e any = (Atom x.limit, refl, λ s. refl)
any_ended (k.Look behind) x e any = (LookAround behind x.at x.state.place x.limit, refl, λ s. any x.state.place s.place)
any_ended (k.Denial behind) x e any = (Denial behind x, refl, λ s. any x.state.place s.place)
any_ended k.Condition x e any = (Condition x, refl, λ s. refl)

-- a trail that has an open region is left by it
module _ (held : Held) (n : Spot) (log : List Write) (slots : List Slot) (ls : List Layer) (most top : ℕ) (is : record { now = n; frames = frames_of log slots ls; most = most } ≡ held) (know : KnowRegions 0 0 ls top) (some : IsBare held.frames → ⊥) where
  one_open : top ≢ 0
  one_open none = some (subst (λ (h : Held). IsBare h.frames) is (bare_by log slots top ls know none))

  pub opened_within : (0 < top) × (top - 1 < length ls)
  opened_within = (omega (arith, one_open), omega (arith, (opens_top log slots top ls know one_open).0, one_open))

  -- below the innermost region are the layers that were there before it
  pub leaves_top : (x : Layer) → x ≡ slice_index_or ls (top - 1) x → (r : Region) (rest : List Frame) → HasInnermost held.frames r rest → frames_of log slots (take (top - 1) ls) ≡ rest
  leaves_top x at r rest h =
      let o = (opens_top log slots top ls know one_open).1 x at in
      let p = region_frame x.kind (spot_at log slots x) o.0 in
      innermost_same (frames_of log slots ls) rest (frames_of log slots (take (top - 1) ls)) p.0 r (o.1 p.0 p.1)
      (subst (λ (g : Held). HasInnermost g.frames r rest) (sym is) h)

module _ (held : Held) (n : Spot) (log : List Write) (slots : List Slot) (ls : List Layer) (most top : ℕ) (is : record { now = n; frames = frames_of log slots ls; most = most } ≡ held) (know : KnowRegions 0 0 ls top) (q : ℕ) where
  pub stops_bare : top ≡ 0 → Stops Found q held held.now held.frames
  stops_bare none =
      subst (λ (h : Held). Stops Found q h h.now h.frames) is
      (λ go u h. stop_bare go q n (frames_of log slots ls) u h (bare_by log slots top ls know none))

  -- the frames below the innermost region
  abbrev below : List Frame
  below = frames_of log slots (take (top - 1) ls)

  module _ (x : Layer) (at : x ≡ slice_index_or ls (top - 1) x) (some : top ≡ 0 → ⊥) where
    opens : (p : Region) → frame_by x.kind (spot_at log slots x) ≡ Within p → HasInnermost (frames_of log slots ls) p below
    opens p e = ((opens_top log slots top ls know some).1 x at).1 p e

    pub stops_elsewhere : false ≡ ends_kind x.kind x.place n.state.place → Stops Dead q held held.now held.frames
    stops_elsewhere e =
        let a = unended x.kind (spot_at log slots x) n.state e in
        subst (λ (h : Held). Stops Dead q h h.now h.frames) is
        (λ go u h. stop_elsewhere go q n (frames_of log slots ls) u h a.0 below (opens a.0 a.1) a.2)

    -- the innermost region is no saved branch
    pub no_branch : {A : Type 0} → x.kind ≡ k.Branch → A
    no_branch e = absurd (true≢false (sym ((opens_top log slots top ls know some).1 x at).0 ∙ ap is_region e))

    pub is_open : IsBare held.frames → ⊥
    is_open =
        let r = region_frame x.kind (spot_at log slots x) ((opens_top log slots top ls know some).1 x at).0 in
        subst (λ (h : Held). IsBare h.frames → ⊥) is (not_bare (frames_of log slots ls) below r.0 (opens r.0 r.1))

    -- each way that stops ends the innermost one
    pub ended_by_any : ((from p : ℕ) → ends_kind x.kind from p ≡ true) → IsEndedByAny held.frames
    ended_by_any any =
        let r = any_ended x.kind (spot_at log slots x) ((opens_top log slots top ls know some).1 x at).0 any in
        subst (λ (h : Held). IsEndedByAny h.frames) is (r.0, below, opens r.0 r.1, r.2)

    -- it was left
    module _ (new : Held) (same : new.now ≡ held.now) (low : (r : Region) (rest : List Frame) → HasInnermost held.frames r rest → new.frames ≡ rest) where
      within : (p : Region) → frame_by x.kind (spot_at log slots x) ≡ Within p → HasInnermost held.frames p new.frames
      within p e =
          let inner : HasInnermost held.frames p below = subst (λ (h : Held). HasInnermost h.frames p below) is (opens p e) in
          subst (HasInnermost held.frames p) (sym (low p below inner)) inner

      -- what is done with the way from there
      by : (next : Next) (go_on : Spot → Spot) → ((go : ℕ → Go) (u : List Raw) → finish go held.frames (Some (Stop q held.now.state held.now.starts ∷ [])) ≡ Some u
          → IsStep go next (Note fetched ∷ u) held.now held.frames (go_on held.now) new.frames) → Stops next q held (go_on new.now) new.frames
      by next go_on step = subst (λ (y : Spot). Stops next q held (go_on y) new.frames) (sym same) step

      pub stops_atom : x.kind ≡ k.Atom → Stops On q held (within_at q x.limit new.now) new.frames
      stops_atom e = by On (within_at q x.limit) (λ go u h. stop_atom go q held.now held.frames u h x.limit new.frames (within (Atom x.limit) (ap (λ (j : Kind). frame_by j (spot_at log slots x)) e)))

      pub stops_condition : x.kind ≡ k.Condition → Stops On q held (within_at q x.limit new.now) new.frames
      stops_condition e =
          by On (within_at q x.limit)
          (λ go u h. stop_condition go q held.now held.frames u h (spot_at log slots x) new.frames (within (Condition (spot_at log slots x)) (ap (λ (j : Kind). frame_by j (spot_at log slots x)) e)))

      module _ (behind : Bool) (good : true ≡ ends_kind x.kind x.place n.state.place) where
        ended : (j : Kind) → x.kind ≡ j → ends_kind j x.place held.now.state.place ≡ true
        ended j e = sym (good ∙ ap (λ (i : Kind). ends_kind i x.place n.state.place) e ∙ ap (λ (h : Held). ends_kind j x.place h.now.state.place) is)

        pub stops_look : x.kind ≡ k.Look behind → Stops On q held (within_at x.at x.limit (at_place x.at x.place new.now)) new.frames
        stops_look e =
            by On (λ y. within_at x.at x.limit (at_place x.at x.place y))
            (λ go u h. stop_look go q held.now held.frames u h behind x.at x.place x.limit new.frames
            (within (LookAround behind x.at x.place x.limit) (ap (λ (j : Kind). frame_by j (spot_at log slots x)) e)) (ended (k.Look behind) e))

        pub stops_denial : x.kind ≡ k.Denial behind → Stops Dead q held new.now new.frames
        stops_denial e =
            by Dead (λ y. y)
            (λ go u h. stop_denial go q held.now held.frames u h behind (spot_at log slots x) held.now new.frames
            (within (Denial behind (spot_at log slots x)) (ap (λ (j : Kind). frame_by j (spot_at log slots x)) e)) (ended (k.Denial behind) e))
