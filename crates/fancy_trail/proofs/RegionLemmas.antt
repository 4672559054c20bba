-- The innermost region of the layers.
use Rattle.std.proofs.Common.{◌≡◌, ℕ, zero, suc, ◌+◌, ◌-◌, ◌<◌, ◌≤◌, ◌⊎◌, inl, inr, Bool, true, false, Some, List, [], ◌∷◌, ◌++◌, length, take, append-nil, length-append, refl, sym, ap, ◌∙◌, subst, arith, true≢false}
use Rattle.std.specs.Prelude.{nat_lt, slice_index_or, if◌then◌else◌}
use Rattle.fancy_trail.specs.declared.layer.Layer.{Layer}
use Rattle.fancy_trail.specs.declared.layer.Kind.{Kind}
use Rattle.fancy_code.specs.declared.slot.Slot.{Slot}
use Rattle.fancy_trail.specs.declared.log.Write.{Write}
use Rattle.fancy_trail.specs.Frames.{Spot, Region, Frame, Within, Saved}
use Rattle.fancy_trail.specs.Layers.{frame_by, frames_by, earlier, spot_at, frames_at, stacked, frames_of, less_one, one_before, TookLast, is_region, region_by, Rises, KnowRegions}
use Rattle.fancy_trail.proofs.LayerLemmas.{rises_push}
use Rattle.fancy_trail.specs.Ways.{IsBare, HasInnermost}
use Rattle.fancy_trail.specs.declared.layer.Kind.TheVariants as k

pub regions_push : (n inner m top : ℕ) (ls : List Layer) (l : Layer) → KnowRegions n inner ls top → l.region ≡ top → m ≡ n + length ls + 1 → KnowRegions n inner (ls ++ l ∷ []) (region_by m l)
regions_push n inner m top [] l r e is = let same : suc n ≡ m = omega (arith, is) in (e ∙ sym r, ap (λ (j : ℕ). region_by j l) same)
regions_push n inner m top (d ∷ ls) l r e is = (r.0, regions_push (suc n) (region_by (suc n) d) m top ls l r.1 e (omega (arith, is)))

-- one more layer, which knows where the log and the innermost region are
pub pushed : (n top m : ℕ) (ls items : List Layer) (l : Layer) → items ≡ ls ++ l ∷ [] → Rises 0 ls n → KnowRegions 0 0 ls top → l.log ≡ n → l.region ≡ top → m ≡ length items
    → Rises 0 items n × KnowRegions 0 0 items (region_by m l)
pushed n top m ls items l e rises know at inner count = (
  subst (λ (ks : List Layer). Rises 0 ks n) (sym e) (rises_push 0 n n ls l rises at (omega arith)),
  subst (λ (ks : List Layer). KnowRegions 0 0 ks (region_by m l)) (sym e) (regions_push 0 0 m top ls l know inner (omega (arith, count, ap length e, length-append ls (l ∷ [])))),
)

regions_pop : (n inner top : ℕ) (ls : List Layer) (l : Layer) → KnowRegions n inner (ls ++ l ∷ []) top → KnowRegions n inner ls l.region
regions_pop n inner top [] l r = sym r.0
regions_pop n inner top (d ∷ ls) l r = (r.0, regions_pop (suc n) (region_by (suc n) d) top ls l r.1)

-- the last branch of the last layer was taken
pub took_regions : (all fewer : List Layer) (l : Layer) (top : ℕ) → TookLast (Some l) all fewer → KnowRegions 0 0 all top → KnowRegions 0 0 fewer l.region
took_regions all fewer l top t know = subst (λ (ls : List Layer). KnowRegions 0 0 ls l.region) (sym t.2) (by (is_region l.kind) refl) where
  below : KnowRegions 0 0 t.0 l.region
  below = regions_pop 0 0 top t.0 l (subst (λ (ls : List Layer). KnowRegions 0 0 ls top) t.1 know)

  stays : (n : ℕ) (b : Bool) → is_region l.kind ≡ false → KnowRegions 0 0 (t.0 ++ (if b then record l { place = n } ∷ [] else [])) l.region
  stays n true e =
      subst (KnowRegions 0 0 (t.0 ++ record l { place = n } ∷ [])) (ap (λ (b : Bool). if b then length t.0 + 1 else l.region) e)
      (regions_push 0 0 (length t.0 + 1) l.region t.0 (record l { place = n }) below refl (omega arith))
  stays n false e = subst (λ (ls : List Layer). KnowRegions 0 0 ls l.region) (sym (append-nil t.0)) below

  by : (b : Bool) → is_region l.kind ≡ b → KnowRegions 0 0 (t.0 ++ less_one l) l.region
  by true e = rw e (subst (λ (ls : List Layer). KnowRegions 0 0 ls l.region) (sym (append-nil t.0)) below)
  by false e = stays (l.place - 1) (nat_lt 0 (earlier l)) e

pub regions_take : (n inner j top : ℕ) (ls : List Layer) (x : Layer) → j < length ls → x ≡ slice_index_or ls j x → KnowRegions n inner ls top → KnowRegions n inner (take j ls) x.region
regions_take n inner j top [] x lt at r = absurd (omega (arith, lt))
regions_take n inner zero top (l ∷ ls) x lt at r = sym r.0 ∙ ap (λ (y : Layer). y.region) (sym at)
regions_take n inner (suc j) top (l ∷ ls) x lt at r = (r.0, regions_take (suc n) (region_by (suc n) l) j top ls x (omega (arith, lt)) at r.1)

-- the innermost region of a trail and what is below it are one
pub innermost_same : (fs rest below : List Frame) (p r : Region) → HasInnermost fs p below → HasInnermost fs r rest → below ≡ rest
innermost_same [] rest below p r h i = absurd h
innermost_same (Saved x ∷ fs) rest below p r h i = innermost_same fs rest below p r h i
innermost_same (Within q ∷ fs) rest below p r h i = sym h.1 ∙ i.1

pub not_bare : (fs rest : List Frame) (r : Region) → HasInnermost fs r rest → IsBare fs → ⊥
not_bare [] rest r h b = h
not_bare (Saved x ∷ fs) rest r h b = not_bare fs rest r h b
not_bare (Within q ∷ fs) rest r h b = b

-- a layer that is a region has one frame, and one that is none has saved branches alone
pub region_frame : (j : Kind) (x : Spot) → is_region j ≡ true → (r : Region) × (frame_by j x ≡ Within r)
region_frame k.Branch x e = absurd (true≢false (sym e))
region_frame k.Atom x e = (_, refl)
region_frame (k.Look behind) x e = (_, refl)
region_frame (k.Denial behind) x e = (_, refl)
region_frame k.Condition x e = (_, refl)

branch_frame : (j : Kind) (x : Spot) → is_region j ≡ false → frame_by j x ≡ Saved x
branch_frame k.Branch x e = refl
branch_frame k.Atom x e = absurd (true≢false e)
branch_frame (k.Look behind) x e = absurd (true≢false e)
branch_frame (k.Denial behind) x e = absurd (true≢false e)
branch_frame k.Condition x e = absurd (true≢false e)

-- saved branches are no region, nor hide one
module _ (j : Kind) (none : is_region j ≡ false) (fs : List Frame) where
  bare_run : (n : ℕ) (x : Spot) → IsBare fs → IsBare (frames_by j n x ++ fs)
  bare_run zero x b = rw (branch_frame j x none) b
  bare_run (suc n) x b = rw (branch_frame j x none) (bare_run n (one_before x) b)

  innermost_run : (r : Region) (rest : List Frame) (n : ℕ) (x : Spot) → HasInnermost fs r rest → HasInnermost (frames_by j n x ++ fs) r rest
  innermost_run r rest zero x h = rw (branch_frame j x none) h
  innermost_run r rest (suc n) x h = rw (branch_frame j x none) (innermost_run r rest n (one_before x) h)

module _ (log : List Write) (slots : List Slot) where
  abbrev onto : List Frame → List Layer → List Frame
  onto = stacked (frames_at log slots)

  -- none of these layers is a region, or the one after the first j is the innermost
  abbrev None : (inner top : ℕ) → List Frame → List Layer → Type 0
  None inner top fs ls = (top ≡ inner) × (IsBare fs → IsBare (onto fs ls)) × ((r : Region) (rest : List Frame) → HasInnermost fs r rest → HasInnermost (onto fs ls) r rest)

  abbrev One : (n top : ℕ) → List Frame → List Layer → Type 0
  One n top fs ls = (j : ℕ) × (top ≡ n + suc j) × (j < length ls) × ((x : Layer) → x ≡ slice_index_or ls j x
      → (is_region x.kind ≡ true) × ((r : Region) → frame_by x.kind (spot_at log slots x) ≡ Within r → HasInnermost (onto fs ls) r (onto fs (take j ls))))

  abbrev Found : (n inner top : ℕ) → List Frame → List Layer → Type 0
  Found n inner top fs ls = None inner top fs ls ⊎ One n top fs ls

  innermost : (n inner top : ℕ) (fs : List Frame) (ls : List Layer) → KnowRegions n inner ls top → Found n inner top fs ls
  innermost n inner top fs [] r = inl (sym r, λ b. b, λ q rest h. h)
  innermost n inner top fs (l ∷ ls) r = by (is_region l.kind) refl (λ q s. innermost (suc n) q top (frames_at log slots l ++ fs) ls s) where
    more : One (suc n) top (frames_at log slots l ++ fs) ls → One n top fs (l ∷ ls)
    more o = (suc o.0, omega (arith, o.1), omega (arith, o.2), λ x at. o.3 x at)

    region : is_region l.kind ≡ true → Found (suc n) (suc n) top (frames_at log slots l ++ fs) ls → Found n inner top fs (l ∷ ls)
    region e (inl o) = inr (
      0,
      omega (arith, o.0),
      omega arith,
      λ x at. (
        ap (λ (y : Layer). is_region y.kind) at ∙ e,
        λ q w. o.2 q fs (rw e (subst (λ (g : Frame). HasInnermost (g ∷ fs) q fs) (sym (ap (λ (y : Layer). frame_by y.kind (spot_at log slots y)) (sym at) ∙ w)) (refl, refl))),
      ),
    )
    region e (inr o) = inr (more o)

    branch : is_region l.kind ≡ false → Found (suc n) l.region top (frames_at log slots l ++ fs) ls → Found n inner top fs (l ∷ ls)
    branch e (inl o) = inl (
      o.0 ∙ r.0,
      λ b. o.1 (bare_run l.kind e fs (earlier l) (spot_at log slots l) b),
      λ q rest h. o.2 q rest (innermost_run l.kind e fs q rest (earlier l) (spot_at log slots l) h),
    )
    branch e (inr o) = inr (more o)

    by : (b : Bool) → is_region l.kind ≡ b → ((q : ℕ) → KnowRegions (suc n) q ls top → Found (suc n) q top (frames_at log slots l ++ fs) ls) → Found n inner top fs (l ∷ ls)
    by true e rec = region e (rec (suc n) (subst (λ (b : Bool). KnowRegions (suc n) (if b then suc n else l.region) ls top) e r.1))
    by false e rec = branch e (rec l.region (subst (λ (b : Bool). KnowRegions (suc n) (if b then suc n else l.region) ls top) e r.1))

  module _ (top : ℕ) (ls : List Layer) (know : KnowRegions 0 0 ls top) where
    pub bare_by : top ≡ 0 → IsBare (frames_of log slots ls)
    bare_by none = by (innermost 0 0 top [] ls know) where
      by : Found 0 0 top [] ls → IsBare (frames_of log slots ls)
      by (inl o) = o.1 tt
      by (inr o) = absurd (omega (arith, o.1, none))

    pub opens_top : (top ≡ 0 → ⊥) → (top ≤ length ls) × ((x : Layer) → x ≡ slice_index_or ls (top - 1) x → (is_region x.kind ≡ true)
        × ((r : Region) → frame_by x.kind (spot_at log slots x) ≡ Within r → HasInnermost (frames_of log slots ls) r (frames_of log slots (take (top - 1) ls))))
    opens_top some = by (innermost 0 0 top [] ls know) where
      by : Found 0 0 top [] ls → (top ≤ length ls) × ((x : Layer) → x ≡ slice_index_or ls (top - 1) x → (is_region x.kind ≡ true)
          × ((r : Region) → frame_by x.kind (spot_at log slots x) ≡ Within r → HasInnermost (frames_of log slots ls) r (frames_of log slots (take (top - 1) ls))))
      by (inl o) = absurd (some o.0)
      by (inr o) = let last : o.0 ≡ top - 1 = omega (arith, o.1) in (omega (arith, o.1, o.2), rw (← last) o.3)
