-- Branches that were saved last, dropped together.
use Rattle.std.proofs.Common.{◌≡◌, ◌<◌, ◌≤◌, ℕ, zero, suc, ◌+◌, ◌-◌, Bool, true, false, Some, List, [], ◌∷◌, ◌++◌, length, map, take, drop, if◌then◌else◌, get_or, set, append-nil, refl, sym, ap, ap₂, ◌∙◌, subst, arith}
use Rattle.std.specs.Prelude.{nat_lt}
use Rattle.std.proofs.lemmas.Bool.{lt-ltb}
use Rattle.std.proofs.lemmas.List.{drop_all, length-take-le, take-take}
use Rattle.fancy_code.specs.declared.slot.Slot.{Slot}
use Rattle.fancy_trail.specs.declared.log.Cell.{Cell}
use Rattle.fancy_trail.specs.declared.log.Write.{Write}
use Rattle.fancy_trail.specs.declared.layer.Layer.{Layer}
use Rattle.fancy_trail.specs.declared.layer.Kind.{Kind}
use Rattle.fancy_trail.specs.Frames.{Frame, Saved, Within}
use Rattle.fancy_trail.specs.Layers.{frame_by, saves, is_one, is_region, earlier, branches_in, spot_at, frames_of, less_one, TookLast, Rises, KnowRegions, IsLog}
use Rattle.fancy_trail.specs.Ways.{EndsInRun, SavedOn}
use Rattle.fancy_trail.specs.Log.{cell_slot, old_cell, old_slot, undone_by, IsUnwritten}
use Rattle.fancy_trail.proofs.LogLemmas.{undone-map}
use Rattle.fancy_trail.proofs.LayerLemmas.{counted_snoc, earlier_less, frames_undone, last_set, rises_more, saves_one, took_branches, took_frames, took_rises}
use Rattle.fancy_trail.proofs.RegionLemmas.{took_regions}
use Rattle.fancy_trail.proofs.WriteLemmas.{undone_log, undone_unwritten}
use Rattle.fancy_trail.specs.declared.layer.Kind.TheVariants as k

-- what a trail knows of its layers, its log and its cells
abbrev pub Fits : ℕ → ℕ → ℕ → Bool → List Layer → List Write → List Cell → Type 0
Fits n most top written ls log cells =
    (n ≡ branches_in ls) × (n ≤ most) × Rises 0 ls (length log) × KnowRegions 0 0 ls top × IsLog ls log cells × (written ≡ false → IsUnwritten log cells)

-- the trail without its last branch, once what was written since that was saved is undone
pub popped : (n most top : ℕ) (written : Bool) (all rest : List Layer) (l : Layer) (log : List Write) (cells : List Cell) → TookLast (Some l) all rest → true ≡ is_one (saves l.kind) → Fits n most top written all log cells
    → (less : List Write) (old : List Cell) → less ≡ take l.log log → old ≡ undone_by old_cell cells (drop l.log log) → Fits (n - 1) most l.region written rest less old
popped n most top written all rest l log cells e one f less old less_is old_is =
    let r = took_rises all rest l e (length log) f.2 in (
      omega (arith, f.0, took_branches all rest l e, saves_one l.kind one),
      omega (arith, f.1),
      rises_more 0 l.log (length less) rest (omega (arith, ap length less_is, length-take-le l.log log r.1)) r.0,
      took_regions all rest l top e f.3,
      rw (less_is, old_is) (undone_log all rest l e log cells f.4 r.1),
      λ w. undone_unwritten l.log log less cells old less_is old_is (f.5 w),
    )

abbrev shorter : Layer → Layer
shorter l = record l { place = l.place - 1 }

-- what stays of a layer without its last n branches
abbrev pub rest_after : ℕ → Layer → List Layer
rest_after zero l = l ∷ []
rest_after (suc n) l = if nat_lt 0 (earlier l) then rest_after n (shorter l) else []

pub rest_some : (n : ℕ) (l : Layer) → n ≤ earlier l → rest_after n l ≡ record l { place = l.place - n } ∷ []
rest_some zero l le = let same : l.place ≡ l.place - 0 = omega arith in ap (λ (p : ℕ). record l { place = p } ∷ []) same
rest_some (suc n) l le =
    let same : l.place - 1 - n ≡ l.place - suc n = omega arith in
    rw (lt-ltb 0 (earlier l) (omega (arith, le)))
    (rest_some n (shorter l) (omega (arith, le, earlier_less l (earlier l - 1) (omega (arith, le)))) ∙ ap (λ (p : ℕ). record l { place = p } ∷ []) same)

pub rest_none : (n : ℕ) (l : Layer) → n ≡ earlier l + 1 → rest_after n l ≡ []
rest_none zero l e = absurd (omega (arith, e))
rest_none (suc n) l e = by (earlier l) refl (λ m is. rest_none n (shorter l) (omega (arith, e, is, earlier_less l m is))) where
  by : (m : ℕ) → earlier l ≡ m → ((m : ℕ) → earlier l ≡ suc m → rest_after n (shorter l) ≡ []) → (if nat_lt 0 m then rest_after n (shorter l) else []) ≡ []
  by zero is more = refl
  by (suc m) is more = rw (lt-ltb 0 (suc m) (omega arith)) (more m is)

-- a layer of which more branches than one are dropped
less_is : (n : ℕ) (l : Layer) → suc n ≤ earlier l → less_one l ≡ shorter l ∷ []
less_is n l le = ap (λ (b : Bool). if b then shorter l ∷ [] else []) (lt-ltb 0 (earlier l) (omega (arith, le)))

after_is : (n : ℕ) (l : Layer) → suc n ≤ earlier l → rest_after (suc (suc n)) l ≡ rest_after (suc n) (shorter l)
after_is n l le = ap (λ (b : Bool). if b then rest_after (suc n) (shorter l) else []) (lt-ltb 0 (earlier l) (omega (arith, le)))

-- the trail without its last branches
pub dropped : (n b most top : ℕ) (written : Bool) (ls : List Layer) (l : Layer) (log : List Write) (cells : List Cell) → true ≡ is_one (saves l.kind) → n ≤ earlier l → Fits b most top written (ls ++ l ∷ []) log cells
    → (less : List Write) (old : List Cell) → less ≡ take l.log log → old ≡ undone_by old_cell cells (drop l.log log) → Fits (b - suc n) most l.region written (ls ++ rest_after (suc n) l) less old
dropped zero b most top written ls l log cells one le f less old less_by old_by = popped b most top written (ls ++ l ∷ []) (ls ++ less_one l) l log cells (ls, refl, refl) one f less old less_by old_by
dropped (suc n) b most top written ls l log cells one le f less old less_by old_by =
    let first : Fits (b - 1) most l.region written (ls ++ less_one l) less old = popped b most top written (ls ++ l ∷ []) (ls ++ less_one l) l log cells (ls, refl, refl) one f less old less_by old_by in
    let long : l.log ≤ length log = (took_rises (ls ++ l ∷ []) (ls ++ less_one l) l (ls, refl, refl) (length log) f.2).1 in
    let short : length less ≡ l.log = ap length less_by ∙ length-take-le l.log log long in
    let again : less ≡ take l.log less = less_by ∙ sym (take-take l.log l.log log (omega arith)) ∙ ap (take l.log) (sym less_by) in
    let none : old ≡ undone_by old_cell old (drop l.log less) = sym (ap (undone_by old_cell old) (drop_all l.log less (omega (arith, short)))) in
    let count : b - 1 - suc n ≡ b - suc (suc n) = omega arith in
    let fewer : n ≤ earlier (shorter l) = omega (arith, le, earlier_less l (earlier l - 1) (omega (arith, le))) in
    rw (after_is n l le)
    (subst (λ (m : ℕ). Fits m most l.region written (ls ++ rest_after (suc n) (shorter l)) less old) count
    (dropped n (b - 1) most l.region written ls (shorter l) less old one fewer (subst (λ (ks : List Layer). Fits (b - 1) most l.region written (ls ++ ks) less old) (less_is n l le) first) less old again none))

-- they stand at the places of the layer
pub run_last : (n : ℕ) (ls : List Layer) (l : Layer) (log : List Write) (slots : List Slot) → l.kind ≡ k.Branch → n ≤ earlier l
    → EndsInRun l.at l.place (suc n) (frames_of log slots (ls ++ l ∷ [])) (frames_of log slots (ls ++ rest_after (suc n) l))
run_last zero ls l log slots kind le =
    subst (λ (fs : List Frame). EndsInRun l.at l.place 1 fs (frames_of log slots (ls ++ less_one l))) (sym (took_frames (ls ++ l ∷ []) (ls ++ less_one l) l (ls, refl, refl) log slots))
    (subst (λ (j : Kind). EndsInRun l.at l.place 1 (frame_by j (spot_at log slots l) ∷ frames_of log slots (ls ++ less_one l)) (frames_of log slots (ls ++ less_one l))) (sym kind)
    (refl, refl, refl))
run_last (suc n) ls l log slots kind le =
    let fewer : n ≤ earlier (shorter l) = omega (arith, le, earlier_less l (earlier l - 1) (omega (arith, le))) in
    let more = run_last n ls (shorter l) log slots kind fewer in
    let rest : EndsInRun l.at (l.place - 1) (suc n) (frames_of log slots (ls ++ less_one l)) (frames_of log slots (ls ++ rest_after (suc (suc n)) l)) = rw (less_is n l le, after_is n l le) more in
    subst (λ (fs : List Frame). EndsInRun l.at l.place (suc (suc n)) fs (frames_of log slots (ls ++ rest_after (suc (suc n)) l))) (sym (took_frames (ls ++ l ∷ []) (ls ++ less_one l) l (ls, refl, refl) log slots))
    (subst (λ (j : Kind). EndsInRun l.at l.place (suc (suc n)) (frame_by j (spot_at log slots l) ∷ frames_of log slots (ls ++ less_one l)) (frames_of log slots (ls ++ rest_after (suc (suc n)) l))) (sym kind)
    (refl, refl, rest))

-- they are saved branches
pub run_saved : (n q p : ℕ) (fs gs : List Frame) → EndsInRun q p n fs gs → SavedOn n fs gs
run_saved zero q p fs gs run = run
run_saved (suc n) q p [] gs run = absurd run
run_saved (suc n) q p (Saved x ∷ fs) gs run = run_saved n q (p - 1) fs gs run.2
run_saved (suc n) q p (Within r ∷ fs) gs run = absurd run

-- the last of the layers, which is one of branches, is without its last n branches, and n is no more than it has
module _ (all : List Layer) (l : Layer) (i n : ℕ) (len : length all ≡ suc i) (at : l ≡ get_or all i l) (some : 0 < n) (few : n ≤ earlier l + 1) (kind : l.kind ≡ k.Branch) where
  abbrev left : List Layer
  left = take i all ++ rest_after n l

  below : all ≡ take i all ++ l ∷ []
  below = (last_set i all l l len at).0

  pub left_some : (new : List Layer) → n ≤ earlier l → new ≡ set all i (record l { place = l.place - n }) → new ≡ left
  left_some new le is = is ∙ (last_set i all l (record l { place = l.place - n }) len at).1 ∙ ap (λ (ks : List Layer). take i all ++ ks) (sym (rest_some n l le))

  pub left_none : (new : List Layer) → earlier l < n → new ≡ take i all → new ≡ left
  left_none new lt is =
      let all_of : n ≡ earlier l + 1 = omega (arith, few, lt) in
      is ∙ sym (append-nil (take i all)) ∙ ap (λ (ks : List Layer). take i all ++ ks) (sym (rest_none n l all_of))

  module _ (b most top : ℕ) (written : Bool) (log : List Write) (cells : List Cell) (f : Fits b most top written all log cells) (less : List Write) (old : List Cell)
      (less_by : less ≡ take l.log log) (old_by : old ≡ undone_by old_cell cells (drop l.log log)) where
    fits_so : Fits (b - n) most l.region written left less old
    fits_so =
        let count : suc (n - 1) ≡ n = omega (arith, some) in
        subst (λ (m : ℕ). Fits (b - m) most l.region written (take i all ++ rest_after m l) less old) count
        (dropped (n - 1) b most top written (take i all) l log cells (ap (λ (j : Kind). is_one (saves j)) (sym kind)) (omega (arith, few))
        (subst (λ (ks : List Layer). Fits b most top written ks log cells) below f) less old less_by old_by)

    pub fits_left : (new : List Layer) → new ≡ left → Fits (b - n) most l.region written new less old
    fits_left new is = subst (λ (ks : List Layer). Fits (b - n) most l.region written ks less old) (sym is) fits_so

    pub drops_left : (new : List Layer) → new ≡ left → SavedOn n (frames_of log (map cell_slot cells) all) (frames_of less (map cell_slot old) new)
    drops_left new is =
        let slots = map cell_slot cells in
        let count : suc (n - 1) ≡ n = omega (arith, some) in
        let long : l.log ≤ length log = (took_rises all (take i all ++ less_one l) l (take i all, below, refl) (length log) f.2).1 in
        let short : length less ≡ l.log = ap length less_by ∙ length-take-le l.log log long in
        let back : map cell_slot old ≡ undone_by old_slot slots (drop l.log log) = ap (map cell_slot) old_by ∙ undone-map cell_slot old_cell cells (drop l.log log) in
        let same : frames_of less (map cell_slot old) left ≡ frames_of log slots left =
        ap₂ (λ (g : List Write) (s : List Slot). frames_of g s left) less_by back ∙ frames_undone slots log l.log left (subst (Rises 0 left) short fits_so.2) long in
        let first : SavedOn n (frames_of log slots (take i all ++ l ∷ [])) (frames_of log slots left) =
        subst (λ (m : ℕ). SavedOn m (frames_of log slots (take i all ++ l ∷ [])) (frames_of log slots (take i all ++ rest_after m l))) count
        (run_saved (suc (n - 1)) l.at l.place _ _ (run_last (n - 1) (take i all) l log slots kind (omega (arith, few)))) in
        subst (λ (ks : List Layer). SavedOn n (frames_of log slots ks) (frames_of less (map cell_slot old) new)) (sym below)
        (subst (SavedOn n (frames_of log slots (take i all ++ l ∷ []))) (sym (ap (frames_of less (map cell_slot old)) is ∙ same)) first)

-- no place is before the first
pub earlier_le : (l : Layer) → earlier l ≤ l.place
earlier_le l = by (is_region l.kind) where
  by : (b : Bool) → (if b then 0 else l.place - l.from) ≤ l.place
  by true = omega arith
  by false = omega arith

-- a layer saves no more branches than all of them
pub run_branches : (all ls : List Layer) (l : Layer) → all ≡ ls ++ l ∷ [] → l.kind ≡ k.Branch → earlier l + 1 ≤ branches_in all
run_branches all ls l e kind = omega (arith, counted_snoc ls all l e, ap saves kind)
