-- The layers as frames.
use Rattle.std.proofs.Common.{◌≡◌, ◌<◌, ◌≤◌, ℕ, zero, suc, ◌+◌, ◌-◌, Bool, true, false, if◌then◌else◌, Some, List, [], ◌∷◌, ◌++◌, length, map, take, drop, set, get_or, Option, refl, sym, ap, ap₂, ◌∙◌, subst, arith, true≢false, length-append}
use Rattle.std.specs.Prelude.{nat_lt}
use Rattle.std.proofs.lemmas.Bool.{lt-ltb}
use Rattle.std.proofs.lemmas.List.{append-nil, drop_all, drop-append-le, take-append-drop, length-take-le, set-set, set-get_or, map-set}
use Rattle.fancy_input.specs.declared.span.Span.{Span}
use Rattle.fancy_code.specs.declared.slot.Slot.{Slot}
use Rattle.fancy_code.specs.Thread.{empty_slot, slot_span, slot_from}
use Rattle.fancy_code.proofs.ThreadLemmas.{get_or_mapped}
use Rattle.fancy_trail.specs.declared.log.Cell.{Cell}
use Rattle.fancy_trail.specs.declared.log.Write.{Write}
use Rattle.fancy_trail.specs.Log.{cell_slot, empty_cell, old_slot, undone_by}
use Rattle.fancy_trail.proofs.LogLemmas.{undone-append}
use Rattle.fancy_trail.specs.declared.layer.Layer.{Layer}
use Rattle.fancy_trail.specs.declared.layer.Kind.{Kind}
use Rattle.fancy_trail.specs.Frames.{Spot, Frame, saved, saved_in}
use Rattle.fancy_trail.specs.Layers.{spot_of, frame_by, frames_by, saves, is_one, is_region, earlier, saved_by, branches_in, spot_at, frames_at, stacked, frames_of, less_one, one_before, TookLast, Rises}
use Rattle.fancy_trail.specs.Ways.{written, at_place, saved_run, IsSpent, Takes}
use Rattle.fancy_trail.specs.declared.layer.Kind.TheVariants as k

pub rises_le : (lo n : ℕ) (ls : List Layer) → Rises lo ls n → lo ≤ n
rises_le lo n [] r = r
rises_le lo n (l ∷ ls) r = let le : l.log ≤ n = rises_le l.log n ls r.1 in omega (arith, r.0, le)

pub rises_more : (lo n m : ℕ) (ls : List Layer) → n ≤ m → Rises lo ls n → Rises lo ls m
rises_more lo n m [] le r = omega (arith, r)
rises_more lo n m (l ∷ ls) le r = (r.0, rises_more l.log n m ls le r.1)

pub rises_push : (lo n m : ℕ) (ls : List Layer) (l : Layer) → Rises lo ls n → l.log ≡ n → n ≤ m → Rises lo (ls ++ l ∷ []) m
rises_push lo n m [] l r e le = (omega (arith, r, e), omega (arith, e))
rises_push lo n m (d ∷ ls) l r e le = (r.0, rises_push d.log n m ls l r.1 e le)

rises_pop : (lo n : ℕ) (ls : List Layer) (l : Layer) → Rises lo (ls ++ l ∷ []) n → Rises lo ls l.log × (l.log ≤ n)
rises_pop lo n [] l r = (r.0, r.1)
rises_pop lo n (d ∷ ls) l r = let s = rises_pop d.log n ls l r.1 in ((r.0, s.0), s.1)

-- the layers below x had a log no longer than it had when x was made
pub rises_below : (lo n j : ℕ) (ls : List Layer) (x : Layer) → j < length ls → x ≡ get_or ls j x → Rises lo ls n → Rises lo (take j ls) x.log
rises_below lo n j [] x lt at r = absurd (omega (arith, lt))
rises_below lo n zero (l ∷ ls) x lt at r = omega (arith, r.0, ap (λ (y : Layer). y.log) at)
rises_below lo n (suc j) (l ∷ ls) x lt at r = (r.0, rises_below l.log n j ls x (omega (arith, lt)) at r.1)

-- the frames of layers depend on what each gives
same_stack : (f g : Layer → List Frame) (fs : List Frame) (lo n : ℕ) (ls : List Layer) → Rises lo ls n → ((l : Layer) → l.log ≤ n → f l ≡ g l) → stacked f fs ls ≡ stacked g fs ls
same_stack f g fs lo n [] r same = refl
same_stack f g fs lo n (l ∷ ls) r same =
    ap (λ (xs : List Frame). stacked f (xs ++ fs) ls) (same l (rises_le l.log n ls r.1)) ∙ same_stack f g (g l ++ fs) l.log n ls r.1 same

-- of the slots that a layer stands for it's all one when the last writes are undone
pub frames_shift : (slots : List Slot) (log more : List Write) (ls : List Layer) → Rises 0 ls (length log) → frames_of (log ++ more) slots ls ≡ frames_of log (undone_by old_slot slots more) ls
frames_shift slots log more ls r =
    same_stack (frames_at (log ++ more) slots) (frames_at log (undone_by old_slot slots more)) [] 0 (length log) ls r
    (λ l le. ap (λ (s : List Slot). frames_by l.kind (earlier l) (spot_of l.at l.limit l.place l.kept s))
    (ap (undone_by old_slot slots) (drop-append-le l.log log more le) ∙ undone-append old_slot slots (drop l.log log) more))

-- a write that is logged changes no frame
pub frames_write : (slots : List Slot) (log : List Write) (ls : List Layer) (w : Write) (x : Slot) → Rises 0 ls (length log) → w.old.slot ≡ get_or slots w.group empty_slot
    → frames_of (log ++ w ∷ []) (set slots w.group x) ls ≡ frames_of log slots ls
frames_write slots log ls w x r old =
    frames_shift (set slots w.group x) log (w ∷ []) ls r
    ∙ ap (λ (s : List Slot). frames_of log s ls) (set-set slots w.group x w.old.slot ∙ ap (set slots w.group) old ∙ set-get_or slots w.group empty_slot)

-- nor does going back to where the log was when these were made
pub frames_undone : (slots : List Slot) (log : List Write) (n : ℕ) (ls : List Layer) → Rises 0 ls n → n ≤ length log
    → frames_of (take n log) (undone_by old_slot slots (drop n log)) ls ≡ frames_of log slots ls
frames_undone slots log n ls r le =
    sym (frames_shift slots (take n log) (drop n log) ls (subst (Rises 0 ls) (sym (length-take-le n log le)) r))
    ∙ ap (λ (all : List Write). frames_of all slots ls) (take-append-drop n log)

stacked-append : (f : Layer → List Frame) (fs : List Frame) (ls ks : List Layer) → stacked f fs (ls ++ ks) ≡ stacked f (stacked f fs ls) ks
stacked-append f fs [] ks = refl
stacked-append f fs (l ∷ ls) ks = stacked-append f (f l ++ fs) ls ks

-- one more layer, made where the log is as long as it is now
pub frames_made : (log : List Write) (slots : List Slot) (ls all : List Layer) (l : Layer) (n : ℕ) → all ≡ ls ++ l ∷ [] → l.log ≡ length log → earlier l ≡ n
    → frames_of log slots all ≡ frames_by l.kind n (spot_of l.at l.limit l.place l.kept slots) ++ frames_of log slots ls
frames_made log slots ls all l n e made run =
    ap (frames_of log slots) e ∙ stacked-append (frames_at log slots) [] ls (l ∷ [])
    ∙ ap₂ (λ (m : ℕ) (s : List Slot). frames_by l.kind m (spot_of l.at l.limit l.place l.kept s) ++ frames_of log slots ls) run
    (ap (undone_by old_slot slots) (drop_all l.log log (omega (arith, made))))

branches-append : (ls ks : List Layer) → branches_in (ls ++ ks) ≡ branches_in ls + branches_in ks
branches-append [] ks = omega arith
branches-append (d ∷ ls) ks = omega (arith, branches-append ls ks)

-- a layer of one place saves as many branches as its kind
pub alone : (l : Layer) → l.place ≡ l.from → earlier l ≡ 0
alone l e = by (is_region l.kind) where
  by : (b : Bool) → (if b then 0 else l.place - l.from) ≡ 0
  by true = refl
  by false = omega (arith, e)

saved_frame : (j : Kind) (x : Spot) → saved_in (frame_by j x) ≡ saves j
saved_frame k.Branch x = refl
saved_frame k.Atom x = refl
saved_frame (k.Look behind) x = refl
saved_frame (k.Denial behind) x = refl
saved_frame k.Condition x = refl

-- a layer that saves branches at more places saves one at each
pub run_saves : (l : Layer) (n : ℕ) → earlier l ≡ suc n → saves l.kind ≡ 1
run_saves l n e = by l.kind e where
  by : (j : Kind) → (if is_region j then 0 else l.place - l.from) ≡ suc n → saves j ≡ 1
  by k.Branch e = refl
  by k.Atom e = absurd (omega (arith, e))
  by (k.Look behind) e = absurd (omega (arith, e))
  by (k.Denial behind) e = refl
  by k.Condition e = refl

-- and one that saves none at its own place saves none
pub unsaved : (l : Layer) → saves l.kind ≡ 0 → saved_by l ≡ 0
unsaved l none = by (earlier l) refl where
  by : (n : ℕ) → earlier l ≡ n → saves l.kind + n ≡ 0
  by zero e = omega (arith, none)
  by (suc n) e = absurd (omega (arith, none, run_saves l n e))

saved_run_frames : (j : Kind) (n : ℕ) (x : Spot) (fs : List Frame) → ((m : ℕ) → n ≡ suc m → saves j ≡ 1) → saved (frames_by j n x ++ fs) ≡ saves j + n + saved fs
saved_run_frames j zero x fs one = omega (arith, saved_frame j x)
saved_run_frames j (suc n) x fs one = omega (arith, saved_frame j x, one n refl, saved_run_frames j n (one_before x) fs (λ m e. one n refl))

saved_stack : (log : List Write) (slots : List Slot) (fs : List Frame) (ls : List Layer) → saved (stacked (frames_at log slots) fs ls) ≡ saved fs + branches_in ls
saved_stack log slots fs [] = omega arith
saved_stack log slots fs (l ∷ ls) =
    omega (arith, saved_stack log slots (frames_at log slots l ++ fs) ls, saved_run_frames l.kind (earlier l) (spot_at log slots l) fs (run_saves l))

-- the frames save as many branches as the layers
pub saved_frames : (log : List Write) (slots : List Slot) (ls : List Layer) → saved (frames_of log slots ls) ≡ branches_in ls
saved_frames log slots ls = omega (arith, saved_stack log slots [] ls)

-- a layer that saves a branch at each of so many places from p on
pub run_frames : (q p n m : ℕ) (x : Spot) (fs : List Frame) → n ≡ suc m → frames_by k.Branch m (at_place q (p + m) x) ++ fs ≡ saved_run q p n x fs
run_frames q p n zero x fs e = ap (λ (i : ℕ). saved_run q p i x fs) (sym e)
run_frames q p n (suc m) x fs e =
    let lower : p + suc m - 1 ≡ p + m = omega arith in
    ap (λ (i : ℕ). frame_by k.Branch (at_place q (p + suc m) x) ∷ (frames_by k.Branch m (at_place q i x) ++ fs)) lower
    ∙ ap (λ (gs : List Frame). frame_by k.Branch (at_place q (p + suc m) x) ∷ gs) (run_frames q p (suc m) m x fs refl)
    ∙ ap (λ (i : ℕ). saved_run q p i x fs) (sym e)

-- once its last branch is taken, a layer has one place less, or none is left
module _ (l : Layer) where
  abbrev shorter : Layer
  shorter = record l { place = l.place - 1 }

  pub earlier_less : (n : ℕ) → earlier l ≡ suc n → earlier shorter ≡ n
  earlier_less n e = by (is_region l.kind) e where
    by : (b : Bool) → (if b then 0 else l.place - l.from) ≡ suc n → (if b then 0 else l.place - 1 - l.from) ≡ n
    by true e = absurd (omega (arith, e))
    by false e = omega (arith, e)

  frames_less : (log : List Write) (slots : List Slot) (fs : List Frame) → frames_at log slots l ++ fs ≡ frame_by l.kind (spot_at log slots l) ∷ stacked (frames_at log slots) fs (less_one l)
  frames_less log slots fs = by (earlier l) refl where
    x : Spot
    x = spot_at log slots l

    by : (n : ℕ) → earlier l ≡ n → frames_by l.kind n x ++ fs ≡ frame_by l.kind x ∷ stacked (frames_at log slots) fs (if nat_lt 0 n then shorter ∷ [] else [])
    by zero e = refl
    by (suc n) e = rw (lt-ltb 0 (suc n) (omega arith)) (ap (λ (i : ℕ). frame_by l.kind x ∷ (frames_by l.kind i (one_before x) ++ fs)) (sym (earlier_less n e)))

  branches_less : saved_by l ≡ saves l.kind + branches_in (less_one l)
  branches_less = by (earlier l) refl where
    by : (n : ℕ) → earlier l ≡ n → saves l.kind + n ≡ saves l.kind + branches_in (if nat_lt 0 n then shorter ∷ [] else [])
    by zero e = refl
    by (suc n) e = rw (lt-ltb 0 (suc n) (omega arith)) (omega (arith, earlier_less n e, run_saves l n e))

-- the last layer is looked at, and set
pub last_set : (n : ℕ) (ls : List Layer) (l m : Layer) → length ls ≡ suc n → l ≡ get_or ls n l → (ls ≡ take n ls ++ l ∷ []) × (set ls n m ≡ take n ls ++ m ∷ [])
last_set n [] l m len at = absurd (omega (arith, len))
last_set zero (k ∷ []) l m len at = (ap (λ (x : Layer). x ∷ []) (sym at), refl)
last_set zero (k ∷ j ∷ ls) l m len at = absurd (omega (arith, len))
last_set (suc n) (k ∷ ls) l m len at =
    let s = last_set n ls l m (omega (arith, len)) at in
    (ap (λ (xs : List Layer). k ∷ xs) s.0, ap (λ (xs : List Layer). k ∷ xs) s.1)

-- the last branch of the last layer was taken
module _ (all fewer : List Layer) (l : Layer) (t : TookLast (Some l) all fewer) where
  pub took_frames : (log : List Write) (slots : List Slot) → frames_of log slots all ≡ frame_by l.kind (spot_at log slots l) ∷ frames_of log slots fewer
  took_frames log slots =
      let f = frames_at log slots in
      ap (stacked f []) t.1 ∙ stacked-append f [] t.0 (l ∷ []) ∙ frames_less l log slots (stacked f [] t.0)
      ∙ ap (λ (fs : List Frame). frame_by l.kind (spot_at log slots l) ∷ fs) (sym (ap (stacked f []) t.2 ∙ stacked-append f [] t.0 (less_one l)))

  pub took_branches : branches_in all ≡ saves l.kind + branches_in fewer
  took_branches =
      omega (arith, ap branches_in t.1, branches-append t.0 (l ∷ []), branches_less l, ap branches_in t.2, branches-append t.0 (less_one l))

  pub took_rises : (n : ℕ) → Rises 0 all n → Rises 0 fewer l.log × (l.log ≤ n)
  took_rises n r =
      let s = rises_pop 0 n t.0 l (subst (λ (ls : List Layer). Rises 0 ls n) t.1 r) in
      (subst (λ (ls : List Layer). Rises 0 ls l.log) (sym t.2) (by (nat_lt 0 (earlier l)) s.0), s.1)
    where
      by : (b : Bool) → Rises 0 t.0 l.log → Rises 0 (t.0 ++ (if b then shorter l ∷ [] else [])) l.log
      by true r = rises_push 0 l.log l.log t.0 (shorter l) r refl (omega arith)
      by false r = subst (λ (ls : List Layer). Rises 0 ls l.log) (sym (append-nil t.0)) r

-- a branch is taken, or passed over
pub takes_by : (j : Kind) (x : Spot) (fs : List Frame) → true ≡ is_one (saves j) → Takes (frame_by j x ∷ fs) x fs
takes_by k.Branch x fs e = (refl, refl)
takes_by k.Atom x fs e = absurd (true≢false e)
takes_by (k.Look behind) x fs e = absurd (true≢false e)
takes_by (k.Denial behind) x fs e = (refl, refl)
takes_by k.Condition x fs e = (refl, refl)

pub takes_past : (j : Kind) (x y : Spot) (fs rest : List Frame) → false ≡ is_one (saves j) → Takes fs y rest → Takes (frame_by j x ∷ fs) y rest
takes_past k.Branch x y fs rest e t = absurd (true≢false (sym e))
takes_past k.Atom x y fs rest e t = t
takes_past (k.Look behind) x y fs rest e t = t
takes_past (k.Denial behind) x y fs rest e t = absurd (true≢false (sym e))
takes_past k.Condition x y fs rest e t = absurd (true≢false (sym e))

pub spent_past : (j : Kind) (x : Spot) (fs : List Frame) → false ≡ is_one (saves j) → IsSpent fs → IsSpent (frame_by j x ∷ fs)
spent_past k.Branch x fs e t = absurd (true≢false (sym e))
spent_past k.Atom x fs e t = t
spent_past (k.Look behind) x fs e t = t
spent_past (k.Denial behind) x fs e t = absurd (true≢false (sym e))
spent_past k.Condition x fs e t = absurd (true≢false (sym e))

pub unspent_past : (j : Kind) (x : Spot) (fs : List Frame) → false ≡ is_one (saves j) → IsSpent (frame_by j x ∷ fs) → IsSpent fs
unspent_past k.Branch x fs e t = absurd (true≢false (sym e))
unspent_past k.Atom x fs e t = t
unspent_past (k.Look behind) x fs e t = t
unspent_past (k.Denial behind) x fs e t = absurd (true≢false (sym e))
unspent_past k.Condition x fs e t = absurd (true≢false (sym e))

pub unspent_by : (j : Kind) (x : Spot) (fs : List Frame) → true ≡ is_one (saves j) → IsSpent (frame_by j x ∷ fs) → ⊥
unspent_by k.Branch x fs e t = t
unspent_by k.Atom x fs e t = absurd (true≢false e)
unspent_by (k.Look behind) x fs e t = absurd (true≢false e)
unspent_by (k.Denial behind) x fs e t = t
unspent_by k.Condition x fs e t = t

pub saves_one : (j : Kind) → true ≡ is_one (saves j) → saves j ≡ 1
saves_one k.Branch e = refl
saves_one k.Atom e = absurd (true≢false e)
saves_one (k.Look behind) e = absurd (true≢false e)
saves_one (k.Denial behind) e = refl
saves_one k.Condition e = refl

pub saves_none : (j : Kind) → false ≡ is_one (saves j) → saves j ≡ 0
saves_none k.Branch e = absurd (true≢false (sym e))
saves_none k.Atom e = refl
saves_none (k.Look behind) e = refl
saves_none (k.Denial behind) e = absurd (true≢false (sym e))
saves_none k.Condition e = absurd (true≢false (sym e))

pub take_snoc : (n : ℕ) (ls all : List Layer) (l : Layer) → all ≡ ls ++ l ∷ [] → n < length all → take n ls ≡ take n all
take_snoc n ls all l e lt = sym (ap (take n) e ∙ by n ls (omega (arith, ap length e, length-append ls (l ∷ [])))) where
  by : (m : ℕ) (xs : List Layer) → m ≤ length xs → take m (xs ++ l ∷ []) ≡ take m xs
  by zero xs le = refl
  by (suc m) [] le = absurd (omega arith)
  by (suc m) (x ∷ xs) le = ap (λ (ys : List Layer). x ∷ ys) (by m xs (omega arith))

-- the last of the layers that are counted
pub counted_snoc : (ls all : List Layer) (l : Layer) → all ≡ ls ++ l ∷ [] → branches_in all ≡ branches_in ls + saved_by l
counted_snoc ls all l e = omega (arith, ap branches_in e, branches-append ls (l ∷ []))

-- what is known of a group, read off its cell
pub slot_known : {A : Type 0} (f : Slot → A) (cells : List Cell) (g : ℕ) (c : Cell) → c ≡ get_or cells g empty_cell → f c.slot ≡ get_or (map f (map cell_slot cells)) g (f empty_slot)
slot_known f cells g c is =
    ap (λ (d : Cell). f d.slot) is ∙ ap f (sym (get_or_mapped cell_slot cells g empty_cell)) ∙ sym (get_or_mapped f (map cell_slot cells) g empty_slot)

-- a cell is written to
pub written_spot : (at limit place kept g : ℕ) (cells : List Cell) (c : Cell) → spot_of at limit place kept (map cell_slot (set cells g c)) ≡ written g c.slot (spot_of at limit place kept (map cell_slot cells))
written_spot at limit place kept g cells c =
    ap (spot_of at limit place kept) (map-set cell_slot cells g c)
    ∙ ap₂ (λ (cs : List (Option Span)) (vs : List ℕ). record { at = at; limit = limit; state = record { place = place; captures = cs; kept = kept }; starts = vs })
    (map-set slot_span (map cell_slot cells) g c.slot) (map-set slot_from (map cell_slot cells) g c.slot)
