-- What the log is once a trail was changed.
use Rattle.std.proofs.Common.{◌≡◌, ℕ, zero, suc, ◌+◌, ◌-◌, ◌*◌, ◌<◌, ◌≤◌, ◌⊎◌, inl, inr, min, Bool, true, false, nat_lt, nat_le, Some, List, [], ◌∷◌, ◌++◌, All, length, map, take, drop, filter, replicate, set, get_or, if◌then◌else◌, refl, sym, ap, ◌∙◌, subst, append_assoc, append-nil, mul_comm, arith}
use Rattle.std.proofs.lemmas.List.{take-append-drop, map-set, set-get_or, length-set, length-take-le, length-append, length-map, length-drop, get_or-map, get_or-drop, get_or-replicate, length-replicate}
use Rattle.std.proofs.lemmas.List.Elements.{filter-append}
use Rattle.std.proofs.lemmas.List.Sums.{sum_by-le}
use Rattle.std.proofs.lemmas.Bool.{le-leb, lt-leb, leb-true, ltb-true, ltb-false}
use Rattle.fancy_code.specs.declared.slot.Slot.{Slot}
use Rattle.fancy_trail.specs.declared.log.Cell.{Cell}
use Rattle.fancy_trail.specs.declared.log.Write.{Write}
use Rattle.fancy_trail.specs.declared.layer.Layer.{Layer}
use Rattle.fancy_trail.specs.declared.layer.Kind.{Kind}
use Rattle.fancy_trail.specs.Frames.{Frame}
use Rattle.fancy_trail.specs.Log.{cell_slot, cell_level, empty_cell, old_cell, old_slot, old_level, undone_by, is_kept, lowered, Climbs, writes_allowed, IsUnwritten}
use Rattle.fancy_trail.specs.Layers.{spot_of, frames_by, frames_at, stacked, frames_of, saves, is_region, earlier, saved_by, branches_in, less_one, TookLast, Rises, depth, IsLog}
use Rattle.fancy_trail.proofs.LogLemmas.{undone_over, undone-map, length-undone, climbs_push, climbs_take, climbs_drop, climbs_sum, climbs_within, climbs_given, climbs_same, climbs_kept, lowered_is, min_all}
use Rattle.fancy_code.specs.Thread.{empty_slot}
use Rattle.fancy_code.proofs.ThreadLemmas.{map-replicate}
use Rattle.fancy_trail.proofs.LayerLemmas.{rises_le, rises_more, rises_below, frames_shift, unsaved}
use Rattle.fancy_trail.specs.declared.layer.Kind.TheVariants as k

abbrev part : Layer → ℕ → ℕ
part l n = if nat_le l.log n then saved_by l else 0

part_le : (l : Layer) (i : ℕ) → part l i ≤ saved_by l
part_le l i = by (nat_le l.log i) where
  by : (b : Bool) → (if b then saved_by l else 0) ≤ saved_by l
  by true = omega arith
  by false = omega arith

-- a layer that was made later does not count, and one that was made by then does
part_none : (l : Layer) (i : ℕ) → i < l.log → part l i ≡ 0
part_none l i lt = ap (λ (b : Bool). if b then saved_by l else 0) (lt-leb l.log i lt)

part_all : (l : Layer) (i : ℕ) → l.log ≤ i → part l i ≡ saved_by l
part_all l i le = ap (λ (b : Bool). if b then saved_by l else 0) (le-leb l.log i le)

depth_le : (ls : List Layer) (i : ℕ) → depth ls i ≤ branches_in ls
depth_le [] i = omega arith
depth_le (l ∷ ls) i = omega (arith, part_le l i, depth_le ls i)

depth_none : (lo n : ℕ) (ls : List Layer) (i : ℕ) → Rises lo ls n → i < lo → depth ls i ≡ 0
depth_none lo n [] i r lt = refl
depth_none lo n (l ∷ ls) i r lt = omega (arith, part_none l i (omega (arith, lt, r.0)), depth_none l.log n ls i r.1 (omega (arith, lt, r.0)))

pub depth_all : (lo n : ℕ) (ls : List Layer) (i : ℕ) → Rises lo ls n → n ≤ i → depth ls i ≡ branches_in ls
depth_all lo n [] i r le = refl
depth_all lo n (l ∷ ls) i r le = omega (arith, part_all l i (omega (arith, le, rises_le l.log n ls r.1)), depth_all l.log n ls i r.1 le)

-- of what was saved when write i was logged the layers below x are a part, and before x was made they are all
depth_cut : (lo n j : ℕ) (ls : List Layer) (x : Layer) (i : ℕ) → Rises lo ls n → j < length ls → x ≡ get_or ls j x → (depth (take j ls) i ≤ depth ls i) × (i < x.log → depth ls i ≡ depth (take j ls) i)
depth_cut lo n j [] x i r lt at = absurd (omega (arith, lt))
depth_cut lo n zero (l ∷ ls) x i r lt at = (
  omega arith,
  λ below. omega (arith, part_none l i (omega (arith, below, ap (λ (y : Layer). y.log) at)), depth_none l.log n ls i r.1 (omega (arith, below, ap (λ (y : Layer). y.log) at))),
)
depth_cut lo n (suc j) (l ∷ ls) x i r lt at =
    let c = depth_cut l.log n j ls x i r.1 (omega (arith, lt)) at in
    (omega (arith, c.0), λ below. ap (λ (m : ℕ). part l i + m) (c.1 below))

-- the layers above the first j saved no more branches when write i was logged than they save in all
depth_rest : (j : ℕ) (ls : List Layer) (i : ℕ) → depth ls i + branches_in (take j ls) ≤ depth (take j ls) i + branches_in ls
depth_rest zero ls i = omega (arith, depth_le ls i)
depth_rest (suc j) [] i = omega arith
depth_rest (suc j) (l ∷ ls) i = omega (arith, depth_rest j ls i)

depth-append : (ls ks : List Layer) (i : ℕ) → depth (ls ++ ks) i ≡ depth ls i + depth ks i
depth-append [] ks i = omega arith
depth-append (d ∷ ls) ks i = omega (arith, depth-append ls ks i)

-- a layer that saves no branch stands for no slots
frames_unsaved : (l : Layer) (s t : List Slot) → saved_by l ≡ 0 → frames_by l.kind (earlier l) (spot_of l.at l.limit l.place l.kept s) ≡ frames_by l.kind (earlier l) (spot_of l.at l.limit l.place l.kept t)
frames_unsaved l s t none = by (earlier l) l.kind (omega (arith, none)) (omega (arith, none)) where
  by : (n : ℕ) (j : Kind) → n ≡ 0 → saves j ≡ 0 → frames_by j n (spot_of l.at l.limit l.place l.kept s) ≡ frames_by j n (spot_of l.at l.limit l.place l.kept t)
  by (suc n) j e none = absurd (omega (arith, e))
  by zero k.Branch e none = absurd (omega (arith, none))
  by zero k.Atom e none = refl
  by zero (k.Look behind) e none = refl
  by zero (k.Denial behind) e none = absurd (omega (arith, none))
  by zero k.Condition e none = absurd (omega (arith, none))

module _ (g : ℕ) (x : Slot) (log : List Write) (slots : List Slot) where
  abbrev before : Layer → List Frame
  before = frames_at log slots

  abbrev now : Layer → List Frame
  now = frames_at log (set slots g x)

  unsaved_same : (fs : List Frame) (ls : List Layer) → branches_in ls ≡ 0 → stacked now fs ls ≡ stacked before fs ls
  unsaved_same fs [] none = refl
  unsaved_same fs (l ∷ ls) none =
      ap (λ (gs : List Frame). stacked now (gs ++ fs) ls) (frames_unsaved l _ _ (omega (arith, none))) ∙ unsaved_same (before l ++ fs) ls (omega (arith, none))

  module _ (i : ℕ) (d : Write) (lt : i < length log) (to : (get_or log i d).group ≡ g) where
    over_same : (fs : List Frame) (ls : List Layer) → depth ls i ≡ branches_in ls → stacked now fs ls ≡ stacked before fs ls
    over_same fs [] all = refl
    over_same fs (l ∷ ls) all =
        ap (λ (gs : List Frame). stacked now (gs ++ fs) ls) (by (nat_le l.log i) refl) ∙ over_same (before l ++ fs) ls (omega (arith, all, part_le l i, depth_le ls i))
      where
        by : (b : Bool) → nat_le l.log i ≡ b → now l ≡ before l
        by true e =
            let le : l.log ≤ i = leb-true l.log i e in
            let at : i ≡ l.log + (i - l.log) = omega (arith, le) in
            ap (λ (s : List Slot). frames_by l.kind (earlier l) (spot_of l.at l.limit l.place l.kept s))
            (undone_over old_slot slots (drop l.log log) (i - l.log) g x d (omega (arith, lt, le, length-drop l.log log))
            (ap (λ (w : Write). w.group) (get_or-drop l.log log (i - l.log) d ∙ ap (λ (m : ℕ). get_or log m d) (sym at)) ∙ to))
        by false e =
            let none : part l i ≡ 0 = ap (λ (b : Bool). if b then saved_by l else 0) e in
            frames_unsaved l _ _ (omega (arith, none, all, depth_le ls i))

abbrev d : Write
d = record { group = 0; old = empty_cell }

-- no frame depends on what stands now in a group that was logged since the last branch was saved
frames_over : (ls : List Layer) (log : List Write) (slots : List Slot) (count g : ℕ) (levels : List ℕ) (x : Slot) → Climbs (depth ls) 0 (replicate count 0) log levels → g < count → get_or levels g 0 ≡ branches_in ls
    → frames_of log (set slots g x) ls ≡ frames_of log slots ls
frames_over ls log slots count g levels x c lt full = by (climbs_given (depth ls) 0 g (replicate count 0) levels log d c (omega (arith, lt, length-replicate {A = ℕ} count 0))) where
  by : (get_or levels g 0 ≡ get_or (replicate count 0) g 0) ⊎ ((i : ℕ) × (i < length log) × ((get_or log i d).group ≡ g) × (depth ls (0 + i) ≡ get_or levels g 0)) → frames_of log (set slots g x) ls ≡ frames_of log slots ls
  by (inl e) = unsaved_same g x log slots [] ls (sym full ∙ e ∙ get_or-replicate count g 0 0 lt)
  by (inr i) = over_same g x log slots i.0 d i.1 i.2 [] ls (ap (depth ls) (omega arith) ∙ i.3 ∙ full)

-- The log of layers that stay, where those above are dropped: `done` are the writes of it that were looked at, and `rest` the others.
module _ (ls : List Layer) (b r count : ℕ) (deeper : ℕ → ℕ) (slots : List Slot) (all : branches_in ls ≡ b) (rises : Rises 0 ls r) (deep : (i : ℕ) → r ≤ i → b ≤ deeper i) where
  abbrev Thins : List Write → List Write → List ℕ → Type 0
  Thins done rest high =
      Climbs (depth ls) 0 (replicate count 0) (done ++ filter (is_kept b) rest) (map (min b) high) × (frames_of (done ++ filter (is_kept b) rest) slots ls ≡ frames_of (done ++ rest) slots ls)

  thins : (n : ℕ) (done rest : List Write) (low high : List ℕ) → r ≤ length done → r ≤ n → length low ≡ count → Climbs (depth ls) 0 (replicate count 0) done (map (min b) low) → Climbs deeper n low rest high → Thins done rest high
  thins n done [] low high long late len c rest =
      (subst (λ (ws : List Write). Climbs (depth ls) 0 (replicate count 0) ws (map (min b) high)) (sym (append-nil done)) (subst (λ (hs : List ℕ). Climbs (depth ls) 0 (replicate count 0) done (map (min b) hs)) rest c), refl)
  thins n done (w ∷ rest) low high long late len c more =
      by (nat_lt w.old.level b) refl
      (λ first known. thins (suc n) first rest (set low w.group (deeper n)) high known.0 (omega (arith, late)) (length-set low w.group (deeper n) ∙ len) known.1 more.3)
    where
      by : (t : Bool) → nat_lt w.old.level b ≡ t → ((first : List Write) → (r ≤ length first) × Climbs (depth ls) 0 (replicate count 0) first (map (min b) (set low w.group (deeper n))) → Thins first rest high) → Thins done (w ∷ rest) high
      by true e next =
          let lt : w.old.level < b = ltb-true w.old.level b e in
          let full : depth ls (length done) ≡ b = depth_all 0 r ls (length done) rises long ∙ all in
          let least : b ≡ min b (deeper n) = omega (arith, deep n late) in
          let same : min b w.old.level ≡ w.old.level = omega (arith, lt) in
          let pushed = climbs_push (depth ls) 0 (length done) (replicate count 0) (map (min b) low) (map (min b) (set low w.group (deeper n))) done w c (omega arith)
          (sym (get_or-map (min b) low w.group 0 0 more.2 ∙ ap (min b) (sym more.0) ∙ same)) (omega (arith, lt, full)) (omega (arith, more.2, length-map low (min b)))
          (map-set (min b) low w.group (deeper n) ∙ ap (set (map (min b) low) w.group) (sym least ∙ sym full)) in
          let t = next (done ++ w ∷ []) (omega (arith, long, length-append done (w ∷ [])), pushed) in
          rw e (
            subst (λ (ws : List Write). Climbs (depth ls) 0 (replicate count 0) ws (map (min b) high)) (append_assoc done (w ∷ []) (filter (is_kept b) rest)) t.0,
            sym (ap (λ (ws : List Write). frames_of ws slots ls) (append_assoc done (w ∷ []) (filter (is_kept b) rest))) ∙ t.1
                ∙ ap (λ (ws : List Write). frames_of ws slots ls) (append_assoc done (w ∷ []) rest),
          )
      by false e next =
          let ge : b ≤ w.old.level = ltb-false w.old.level b e in
          let least : min b (deeper n) ≡ b = omega (arith, deep n late) in
          let high_is : min b w.old.level ≡ b = omega (arith, ge) in
          let full : get_or (map (min b) low) w.group 0 ≡ b = get_or-map (min b) low w.group 0 0 more.2 ∙ ap (min b) (sym more.0) ∙ high_is in
          let same : map (min b) (set low w.group (deeper n)) ≡ map (min b) low =
          map-set (min b) low w.group (deeper n) ∙ ap (set (map (min b) low) w.group) (least ∙ sym full) ∙ set-get_or (map (min b) low) w.group 0 in
          let t = next done (long, subst (Climbs (depth ls) 0 (replicate count 0) done) (sym same) c) in
          let lower = rises_more 0 r (length done) ls long rises in
          rw e (
            t.0,
            t.1 ∙ frames_shift slots done rest ls lower
                ∙ sym (frames_shift slots done (w ∷ rest) ls lower ∙ frames_over ls done (undone_by old_slot slots rest) count w.group (map (min b) low) w.old.slot c (omega (arith, more.2, len)) (full ∙ sym all)),
          )

-- no level is higher than the number of branches
within : (ls : List Layer) (n count : ℕ) (log : List Write) (high : List ℕ) → Climbs (depth ls) n (replicate count 0) log high → All (λ l. l ≤ branches_in ls) high
within ls n count log high c = climbs_within (depth ls) (branches_in ls) n (replicate count 0) high log (depth_le ls) (λ k d lt. omega (arith, get_or-replicate count k 0 d (omega (arith, lt, length-replicate {A = ℕ} count 0)))) c

-- the log holds no more writes than groups for each branch
pub few : (ls : List Layer) (log : List Write) (cells : List Cell) → IsLog ls log cells → length log ≤ writes_allowed (branches_in ls) (length cells)
few ls log cells c =
    let sum = climbs_sum (depth ls) 0 (replicate (length cells) 0) (map cell_level cells) log c in
    let most = sum_by-le (λ (l : ℕ). l) (branches_in ls) (map cell_level cells) (within ls 0 (length cells) log (map cell_level cells) c) in
    let same : length (map cell_level cells) * branches_in ls ≡ branches_in ls * length cells = ap (λ (n : ℕ). n * branches_in ls) (length-map cells cell_level) ∙ mul_comm (length cells) (branches_in ls) in
    omega (arith, sum, most, same)

module _ (ls : List Layer) (log : List Write) (cells : List Cell) (rises : Rises 0 ls (length log)) (is : IsLog ls log cells) where
  -- the layers from x on are dropped, and their writes thinned
  module _ (j : ℕ) (x : Layer) (lt : j < length ls) (at : x ≡ get_or ls j x) where
    abbrev lower : List Layer
    lower = take j ls

    abbrev levels : List ℕ
    levels = map cell_level cells

    low_rises : Rises 0 lower x.log
    low_rises = rises_below 0 (length log) j ls x lt at rises

    pub x_within : x.log ≤ length log
    x_within = log_le 0 j ls rises lt at where
      log_le : (lo i : ℕ) (ks : List Layer) → Rises lo ks (length log) → i < length ks → x ≡ get_or ks i x → x.log ≤ length log
      log_le lo i [] r below e = absurd (omega (arith, below))
      log_le lo zero (l ∷ ks) r below e = omega (arith, rises_le l.log (length log) ks r.1, ap (λ (y : Layer). y.log) e)
      log_le lo (suc i) (l ∷ ks) r below e = log_le l.log i ks r.1 (omega (arith, below)) e

    first : Climbs (depth lower) 0 (replicate (length cells) 0) (take x.log log) (undone_by old_level levels (drop x.log log))
    first =
        climbs_same (depth ls) (depth lower) x.log 0 (replicate (length cells) 0) (undone_by old_level levels (drop x.log log)) (take x.log log)
        (λ i below. (depth_cut 0 (length log) j ls x i rises lt at).1 below) (omega (arith, length-take-le x.log log x_within))
        (climbs_take (depth ls) 0 x.log (replicate (length cells) 0) levels log is)

    rest : Climbs (depth ls) x.log (undone_by old_level levels (drop x.log log)) (drop x.log log) levels
    rest = climbs_drop (depth ls) 0 x.log x.log (replicate (length cells) 0) levels log x_within (omega arith) is

    deep : (i : ℕ) → x.log ≤ i → branches_in lower ≤ depth ls i
    deep i le = omega (arith, (depth_cut 0 (length log) j ls x i rises lt at).0, depth_all 0 x.log lower i low_rises le)

    -- where the dropped layers save no branch, all of the log stays
    pub unthinned : branches_in ls ≤ branches_in lower → Rises 0 lower (length log) × IsLog lower log cells
    unthinned none = (
      rises_more 0 x.log (length log) lower x_within low_rises,
      climbs_same (depth ls) (depth lower) (length log) 0 (replicate (length cells) 0) levels log
          (λ i below. omega (arith, (depth_cut 0 (length log) j ls x i rises lt at).0, depth_rest j ls i, none)) (omega arith) is,
    )

    pub low_kept : filter (is_kept (branches_in lower)) (take x.log log) ≡ take x.log log
    low_kept = climbs_kept (depth lower) (branches_in lower) 0 (replicate (length cells) 0) (undone_by old_level levels (drop x.log log)) (take x.log log) (λ i below. depth_le lower i) first

    pub left : (after : List Cell) → map cell_slot after ≡ map cell_slot cells → map cell_level after ≡ lowered (branches_in lower) levels (drop x.log log)
        → Rises 0 lower (length (filter (is_kept (branches_in lower)) log)) × IsLog lower (filter (is_kept (branches_in lower)) log) after
        × (frames_of (filter (is_kept (branches_in lower)) log) (map cell_slot after) lower ≡ frames_of log (map cell_slot cells) lower)
    left after slots_same level_is =
        let b = branches_in lower in
        let mids = undone_by old_level levels (drop x.log log) in
        let mid_within : All (λ l. l ≤ b) mids = within lower 0 (length cells) (take x.log log) mids first in
        let count : length mids ≡ length cells = length-undone old_level levels (drop x.log log) ∙ length-map cells cell_level in
        let count_now : length after ≡ length cells = sym (length-map after cell_slot) ∙ ap length slots_same ∙ length-map cells cell_slot in
        let all : take x.log log ++ filter (is_kept b) (drop x.log log) ≡ filter (is_kept b) log =
        ap (λ (ws : List Write). ws ++ filter (is_kept b) (drop x.log log)) (sym low_kept) ∙ sym (filter-append (is_kept b) (take x.log log) (drop x.log log))
        ∙ ap (filter (is_kept b)) (take-append-drop x.log log) in
        let long : x.log ≤ length (take x.log log) = omega (arith, length-take-le x.log log x_within) in
        let t = thins lower b x.log (length cells) (depth ls) (map cell_slot cells) refl low_rises deep x.log (take x.log log) (drop x.log log) mids levels long (omega arith) count
        (subst (Climbs (depth lower) 0 (replicate (length cells) 0) (take x.log log)) (sym (min_all b mids mid_within)) first) rest in (
          rises_more 0 x.log (length (filter (is_kept b) log)) lower (omega (arith, long, ap length all, length-append (take x.log log) (filter (is_kept b) (drop x.log log)))) low_rises,
          subst (λ (n : ℕ). Climbs (depth lower) 0 (replicate n 0) (filter (is_kept b) log) (map cell_level after)) (sym count_now)
              (subst (Climbs (depth lower) 0 (replicate (length cells) 0) (filter (is_kept b) log)) (sym (level_is ∙ lowered_is (depth ls) b x.log mids levels (drop x.log log) deep mid_within rest))
              (subst (λ (ws : List Write). Climbs (depth lower) 0 (replicate (length cells) 0) ws (map (min b) levels)) all t.0)),
          ap (λ (ss : List Slot). frames_of (filter (is_kept b) log) ss lower) slots_same
              ∙ ap (λ (ws : List Write). frames_of ws (map cell_slot cells) lower) (sym all) ∙ t.1 ∙ ap (λ (ws : List Write). frames_of ws (map cell_slot cells) lower) (take-append-drop x.log log),
        )

  -- a group is written to
  module _ (g : ℕ) (old : Cell) (lt : g < length cells) (at : old ≡ get_or cells g empty_cell) where
    level_at : get_or (map cell_level cells) g 0 ≡ old.level
    level_at = get_or-map cell_level cells g empty_cell 0 lt ∙ ap cell_level (sym at)

    pub logged : (new : Cell) (w : Write) → new.level ≡ branches_in ls → w ≡ record { group = g; old = old } → old.level < branches_in ls → IsLog ls (log ++ w ∷ []) (set cells g new)
    logged new w level write less =
        let full : depth ls (length log) ≡ branches_in ls = depth_all 0 (length log) ls (length log) rises (omega arith) in
        rw write
        (subst (λ (n : ℕ). Climbs (depth ls) 0 (replicate n 0) (log ++ record { group = g; old = old } ∷ []) (map cell_level (set cells g new))) (sym (length-set cells g new))
        (climbs_push (depth ls) 0 (length log) (replicate (length cells) 0) (map cell_level cells) (map cell_level (set cells g new)) log (record { group = g; old = old }) is (omega arith)
        (sym level_at) (omega (arith, less, full)) (omega (arith, lt, length-map cells cell_level))
        (map-set cell_level cells g new ∙ ap (set (map cell_level cells) g) (level ∙ sym full))))

    pub unlogged : (new : Cell) → new.level ≡ old.level → branches_in ls ≤ old.level → IsLog ls log (set cells g new) × (frames_of log (map cell_slot (set cells g new)) ls ≡ frames_of log (map cell_slot cells) ls)
    unlogged new level more =
        let most : get_or (map cell_level cells) g 0 ≤ branches_in ls = within ls 0 (length cells) log (map cell_level cells) is g 0 (omega (arith, lt, length-map cells cell_level)) in
        let same : map cell_level (set cells g new) ≡ map cell_level cells = map-set cell_level cells g new ∙ ap (set (map cell_level cells) g) (level ∙ sym level_at) ∙ set-get_or (map cell_level cells) g 0 in (
          subst (λ (n : ℕ). Climbs (depth ls) 0 (replicate n 0) log (map cell_level (set cells g new))) (sym (length-set cells g new)) (subst (Climbs (depth ls) 0 (replicate (length cells) 0) log) (sym same) is),
          ap (λ (ss : List Slot). frames_of log ss ls) (map-set cell_slot cells g new)
              ∙ frames_over ls log (map cell_slot cells) (length cells) g (map cell_level cells) new.slot is lt (omega (arith, most, more, level_at)),
        )

  -- one more layer
  pub saved_log : (all : List Layer) (l : Layer) → all ≡ ls ++ l ∷ [] → l.log ≡ length log → IsLog all log cells
  saved_log all l e made =
      climbs_same (depth ls) (depth all) (length log) 0 (replicate (length cells) 0) (map cell_level cells) log
      (λ i below. omega (arith, ap (λ (ks : List Layer). depth ks i) e, depth-append ls (l ∷ []) i, part_none l i (omega (arith, below, made)))) (omega arith) is

-- the last branch of the last layer was taken
module _ (all fewer : List Layer) (l : Layer) (t : TookLast (Some l) all fewer) (log : List Write) (cells : List Cell) (is : IsLog all log cells) where
  -- what it saved counts at none of the writes up to its own, or never, if that is nothing
  took_depth : (i : ℕ) → ((m : Layer) → m.log ≡ l.log → saved_by m ≤ saved_by l → part m i ≡ 0) → depth all i ≡ depth fewer i
  took_depth i none =
      omega (
        arith,
        ap (λ (ks : List Layer). depth ks i) t.1,
        depth-append t.0 (l ∷ []) i,
        none l refl (omega arith),
        ap (λ (ks : List Layer). depth ks i) t.2,
        depth-append t.0 (less_one l) i,
        by (nat_lt 0 (earlier l)),
      )
    where
      by : (b : Bool) → depth (if b then record l { place = l.place - 1 } ∷ [] else []) i ≡ 0
      by true = omega (arith, none (record l { place = l.place - 1 }) refl (fewer_saved (is_region l.kind)))
        where
          fewer_saved : (b : Bool) → saves l.kind + (if b then 0 else l.place - 1 - l.from) ≤ saves l.kind + (if b then 0 else l.place - l.from)
          fewer_saved true = omega arith
          fewer_saved false = omega arith
      by false = refl

  -- it saved none
  pub unsaved_log : saves l.kind ≡ 0 → IsLog fewer log cells
  unsaved_log none =
      climbs_same (depth all) (depth fewer) (length log) 0 (replicate (length cells) 0) (map cell_level cells) log
      (λ i below. took_depth i (λ m at le. omega (arith, part_le m i, le, unsaved l none))) (omega arith) is

  -- and what was written since it was made is undone
  pub undone_log : l.log ≤ length log → IsLog fewer (take l.log log) (undone_by old_cell cells (drop l.log log))
  undone_log le =
      subst (λ (n : ℕ). Climbs (depth fewer) 0 (replicate n 0) (take l.log log) (map cell_level (undone_by old_cell cells (drop l.log log)))) (sym (length-undone old_cell cells (drop l.log log)))
      (subst (Climbs (depth fewer) 0 (replicate (length cells) 0) (take l.log log)) (sym (undone-map cell_level old_cell cells (drop l.log log)))
      (climbs_same (depth all) (depth fewer) l.log 0 (replicate (length cells) 0) (undone_by old_level (map cell_level cells) (drop l.log log)) (take l.log log)
      (λ i below. took_depth i (λ m at few. part_none m i (omega (arith, below, at)))) (omega (arith, length-take-le l.log log le))
      (climbs_take (depth all) 0 l.log (replicate (length cells) 0) (map cell_level cells) log is)))

-- no write was logged
pub begun_log : (cells : List Cell) → cells ≡ replicate (length cells) empty_cell → IsLog [] [] cells
begun_log cells empty = sym (ap (map cell_level) empty ∙ map-replicate cell_level (length cells) empty_cell)

none_undone : (n : ℕ) (cells : List Cell) → (take {A = Write} n [] ≡ []) × (undone_by old_cell cells (drop {A = Write} n []) ≡ cells)
none_undone zero cells = (refl, refl)
none_undone (suc n) cells = (refl, refl)

-- cells that nothing was written to stay as they are where writes are undone
pub undone_unwritten : (n : ℕ) (log less : List Write) (cells old : List Cell) → less ≡ take n log → old ≡ undone_by old_cell cells (drop n log) → IsUnwritten log cells → IsUnwritten less old
undone_unwritten n log less cells old less_is old_is clean =
    let none = none_undone n cells in
    let same : old ≡ cells = old_is ∙ ap (λ (ws : List Write). undone_by old_cell cells (drop n ws)) clean.0 ∙ none.1 in
    (less_is ∙ ap (take n) clean.0 ∙ none.0, subst (λ (cs : List Cell). map cell_slot cs ≡ replicate (length cs) empty_slot) (sym same) clean.1)

-- and where the log is thinned
pub thinned_unwritten : (level : ℕ) (log less : List Write) (cells after : List Cell) → less ≡ filter (is_kept level) log → map cell_slot after ≡ map cell_slot cells → IsUnwritten log cells → IsUnwritten less after
thinned_unwritten level log less cells after less_is same clean =
    let count : length cells ≡ length after = sym (length-map cells cell_slot) ∙ ap length (sym same) ∙ length-map after cell_slot in
    (less_is ∙ ap (filter (is_kept level)) clean.0, same ∙ clean.1 ∙ ap (λ (n : ℕ). replicate n empty_slot) count)
