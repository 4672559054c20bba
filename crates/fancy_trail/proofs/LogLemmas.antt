-- The log of writes to groups.
use Rattle.std.proofs.Common.{◌≡◌, ◌≢◌, ℕ, zero, suc, ◌+◌, ◌<◌, ◌≤◌, ◌⊎◌, inl, inr, min, List, [], ◌∷◌, ◌++◌, All, length, map, take, drop, filter, set, get_or, sum_by, refl, sym, ap, ◌∙◌, subst, append_assoc, arith, get_or-set_same, get_or-set_other, get_or-drop}
use Rattle.std.proofs.lemmas.List.Filters.{FiltersInPlace}
use Rattle.std.proofs.lemmas.List.{drop_more, drop_at, take_at, take-append-drop, map-set, set-set, set-get_or, length-set}
use Rattle.std.proofs.lemmas.List.Elements.{All-set}
use Rattle.std.proofs.lemmas.List.Sums.{sum_by-set}
use Rattle.std.proofs.lemmas.Bool.{lt-ltb}
use Rattle.fancy_trail.specs.declared.log.Cell.{Cell}
use Rattle.fancy_trail.specs.declared.log.Write.{Write}
use Rattle.fancy_trail.specs.Log.{old_cell, old_level, undone_by, is_kept, lowered, Climbs}

same_or_not : (a b : ℕ) → (a ≡ b) ⊎ (a ≢ b)
same_or_not zero zero = inl refl
same_or_not zero (suc b) = inr (omega arith)
same_or_not (suc a) zero = inr (omega arith)
same_or_not (suc a) (suc b) = by (same_or_not a b) where
  by : (a ≡ b) ⊎ (a ≢ b) → (suc a ≡ suc b) ⊎ (suc a ≢ suc b)
  by (inl e) = inl (ap suc e)
  by (inr n) = inr (omega (arith, n))

-- two places of a list are set in either order
set_swap : {A : Type 0} (xs : List A) (i j : ℕ) (x y : A) → (i ≢ j) → set (set xs i x) j y ≡ set (set xs j y) i x
set_swap [] i j x y n = refl
set_swap (z ∷ xs) zero zero x y n = absurd (n refl)
set_swap (z ∷ xs) zero (suc j) x y n = refl
set_swap (z ∷ xs) (suc i) zero x y n = refl
set_swap (z ∷ xs) (suc i) (suc j) x y n = ap (λ ys. z ∷ ys) (set_swap xs i j x y (omega (arith, n)))

module _ {A : Type 0} (old : Write → A) where
  -- the later writes are undone first
  pub undone-append : (xs : List A) (log more : List Write) → undone_by old xs (log ++ more) ≡ undone_by old (undone_by old xs more) log
  undone-append xs [] more = refl
  undone-append xs (w ∷ log) more = ap (λ ys. set ys w.group (old w)) (undone-append xs log more)

  -- what stands in a group that is set later does not count
  set_undone : (xs : List A) (log : List Write) (g : ℕ) (x y : A) → set (undone_by old (set xs g x) log) g y ≡ set (undone_by old xs log) g y
  set_undone xs [] g x y = set-set xs g x y
  set_undone xs (w ∷ log) g x y = by (set_undone xs log g x y) (same_or_not w.group g) where
    by : set (undone_by old (set xs g x) log) g y ≡ set (undone_by old xs log) g y → (w.group ≡ g) ⊎ (w.group ≢ g)
        → set (set (undone_by old (set xs g x) log) w.group (old w)) g y ≡ set (set (undone_by old xs log) w.group (old w)) g y
    by same (inl e) =
        ap (λ (j : ℕ). set (set (undone_by old (set xs g x) log) j (old w)) g y) e ∙ set-set (undone_by old (set xs g x) log) g (old w) y ∙ same
        ∙ sym (ap (λ (j : ℕ). set (set (undone_by old xs log) j (old w)) g y) e ∙ set-set (undone_by old xs log) g (old w) y)
    by same (inr n) =
        set_swap (undone_by old (set xs g x) log) w.group g (old w) y n ∙ ap (λ ys. set ys w.group (old w)) same
        ∙ sym (set_swap (undone_by old xs log) w.group g (old w) y n)

  -- nor does what stands in a group that one of the writes is to
  pub undone_over : (xs : List A) (log : List Write) (i g : ℕ) (x : A) (d : Write) → i < length log → (get_or log i d).group ≡ g → undone_by old (set xs g x) log ≡ undone_by old xs log
  undone_over xs [] i g x d lt e = absurd (omega (arith, lt))
  undone_over xs (w ∷ log) zero g x d lt e = subst (λ (j : ℕ). set (undone_by old (set xs j x) log) w.group (old w) ≡ set (undone_by old xs log) w.group (old w)) e (set_undone xs log w.group x (old w))
  undone_over xs (w ∷ log) (suc i) g x d lt e = ap (λ ys. set ys w.group (old w)) (undone_over xs log i g x d (omega (arith, lt)) e)

-- what each write wrote over, seen by less
pub undone-map : {A B : Type 0} (f : A → B) (old : Write → A) (xs : List A) (log : List Write) → map f (undone_by old xs log) ≡ undone_by (λ w. f (old w)) (map f xs) log
undone-map f old xs [] = refl
undone-map f old xs (w ∷ log) = map-set f (undone_by old xs log) w.group (old w) ∙ ap (λ ys. set ys w.group (f (old w))) (undone-map f old xs log)

-- the last write of what is left of the log is undone
pub undo_pop : (log cur rest : List Write) (w : Write) (cells now : List Cell) (n m : ℕ) → cur ≡ take n log → cur ≡ rest ++ w ∷ [] → length rest ≡ m
    → now ≡ undone_by old_cell cells (drop n log) → (rest ≡ take m log) × (set now w.group w.old ≡ undone_by old_cell cells (drop m log))
undo_pop log cur rest w cells now n m taken popped len is =
    let whole : log ≡ rest ++ (w ∷ drop n log) =
    sym (take-append-drop n log) ∙ ap (λ (l : List Write). l ++ drop n log) (sym taken ∙ popped) ∙ append_assoc rest (w ∷ []) (drop n log) in
    let front : take m log ≡ rest = ap (take m) whole ∙ take_at rest (w ∷ drop n log) m len in
    let back : drop m log ≡ w ∷ drop n log = ap (drop m) whole ∙ drop_at rest (w ∷ drop n log) m len in
    (sym front, ap (λ (s : List Cell). set s w.group w.old) is ∙ sym (ap (undone_by old_cell cells) back))

module _ (depth : ℕ → ℕ) where
  -- one more write
  pub climbs_push : (n m : ℕ) (low high top : List ℕ) (log : List Write) (w : Write) → Climbs depth n low log high → m ≡ n + length log → w.old.level ≡ get_or high w.group 0 → w.old.level < depth m
      → w.group < length high → top ≡ set high w.group (depth m) → Climbs depth n low (log ++ w ∷ []) top
  climbs_push n m low high top [] w c at is lt within e =
      let same : n ≡ m = omega (arith, at) in
      subst (λ (hs : List ℕ). Climbs depth n hs (w ∷ []) top) (sym c) (is, subst (λ (k : ℕ). w.old.level < depth k) (sym same) lt, within, ap (λ (k : ℕ). set high w.group (depth k)) same ∙ sym e)
  climbs_push n m low high top (x ∷ log) w c at is lt within e = (c.0, c.1, c.2, climbs_push (suc n) m (set low x.group (depth n)) high top log w c.3 (omega (arith, at)) is lt within e)

  -- where all are undone, the levels are those from which they led
  climbs_down : (n : ℕ) (low high : List ℕ) (log : List Write) → Climbs depth n low log high → undone_by old_level high log ≡ low
  climbs_down n low high [] c = sym c
  climbs_down n low high (w ∷ log) c =
      ap (λ (ls : List ℕ). set ls w.group w.old.level) (climbs_down (suc n) (set low w.group (depth n)) high log c.3)
      ∙ set-set low w.group (depth n) w.old.level ∙ ap (set low w.group) c.0 ∙ set-get_or low w.group 0

  -- the first of them led to the levels that there are once the others are undone, and the others from there
  pub climbs_take : (n m : ℕ) (low high : List ℕ) (log : List Write) → Climbs depth n low log high → Climbs depth n low (take m log) (undone_by old_level high (drop m log))
  climbs_take n zero low high [] c = c
  climbs_take n (suc m) low high [] c = c
  climbs_take n zero low high (w ∷ log) c = sym (climbs_down n low high (w ∷ log) c)
  climbs_take n (suc m) low high (w ∷ log) c = (c.0, c.1, c.2, climbs_take (suc n) m (set low w.group (depth n)) high log c.3)

  pub climbs_drop : (n m k : ℕ) (low high : List ℕ) (log : List Write) → m ≤ length log → k ≡ n + m → Climbs depth n low log high → Climbs depth k (undone_by old_level high (drop m log)) (drop m log) high
  climbs_drop n zero k low high log le e c = subst (λ (j : ℕ). Climbs depth j (undone_by old_level high log) log high) (omega (arith, e)) (subst (λ (ls : List ℕ). Climbs depth n ls log high) (sym (climbs_down n low high log c)) c)
  climbs_drop n (suc m) k low high [] le e c = absurd (omega (arith, le))
  climbs_drop n (suc m) k low high (w ∷ log) le e c = climbs_drop (suc n) m k (set low w.group (depth n)) high log (omega (arith, le)) (omega (arith, e)) c.3

  -- each write raised a level
  pub climbs_sum : (n : ℕ) (low high : List ℕ) (log : List Write) → Climbs depth n low log high → length log + sum_by (λ l. l) low ≤ sum_by (λ l. l) high
  climbs_sum n low high [] c = subst (λ (hs : List ℕ). 0 + sum_by (λ l. l) low ≤ sum_by (λ l. l) hs) c (omega arith)
  climbs_sum n low high (w ∷ log) c =
      omega (arith, climbs_sum (suc n) (set low w.group (depth n)) high log c.3, sum_by-set (λ (l : ℕ). l) low w.group (depth n) 0 c.2, c.0, c.1)

  -- no level is higher than the branches that were saved at one of the writes
  pub climbs_within : (b n : ℕ) (low high : List ℕ) (log : List Write) → ((i : ℕ) → depth i ≤ b) → All (λ l. l ≤ b) low → Climbs depth n low log high → All (λ l. l ≤ b) high
  climbs_within b n low high [] le all c = subst (All (λ l. l ≤ b)) c all
  climbs_within b n low high (w ∷ log) le all c = climbs_within b (suc n) (set low w.group (depth n)) high log le (All-set (λ (l : ℕ). l ≤ b) low w.group (depth n) (le n) all) c.3

  -- a level that a group has was given to it by one of the writes, if it did not have it before
  pub climbs_given : (n g : ℕ) (low high : List ℕ) (log : List Write) (d : Write) → Climbs depth n low log high → g < length low
      → (get_or high g 0 ≡ get_or low g 0) ⊎ ((i : ℕ) × (i < length log) × ((get_or log i d).group ≡ g) × (depth (n + i) ≡ get_or high g 0))
  climbs_given n g low high [] d c lt = inl (ap (λ (ls : List ℕ). get_or ls g 0) (sym c))
  climbs_given n g low high (w ∷ log) d c lt = by (climbs_given (suc n) g (set low w.group (depth n)) high log d c.3 (omega (arith, lt, length-set low w.group (depth n)))) (same_or_not g w.group) where
    by : (get_or high g 0 ≡ get_or (set low w.group (depth n)) g 0) ⊎ ((i : ℕ) × (i < length log) × ((get_or log i d).group ≡ g) × (depth (suc n + i) ≡ get_or high g 0)) → (g ≡ w.group) ⊎ (g ≢ w.group)
        → (get_or high g 0 ≡ get_or low g 0) ⊎ ((i : ℕ) × (i < length (w ∷ log)) × ((get_or (w ∷ log) i d).group ≡ g) × (depth (n + i) ≡ get_or high g 0))
    by (inr i) same = inr (suc i.0, omega (arith, i.1), i.2, subst (λ (k : ℕ). depth k ≡ get_or high g 0) (omega arith) i.3)
    by (inl e) (inl same) = inr (0, omega arith, sym same, ap depth (omega arith) ∙ sym (e ∙ ap (λ (j : ℕ). get_or (set low w.group (depth n)) j 0) same ∙ get_or-set_same low w.group (depth n) 0 (omega (arith, lt, same))))
    by (inl e) (inr other) = inl (e ∙ get_or-set_other low w.group g (depth n) 0 other)

-- the depths below m alone count
pub climbs_same : (depth other : ℕ → ℕ) (m n : ℕ) (low high : List ℕ) (log : List Write) → ((i : ℕ) → i < m → depth i ≡ other i) → n + length log ≤ m → Climbs depth n low log high → Climbs other n low log high
climbs_same depth other m n low high [] same le c = c
climbs_same depth other m n low high (w ∷ log) same le c =
    let e : depth n ≡ other n = same n (omega (arith, le)) in
    (c.0, subst (λ (k : ℕ). w.old.level < k) e c.1, c.2, climbs_same depth other m (suc n) (set low w.group (other n)) high log same (omega (arith, le)) (subst (λ (k : ℕ). Climbs depth (suc n) (set low w.group k) log high) e c.3))

-- writes at which no more than so many branches were saved are kept
pub climbs_kept : (depth : ℕ → ℕ) (b n : ℕ) (low high : List ℕ) (log : List Write) → ((i : ℕ) → i < n + length log → depth i ≤ b) → Climbs depth n low log high → filter (is_kept b) log ≡ log
climbs_kept depth b n low high [] le c = refl
climbs_kept depth b n low high (w ∷ log) le c =
    rw (lt-ltb w.old.level b (omega (arith, c.1, le n (omega arith)))) (ap (λ (ws : List Write). w ∷ ws) (climbs_kept depth b (suc n) (set low w.group (depth n)) high log (λ i lt. le i (omega (arith, lt))) c.3))

-- setting levels to one is done in any order
lowered_set : (b g : ℕ) (levels : List ℕ) (log : List Write) → lowered b (set levels g b) log ≡ set (lowered b levels log) g b
lowered_set b g levels [] = refl
lowered_set b g levels (w ∷ log) = by (lowered_set b g (set levels w.group b) log) (same_or_not g w.group) where
  by : lowered b (set (set levels w.group b) g b) log ≡ set (lowered b (set levels w.group b) log) g b → (g ≡ w.group) ⊎ (g ≢ w.group)
      → lowered b (set (set levels g b) w.group b) log ≡ set (lowered b (set levels w.group b) log) g b
  by same (inl e) = ap (λ (j : ℕ). lowered b (set (set levels j b) w.group b) log) e ∙ sym (ap (λ (j : ℕ). lowered b (set (set levels w.group b) j b) log) e) ∙ same
  by same (inr n) = ap (λ (ls : List ℕ). lowered b ls log) (set_swap levels g w.group b b n) ∙ same

-- what the writes led to is lowered to the same as what they led from
lowered_same : (depth : ℕ → ℕ) (b n : ℕ) (low high : List ℕ) (log : List Write) → Climbs depth n low log high → lowered b high log ≡ lowered b low log
lowered_same depth b n low high [] c = sym c
lowered_same depth b n low high (w ∷ log) c =
    lowered_set b w.group high log ∙ ap (λ (ls : List ℕ). set ls w.group b) (lowered_same depth b (suc n) (set low w.group (depth n)) high log c.3)
    ∙ sym (lowered_set b w.group (set low w.group (depth n)) log) ∙ ap (λ (ls : List ℕ). lowered b ls log) (set-set low w.group (depth n) b)

pub min_all : (b : ℕ) (levels : List ℕ) → All (λ l. l ≤ b) levels → map (min b) levels ≡ levels
min_all b [] all = refl
min_all b (l ∷ levels) all =
    let least : l ≤ b = all 0 0 (omega arith) in
    let e : min b l ≡ l = omega arith in
    ap (λ (k : ℕ). k ∷ map (min b) levels) e ∙ ap (λ (ls : List ℕ). l ∷ ls) (min_all b levels (λ k d lt. all (suc k) d (omega (arith, lt))))

lowered_min : (depth : ℕ → ℕ) (b n : ℕ) (low high : List ℕ) (log : List Write) → ((i : ℕ) → n ≤ i → b ≤ depth i) → Climbs depth n low log high → lowered b (map (min b) low) log ≡ map (min b) high
lowered_min depth b n low high [] le c = ap (map (min b)) c
lowered_min depth b n low high (w ∷ log) le c =
    let e : b ≡ min b (depth n) = omega (arith, le n (omega arith)) in
    ap (λ (k : ℕ). lowered b (set (map (min b) low) w.group k) log) e ∙ ap (λ (ls : List ℕ). lowered b ls log) (sym (map-set (min b) low w.group (depth n)))
    ∙ lowered_min depth b (suc n) (set low w.group (depth n)) high log (λ i lt. le i (omega (arith, lt))) c.3

-- the levels of a region's writes once it is left
pub lowered_is : (depth : ℕ → ℕ) (b n : ℕ) (low high : List ℕ) (log : List Write) → ((i : ℕ) → n ≤ i → b ≤ depth i) → All (λ l. l ≤ b) low → Climbs depth n low log high → lowered b high log ≡ map (min b) high
lowered_is depth b n low high log le all c =
    lowered_same depth b n low high log c ∙ ap (λ (ls : List ℕ). lowered b ls log) (sym (min_all b low all)) ∙ lowered_min depth b n low high log le c

-- one write of those that are thinned was looked at
pub thin_step : (b k i : ℕ) (xs ys : List Write) (x : Write) (levels now : List ℕ) → FiltersInPlace (is_kept b) xs ys k i → i < length ys → x ≡ get_or ys i x → now ≡ set levels x.group b
    → lowered b now (drop (i + 1) xs) ≡ lowered b levels (drop i xs)
thin_step b k i xs ys x levels now f lt at e =
    let zero : i ≡ i + 0 = omega arith in
    let same : get_or xs i x ≡ x =
    ap (λ (j : ℕ). get_or xs j x) zero ∙ sym (get_or-drop i xs 0 x) ∙ ap (λ (ws : List Write). get_or ws 0 x) (sym f.rest) ∙ get_or-drop i ys 0 x ∙ ap (λ (j : ℕ). get_or ys j x) (sym zero) ∙ sym at in
    let cut : drop i xs ≡ get_or xs i x ∷ drop (i + 1) xs = drop_more xs i x (omega (arith, lt, f.long)) in
    ap (λ (ls : List ℕ). lowered b ls (drop (i + 1) xs)) e ∙ sym (ap (lowered b levels) (cut ∙ ap (λ (w : Write). w ∷ drop (i + 1) xs) same))

pub length-undone : {A : Type 0} (old : Write → A) (xs : List A) (log : List Write) → length (undone_by old xs log) ≡ length xs
length-undone old xs [] = refl
length-undone old xs (w ∷ log) = length-set (undone_by old xs log) w.group (old w) ∙ length-undone old xs log
