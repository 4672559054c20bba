-- What one more mark changes: the pairs that are known, and what the other marks are worth.
use Rattle.std.proofs.Common.{◌≡◌, ℕ, zero, suc, ◌⊎◌, Bool, true, false, List, [], ◌∷◌, set, refl, ap, inl, inr, ◌+◌, ◌-◌, ◌*◌, ◌<◌, ◌≤◌, ◌++◌, length, Option, Some, None, sym, ◌∙◌, subst, arith, get_or, replicate, get_or-set_same}
use Rattle.std.specs.Prelude.{slice_index_or, if◌then◌else◌}
use Rattle.std.proofs.lemmas.Bool.{true≢false}
use Rattle.std.proofs.lemmas.Nat.{same_from_place}
use Rattle.std.proofs.lemmas.Option.{none-some}
use Rattle.std.proofs.lemmas.List.{get_or_append_left, get_or-map, length-map}
use Rattle.std.proofs.Math.Seq.{get_or-append_seam}
use Rattle.fancy_tree.specs.declared.char_set.CharSet.{CharSet}
use Rattle.fancy_meaning.specs.Context.{option_to}
use Rattle.fancy_code.specs.declared.code.Instr.{Instr}
use Rattle.fancy_code.specs.declared.code.Instr.TheVariants as coded
use Rattle.fancy_code.specs.Instructions.{Instruction, with_set, with_sets, Match, Fail, Character, Member, RawByte, Assert, Split, Open, Close, Enter, Commit, Look, Deny, Test, Back, Recall, Keep, Continue, Taken}
use Rattle.fancy_code.specs.Marking.{number_in, worth_in, due_in, cost_in, sum_to, marks, owed, sum_owed, IsPaid, IsNumbered}
use Rattle.fancy_code.proofs.SumLemmas.{sum_le, sum_less, sum_most}

-- a mark in the table after one more was made
pub member-set : (bs : List Bool) (m n : ℕ) → slice_index_or (set bs n true) m false ≡ true → (slice_index_or bs m false ≡ true) ⊎ (m ≡ n)
member-set [] m n h = inl h
member-set (b ∷ bs) zero zero h = inr refl
member-set (b ∷ bs) zero (suc n) h = inl h
member-set (b ∷ bs) (suc m) zero h = inl h
member-set (b ∷ bs) (suc m) (suc n) h = elim (member-set bs m n h) [ inl x ↦ inl x | inr e ↦ inr (ap suc e) ]

pub either_side : (q n : ℕ) → (q < n) ⊎ (n ≤ q)
either_side zero zero = inr (omega arith)
either_side zero (suc n) = inl (omega arith)
either_side (suc q) zero = inr (omega arith)
either_side (suc q) (suc n) = elim (either_side q n) [ inl x ↦ inl (omega arith) | inr x ↦ inr (omega arith) ]

-- a number in a list that has one entry more
last_number : (xs : List (Option ℕ)) (o : Option ℕ) (q k : ℕ) → number_in (xs ++ o ∷ []) q ≡ Some k → (number_in xs q ≡ Some k) ⊎ ((q ≡ length xs) × (o ≡ Some k))
last_number [] o zero k h = inr (refl, h)
last_number [] o (suc q) k h = inl h
last_number (x ∷ xs) o zero k h = inl h
last_number (x ∷ xs) o (suc q) k h = elim (last_number xs o q k h) [ inl old ↦ inl old | inr new ↦ inr (ap suc new.0, new.1) ]

-- a mark stays where another one is made
stays : (bs : List Bool) (m n : ℕ) → slice_index_or bs m false ≡ true → slice_index_or (set bs n true) m false ≡ true
stays [] m n h = h
stays (b ∷ bs) zero zero h = refl
stays (b ∷ bs) zero (suc n) h = h
stays (b ∷ bs) (suc m) zero h = h
stays (b ∷ bs) (suc m) (suc n) h = stays bs m n h

pub if_less : (a b : Bool) (w : ℕ) → (b ≡ true → a ≡ true) → (if a then 0 else w) ≤ (if b then 0 else w)
if_less true b w h = omega arith
if_less false true w h = absurd (true≢false (sym (h refl)))
if_less false false w h = omega arith

pub if_most : (b : Bool) (w : ℕ) → (if b then 0 else w) ≤ w
if_most true w = omega arith
if_most false w = omega arith

module _ (numbers : List (Option ℕ)) (weights : List ℕ) (width : ℕ) where
  module _ (table : List Bool) (q k row : ℕ) (has : number_in numbers q ≡ Some k) where
    after : List Bool
    after = set table (row * width + k) true

    pub marks_new : ((p m : ℕ) → number_in numbers p ≡ Some m → m < width) → ((p r m : ℕ) → number_in numbers p ≡ Some m → number_in numbers r ≡ Some m → p ≡ r)
        → (p r : ℕ) → marks numbers width (set table (row * width + k) true) p r ≡ true → (marks numbers width table p r ≡ true) ⊎ ((p ≡ q) × (r ≡ row))
    marks_new below apart p r h = at (number_in numbers p) refl h where
      at : (o : Option ℕ) → number_in numbers p ≡ o → option_to o false (λ m. slice_index_or (set table (row * width + k) true) (r * width + m) false) ≡ true
          → (option_to o false (λ m. slice_index_or table (r * width + m) false) ≡ true) ⊎ ((p ≡ q) × (r ≡ row))
      at None e h = absurd (true≢false (sym h))
      at (Some m) e h =
          elim (member-set table (r * width + m) (row * width + k) h) [
            | inl old ↦ inl old
            | inr place ↦
                let same = same_from_place r m row k width (below p m e) (below q k has) place in
                inr (apart p q k (e ∙ ap Some same.1) has, same.0)
          ]

    marks_stay : (p r : ℕ) → marks numbers width table p r ≡ true → marks numbers width (set table (row * width + k) true) p r ≡ true
    marks_stay p r h = at (number_in numbers p) h where
      at : (o : Option ℕ) → option_to o false (λ m. slice_index_or table (r * width + m) false) ≡ true
          → option_to o false (λ m. slice_index_or (set table (row * width + k) true) (r * width + m) false) ≡ true
      at None h = h
      at (Some m) h = stays table (r * width + m) (row * width + k) h

    owed_less : (r p : ℕ) → owed numbers weights width (set table (row * width + k) true) r p ≤ owed numbers weights width table r p
    owed_less r p = if_less (marks numbers width (set table (row * width + k) true) p r) (marks numbers width table p r) (worth_in numbers weights p) (marks_stay p r)

    -- the new mark is worth what its instruction weighs
    pub left_less : (count rows : ℕ) → q < count → row < rows → row * width + k < length table → slice_index_or table (row * width + k) false ≡ false
        → sum_owed numbers weights width count rows (set table (row * width + k) true) + slice_index_or weights q 0 ≤ sum_owed numbers weights width count rows table
    left_less count rows q_in row_in inside new =
        sum_less _ _ (slice_index_or weights q 0) row rows (λ r. sum_le _ _ count (owed_less r)) row_in
        (sum_less _ _ (slice_index_or weights q 0) q count (owed_less row) q_in here) where
          set_now : marks numbers width (set table (row * width + k) true) q row ≡ true
          set_now = ap (λ (o : Option ℕ). option_to o false (λ m. slice_index_or (set table (row * width + k) true) (row * width + m) false)) has
              ∙ get_or-set_same table (row * width + k) true false inside

          unset : marks numbers width table q row ≡ false
          unset = ap (λ (o : Option ℕ). option_to o false (λ m. slice_index_or table (row * width + m) false)) has ∙ new

          worth : worth_in numbers weights q ≡ slice_index_or weights q 0
          worth = ap (λ (o : Option ℕ). option_to o 0 (λ m. slice_index_or weights q 0)) has

          here : owed numbers weights width (set table (row * width + k) true) row q + slice_index_or weights q 0 ≤ owed numbers weights width table row q
          here =
              let a : owed numbers weights width (set table (row * width + k) true) row q ≡ 0 = ap (λ (b : Bool). if b then 0 else (worth_in numbers weights q)) set_now in
              let b : owed numbers weights width table row q ≡ slice_index_or weights q 0 = ap (λ (b : Bool). if b then 0 else (worth_in numbers weights q)) unset ∙ worth in
              omega (arith, a, b)

  -- all marks of a place are worth so much at most
  pub left_most : (count rows : ℕ) (table : List Bool) → sum_owed numbers weights width count rows table ≤ rows * sum_to (worth_in numbers weights) count
  left_most count rows table =
      sum_most _ (sum_to (worth_in numbers weights) count) rows (λ r. sum_le _ _ count (λ p. if_most (marks numbers width table p r) (worth_in numbers weights p)))

  -- no mark is set in a new table
  pub marks_none : (table : List Bool) → ((k : ℕ) → slice_index_or table k false ≡ true → ⊥) → (p r : ℕ) → marks numbers width table p r ≡ true → ⊥
  marks_none table none p r h = at (number_in numbers p) h where
    at : (o : Option ℕ) → option_to o false (λ m. slice_index_or table (r * width + m) false) ≡ true → ⊥
    at None h = true≢false (sym h)
    at (Some m) h = none (r * width + m) h

-- a bit of a row is a bit of the table
pub bit_inside : (row rows k width n : ℕ) → row < rows → k < width → rows * width ≤ n → row * width + k < n
bit_inside row rows k width n lt below h =
    let split : rows ≡ row + 1 + (rows - (row + 1)) = omega arith in
    let times : rows * width ≡ (row + 1 + (rows - (row + 1))) * width = ap (λ (n : ℕ). n * width) split in
    below_in row (rows - (row + 1)) k width (rows * width) n below times h where
      below_in : (row rest k width all n : ℕ) → k < width → all ≡ (row + 1 + rest) * width → all ≤ n → row * width + k < n
      below_in row rest k width all n below e h = omega arith

-- with a mark for each instruction nothing is due
module _ (code : List Instruction) (numbers : List (Option ℕ)) (all : (q : ℕ) → q < length code → number_in numbers q ≡ Some q) (none : (q : ℕ) → length code ≤ q → number_in numbers q ≡ None) (start : ℕ) where
  one_at : (n q : ℕ) → q < n → ◌≡◌ {A = ℕ} (slice_index_or (replicate n 1) q 0) 1
  one_at zero q h = absurd (omega arith)
  one_at (suc n) zero h = refl
  one_at (suc n) (suc q) h = one_at n q (omega arith)

  zero_at : (n q : ℕ) → n ≤ q → ◌≡◌ {A = ℕ} (slice_index_or (replicate n 1) q 0) 0
  zero_at zero q h = refl
  zero_at (suc n) zero h = absurd (omega arith)
  zero_at (suc n) (suc q) h = zero_at n q (omega arith)

  due_none : (q : ℕ) → due_in numbers (replicate (length code) 1) q ≡ 0
  due_none q =
      elim (either_side q (length code)) [
        | inl lt ↦ ap {B = ℕ} (λ (o : Option ℕ). option_to o (slice_index_or (replicate (length code) 1) q 0) (λ k. 0)) (all q lt)
        | inr ge ↦ ap {B = ℕ} (λ (o : Option ℕ). option_to o (slice_index_or (replicate (length code) 1) q 0) (λ k. 0)) (none q ge) ∙ zero_at (length code) q ge
      ]

  cost_none : (i : Instruction) → cost_in numbers (replicate (length code) 1) i ≡ 0
  cost_none Match = refl
  cost_none Fail = refl
  cost_none (Character c next) = due_none next
  cost_none (Member set next) = due_none next
  cost_none (RawByte byte next) = due_none next
  cost_none (Assert a next) = due_none next
  cost_none (Split a b) = omega (arith, due_none a, due_none b)
  cost_none (Open g next) = due_none next
  cost_none (Close g next) = due_none next
  cost_none (Enter body) = refl
  cost_none (Commit next) = refl
  cost_none (Look behind body next) = refl
  cost_none (Deny behind body next) = refl
  cost_none (Test body other) = refl
  cost_none (Back n next) = refl
  cost_none (Recall folded number moved still) = refl
  cost_none (Keep next) = refl
  cost_none (Continue next) = refl
  cost_none (Taken number next) = refl

  worth_one : (q : ℕ) → worth_in numbers (replicate (length code) 1) q ≤ 1
  worth_one q =
      elim (either_side q (length code)) [
        | inl lt ↦ omega (arith, ap {B = ℕ} (λ (o : Option ℕ). option_to o 0 (λ k. slice_index_or (replicate (length code) 1) q 0)) (all q lt), one_at (length code) q lt)
        | inr ge ↦ omega (arith, ap {B = ℕ} (λ (o : Option ℕ). option_to o 0 (λ k. slice_index_or (replicate (length code) 1) q 0)) (none q ge))
      ]

  pub all_paid : IsPaid code numbers (replicate (length code) 1) start
  all_paid = record {
    pays = λ q lt. omega (arith, cost_none (slice_index_or code q Fail), one_at (length code) q lt);
    total = omega (arith, sum_most (worth_in numbers (replicate (length code) 1)) 1 (length code) worth_one, due_none start);
  }

-- each instruction has a mark of its own
module _ (count : ℕ) (numbers : List (Option ℕ)) (all : (q : ℕ) → q < count → number_in numbers q ≡ Some q) (none : (q : ℕ) → count ≤ q → number_in numbers q ≡ None) where
  own : (q k : ℕ) → number_in numbers q ≡ Some k → (q < count) × (q ≡ k)
  own q k h =
      elim (either_side q count) [
        | inl lt ↦ (lt, ap {B = ℕ} (λ (o : Option ℕ). option_to o 0 (λ x. x)) (sym (all q lt) ∙ h))
        | inr ge ↦ absurd (none-some k (sym (none q ge) ∙ h))
      ]

  pub all_numbered : IsNumbered numbers count
  all_numbered = record {
    below = λ q k h. omega (arith, (own q k h).0, (own q k h).1);
    apart = λ q r k h g. omega (arith, (own q k h).1, (own r k g).1);
  }

-- one more instruction is paid for
pub pays_more : (numbers : List (Option ℕ)) (weights : List ℕ) (sets : List CharSet) (instrs : List Instr) (at cost weight : ℕ) → at < length instrs
    → cost ≡ cost_in numbers weights (with_set sets (get_or instrs at coded.Match)) → weight ≡ slice_index_or weights at 0 → cost < weight
    → ((k : ℕ) → k < at → cost_in numbers weights (slice_index_or (with_sets sets instrs) k Fail) < slice_index_or weights k 0)
    → (k : ℕ) → k < at + 1 → cost_in numbers weights (slice_index_or (with_sets sets instrs) k Fail) < slice_index_or weights k 0
pays_more numbers weights sets instrs at cost weight within is weighs less before k lt =
    elim (either_side k at) [
      | inl earlier ↦ before k earlier
      | inr last ↦
          let same : k ≡ at = omega arith in
          subst (λ (n : ℕ). cost_in numbers weights (slice_index_or (with_sets sets instrs) n Fail) < slice_index_or weights n 0) (sym same)
          (let read : slice_index_or (with_sets sets instrs) at Fail ≡ with_set sets (get_or instrs at coded.Match) = get_or-map (with_set sets) instrs at coded.Match Fail within in
          omega (arith, ap (cost_in numbers weights) read, is, weighs, less))
    ]

-- the certificate of instructions, with whatever sets they have
pub paid_by : (numbers : List (Option ℕ)) (weights : List ℕ) (sets : List CharSet) (instrs : List Instr) (start at total all : ℕ) → at ≡ length instrs
    → ((k : ℕ) → k < at → cost_in numbers weights (slice_index_or (with_sets sets instrs) k Fail) < slice_index_or weights k 0)
    → total ≡ sum_to (worth_in numbers weights) at → all ≡ total + due_in numbers weights start → all ≤ length instrs
    → IsPaid (with_sets sets instrs) numbers weights start
paid_by numbers weights sets instrs start at total all end pays is sum le =
    let count : length (with_sets sets instrs) ≡ at = length-map instrs (with_set sets) ∙ sym end in
    record {
      pays = λ q lt. pays q (omega (arith, lt, count));
      total = subst (λ (n : ℕ). sum_to (worth_in numbers weights) n + due_in numbers weights start ≤ n) (sym count) (omega (arith, is, sum, le, end));
    }

-- past its end there is none
pub none_past : (numbers : List (Option ℕ)) (q : ℕ) → length numbers ≤ q → slice_index_or numbers q None ≡ None
none_past [] q h = refl
none_past (n ∷ numbers) zero h = absurd (omega arith)
none_past (n ∷ numbers) (suc q) h = none_past numbers q (omega arith)

-- one more number, or none
pub numbered_none : (xs : List (Option ℕ)) (w : ℕ) → IsNumbered xs w → IsNumbered (xs ++ None ∷ []) w
numbered_none xs w is = record {
  below = λ q k h. is.below q k (kept q k h);
  apart = λ q r k h g. is.apart q r k (kept q k h) (kept r k g);
} where
  kept : (q k : ℕ) → number_in (xs ++ None ∷ []) q ≡ Some k → number_in xs q ≡ Some k
  kept q k h = elim (last_number xs None q k h) [ inl old ↦ old | inr new ↦ absurd (none-some k new.1) ]

pub numbered_more : (xs : List (Option ℕ)) (w : ℕ) → IsNumbered xs w → IsNumbered (xs ++ Some w ∷ []) (w + 1)
numbered_more xs w is = record {
  below = λ q k h. elim (last_number xs (Some w) q k h) [ inl old ↦ omega (arith, is.below q k old) | inr new ↦ omega (arith, same k new.1) ];
  apart = λ q r k h g.
      elim (last_number xs (Some w) q k h) [
        | inl old ↦
            elim (last_number xs (Some w) r k g) [
              | inl old' ↦ is.apart q r k old old'
              | inr new' ↦ let bad : k < w = is.below q k old in absurd (omega (arith, same k new'.1))
            ]
        | inr new ↦
            elim (last_number xs (Some w) r k g) [
              | inl old' ↦ let bad : k < w = is.below r k old' in absurd (omega (arith, same k new.1))
              | inr new' ↦ omega (arith, new.0, new'.0)
            ]
      ];
} where
  same : (k : ℕ) → Some w ≡ Some k → w ≡ k
  same k e = ap {B = ℕ} (λ (o : Option ℕ). option_to o 0 (λ x. x)) e

pub times_le : (a b w : ℕ) → a ≤ b → a * w ≤ b * w
times_le a b w h =
    let split : b ≡ a + (b - a) = omega arith in
    let times : b * w ≡ (a + (b - a)) * w = ap (λ (n : ℕ). n * w) split in
    less a (b - a) w (b * w) times where
      less : (a rest w all : ℕ) → all ≡ (a + rest) * w → a * w ≤ all
      less a rest w all e = omega arith

-- a row lies within the table
pub row_inside : (row rows width : ℕ) → row < rows → row * width + width ≤ rows * width
row_inside row rows width lt = omega (arith, times_le (row + 1) rows width (omega arith), one_row row width) where
  one_row : (row width : ℕ) → (row + 1) * width ≡ row * width + width
  one_row row width = omega arith

times_most : (a w v : ℕ) → w ≤ v → a * w ≤ a * v
times_most a w v h = omega (arith, times_le w v a h)

-- the marks of so many places, and a start at each of n of these, are worth no more than all pairs
pub first_ticks : (code : List Instruction) (numbers : List (Option ℕ)) (weights : List ℕ) (width start rows n : ℕ) (table : List Bool) → IsPaid code numbers weights start → n ≤ rows
    → sum_owed numbers weights width (length code) rows table + n * due_in numbers weights start ≤ rows * length code
first_ticks code numbers weights width start rows n table w le =
    let worth : ℕ = sum_to (worth_in numbers weights) (length code) in
    let due : ℕ = due_in numbers weights start in
    let all : rows * (worth + due) ≤ rows * length code = times_most rows (worth + due) (length code) w.total in
    let starts : n * due ≤ rows * due = times_le n rows due le in
    let most : sum_owed numbers weights width (length code) rows table ≤ rows * worth = left_most numbers weights width (length code) rows table in
    sums rows worth due (rows * length code) (n * due) (sum_owed numbers weights width (length code) rows table) all starts most where
      sums : (rows worth due all starts left : ℕ) → rows * (worth + due) ≤ all → starts ≤ rows * due → left ≤ rows * worth → left + starts ≤ all
      sums rows worth due all starts left h k m = omega arith

-- one more start
pub one_start : (n m d : ℕ) → n ≡ m + 1 → n * d ≡ m * d + d
one_start n m d e = ap (λ (k : ℕ). k * d) e ∙ more m d where
  more : (m d : ℕ) → (m + 1) * d ≡ m * d + d
  more m d = omega arith

-- a later position has at least one start less before it
pub later_starts : (n m d : ℕ) → m + 1 ≤ n → m * d + d ≤ n * d
later_starts n m d le = omega (arith, times_le (m + 1) n d le, one_start (m + 1) m d refl)

-- one more number
pub each_more : (xs ys : List (Option ℕ)) (n : ℕ) → length xs ≡ n → ys ≡ xs ++ Some n ∷ [] → ((k : ℕ) → k < n → slice_index_or xs k None ≡ Some k)
    → (k : ℕ) → k < n + 1 → slice_index_or ys k None ≡ Some k
each_more xs ys n len e each k lt =
    subst (λ (zs : List (Option ℕ)). slice_index_or zs k None ≡ Some k) (sym e)
    (elim (either_side k n) [
      | inl before ↦ get_or_append_left xs (Some n ∷ []) None k (omega (arith, len)) ∙ each k before
      | inr past ↦
          let at : k ≡ length xs = omega (arith, len) in
          subst (λ (j : ℕ). slice_index_or (xs ++ Some n ∷ []) j None ≡ Some k) (sym at)
          (get_or-append_seam xs (Some n) [] None ∙ ap Some (sym len ∙ sym at))
    ])
