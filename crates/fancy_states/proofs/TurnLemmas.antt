-- Marks by the turn in which each number was marked last.
use Rattle.std.proofs.Common.{◌≡◌, ℕ, zero, suc, ◌<◌, ◌≤◌, Bool, true, false, eqb, List, [], ◌∷◌, length, replicate, get_or, set, take, refl, sym, ◌∙◌, ap, ap₂, arith, eq-eqb, ne_eqb, All}
use Rattle.std.specs.Prelude.{slice_index_or}
use Rattle.fancy_states.specs.Marks.{marks_of}

pub length-marks : (turn : ℕ) (stamps : List ℕ) → length (marks_of turn stamps) ≡ length stamps
length-marks turn [] = refl
length-marks turn (s ∷ stamps) = ap suc (length-marks turn stamps)

-- nothing is marked in a later turn
pub turned : (turn later : ℕ) (stamps : List ℕ) → turn < later → All (λ (s : ℕ). s ≤ turn) stamps → marks_of later stamps ≡ replicate (length stamps) false
turned turn later [] lt all = refl
turned turn later (s ∷ stamps) lt all =
    let low : s ≤ turn = all zero 0 (omega arith) in
    ap₂ (λ (b : Bool) (bs : List Bool). b ∷ bs) (ne_eqb s later (omega arith)) (turned turn later stamps lt (λ k d h. all (suc k) d (omega arith)))

-- nothing is marked in the first turn of zeros
pub turned_first : (n : ℕ) → marks_of 1 (replicate n 0) ≡ replicate n false
turned_first zero = refl
turned_first (suc n) = ap₂ (λ (b : Bool) (bs : List Bool). b ∷ bs) (ne_eqb 0 1 (omega arith)) (turned_first n)

pub low_zeros : (n turn : ℕ) → All (λ (s : ℕ). s ≤ turn) (replicate n 0)
low_zeros zero turn k d lt = absurd (omega arith)
low_zeros (suc n) turn zero d lt = omega arith
low_zeros (suc n) turn (suc k) d lt = low_zeros n turn k d (omega arith)

pub low_set : (turn n : ℕ) (stamps : List ℕ) → All (λ (s : ℕ). s ≤ turn) stamps → All (λ (s : ℕ). s ≤ turn) (set stamps n turn)
low_set turn n [] all k d lt = absurd (omega arith)
low_set turn zero (s ∷ stamps) all zero d lt = omega arith
low_set turn zero (s ∷ stamps) all (suc k) d lt = all (suc k) d lt
low_set turn (suc n) (s ∷ stamps) all zero d lt = all zero d (omega arith)
low_set turn (suc n) (s ∷ stamps) all (suc k) d lt = low_set turn n stamps (λ j e h. all (suc j) e (omega arith)) k d (omega arith)

marks-at : (turn n : ℕ) (stamps : List ℕ) (d : ℕ) → n < length stamps → slice_index_or (marks_of turn stamps) n false ≡ eqb (get_or stamps n d) turn
marks-at turn n [] d lt = absurd (omega arith)
marks-at turn zero (s ∷ stamps) d lt = refl
marks-at turn (suc n) (s ∷ stamps) d lt = marks-at turn n stamps d (omega arith)

-- a number that was marked in another turn has no mark
pub unmarked_at : (turn n : ℕ) (stamps : List ℕ) (d : ℕ) → n < length stamps → (get_or stamps n d ≡ turn → ⊥) → slice_index_or (marks_of turn stamps) n false ≡ false
unmarked_at turn n stamps d lt ne = marks-at turn n stamps d lt ∙ ne_eqb (get_or stamps n d) turn ne

pub marked_at : (turn n : ℕ) (stamps : List ℕ) (d : ℕ) → n < length stamps → get_or stamps n d ≡ turn → slice_index_or (marks_of turn stamps) n false ≡ true
marked_at turn n stamps d lt e = marks-at turn n stamps d lt ∙ eq-eqb (get_or stamps n d) turn e

pub marks-set : (turn n : ℕ) (stamps : List ℕ) → n < length stamps → marks_of turn (set stamps n turn) ≡ set (marks_of turn stamps) n true
marks-set turn n [] lt = absurd (omega arith)
marks-set turn zero (s ∷ stamps) lt = ap (λ (b : Bool). b ∷ marks_of turn stamps) (eq-eqb turn turn refl)
marks-set turn (suc n) (s ∷ stamps) lt = ap (λ (bs : List Bool). eqb s turn ∷ bs) (marks-set turn n stamps (omega arith))

-- a mark that was made before
pub marks_made : (marks : List Bool) (n : ℕ) → n < length marks → slice_index_or marks n false ≡ true → set marks n true ≡ marks
marks_made [] n lt e = absurd (omega arith)
marks_made (b ∷ marks) zero lt e = ap (λ (c : Bool). c ∷ marks) (sym e)
marks_made (b ∷ marks) (suc n) lt e = ap (λ (cs : List Bool). b ∷ cs) (marks_made marks n (omega arith) e)

pub none_taken : (n : ℕ) (l : List ℕ) → l ≡ [] → take n l ≡ []
none_taken zero l e = refl
none_taken (suc n) [] e = refl
none_taken (suc n) (x ∷ l) e = cc
