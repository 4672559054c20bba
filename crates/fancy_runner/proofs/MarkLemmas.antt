-- Marks that are cleared, forgotten or not made.
use Rattle.std.proofs.Common.{◌≡◌, ℕ, ◌+◌, ◌-◌, ◌*◌, ◌<◌, ◌≤◌, ◌⊎◌, Bool, true, false, List, Option, Some, None, refl, sym, ap, ◌∙◌, inl, inr, arith, zero, suc, subst, replicate}
use Rattle.std.proofs.lemmas.Bool.{true≢false}
use Rattle.std.proofs.lemmas.Nat.{same_from_place}
use Rattle.std.specs.Prelude.{slice_index_or, if◌then◌else◌}
use Rattle.fancy_meaning.specs.Context.{option_to}
use Rattle.fancy_code.specs.Marking.{number_in, worth_in, sum_to, marks, sum_owed, IsNumbered}
use Rattle.fancy_runner.specs.Table.{IsCleared, IsForgotten}
use Rattle.fancy_code.proofs.SumLemmas.{sum_le, sum_one}
use Rattle.fancy_code.proofs.MarkingLemmas.{either_side, if_less, if_most, times_le}

-- a table in which the marks of one row were taken away
module _ (numbers : List (Option ℕ)) (weights : List ℕ) (width : ℕ) (numbered : IsNumbered numbers width) (row : ℕ) (old new : List Bool) (is : IsCleared old new (row * width) width) where
  bit_cleared : (m : ℕ) → m < width → slice_index_or new (row * width + m) false ≡ false
  bit_cleared m lt = is.none (row * width + m) (omega arith) (omega (arith, lt))

  -- a bit of another row is not among those of this one
  bit_apart : (r m : ℕ) → m < width → (r ≡ row → ⊥) → (r * width + m < row * width) ⊎ (row * width + width ≤ r * width + m)
  bit_apart r m lt apart =
      elim (either_side (r * width + m) (row * width)) [
        | inl before ↦ inl before
        | inr from ↦
            elim (either_side (r * width + m) (row * width + width)) [
              | inl inside ↦
                  let k : ℕ = r * width + m - row * width in
                  let place : r * width + m ≡ row * width + k = omega (arith, from) in
                  absurd (apart (same_from_place r m row k width lt (omega (arith, inside, from)) place).0)
              | inr past ↦ inr past
            ]
      ]

  marks_elsewhere : (p r : ℕ) → (r ≡ row → ⊥) → marks numbers width new p r ≡ marks numbers width old p r
  marks_elsewhere p r apart = at (number_in numbers p) refl where
    at : (o : Option ℕ) → number_in numbers p ≡ o
        → option_to o false (λ k. slice_index_or new (r * width + k) false) ≡ option_to o false (λ k. slice_index_or old (r * width + k) false)
    at None e = refl
    at (Some m) e = is.same (r * width + m) (bit_apart r m (numbered.below p m e) apart)

  marks_gone : (p : ℕ) → marks numbers width new p row ≡ false
  marks_gone p = at (number_in numbers p) refl where
    at : (o : Option ℕ) → number_in numbers p ≡ o → option_to o false (λ k. slice_index_or new (row * width + k) false) ≡ false
    at None e = refl
    at (Some m) e = bit_cleared m (numbered.below p m e)

  -- a mark that is left was there before, in another row
  pub marks_left : (p r : ℕ) → marks numbers width new p r ≡ true → (marks numbers width old p r ≡ true) × (r ≡ row → ⊥)
  marks_left p r h =
      let apart : r ≡ row → ⊥ = λ e. true≢false (sym h ∙ ap (marks numbers width new p) e ∙ marks_gone p) in
      (sym (marks_elsewhere p r apart) ∙ h, apart)

  -- what was taken away is worth no more than the marks of a place
  pub left_more : (count rows : ℕ) → sum_owed numbers weights width count rows new ≤ sum_owed numbers weights width count rows old + sum_to (worth_in numbers weights) count
  left_more count rows =
      sum_one _ _ (sum_to (worth_in numbers weights) count) row rows
      (λ r apart. sum_le _ _ count (λ p. if_same (marks numbers width new p r) (marks numbers width old p r) (worth_in numbers weights p) (marks_elsewhere p r apart)))
      (omega (arith, sum_le _ _ count (λ p. if_most (marks numbers width new p row) (worth_in numbers weights p)))) where
        if_same : (a b : Bool) (w : ℕ) → a ≡ b → (if a then 0 else w) ≤ (if b then 0 else w)
        if_same a b w e = if_less a b w (λ h. e ∙ h)

-- a table in which marks before a row were forgotten
module _ (numbers : List (Option ℕ)) (weights : List ℕ) (width row : ℕ) (old new : List Bool) (is : IsForgotten old new (row * width)) where
  -- a mark from that row on was made
  pub marks_kept : (p r : ℕ) → row ≤ r → marks numbers width new p r ≡ true → marks numbers width old p r ≡ true
  marks_kept p r le h = at (number_in numbers p) h where
    at : (o : Option ℕ) → option_to o false (λ k. slice_index_or new (r * width + k) false) ≡ true
        → option_to o false (λ k. slice_index_or old (r * width + k) false) ≡ true
    at None h = h
    at (Some m) h = sym (is.same (r * width + m) (omega (arith, times_le row r width le))) ∙ h

  marks_more : (p r : ℕ) → marks numbers width old p r ≡ true → marks numbers width new p r ≡ true
  marks_more p r h = at (number_in numbers p) h where
    at : (o : Option ℕ) → option_to o false (λ k. slice_index_or old (r * width + k) false) ≡ true
        → option_to o false (λ k. slice_index_or new (r * width + k) false) ≡ true
    at None h = h
    at (Some m) h = is.more (r * width + m) h

  -- no more is left
  pub left_fewer : (count rows : ℕ) → sum_owed numbers weights width count rows new ≤ sum_owed numbers weights width count rows old
  left_fewer count rows = sum_le _ _ rows (λ r. sum_le _ _ count (λ p. if_less (marks numbers width new p r) (marks numbers width old p r) (worth_in numbers weights p) (marks_more p r)))

pub unmarked : (n k : ℕ) → slice_index_or (replicate n false) k false ≡ true → ⊥
unmarked zero k h = true≢false (sym h)
unmarked (suc n) zero h = true≢false (sym h)
unmarked (suc n) (suc k) h = unmarked n k h

pub unmarked_table : (table : List Bool) (n : ℕ) → table ≡ replicate n false → (k : ℕ) → slice_index_or table k false ≡ true → ⊥
unmarked_table table n e k h = unmarked n k (subst (λ (bits : List Bool). slice_index_or bits k false ≡ true) e h)
