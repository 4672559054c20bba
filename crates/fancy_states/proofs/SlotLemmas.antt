-- Slots of a table.
use Rattle.std.proofs.Common.{◌≡◌, ◌⊎◌, ℕ, zero, suc, ◌∙◌, inl, inr, List, [], ◌∷◌, ◌++◌, Some, refl, sym, ap, subst, take, replicate}
use Rattle.std.specs.Prelude.{slice_get, slice_set}
use Rattle.fancy_states.specs.Slots.{ComeFrom, IsIn}
use Rattle.fancy_states.specs.declared.slots.Slot.{Slot}
use Rattle.fancy_states.specs.Transitions.{slot_sight}
use Rattle.fancy_alphabet.specs.declared.side.Side.{Side}
use Rattle.fancy_meaning.specs.declared.reading.Reading.{Reading}

in_replicate : (n i : ℕ) (s x : Slot) → slice_get (replicate n s) i ≡ Some x → x ≡ s
in_replicate zero i s x e = absurd (cc)
in_replicate (suc n) zero s x e = cc
in_replicate (suc n) (suc i) s x e = in_replicate n i s x e

take_none : (n : ℕ) (xs : List Slot) → xs ≡ [] → take n xs ≡ []
take_none zero xs e = refl
take_none (suc n) [] e = refl
take_none (suc n) (x ∷ xs) e = absurd (cc)

-- an empty list that is filled up has nothing else
pub in_filled : (old new : List Slot) (n m : ℕ) (s : Slot) → old ≡ [] → new ≡ take n old ++ replicate m s → (x : Slot) → IsIn new x → x ≡ s
in_filled old new n m s none put x is =
    let whole : new ≡ replicate m s = put ∙ ap (λ (xs : List Slot). xs ++ replicate m s) (take_none n old none) in
    in_replicate m is.0 s x (ap (λ (xs : List Slot). slice_get xs is.0) (sym whole) ∙ is.1)

-- one of them more
pub come_in : (slots middle later : List Slot) (b s : Slot) → ComeFrom slots b middle → IsIn slots s → ComeFrom middle s later → ComeFrom slots b later
come_in slots middle later b s first there then x is =
    elim (then x is) [
      | inl same ↦ inr (subst (IsIn slots) (sym same) there)
      | inr old ↦ first x old
    ]

-- what is seen where the character of a slot is read
pub slot_reads : (s : Slot) (before after : Side) (r : Reading) → s.code ≡ r.code → s.width ≡ r.width → s.after ≡ after
    → slot_sight before s ≡ record { before = before; after = after; reading = Some r }
slot_reads s before after r code width same =
    ap (λ (a : Side). record { before = before; after = a; reading = Some (record { code = s.code; width = s.width }) }) same
    ∙ ap (λ (c : ℕ). record { before = before; after = after; reading = Some (record { code = c; width = s.width }) }) code
    ∙ ap (λ (w : ℕ). record { before = before; after = after; reading = Some (record { code = r.code; width = w }) }) width

-- what a list has after one place of it was put anew
in_set : (xs : List Slot) (i j : ℕ) (v x : Slot) → slice_get (slice_set xs i v) j ≡ Some x → (x ≡ v) ⊎ IsIn xs x
in_set [] i j v x e = absurd (cc)
in_set (y ∷ ys) zero zero v x e = inl (cc)
in_set (y ∷ ys) zero (suc j) v x e = inr (suc j, e)
in_set (y ∷ ys) (suc i) zero v x e = inr (zero, e)
in_set (y ∷ ys) (suc i) (suc j) v x e = elim (in_set ys i j v x e) [
  | inl same ↦ inl same
  | inr there ↦ inr (suc there.0, there.1)
]

-- one of them was moved, and another one put in its place
pub slot_left : (slots : List Slot) (first second : ℕ) (s moved x : Slot) → IsIn slots moved → IsIn (slice_set (slice_set slots second moved) first s) x → (x ≡ s) ⊎ IsIn slots x
slot_left slots first second s moved x there is =
    elim (in_set (slice_set slots second moved) first is.0 s x is.1) [
      | inl same ↦ inl same
      | inr old ↦ elim (in_set slots second old.0 moved x old.1) [
        | inl same ↦ inr (subst (IsIn slots) (sym same) there)
        | inr older ↦ inr older
      ]
    ]
