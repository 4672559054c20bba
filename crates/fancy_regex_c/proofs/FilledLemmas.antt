-- A buffer that is filled with items, one after another.
use Rattle.std.proofs.Common.{◌≡◌, ◌∙◌, ◌<◌, ◌≤◌, ◌+◌, ◌-◌, min, ℕ, zero, suc, List, [], ◌∷◌, ◌++◌, length, take, drop, set, get_or, refl, sym, ap, arith, append_assoc, drop-cons}
use Rattle.std.proofs.lemmas.List.{length-append, length-take, length-drop, take-append-le, drop_all, set_at}
use Rattle.fancy_regex_c.specs.Buffers.{filled, PutsNext}

take_all : {A : Type 0} (n : ℕ) (xs : List A) → length xs ≤ n → take n xs ≡ xs
take_all zero [] h = refl
take_all zero (x ∷ xs) h = absurd (omega (arith, h))
take_all (suc n) [] h = refl
take_all (suc n) (x ∷ xs) h = ap (λ z. x ∷ z) (take_all n xs (omega (arith, h)))

pub take_of_none : {A : Type 0} (n : ℕ) → take {A = A} n [] ≡ []
take_of_none zero = refl
take_of_none (suc n) = refl

-- nothing leaves the buffer as it was
pub filled_with_none : {A : Type 0} (old : List A) → filled [] old ≡ old
filled_with_none {A} old = rw (take_of_none {A = A} (length old)) refl

-- items that there is room for stand before what was after them
pub filled_within : {A : Type 0} (items old : List A) → length items ≤ length old → filled items old ≡ items ++ drop (length items) old
filled_within items old h = ap (λ z. z ++ drop (length items) old) (take_all (length old) items h)

pub put_within : {A : Type 0} (x : A) (items old : List A) (n : ℕ) → length items ≡ n → n < length old → set (filled items old) n x ≡ filled (items ++ (x ∷ [])) old
put_within {A} x items old n e h =
    let y = get_or old (length items) x in
    let rest = drop (suc (length items)) old in
    let here : filled items old ≡ items ++ (y ∷ rest) = filled_within items old (omega (arith, e, h)) ∙ ap (λ (z : List A). items ++ z) (drop-cons old (length items) x (omega (arith, e, h))) in
    let long : length (items ++ (x ∷ [])) ≡ suc (length items) = length-append items (x ∷ []) ∙ omega arith in
    let after : filled (items ++ (x ∷ [])) old ≡ (items ++ (x ∷ [])) ++ rest = filled_within (items ++ (x ∷ [])) old (omega (arith, e, h, long)) ∙ ap (λ (z : ℕ). (items ++ (x ∷ [])) ++ drop z old) long in
    ap (λ (z : List A). set z n x) here ∙ (set_at items y rest x n e ∙ sym (after ∙ append_assoc items (x ∷ []) rest))

pub put_past : {A : Type 0} (x : A) (items old : List A) (n : ℕ) → length items ≡ n → length old ≤ n → filled items old ≡ filled (items ++ (x ∷ [])) old
put_past {A} x items old n e h =
    let long : length (items ++ (x ∷ [])) ≡ suc (length items) = length-append items (x ∷ []) ∙ omega arith in
    let none : drop (length items) old ≡ [] = drop_all (length items) old (omega (arith, e, h)) in
    let nothing : drop (length (items ++ (x ∷ []))) old ≡ [] = drop_all (length (items ++ (x ∷ []))) old (omega (arith, e, h, long)) in
    let front : take (length old) (items ++ (x ∷ [])) ≡ take (length old) items = take-append-le (length old) items (x ∷ []) (omega (arith, e, h)) in
    rw (none, nothing, front) refl

pub length-filled : {A : Type 0} (items old : List A) → length (filled items old) ≡ length old
length-filled items old =
    let whole : length (filled items old) ≡ length (take (length old) items) + length (drop (length items) old) = length-append (take (length old) items) (drop (length items) old) in
    let front : length (take (length old) items) ≡ min (length old) (length items) = length-take (length old) items in
    let rest : length (drop (length items) old) ≡ length old - length items = length-drop (length items) old in
    omega (arith, whole, front, rest)

-- what a write at the count, or none past the end, makes of the buffer
pub puts_within : {A : Type 0} (x : A) (old : List A) (n : ℕ) → n < length old → PutsNext x old (set old n x) n
puts_within x old n h items first e w =
    let long : length old ≡ length first = ap length w ∙ length-filled items first in
    ap (λ z. set z n x) w ∙ put_within x items first n e (omega (arith, h, long))

pub puts_past : {A : Type 0} (x : A) (old : List A) (n : ℕ) → length old ≤ n → PutsNext x old old n
puts_past x old n h items first e w =
    let long : length old ≡ length first = ap length w ∙ length-filled items first in
    w ∙ put_past x items first n e (omega (arith, h, long))
