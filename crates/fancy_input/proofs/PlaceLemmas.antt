-- Boundaries, and the steps between them.
use Rattle.std.proofs.Common.{arith, ℕ, zero, suc, ◌+◌, ◌-◌, ◌<◌, ◌≤◌, ◌≡◌, Bool, true, false, List, [], ◌∷◌, length, drop, slice_index, IsTrue, IsCharBoundary, IsUtf8, refl, ap, subst, zero-add, suc-add, length-drop}
use Rattle.std.specs.Prelude.{if◌then◌else◌}
use Rattle.std.proofs.lemmas.Str.{IsCharBoundary-start}
use Rattle.std.proofs.lemmas.Grind.{common_steps}
use Rattle.std.proofs.lemmas.Bool.Decides.{nat_tests}
use Rattle.fancy_input.specs.Places.{is_boundary, is_continuation, continuations, prev_place, next_place}

-- the end and what lies past it are boundaries, and so is each byte that continues no character
pub is_boundary_past : (bs : List ℕ) (i : ℕ) → length bs ≤ i → IsTrue (is_boundary bs i)
is_boundary_past bs i h = grind (arith, nat_tests, common_steps)

pub is_boundary_at_end : (bs : List ℕ) → IsTrue (is_boundary bs (length bs))
is_boundary_at_end bs = is_boundary_past bs (length bs) (omega arith)

pub is_boundary_from_byte : (bs : List ℕ) (i : ℕ) → is_continuation (slice_index bs i) ≡ false → IsTrue (is_boundary bs i)
is_boundary_from_byte bs i h = grind (arith, nat_tests, common_steps)

-- a place of text is a boundary of std's just where this test holds
pub boundary_of_text : (bs : List ℕ) (i : ℕ) → IsUtf8 bs → i ≤ length bs → IsTrue (is_boundary bs i) → IsCharBoundary bs i
boundary_of_text bs zero u l t = IsCharBoundary-start bs u
boundary_of_text bs (suc i) u l t = grind (arith, nat_tests, common_steps)

pub text_of_boundary : (bs : List ℕ) (i : ℕ) → IsCharBoundary bs i → IsTrue (is_boundary bs i)
text_of_boundary bs zero h = refl
text_of_boundary bs (suc i) h = grind (arith, nat_tests, common_steps, h.0, h.1)

-- back over one byte that continues a character
pub prev_place_over : (bs : List ℕ) (i : ℕ) → is_continuation (slice_index bs i) ≡ true → prev_place bs (suc i) ≡ prev_place bs i
unfolding prev_place
prev_place_over bs i h = ap (λ b. if b then prev_place bs i else i) h

pub prev_place_stop : (bs : List ℕ) (i : ℕ) → is_continuation (slice_index bs i) ≡ false → prev_place bs (suc i) ≡ i
unfolding prev_place
prev_place_stop bs i h = ap (λ b. if b then prev_place bs i else i) h

same_branches : (b : Bool) → (if b then zero else zero) ≡ zero
same_branches true = refl
same_branches false = refl

pub prev_place_first : (bs : List ℕ) (i : ℕ) → i ≡ 0 → prev_place bs (suc i) ≡ i
unfolding prev_place
prev_place_first bs zero h = same_branches (is_continuation (slice_index bs 0))
prev_place_first bs (suc i) h = absurd (omega arith)

-- the place before is a boundary below, and no boundary stands between
boundary_after : (bs : List ℕ) (i : ℕ) (b : Bool) → is_continuation (slice_index bs i) ≡ b → IsTrue (is_boundary bs (prev_place bs i)) → IsTrue (is_boundary bs (if b then prev_place bs i else i))
boundary_after bs i true e h = h
boundary_after bs i false e h = is_boundary_from_byte bs i e

pub prev_place_boundary : (bs : List ℕ) (i : ℕ) → IsTrue (is_boundary bs (prev_place bs i))
unfolding prev_place
prev_place_boundary bs zero = refl
prev_place_boundary bs (suc i) = boundary_after bs i (is_continuation (slice_index bs i)) refl (prev_place_boundary bs i)

step_below : (bs : List ℕ) (i : ℕ) (b : Bool) → prev_place bs i ≤ i → (if b then prev_place bs i else i) < suc i
step_below bs i true h = omega arith
step_below bs i false h = omega arith

pub prev_place_at_most : (bs : List ℕ) (i : ℕ) → prev_place bs i ≤ i
unfolding prev_place
prev_place_at_most bs zero = omega arith
prev_place_at_most bs (suc i) = let h = step_below bs i (is_continuation (slice_index bs i)) (prev_place_at_most bs i) in omega (arith, h)

-- a byte above 0 that continues a character is no boundary
inside_no_boundary : (bs : List ℕ) (j : ℕ) → 0 < j → j < length bs → is_continuation (slice_index bs j) ≡ true → is_boundary bs j ≡ false
inside_no_boundary bs j p l h = grind (arith, nat_tests, common_steps)

none_after : (bs : List ℕ) (i j : ℕ) (b : Bool) → is_continuation (slice_index bs i) ≡ b → suc i ≤ length bs → (prev_place bs i < j → j < i → is_boundary bs j ≡ false)
    → (if b then prev_place bs i else i) < j → j < suc i → is_boundary bs j ≡ false
none_after bs i j false e l h lo hi = absurd (omega arith)
none_after bs i j true e l h lo hi = grind (arith, inside_no_boundary, h)

pub prev_place_nearest : (bs : List ℕ) (i j : ℕ) → i ≤ length bs → prev_place bs i < j → j < i → is_boundary bs j ≡ false
unfolding prev_place
prev_place_nearest bs zero j l lo hi = absurd (omega arith)
prev_place_nearest bs (suc i) j l lo hi = none_after bs i j (is_continuation (slice_index bs i)) refl l (prev_place_nearest bs i j (omega arith)) lo hi

-- after the bytes that continue a character there is none
at_stop : (x : ℕ) (xs : List ℕ) (b : Bool) → is_continuation x ≡ b → (continuations xs < length xs → is_continuation (slice_index xs (continuations xs)) ≡ false)
    → (if b then suc (continuations xs) else zero) < suc (length xs) → is_continuation (slice_index (x ∷ xs) (if b then suc (continuations xs) else zero)) ≡ false
at_stop x xs true e r h = r (omega arith)
at_stop x xs false e r h = e

after_list : (xs : List ℕ) → continuations xs < length xs → is_continuation (slice_index xs (continuations xs)) ≡ false
after_list [] h = absurd (omega arith)
after_list (x ∷ xs) h = at_stop x xs (is_continuation x) refl (after_list xs) h

after_continuations : (bs : List ℕ) (k : ℕ) → k + continuations (drop k bs) < length bs → is_continuation (slice_index bs (k + continuations (drop k bs))) ≡ false
after_continuations [] k h = absurd (omega arith)
after_continuations (b ∷ bs) zero h = rw zero-add (after_list (b ∷ bs) (omega arith))
after_continuations (b ∷ bs) (suc k) h = rw suc-add (after_continuations bs k (omega (arith, h)))

boundary_unless_inside : (bs : List ℕ) (j : ℕ) → (j < length bs → is_continuation (slice_index bs j) ≡ false) → IsTrue (is_boundary bs j)
boundary_unless_inside bs j f = grind (arith, nat_tests, common_steps, f)

-- the next place of text is a boundary, or lies past the end
pub next_place_boundary : (bs : List ℕ) (i : ℕ) → IsTrue (is_boundary bs (next_place true bs i))
next_place_boundary bs i = boundary_unless_inside bs (next_place true bs i) (after_continuations bs (i + 1))

pub next_place_above : (text : Bool) (bs : List ℕ) (i : ℕ) → i < next_place text bs i
next_place_above true bs i = omega arith
next_place_above false bs i = omega arith

count_within : (x : ℕ) (xs : List ℕ) (b : Bool) → continuations xs ≤ length xs → (if b then suc (continuations xs) else zero) ≤ suc (length xs)
count_within x xs true h = omega arith
count_within x xs false h = omega arith

continuations_within : (xs : List ℕ) → continuations xs ≤ length xs
continuations_within [] = omega arith
continuations_within (x ∷ xs) = count_within x xs (is_continuation x) (continuations_within xs)

-- each byte that is counted continues a character
counted : (x : ℕ) (xs : List ℕ) (b : Bool) (k : ℕ) → is_continuation x ≡ b → ((k' : ℕ) → k' < continuations xs → is_continuation (slice_index xs k') ≡ true)
    → k < (if b then suc (continuations xs) else zero) → is_continuation (slice_index (x ∷ xs) k) ≡ true
counted x xs true zero e h l = e
counted x xs true (suc k) e h l = h k (omega arith)
counted x xs false k e h l = absurd (omega arith)

continues_each : (xs : List ℕ) (k : ℕ) → k < continuations xs → is_continuation (slice_index xs k) ≡ true
continues_each [] k h = absurd (omega arith)
continues_each (x ∷ xs) k h = counted x xs (is_continuation x) k refl (continues_each xs) h

continues_from : (bs : List ℕ) (n k : ℕ) → k < continuations (drop n bs) → is_continuation (slice_index bs (n + k)) ≡ true
continues_from [] n k h = absurd (omega (arith, continuations_within (drop n []), length-drop {A = ℕ} n []))
continues_from (b ∷ bs) zero k h = rw zero-add (continues_each (b ∷ bs) k h)
continues_from (b ∷ bs) (suc n) k h = rw suc-add (continues_from bs n k h)

-- no boundary stands between a place of text and the next
pub next_place_nearest : (bs : List ℕ) (i j : ℕ) → i < j → j < next_place true bs i → is_boundary bs j ≡ false
next_place_nearest bs i j lo hi =
    let k = j - (i + 1) in
    let e : i + 1 + k ≡ j = omega arith in
    let short : k < continuations (drop (i + 1) bs) = omega arith in
    let inside : is_continuation (slice_index bs j) ≡ true = subst (λ (n : ℕ). is_continuation (slice_index bs n) ≡ true) e (continues_from bs (i + 1) k short) in
    inside_no_boundary bs j (omega arith) (omega (arith, continuations_within (drop (i + 1) bs), length-drop (i + 1) bs)) inside
