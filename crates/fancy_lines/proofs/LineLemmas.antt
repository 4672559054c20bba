-- The starts of the lines tell where a byte stands.
use Rattle.std.proofs.Common.{◌≡◌, ℕ, zero, suc, ◌+◌, ◌-◌, ◌<◌, ◌≤◌, ◌==◌, Bool, true, false, leb, List, [], ◌∷◌, ◌++◌, length, take, get_or, append-nil, drop, refl, sym, ap, ◌∙◌, arith}
use Rattle.std.proofs.lemmas.Grind.{common_steps}
use Rattle.std.proofs.lemmas.List.{length-take-le, take_more}
use Rattle.std.specs.List.Sorted.{IsNonDecreasingBy, IsPartitionPoint}
use Rattle.std.proofs.lemmas.Bool.{leb-true, leb-false}
use Rattle.fancy_lines.specs.LineColumns.{one_more, breaks, further, until_break, since_break, add_start, starts_after, start_at, IsAt}

-- a start added at the end of the starts stays there
add_before : (t : Bool) (p : ℕ) (xs ys : List ℕ) → add_start t p (xs ++ ys) ≡ add_start t p xs ++ ys
add_before true p xs ys = refl
add_before false p xs ys = refl

-- the starts of a text with one byte more
pub starts_grow : (at : ℕ) (text : List ℕ) (b : ℕ) → starts_after at (text ++ (b ∷ [])) ≡ starts_after at text ++ add_start (b == 10) (suc (at + length text)) []
starts_grow at [] b = let e : at + 0 ≡ at = omega arith in rw e refl
starts_grow at (x ∷ text) b =
    let more = starts_grow (suc at) text b in
    let e : suc at + length text ≡ at + suc (length text) = omega arith in
    ap (add_start (x == 10) (suc at)) more ∙ add_before (x == 10) (suc at) (starts_after (suc at) text) _ ∙
    ap (λ (n : ℕ). add_start (x == 10) (suc at) (starts_after (suc at) text) ++ add_start (b == 10) (suc n) []) e

later_by : (t : Bool) (at : ℕ) (xs : List ℕ) → ((i : ℕ) → i < length xs → suc at < get_or xs i 0) → (i : ℕ) → i < length (add_start t (suc at) xs) → at < get_or (add_start t (suc at) xs) i 0
later_by true at xs h zero lt = omega arith
later_by true at xs h (suc i) lt = let a = h i (omega arith) in omega (arith, a)
later_by false at xs h i lt = let a = h i lt in omega (arith, a)

-- each start is past the text's place
pub later : (at : ℕ) (text : List ℕ) (i : ℕ) → i < length (starts_after at text) → at < get_or (starts_after at text) i 0
later at [] i lt = absurd (omega arith)
later at (b ∷ text) i lt = later_by (b == 10) at (starts_after (suc at) text) (later (suc at) text) i lt

-- k of the starts are at most t, and the others are past it
pub record Splits (xs : List ℕ) (k t : ℕ) : Type 0 where
  pub bound : k ≤ length xs
  pub low : (i : ℕ) → i < k → get_or xs i 0 ≤ t
  pub high : (i : ℕ) → k ≤ i → i < length xs → t < get_or xs i 0

-- the same for what follows the first byte
splits_rest : (t : Bool) (at n k : ℕ) (xs : List ℕ) → Splits (add_start t (suc at) xs) (one_more t k) (at + suc n) → Splits xs k (suc at + n)
splits_rest true at n k xs s = record {
  bound = let h = s.bound in omega (arith, h);
  low = λ i lt. let h = s.low (suc i) (omega arith) in omega (arith, h);
  high = λ i le lt. let h = s.high (suc i) (omega arith) (omega arith) in omega (arith, h);
}
splits_rest false at n k xs s = record {
  bound = s.bound;
  low = λ i lt. let h = s.low i lt in omega (arith, h);
  high = λ i le lt. let h = s.high i le lt in omega (arith, h);
}

-- as many starts are up to a place as there are line feeds before it
none_low : (k at : ℕ) (xs : List ℕ) → ((i : ℕ) → i < length xs → at < get_or xs i 0) → Splits xs k (at + 0) → k ≡ 0
none_low zero at xs h s = refl
none_low (suc k) at xs h s = let b = s.bound in let a = s.low 0 (omega arith) in let c = h 0 (omega (arith, b)) in absurd (omega (arith, a, c))

first_is_low : (at n k : ℕ) (xs : List ℕ) → Splits (suc at ∷ xs) k (at + suc n) → 0 < k
first_is_low at n zero xs s = let a = s.high 0 (omega arith) (omega arith) in absurd (omega (arith, a))
first_is_low at n (suc k) xs s = omega arith

breaks_are_by : (t : Bool) (at n k : ℕ) (rest bytes : List ℕ) → ((j : ℕ) → Splits rest j (suc at + n) → breaks bytes ≡ j) → Splits (add_start t (suc at) rest) k (at + suc n) → one_more t (breaks bytes) ≡ k
breaks_are_by true at n zero rest bytes h s = let z = first_is_low at n 0 rest s in absurd (omega (arith, z))
breaks_are_by true at n (suc k) rest bytes h s = ap suc (h k (splits_rest true at n k rest s))
breaks_are_by false at n k rest bytes h s = h k (splits_rest false at n k rest s)

pub breaks_are : (at n k : ℕ) (text : List ℕ) → n ≤ length text → Splits (starts_after at text) k (at + n) → breaks (take n text) ≡ k
breaks_are at zero k text le s = sym (none_low k at (starts_after at text) (later at text) s)
breaks_are at (suc n) k [] le s = absurd (omega arith)
breaks_are at (suc n) k (b ∷ text) le s =
    breaks_are_by (b == 10) at n k (starts_after (suc at) text) (take n text) (λ j. breaks_are (suc at) n j text (omega arith)) s

start_rest : (at : ℕ) (xs : List ℕ) (d k : ℕ) → start_at d (suc at ∷ xs) (suc k) ≡ start_at (suc at) xs k
start_rest at xs d zero = refl
start_rest at xs d (suc k) = refl

-- a line's start and the bytes since make the place
column_is_by : (t : Bool) (d c at n : ℕ) (rest bytes : List ℕ) → d + c ≡ at → ((e f : ℕ) → e + f ≡ suc at → since_break f bytes + start_at e rest (breaks bytes) ≡ suc at + n) → since_break (further t c) bytes + start_at d (add_start t (suc at) rest) (one_more t (breaks bytes)) ≡ at + suc n
column_is_by true d c at n rest bytes e h =
    let k = h (suc at) 0 (omega arith) in
    rw (start_rest at rest d (breaks bytes)) (omega (arith, k))
column_is_by false d c at n rest bytes e h = let k = h d (suc c) (omega (arith, e)) in omega (arith, k)

pub column_is : (d c at n : ℕ) (text : List ℕ) → d + c ≡ at → n ≤ length text → since_break c (take n text) + start_at d (starts_after at text) (breaks (take n text)) ≡ at + n
column_is d c at zero text e le = omega (arith, e)
column_is d c at (suc n) [] e le = absurd (omega arith)
column_is d c at (suc n) (b ∷ text) e le =
    column_is_by (b == 10) d c at n (starts_after (suc at) text) (take n text) e (λ f g h. column_is f g (suc at) n text h (omega arith))

-- no more line feeds than starts
bounded_by : (t : Bool) (at : ℕ) (rest bytes : List ℕ) → breaks bytes ≤ length rest → one_more t (breaks bytes) ≤ length (add_start t (suc at) rest)
bounded_by true at rest bytes h = omega (arith, h)
bounded_by false at rest bytes h = h

pub breaks_bounded : (at n : ℕ) (text : List ℕ) → breaks (take n text) ≤ length (starts_after at text)
breaks_bounded at zero text = omega arith
breaks_bounded at (suc n) [] = omega arith
breaks_bounded at (suc n) (b ∷ text) = bounded_by (b == 10) at (starts_after (suc at) text) (take n text) (breaks_bounded (suc at) n text)

-- the starts rise
rises_by : (t : Bool) (at : ℕ) (xs : List ℕ) → ((i : ℕ) → i < length xs → suc at < get_or xs i 0) → ((i j : ℕ) → i ≤ j → j < length xs → get_or xs i 0 ≤ get_or xs j 0) → (i j : ℕ) → i ≤ j → j < length (add_start t (suc at) xs) → get_or (add_start t (suc at) xs) i 0 ≤ get_or (add_start t (suc at) xs) j 0
rises_by true at xs l h zero zero le lt = omega arith
rises_by true at xs l h zero (suc j) le lt = let a = l j (omega arith) in omega (arith, a)
rises_by true at xs l h (suc i) zero le lt = absurd (omega arith)
rises_by true at xs l h (suc i) (suc j) le lt = h i j (omega arith) (omega arith)
rises_by false at xs l h i j le lt = h i j le lt

pub rises : (at : ℕ) (text : List ℕ) (i j : ℕ) → i ≤ j → j < length (starts_after at text) → get_or (starts_after at text) i 0 ≤ get_or (starts_after at text) j 0
rises at [] i j le lt = absurd (omega arith)
rises at (b ∷ text) i j le lt = rises_by (b == 10) at (starts_after (suc at) text) (later (suc at) text) (rises (suc at) text) i j le lt

in_range : (xs : List ℕ) (i d e : ℕ) → i < length xs → get_or xs i d ≡ get_or xs i e
in_range [] i d e lt = absurd (omega arith)
in_range (x ∷ xs) zero d e lt = refl
in_range (x ∷ xs) (suc i) d e lt = in_range xs i d e (omega arith)

pub rises_by_number : (text xs : List ℕ) → xs ≡ starts_after 0 text → IsNonDecreasingBy (λ (y : ℕ). y) xs
rises_by_number text xs e i j d le lt =
    let size : length xs ≡ length (starts_after 0 text) = ap length e in
    let h = rises 0 text i j le (omega (arith, size, lt)) in
    let first = in_range xs i d 0 (omega arith) in
    let second = in_range xs j d 0 lt in
    let one : get_or xs i 0 ≡ get_or (starts_after 0 text) i 0 = ap (λ (l : List ℕ). get_or l i 0) e in
    let two : get_or xs j 0 ≡ get_or (starts_after 0 text) j 0 = ap (λ (l : List ℕ). get_or l j 0) e in
    omega (arith, h, first, second, one, two)

-- what a search by halves answers
pub splits_at : (xs : List ℕ) (k t u : ℕ) → t ≡ u → k ≤ length xs → IsPartitionPoint (λ y. leb y t ≡ true) (λ y. leb y t ≡ false) xs k → Splits xs k u
splits_at xs k t u e le point = record {
  bound = le;
  low = λ i lt. let h = leb-true (get_or xs i 0) t (point.0 i 0 (omega arith) lt) in omega (arith, h, e);
  high = λ i low lt. let h = leb-false (get_or xs i 0) t (point.1 i 0 low lt) in omega (arith, h, e);
}

-- the starts of a text's beginning that is one byte longer
pub starts_next : (i : ℕ) (text : List ℕ) → i < length text → starts_after 0 (take (i + 1) text) ≡ starts_after 0 (take i text) ++ add_start (get_or text i 0 == 10) (i + 1) []
starts_next i text lt =
    let more : take (i + 1) text ≡ take i text ++ (get_or text i 0 ∷ []) = grind (arith, common_steps) in
    let size : length (take i text) ≡ i = length-take-le i text (omega arith) in
    let one : suc (0 + length (take i text)) ≡ i + 1 = omega (arith, size) in
    ap (starts_after 0) more ∙ starts_grow 0 (take i text) (get_or text i 0) ∙
    ap (λ (n : ℕ). starts_after 0 (take i text) ++ add_start (get_or text i 0 == 10) n []) one

-- a line's start and its column make the offset
pub sum_is : (text starts : List ℕ) (o row place : ℕ) → starts ≡ starts_after 0 text → IsAt text o row place → start_at 0 starts row + place ≡ o
sum_is text starts o row place whole at =
    let h = column_is 0 0 0 o text refl at.inside in
    let a = at.line in let b = at.column in
    rw (whole, sym a, sym b) (omega (arith, h))

-- no line past the last has a place
pub row_bounded : (text starts : List ℕ) (o row place : ℕ) → starts ≡ starts_after 0 text → IsAt text o row place → row ≤ length starts
row_bounded text starts o row place whole at =
    let h = breaks_bounded 0 o text in let a = at.line in rw (whole, sym a) h

-- the place of an offset
pub place_is : (text starts : List ℕ) (o row : ℕ) → starts ≡ starts_after 0 text → o ≤ length text → breaks (take o text) ≡ row → since_break 0 (take o text) + start_at 0 starts row ≡ o
place_is text starts o row whole le a =
    let h = column_is 0 0 0 o text refl le in rw (whole, sym a) (omega (arith, h))

pub is_at : (text starts : List ℕ) (o row start : ℕ) → starts ≡ starts_after 0 text → o ≤ length text → breaks (take o text) ≡ row → start ≡ start_at 0 starts row → IsAt text o row (o - start)
is_at text starts o row start whole le a s = record {
  inside = le;
  line = a;
  column = let h = place_is text starts o row whole le a in omega (arith, h, s);
}

-- one offset has one place
pub same_row : (text : List ℕ) (o row place row' place' : ℕ) → IsAt text o row place → IsAt text o row' place' → row ≡ row'
same_row text o row place row' place' a b = sym a.line ∙ b.line

-- the bytes of the loop that has read one more
pub next_feed : (i : ℕ) (text starts before : List ℕ) → i < length text → (get_or text i 0 == 10) ≡ true → before ≡ starts_after 0 (take i text) → starts ≡ before ++ ((i + 1) ∷ []) → starts ≡ starts_after 0 (take (i + 1) text)
next_feed i text starts before lt feed e f = rw (starts_next i text lt, feed) (f ∙ ap (λ (l : List ℕ). l ++ ((i + 1) ∷ [])) e)

pub next_other : (i : ℕ) (text starts before : List ℕ) → i < length text → (get_or text i 0 == 10) ≡ false → before ≡ starts_after 0 (take i text) → starts ≡ before → starts ≡ starts_after 0 (take (i + 1) text)
next_other i text starts before lt other e f = rw (starts_next i text lt, other) (f ∙ e ∙ sym (append-nil (starts_after 0 (take i text))))

-- the column of an offset that was made of a line's start and a column
pub made_place : (text starts : List ℕ) (o row row' place place' start : ℕ) → starts ≡ starts_after 0 text → IsAt text o row' place' → row' ≡ row → start ≡ start_at 0 starts row → o ≡ start + place → IsAt text o row place
made_place text starts o row row' place place' start whole at e s m = record {
  inside = at.inside;
  line = at.line ∙ e;
  column = let h = sum_is text starts o row' place' whole at in let k = at.column in
      let f : start_at 0 starts row' ≡ start_at 0 starts row = ap (start_at 0 starts) e in omega (arith, h, k, s, m, f);
}

-- ---- one line

since_grows : (n : ℕ) (bytes : List ℕ) (b : ℕ) → since_break n (bytes ++ (b ∷ [])) ≡ further (b == 10) (since_break n bytes)
since_grows n [] b = refl
since_grows n (x ∷ bytes) b = since_grows (further (x == 10) n) bytes b

-- the column after one byte more
pub since_next : (i : ℕ) (text : List ℕ) → i < length text → since_break 0 (take (i + 1) text) ≡ further (get_or text i 0 == 10) (since_break 0 (take i text))
since_next i text lt = ap (since_break 0) (take_more text i 0 lt) ∙ since_grows 0 (take i text) (get_or text i 0)

since_by : (t : Bool) (n : ℕ) (bytes : List ℕ) → ((m : ℕ) → since_break m bytes ≤ m + length bytes) → since_break (further t n) bytes ≤ n + suc (length bytes)
since_by true n bytes h = let a = h 0 in omega (arith, a)
since_by false n bytes h = let a = h (suc n) in omega (arith, a)

pub since_bounded : (n : ℕ) (bytes : List ℕ) → since_break n bytes ≤ n + length bytes
since_bounded n [] = omega arith
since_bounded n (b ∷ bytes) = since_by (b == 10) n bytes (λ m. since_bounded m bytes)

-- a line feed ends it
pub until_feed : (i : ℕ) (text : List ℕ) → i < length text → (get_or text i 0 == 10) ≡ true → until_break text ≡ take i text ++ until_break (drop i text) → take i text ≡ until_break text
until_feed i text lt feed e =
    let one : drop i text ≡ get_or text i 0 ∷ drop (i + 1) text = grind (arith, common_steps) in
    let two : until_break (get_or text i 0 ∷ drop (i + 1) text) ≡ [] = rw feed refl in
    sym (e ∙ ap (λ (l : List ℕ). take i text ++ l) (ap until_break one ∙ two) ∙ append-nil (take i text))

-- the loop that counts the bytes since the last line feed
pub counts_feed : (i n m : ℕ) (text : List ℕ) → i < length text → (get_or text i 0 == 10) ≡ true → m ≡ 0 → m ≡ since_break 0 (take (i + 1) text)
counts_feed i n m text lt feed e = rw (since_next i text lt, feed) e

pub counts_other : (i n m : ℕ) (text : List ℕ) → i < length text → (get_or text i 0 == 10) ≡ false → n ≡ since_break 0 (take i text) → m ≡ n + 1 → m ≡ since_break 0 (take (i + 1) text)
counts_other i n m text lt other h e = rw (since_next i text lt, other) (let k : m ≡ suc n = omega (arith, e) in k ∙ ap suc h)
