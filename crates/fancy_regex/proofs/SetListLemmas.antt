-- Indices that pass a test, and readings place by place.
use Rattle.std.proofs.Common.{◌≡◌, ℕ, zero, suc, ◌+◌, ◌<◌, ◌≤◌, Bool, true, false, ◌||◌, List, [], ◌∷◌, ◌++◌, Some, None, filter, find, length, take, get_or, slice_get, refl, sym, ap, subst, ◌∙◌, arith}
use Rattle.std.specs.Borrow.{Bor}
use Rattle.std.specs.List.{range_with_len, list_any, AllZip}
use Rattle.std.proofs.lemmas.List.{take_more, get_or-map, length-map}
use Rattle.std.proofs.lemmas.Option.{slice_get-get_or}
use Rattle.std.proofs.lemmas.List.Elements.{All-nil, All-cons}
use Rattle.fancy_search.specs.declared.options.Options.{Options}
use Rattle.fancy_core.specs.declared.regex.Regex.{Regex}
use Rattle.fancy_core.specs.Regexes.{options_in}
use Rattle.fancy_regex.specs.Sets.{bytes_of_each, AreReadings, HaveOptions}

-- none of the m numbers from a on passes the test
abbrev pub NoneOf : (ℕ → Bool) → ℕ → ℕ → Type 0
NoneOf f a m = (j : ℕ) → a ≤ j → j < a + m → f j ≡ false

none_after : (f : ℕ → Bool) (a m : ℕ) → NoneOf f a (suc m) → NoneOf f (a + 1) m
none_after f a m none = λ j from below. none j (omega (arith, from)) (omega (arith, below))

pub nothing_kept : (f : ℕ → Bool) (a m : ℕ) → NoneOf f a m → filter f (range_with_len a m) ≡ []
nothing_kept f a zero none = refl
nothing_kept f a (suc m) none =
    let first : f a ≡ false = none a (omega arith) (omega arith) in
    rw first (nothing_kept f (a + 1) m (none_after f a m none))

pub nothing_passes : (f : ℕ → Bool) (a m : ℕ) → NoneOf f a m → list_any f (range_with_len a m) ≡ false
nothing_passes f a zero none = refl
nothing_passes f a (suc m) none =
    let first : f a ≡ false = none a (omega arith) (omega arith) in
    rw first (nothing_passes f (a + 1) m (none_after f a m none))

pub nothing_found : (f : ℕ → Bool) (a m : ℕ) → NoneOf f a m → find f (range_with_len a m) ≡ None
nothing_found f a zero none = refl
nothing_found f a (suc m) none =
    let first : f a ≡ false = none a (omega arith) (omega arith) in
    rw first (nothing_found f (a + 1) m (none_after f a m none))

-- the numbers before the first that may pass are not kept
pub kept_from : (f : ℕ → Bool) (a n k b m : ℕ) → b ≡ a + k → n ≡ k + m → NoneOf f a k → filter f (range_with_len a n) ≡ filter f (range_with_len b m)
kept_from f a n zero b m at long none =
    let same : n ≡ m = omega (arith, long) in
    let begins : a ≡ b = omega (arith, at) in
    ap (λ (x : ℕ). filter f (range_with_len a x)) same ∙ ap (λ (x : ℕ). filter f (range_with_len x m)) begins
kept_from f a zero (suc k) b m at long none = absurd (omega (arith, long))
kept_from f a (suc n) (suc k) b m at long none =
    let first : f a ≡ false = none a (omega arith) (omega arith) in
    rw first (kept_from f (a + 1) n k b m (omega (arith, at)) (omega (arith, long)) (none_after f a k none))

-- the first of the numbers that passes is the one before which none does
pub found_first : (f : ℕ → Bool) (a n k b : ℕ) → b ≡ a + k → k < n → NoneOf f a k → f b ≡ true → find f (range_with_len a n) ≡ Some b
found_first f a zero k b at inside none is = absurd (omega (arith, inside))
found_first f a (suc n) zero b at inside none is =
    let same : b ≡ a = omega (arith, at) in
    let here : f a ≡ true = subst (λ x. f x ≡ true) same is in
    rw here (ap Some (sym same))
found_first f a (suc n) (suc k) b at inside none is =
    let first : f a ≡ false = none a (omega arith) (omega arith) in
    rw first (found_first f (a + 1) n k b (omega (arith, at)) (omega (arith, inside)) (none_after f a k none) is)

-- one of the numbers passes
pub some_passes : (f : ℕ → Bool) (a n k b : ℕ) → b ≡ a + k → k < n → f b ≡ true → list_any f (range_with_len a n) ≡ true
some_passes f a zero k b at inside is = absurd (omega (arith, inside))
some_passes f a (suc n) zero b at inside is =
    let here : f a ≡ true = subst (λ x. f x ≡ true) (omega (arith, at)) is in
    rw here refl
some_passes f a (suc n) (suc k) b at inside is = go (f a) (some_passes f (a + 1) n k b (omega (arith, at)) (omega (arith, inside)) is)
  where
    rest : Bool
    rest = list_any f (range_with_len (a + 1) n)

    go : (x : Bool) → rest ≡ true → (x || rest) ≡ true
    go true e = refl
    go false e = e

-- one more pair
pub zip_push : {A B : Type 0} (R : A → B → Type 0) (xs : List A) (ys : List B) (x : A) (y : B) → AllZip R xs ys → R x y → AllZip R (xs ++ (x ∷ [])) (ys ++ (y ∷ []))
zip_push R [] [] x y all r = (r, tt)
zip_push R [] (b ∷ ys) x y all r = absurd all
zip_push R (a ∷ xs) [] x y all r = absurd all
zip_push R (a ∷ xs) (b ∷ ys) x y all r = (all.0, zip_push R xs ys x y all.1 r)

-- the bytes of the texts that are lent, one by one
pub text_at : (texts : List (Bor (List ℕ))) (i : ℕ) (d : Bor (List ℕ)) → i < length texts → slice_get (bytes_of_each texts) i ≡ Some (get_or texts i d).now
text_at texts i d inside = slice_get-get_or (bytes_of_each texts) i d.now (rw length-map inside) ∙ ap Some (get_or-map (λ (t : Bor (List ℕ)). t.now) texts i d d.now inside)

pub texts_more : (texts : List (Bor (List ℕ))) (i : ℕ) (d : Bor (List ℕ)) → i < length texts → take (i + 1) (bytes_of_each texts) ≡ take i (bytes_of_each texts) ++ ((get_or texts i d).now ∷ [])
texts_more texts i d inside =
    take_more (bytes_of_each texts) i d.now (rw length-map inside)
    ∙ ap (λ (x : List ℕ). take i (bytes_of_each texts) ++ (x ∷ [])) (get_or-map (λ (t : Bor (List ℕ)). t.now) texts i d d.now inside)

-- readings have the options that they were read with
pub readings_have_options : (o : Options) (texts : List (List ℕ)) (members : List Regex) → AreReadings o texts members → HaveOptions o members
readings_have_options o [] [] all = All-nil (λ r. options_in r ≡ o)
readings_have_options o [] (r ∷ members) all = absurd all
readings_have_options o (t ∷ texts) [] all = absurd all
readings_have_options o (t ∷ texts) (r ∷ members) all = All-cons (λ r. options_in r ≡ o) r members all.0.options (readings_have_options o texts members all.1)
