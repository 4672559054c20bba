-- The longest of what numbers in a row offer.
use Rattle.std.proofs.Common.{◌≡◌, ℕ, zero, suc, ◌+◌, ◌<◌, ◌≤◌, true, false, Option, Some, None, filter_map, nat_lt, inl, inr, refl, sym, ap, subst, ◌∙◌, arith}
use Rattle.std.specs.List.{range_with_len}
use Rattle.std.proofs.lemmas.Bool.Decides.{leb_tells}
use Rattle.fancy_regex.specs.Tokens.{TokenItem, further_token, longest_token}

-- the m numbers from a on offer nothing
abbrev pub OfferNothing : (ℕ → Option TokenItem) → ℕ → ℕ → Type 0
OfferNothing f a m = (j : ℕ) → a ≤ j → j < a + m → f j ≡ None

-- t is offered by one of the m numbers from a on; no other ends further on, and those before it end before
pub record IsPicked (f : ℕ → Option TokenItem) (a m : ℕ) (t : TokenItem) : Type 0 where
  pub index : ℕ
  pub from : a ≤ index
  pub inside : index < a + m
  pub offered : f index ≡ Some t
  pub longest : (j : ℕ) (u : TokenItem) → a ≤ j → j < a + m → f j ≡ Some u → u.end ≤ t.end
  pub first : (j : ℕ) (u : TokenItem) → a ≤ j → j < index → f j ≡ Some u → u.end < t.end

abbrev pub IsPickedIfAny : (ℕ → Option TokenItem) → ℕ → ℕ → Option TokenItem → Type 0
IsPickedIfAny f a m None = OfferNothing f a m
IsPickedIfAny f a m (Some t) = IsPicked f a m t

-- the longest of the numbers in a row
abbrev picked : (ℕ → Option TokenItem) → ℕ → ℕ → Option TokenItem
picked f a m = longest_token (filter_map f (range_with_len a m))

-- where the first offers nothing
nothing_first : (f : ℕ → Option TokenItem) (a m : ℕ) (o : Option TokenItem) → f a ≡ None → IsPickedIfAny f (a + 1) m o → IsPickedIfAny f a (suc m) o
nothing_first f a m None none rest = λ j from below.
    elim (leb_tells j a) [
      | inl here ↦ (let le = here.1 in subst (λ x. f x ≡ None) (let e : a ≡ j = omega (arith, from, le) in e) none)
      | inr later ↦ (let lt = later.1 in rest j (omega (arith, lt)) (omega (arith, below)))
    ]
nothing_first f a m (Some t) none rest =
    record {
      index = rest.index;
      from = let from = rest.from in omega (arith, from);
      inside = let inside = rest.inside in omega (arith, inside);
      offered = rest.offered;
      longest = λ j u from below is.
          elim (leb_tells j a) [
            | inl here ↦ (let le = here.1 in let same : a ≡ j = omega (arith, from, le) in let no : f j ≡ None = subst (λ x. f x ≡ None) same none in absurd (let e : Some u ≡ None = sym is ∙ no in cc))
            | inr later ↦ (let lt = later.1 in rest.longest j u (omega (arith, lt)) (omega (arith, below)) is)
          ];
      first = λ j u from below is.
          elim (leb_tells j a) [
            | inl here ↦ (let le = here.1 in let same : a ≡ j = omega (arith, from, le) in let no : f j ≡ None = subst (λ x. f x ≡ None) same none in absurd (let e : Some u ≡ None = sym is ∙ no in cc))
            | inr later ↦ (let lt = later.1 in rest.first j u (omega (arith, lt)) below is)
          ];
    }

-- what is offered at a number, and it is the first one
here_is : (f : ℕ → Option TokenItem) (a j : ℕ) (t u : TokenItem) → f a ≡ Some t → a ≡ j → f j ≡ Some u → t ≡ u
here_is f a j t u first same is = let e : Some t ≡ Some u = sym first ∙ subst (λ x. f x ≡ Some u) (sym same) is in cc

-- where the first offers a token that none after it is longer than
first_stays : (f : ℕ → Option TokenItem) (a m : ℕ) (t : TokenItem) → f a ≡ Some t → ((j : ℕ) (u : TokenItem) → a + 1 ≤ j → j < a + 1 + m → f j ≡ Some u → u.end ≤ t.end) → IsPicked f a (suc m) t
first_stays f a m t first others =
    record {
      index = a;
      from = omega arith;
      inside = omega arith;
      offered = first;
      longest = λ j u from below is.
          elim (leb_tells j a) [
            | inl here ↦ (let le = here.1 in let same : t ≡ u = here_is f a j t u first (omega (arith, from, le)) is in let e : t.end ≡ u.end = ap (λ (x : TokenItem). x.end) same in omega (arith, e))
            | inr later ↦ (let lt = later.1 in others j u (omega (arith, lt)) (omega (arith, below)) is)
          ];
      first = λ j u from below is. absurd (omega (arith, from, below));
    }

-- where one after it is longer
later_wins : (f : ℕ → Option TokenItem) (a m : ℕ) (t v : TokenItem) → f a ≡ Some t → t.end < v.end → IsPicked f (a + 1) m v → IsPicked f a (suc m) v
later_wins f a m t v first shorter rest =
    record {
      index = rest.index;
      from = let from = rest.from in omega (arith, from);
      inside = let inside = rest.inside in omega (arith, inside);
      offered = rest.offered;
      longest = λ j u from below is.
          elim (leb_tells j a) [
            | inl here ↦ (let le = here.1 in let same : t ≡ u = here_is f a j t u first (omega (arith, from, le)) is in let e : t.end ≡ u.end = ap (λ (x : TokenItem). x.end) same in omega (arith, e, shorter))
            | inr later ↦ (let lt = later.1 in rest.longest j u (omega (arith, lt)) (omega (arith, below)) is)
          ];
      first = λ j u from below is.
          elim (leb_tells j a) [
            | inl here ↦ (let le = here.1 in let same : t ≡ u = here_is f a j t u first (omega (arith, from, le)) is in let e : t.end ≡ u.end = ap (λ (x : TokenItem). x.end) same in omega (arith, e, shorter))
            | inr later ↦ (let lt = later.1 in rest.first j u (omega (arith, lt)) below is)
          ];
    }

further_is : (f : ℕ → Option TokenItem) (a m : ℕ) (t : TokenItem) (o : Option TokenItem) → f a ≡ Some t → IsPickedIfAny f (a + 1) m o → IsPickedIfAny f a (suc m) (further_token t o)
further_is f a m t None first rest = first_stays f a m t first (λ j u from below is. absurd (let e : Some u ≡ None = sym is ∙ rest j from below in cc))
further_is f a m t (Some v) first rest =
    elim (leb_tells (suc t.end) v.end) [
      | inl longer ↦ (let test : nat_lt t.end v.end ≡ true = longer.0 in let lt = longer.1 in rw test (later_wins f a m t v first (omega (arith, lt)) rest))
      | inr not_longer ↦ (let test : nat_lt t.end v.end ≡ false = not_longer.0 in let le = not_longer.1 in
          rw test (first_stays f a m t first (λ j u from below is. let most = rest.longest j u from below is in omega (arith, most, le))))
    ]

pub picked_is : (f : ℕ → Option TokenItem) (a m : ℕ) → IsPickedIfAny f a m (longest_token (filter_map f (range_with_len a m)))
picked_is f a zero = λ j from below. absurd (omega (arith, from, below))
picked_is f a (suc m) = by (f a) refl (picked_is f (a + 1) m) where
  by : (o : Option TokenItem) → f a ≡ o → IsPickedIfAny f (a + 1) m (picked f (a + 1) m) → IsPickedIfAny f a (suc m) (longest_token (filter_map f (range_with_len a (suc m))))
  by None e rest = rw e (nothing_first f a m (picked f (a + 1) m) e rest)
  by (Some t) e rest = rw e (further_is f a m t (picked f (a + 1) m) e rest)

-- there is one such token at most
pub picked_once : (f : ℕ → Option TokenItem) (a m : ℕ) (t u : TokenItem) → IsPicked f a m t → IsPicked f a m u → t ≡ u
picked_once f a m t u one other =
    let same_end : t.end ≡ u.end =
    let x = one.longest other.index u other.from other.inside other.offered in
    let y = other.longest one.index t one.from one.inside one.offered in
    omega (arith, x, y) in
    elim (leb_tells one.index other.index) [
      | inl le ↦ (
          elim (leb_tells other.index one.index) [
            | inl ge ↦ (let a = le.1 in let b = ge.1 in here_is f one.index other.index t u one.offered (omega (arith, a, b)) other.offered)
            | inr lt ↦ (let below = other.first one.index t one.from lt.1 one.offered in absurd (omega (arith, below, same_end)))
          ])
      | inr gt ↦ (let below = one.first other.index u other.from gt.1 other.offered in absurd (omega (arith, below, same_end)))
    ]

pub picked_some : (f : ℕ → Option TokenItem) (a m : ℕ) (t : TokenItem) → IsPicked f a m t → longest_token (filter_map f (range_with_len a m)) ≡ Some t
picked_some f a m t one = by (picked f a m) refl (picked_is f a m) where
  by : (o : Option TokenItem) → picked f a m ≡ o → IsPickedIfAny f a m (picked f a m) → picked f a m ≡ Some t
  by None e is =
      let none : OfferNothing f a m = subst (IsPickedIfAny f a m) e is in
      absurd (let no : Some t ≡ None = sym one.offered ∙ none one.index one.from one.inside in cc)
  by (Some u) e is =
      let other : IsPicked f a m u = subst (IsPickedIfAny f a m) e is in
      e ∙ ap Some (picked_once f a m u t other one)

pub picked_none : (f : ℕ → Option TokenItem) (a m : ℕ) → OfferNothing f a m → longest_token (filter_map f (range_with_len a m)) ≡ None
picked_none f a zero none = refl
picked_none f a (suc m) none =
    let first : f a ≡ None = none a (omega arith) (omega arith) in
    rw first (picked_none f (a + 1) m (λ j from below. none j (omega (arith, from)) (omega (arith, below))))
