-- Groups of members as the bits of a number, and the members in them.
use Rattle.std.proofs.Common.{◌≡◌, ℕ, zero, suc, ◌+◌, ◌-◌, ◌*◌, ◌^◌, ◌/◌, ◌%◌, ◌<◌, ◌≤◌, ◌==◌, ◌&&◌, ◌||◌, ◌⊎◌, max, min, Bool, true, false, List, Option, None, Some, MatchOption, length, slice_get, bit_and, bit_or, inl, inr, refl, sym, ap, subst, ◌∙◌, arith, eq-eqb, ne_eqb, true≢false, le_refl}
use Rattle.std.specs.Int.{bit_at, w64, w128, trailing_zeros}
use Rattle.std.proofs.Math.Bool.{or-true, or-false}
use Rattle.std.proofs.lemmas.Bool.{cases_eq}
use Rattle.std.proofs.lemmas.Bool.Decides.{leb_tells, nat_tests}
use Rattle.std.proofs.lemmas.Option.{slice_get_within}
use Rattle.std.proofs.lemmas.Nat.{div-add-mod', mod_below, div_below, le-div, pow_pos, mul-le}
use Rattle.std.proofs.lemmas.Nat.Bits.{bit_at-zero, bit_at_set_same, bit_at_set_other, bit_at_above, bit_at_cat_high, bit_at-trailing_zeros, bit_at_and, bit_at-lt}
use Rattle.fancy_core.specs.declared.regex.Regex.{Regex}
use Rattle.fancy_core.specs.RegexStarts.{regex_may_start, NoneHolds}
use Rattle.fancy_regex.specs.declared.set.candidates.Groups.{Groups}
use Rattle.fancy_regex.specs.Candidates.{has_group, NoGroupFrom, IsNextGroup, HoldAll, HoldAhead, HoldAllAt, HoldOnly, by_byte, by_later, NoMemberBetween, IsNextMember}

-- the bits of a number from one on are those of the number shifted
shifted : (n k i : ℕ) → k ≤ i → bit_at n i ≡ bit_at (n / 2 ^ k) (i - k)
shifted n k i le =
    ap (λ x. bit_at x i) (sym (div-add-mod' n (2 ^ k))) ∙ bit_at_cat_high (n / 2 ^ k) k (n % 2 ^ k) i (mod_below n (2 ^ k) (pow_pos k)) le

is_set : (n : ℕ) → n ≡ 1 → (n == 1) ≡ true
is_set n e = eq-eqb n 1 e

is_clear : (n : ℕ) → n ≡ 0 → (n == 1) ≡ false
is_clear n e = rw e refl

pub nothing_there : (g : ℕ) → has_group (record { bits = 0 }) g ≡ false
unfolding has_group
nothing_there g = is_clear (bit_at 0 g) (bit_at-zero g)

pub one_more_there : (bits k : ℕ) → k < 128 → (g : ℕ) → has_group (record { bits = bit_or bits (1 * 2 ^ k % 340282366920938463463374607431768211456) }) g ≡ (has_group (record { bits = bits }) g || (g == k))
unfolding has_group
one_more_there bits k within g =
    elim (cases_eq g k) [
      | inl same ↦ rw same (is_set _ (bit_at_set_same w128 bits k within) ∙ sym (ap (λ t. (bit_at bits k == 1) || t) (eq-eqb k k refl) ∙ or-true (bit_at bits k == 1)))
      | inr other ↦ ap (λ v. v == 1) (bit_at_set_other w128 bits k within g other) ∙ sym (ap (λ t. (bit_at bits g == 1) || t) (ne_eqb g k other) ∙ or-false (bit_at bits g == 1))
    ]

min_one : (x y : ℕ) → x < 2 → y < 2 → (min x y == 1) ≡ ((x == 1) && (y == 1))
min_one zero zero a b = refl
min_one zero (suc zero) a b = refl
min_one zero (suc (suc y)) a b = absurd (omega (arith, b))
min_one (suc zero) zero a b = refl
min_one (suc zero) (suc zero) a b = refl
min_one (suc zero) (suc (suc y)) a b = absurd (omega (arith, b))
min_one (suc (suc x)) y a b = absurd (omega (arith, a))

pub both_there : (a b g : ℕ) → has_group (record { bits = bit_and a b }) g ≡ (has_group (record { bits = a }) g && has_group (record { bits = b }) g)
unfolding has_group
both_there a b g = ap (λ x. x == 1) (bit_at_and a b g) ∙ min_one (bit_at a g) (bit_at b g) (bit_at-lt a g) (bit_at-lt b g)

pub past_the_last : (groups : Groups) (count from : ℕ) → groups.bits < 2 ^ count → count ≤ from → NoGroupFrom groups from
unfolding has_group
past_the_last groups count from small past g le = is_clear (bit_at groups.bits g) (bit_at_above groups.bits count g small (omega (arith, past, le)))

pub none_after : (groups : Groups) (from : ℕ) → groups.bits / 2 ^ from ≡ 0 → NoGroupFrom groups from
unfolding has_group
none_after groups from e g le =
    is_clear (bit_at groups.bits g) (shifted groups.bits from g le ∙ ap (λ x. bit_at x (g - from)) e ∙ bit_at-zero (g - from))

not_clear : (n : ℕ) → n ≡ 1 → (n == 1) ≡ false → {P : Type 0} → P
not_clear n is clear = absurd (true≢false (sym (is_set n is) ∙ clear))

-- the lowest bit of the number shifted is the first group
lowest_there : (groups : Groups) (from place : ℕ) → groups.bits < 2 ^ 128 → bit_at (groups.bits / 2 ^ from) place ≡ 1 → ((i : ℕ) → i < place → bit_at (groups.bits / 2 ^ from) i ≡ 0)
    → IsNextGroup groups from (from + place)
unfolding has_group
lowest_there groups from place small set clear =
    let back : from + place - from ≡ place = omega arith in
    let stands : bit_at groups.bits (from + place) ≡ 1 = shifted groups.bits from (from + place) (omega arith) ∙ ap (bit_at (groups.bits / 2 ^ from)) back ∙ set in
    record {
      reached = omega arith;
      inside = within (from + place) stands;
      there = is_set _ stands;
      none = λ h le below. is_clear _ (shifted groups.bits from h le ∙ clear (h - from) (omega (arith, le, below)));
    }
  where
    within : (g : ℕ) → bit_at groups.bits g ≡ 1 → g < 128
    within g stands =
        elim (leb_tells 128 g) [
          | inl past ↦ (let clear : bit_at groups.bits g ≡ 0 = bit_at_above groups.bits 128 g small past.1 in absurd (omega (arith, clear, stands)))
          | inr inside ↦ inside.1
        ]

pub first_there : (groups : Groups) (from : ℕ) → groups.bits < 2 ^ 128 → 0 < groups.bits / 2 ^ from → groups.bits / 2 ^ from < 2 ^ 128
    → IsNextGroup groups from (from + trailing_zeros w128 (groups.bits / 2 ^ from))
first_there groups from small some fits =
    let lowest = bit_at-trailing_zeros w128 (groups.bits / 2 ^ from) some fits in
    lowest_there groups from (trailing_zeros w128 (groups.bits / 2 ^ from)) small lowest.1 lowest.2

-- the same, where the number has 64 bits
pub first_low : (groups : Groups) (from : ℕ) → groups.bits < 2 ^ 64 → 0 < groups.bits / 2 ^ from → groups.bits / 2 ^ from < 2 ^ 64 → IsNextGroup groups from (from + trailing_zeros w64 (groups.bits / 2 ^ from))
first_low groups from small some fits =
    let lowest = bit_at-trailing_zeros w64 (groups.bits / 2 ^ from) some fits in
    lowest_there groups from (trailing_zeros w64 (groups.bits / 2 ^ from)) (omega (arith, small)) lowest.1 lowest.2

zero_of : (n : ℕ) → (n == 0) ≡ true → n ≡ 0
zero_of n e = grind (arith, nat_tests)

pub none_of_zero : (groups : Groups) → (groups.bits == 0) ≡ true → NoGroupFrom groups 0
unfolding has_group
none_of_zero groups e g le = is_clear (bit_at groups.bits g) (ap (λ x. bit_at x g) (zero_of groups.bits e) ∙ bit_at-zero g)

pub all_clear : (bits : ℕ) → bits < 2 ^ 128 → NoGroupFrom (record { bits = bits }) 0 → bits ≡ 0
unfolding has_group
all_clear zero small none = refl
all_clear (suc n) small none =
    let lowest = bit_at-trailing_zeros w128 (suc n) (omega arith) small in not_clear _ lowest.1 (none (trailing_zeros w128 (suc n)) (omega arith))

-- what holds of none holds where there is none
pub if_none : {A : Type 0} (P : Type 0) (Q : A → Type 0) (o : Option A) → ((x : A) → o ≡ Some x → ⊥) → MatchOption o P Q → P
if_none P Q None unless none = none
if_none P Q (Some x) unless none = absurd (unless x refl)

-- the members from an index on that are in one of the groups
module _ (groups : Groups) (width from : ℕ) (some : 0 < width) where
  later_group : (k : ℕ) → from ≤ k → from / width ≤ k / width
  later_group k le = le-div (from / width) k width some (let split = div-add-mod' from width in omega (arith, split, le))

  pub no_member : (to : ℕ) → NoGroupFrom groups (from / width) → NoMemberBetween width groups from to
  no_member to none k le below = none (k / width) (later_group k le)

  pub none_of_empty : (to : ℕ) → NoGroupFrom groups 0 → NoMemberBetween width groups from to
  none_of_empty to none k le below = none (k / width) (omega arith)

  module _ (group index : ℕ) (is : index ≡ max from (group * width)) (next : IsNextGroup groups (from / width) group) where
    pub none_before_index : (k : ℕ) → from ≤ k → k < index → has_group groups (k / width) ≡ false
    none_before_index k le below =
        next.none (k / width) (later_group k le) (div_below k width group some (omega (arith, is, le, below)))

    groups_index : index / width ≡ group
    groups_index =
        let split = div-add-mod' from width in
        let rest = mod_below from width some in
        let rows = mul-le (from / width) width group width next.reached (le_refl width) in
        let low : group ≤ index / width = le-div group index width some (omega (arith, is)) in
        let high : index / width < group + 1 = div_below index width (group + 1) some (omega (arith, is, split, rest, rows)) in
        omega (arith, low, high)

    pub next_member : (count : ℕ) → index < count → IsNextMember width groups from count index
    next_member count below = record {
      reached = omega (arith, is);
      inside = below;
      there = subst (λ (g : ℕ). has_group groups g ≡ true) (sym groups_index) next.there;
      none = none_before_index;
    }

    pub none_before_count : (count : ℕ) → count ≤ index → NoMemberBetween width groups from count
    none_before_count count past k le below = none_before_index k le (omega (arith, past, below))

-- the first n members of a list that may start right before this byte, or before none, are in one of the groups
abbrev pub HoldFirst : ℕ → List Regex → Option ℕ → ℕ → Groups → Type 0
HoldFirst width members next n groups =
    (k : ℕ) (r : Regex) → k < n → slice_get members k ≡ Some r → regex_may_start r next ≡ true → has_group groups (k / width) ≡ true

module _ (width : ℕ) (members : List Regex) (next : Option ℕ) (n : ℕ) (r : Regex) (here : slice_get members n ≡ Some r) where
  same_member : (k : ℕ) (x : Regex) → k ≡ n → slice_get members k ≡ Some x → x ≡ r
  same_member k x e is = let both : Some x ≡ Some r = sym is ∙ ap (slice_get members) e ∙ here in cc

  -- one more that may not start
  pub one_passed : (groups : Groups) → regex_may_start r next ≡ false → HoldFirst width members next n groups → HoldFirst width members next (n + 1) groups
  one_passed groups fails hold k x below is starts =
      elim (leb_tells n k) [
        | inl past ↦ (let same : k ≡ n = omega (arith, past.1, below) in
            absurd (true≢false (sym starts ∙ ap (λ y. regex_may_start y next) (same_member k x same is) ∙ fails)))
        | inr before ↦ hold k x before.1 is starts
      ]

  module _ (before after : Groups) (adds : (g : ℕ) → has_group after g ≡ (has_group before g || (g == n / width))) where
    kept : (g : ℕ) → has_group before g ≡ true → has_group after g ≡ true
    kept g e = adds g ∙ ap (λ b. b || (g == n / width)) e

    added : (g : ℕ) → g ≡ n / width → has_group after g ≡ true
    added g e = adds g ∙ ap (λ b. has_group before g || b) (eq-eqb g (n / width) e) ∙ or-true (has_group before g)

    -- one more that may
    pub one_taken : HoldFirst width members next n before → HoldFirst width members next (n + 1) after
    one_taken hold k x below is starts =
        elim (leb_tells n k) [
          | inl past ↦ (let same : k ≡ n = omega (arith, past.1, below) in added (k / width) (ap (λ j. j / width) same))
          | inr before ↦ kept (k / width) (hold k x before.1 is starts)
        ]

    pub only_taken : regex_may_start r next ≡ true → HoldOnly width members next before → HoldOnly width members next after
    only_taken starts only g there =
        elim (cases_eq g (n / width)) [
          | inl same ↦ record { index = n; member = r; is = here; grouped = sym same; starts = starts }
          | inr other ↦ only g (sym (adds g ∙ ap (λ b. has_group before g || b) (ne_eqb g (n / width) other) ∙ or-false (has_group before g)) ∙ there)
        ]

pub hold_all : (width : ℕ) (members : List Regex) (next : Option ℕ) (n : ℕ) (groups : Groups) → length members ≤ n → HoldFirst width members next n groups → HoldAll width members next groups
hold_all width members next n groups all hold k r is starts = hold k r (let inside = slice_get_within members k r is in omega (arith, inside, all)) is starts

left_of : (a b : Bool) → (a || b) ≡ false → a ≡ false
left_of true b e = e
left_of false b e = refl

-- each of the first n members that is in none of the groups is easy, and no match of it starts so many places before this byte
abbrev pub HoldFirstAhead : ℕ → List Regex → ℕ → ℕ → ℕ → Groups → Type 0
HoldFirstAhead width members place byte n groups =
    (k : ℕ) (r : Regex) → k < n → slice_get members k ≡ Some r → has_group groups (k / width) ≡ false → NoneHolds r place byte

module _ (width : ℕ) (members : List Regex) (place byte n : ℕ) (r : Regex) (here : slice_get members n ≡ Some r) where
  -- one more of which none starts there
  pub one_left_out : (groups : Groups) → NoneHolds r place byte → HoldFirstAhead width members place byte n groups → HoldFirstAhead width members place byte (n + 1) groups
  one_left_out groups never hold k x below is out =
      elim (leb_tells n k) [
        | inl past ↦ (
            let same : k ≡ n = omega (arith, past.1, below) in
            let both : Some x ≡ Some r = sym is ∙ ap (slice_get members) same ∙ here in
            let equal : r ≡ x = cc in
            subst (λ (y : Regex). NoneHolds y place byte) equal never)
        | inr before ↦ hold k x before.1 is out
      ]

  -- one more of which one may
  pub one_held : (before after : Groups) → ((g : ℕ) → has_group after g ≡ (has_group before g || (g == n / width))) → HoldFirstAhead width members place byte n before
      → HoldFirstAhead width members place byte (n + 1) after
  one_held before after adds hold k x below is out =
      elim (leb_tells n k) [
        | inl past ↦ (
            let same : k ≡ n = omega (arith, past.1, below) in
            let there : has_group after (k / width) ≡ true = adds (k / width)
            ∙ ap (λ b. has_group before (k / width) || b) (eq-eqb (k / width) (n / width) (ap (λ j. j / width) same))
            ∙ or-true (has_group before (k / width)) in
            absurd (true≢false (sym there ∙ out)))
        | inr earlier ↦ hold k x earlier.1 is (left_of (has_group before (k / width)) (k / width == n / width) (sym (adds (k / width)) ∙ out))
      ]

pub all_held : (width : ℕ) (members : List Regex) (place byte n : ℕ) (groups : Groups) → length members ≤ n → HoldFirstAhead width members place byte n groups
    → HoldAhead width members place byte groups
all_held width members place byte n groups all hold k r is out = hold k r (let inside = slice_get_within members k r is in omega (arith, inside, all)) is out

pub left_both : (a b : Bool) → (a && b) ≡ true → a ≡ true
left_both true b e = refl
left_both false b e = e

either_out : (a b : Bool) → (a && b) ≡ false → (a ≡ false) ⊎ (b ≡ false)
either_out true b e = inr e
either_out false b e = inl refl

never : (b : Bool) → (b ≡ true → ⊥) → b ≡ false
never true unless = absurd (unless refl)
never false unless = refl

module _ (width : ℕ) (members : List Regex) (searched : List ℕ) (p : ℕ) where
  -- the groups by the byte at the position
  pub first_place : (groups : Groups) → HoldAll width members (slice_get searched p) groups → HoldAllAt width members searched p groups
  first_place groups all k r is out =
      by_byte (never (regex_may_start r (slice_get searched p)) (λ starts. true≢false (sym (all k r is starts) ∙ out)))

  -- the groups that are left by a byte further on
  pub one_place : (place byte : ℕ) (before others after : Groups) → slice_get searched (p + place) ≡ Some byte → HoldAhead width members place byte others
      → ((g : ℕ) → has_group after g ≡ (has_group before g && has_group others g)) → HoldAllAt width members searched p before → HoldAllAt width members searched p after
  one_place place byte before others after there ahead both hold k r is out =
      elim (either_out (has_group before (k / width)) (has_group others (k / width)) (sym (both (k / width)) ∙ out)) [
        | inl first ↦ hold k r is first
        | inr later ↦ by_later place byte there (ahead k r is later)
      ]
