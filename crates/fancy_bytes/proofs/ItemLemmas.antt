-- The bytes with which items begin.
use Rattle.std.proofs.Common.{◌≡◌, ℕ, zero, suc, ◌+◌, ◌*◌, ◌-◌, ◌/◌, ◌<◌, ◌≤◌, ◌==◌, Bool, true, false, ◌&&◌, ◌||◌, nat_le, nat_lt, [], refl, sym, ap, ◌∙◌, arith, inl, inr, eq-eqb, ne_eqb, true≢false}
use Rattle.std.specs.Char.{encode_utf8}
use Rattle.std.proofs.Math.Utf8.{scalar, scalar_cases}
use Rattle.std.proofs.lemmas.Bool.{cases_eq, cases_lt}
use Rattle.std.proofs.lemmas.Bool.Decides.{nat_tests}
use Rattle.fancy_tree.specs.declared.tree.Meaning.{Meaning}
use Rattle.fancy_tree.specs.declared.tree.Meaning.TheVariants.{Unicode, Bytes, AsciiText}
use Rattle.fancy_tree.specs.Sets.{has}
use Rattle.fancy_input.specs.Places.{is_scalar}
use Rattle.fancy_input.proofs.CharacterLemmas.{is_scalar-scalar}
use Rattle.fancy_bytes.specs.Items.{some_below, codes, first_of_items, first_of_characters, only, starts_with_byte}
use Rattle.fancy_bytes.proofs.BoolLemmas.{or_nothing, parts_of, both_hold, same_truths, some_below_from, some_found, le_holds, le_test, lt_holds, lt_test}

pub within_codes : (n : ℕ) → n ≤ 0x11_0000 → n ≤ codes
unfolding codes
within_codes n h = h

pub scalar_below : (c : ℕ) → is_scalar c ≡ true → c < codes
unfolding codes
scalar_below c e = elim (scalar_cases c (sym (is_scalar-scalar c) ∙ e)) [ inl low ↦ omega arith | inr high ↦ omega (arith, high.1) ]

pub none_below : (n : ℕ) (test : ℕ → Bool) → ((c : ℕ) → c < n → test c ≡ false) → some_below n test ≡ false
unfolding some_below
none_below zero test none = refl
none_below (suc n) test none = ap (λ b. b || some_below n test) (none n (omega arith)) ∙ none_below n test (λ c lt. none c (omega arith))

-- where one number alone may pass the test
some_below_one : (n : ℕ) (test : ℕ → Bool) (c : ℕ) → c < n → ((d : ℕ) → (d ≡ c → ⊥) → test d ≡ false) → some_below n test ≡ test c
unfolding some_below
some_below_one zero test c lt other = absurd (omega arith)
some_below_one (suc n) test c lt other =
    elim (cases_eq n c) [
      | inl same ↦ ap (λ b. test n || b) (none_below n test (λ d below. other d (λ e. omega arith))) ∙ or_nothing (test n) ∙ ap test same
      | inr apart ↦ ap (λ b. b || some_below n test) (other n apart) ∙ some_below_one n test c (omega arith) other
    ]

with_scalar : (s t : Bool) → s ≡ true → (s && t) ≡ t
with_scalar true t e = refl
with_scalar false t e = absurd (true≢false (sym e))

without : (s t u : Bool) → t ≡ false → (s && (t && u)) ≡ false
without true true u e = absurd (true≢false e)
without true false u e = refl
without false t u e = refl

pub first_of_one : (c b : ℕ) → is_scalar c ≡ true → first_of_characters (only c) b ≡ starts_with_byte (encode_utf8 c) b
unfolding first_of_characters
first_of_one c b scalar =
    some_below_one codes (λ d. is_scalar d && (only c d && starts_with_byte (encode_utf8 d) b)) c (scalar_below c scalar)
    (λ d apart. without (is_scalar d) (only c d) (starts_with_byte (encode_utf8 d) b) (ne_eqb d c apart))
    ∙ with_scalar (is_scalar c) _ scalar ∙ with_scalar (only c c) _ (eq-eqb c c refl)

never : (s : Bool) → (s && false) ≡ false
never true = refl
never false = refl

pub first_of_none : (m : Meaning) (b : ℕ) → first_of_items m (has []) b ≡ false
unfolding first_of_characters has
first_of_none Unicode b = none_below codes _ (λ c lt. never (is_scalar c))
first_of_none Bytes b = refl
first_of_none AsciiText b = none_below codes _ (λ c lt. never (is_scalar c))

pub first_items_one : (m : Meaning) (c b : ℕ) → (m ≡ Bytes → ⊥) → scalar c ≡ true → first_of_items m (only c) b ≡ starts_with_byte (encode_utf8 c) b
first_items_one Unicode c b ne h = first_of_one c b (is_scalar-scalar c ∙ h)
first_items_one Bytes c b ne h = absurd (ne refl)
first_items_one AsciiText c b ne h = first_of_one c b (is_scalar-scalar c ∙ h)

pub lead_one : (c b : ℕ) → c < 128 → starts_with_byte (encode_utf8 c) b ≡ (b == c)
unfolding encode_utf8
lead_one c b p = grind (arith, nat_tests)

pub lead_two : (c b : ℕ) → 128 ≤ c → c < 2048 → starts_with_byte (encode_utf8 c) b ≡ (b == 192 + c / 64)
unfolding encode_utf8
lead_two c b p q = grind (arith, nat_tests)

pub lead_three : (c b : ℕ) → 2048 ≤ c → c < 65536 → starts_with_byte (encode_utf8 c) b ≡ (b == 224 + c / 4096)
unfolding encode_utf8
lead_three c b p q = grind (arith, nat_tests)

pub lead_four : (c b : ℕ) → 65536 ≤ c → starts_with_byte (encode_utf8 c) b ≡ (b == 240 + c / 262144)
unfolding encode_utf8
lead_four c b p = grind (arith, nat_tests)

-- which byte is the first, by how many there are
by_width : (c b : ℕ) (t : Bool) → (c < 128 → (is_scalar c && (b == c)) ≡ t) → (128 ≤ c → c < 2048 → (is_scalar c && (b == 192 + c / 64)) ≡ t) →
    (2048 ≤ c → c < 65536 → (is_scalar c && (b == 224 + c / 4096)) ≡ t) → (65536 ≤ c → (is_scalar c && (b == 240 + c / 262144)) ≡ t) →
    (is_scalar c && starts_with_byte (encode_utf8 c) b) ≡ t
by_width c b t one two three four =
    elim (cases_lt c 128) [
      | inl a ↦ ap (λ x. is_scalar c && x) (lead_one c b a) ∙ one a
      | inr a ↦ elim (cases_lt c 2048) [
        | inl d ↦ ap (λ x. is_scalar c && x) (lead_two c b a d) ∙ two a d
        | inr d ↦ elim (cases_lt c 65536) [
          | inl e ↦ ap (λ x. is_scalar c && x) (lead_three c b d e) ∙ three d e
          | inr e ↦ ap (λ x. is_scalar c && x) (lead_four c b e) ∙ four e
        ]
      ]
    ]

pub from_ascii : (c b : ℕ) → b < 128 → (is_scalar c && starts_with_byte (encode_utf8 c) b) ≡ (nat_le b c && nat_lt c (b + 1))
from_ascii c b h = by_width c b _ (λ p. grind (arith, nat_tests)) (λ p q. grind (arith, nat_tests)) (λ p q. grind (arith, nat_tests)) (λ p. grind (arith, nat_tests))

-- a byte that continues a character, or begins none
pub from_none : (c b : ℕ) → 128 ≤ b → b < 194 → (is_scalar c && starts_with_byte (encode_utf8 c) b) ≡ (nat_le 0 c && nat_lt c 0)
from_none c b h k = by_width c b _ (λ p. grind (arith, nat_tests)) (λ p q. grind (arith, nat_tests)) (λ p q. grind (arith, nat_tests)) (λ p. grind (arith, nat_tests))

pub from_two : (c b : ℕ) → 194 ≤ b → b < 224 → (is_scalar c && starts_with_byte (encode_utf8 c) b) ≡ (nat_le ((b - 192) * 64) c && nat_lt c ((b - 192) * 64 + 64))
from_two c b h k = by_width c b _ (λ p. grind (arith, nat_tests)) (λ p q. grind (arith, nat_tests)) (λ p q. grind (arith, nat_tests)) (λ p. grind (arith, nat_tests))

pub from_first_three : (c b : ℕ) → b ≡ 224 → (is_scalar c && starts_with_byte (encode_utf8 c) b) ≡ (nat_le 2048 c && nat_lt c 4096)
from_first_three c b h = by_width c b _ (λ p. grind (arith, nat_tests)) (λ p q. grind (arith, nat_tests)) (λ p q. grind (arith, nat_tests)) (λ p. grind (arith, nat_tests))

-- the second half of these numbers is that of surrogates
pub from_half : (c b : ℕ) → b ≡ 237 → (is_scalar c && starts_with_byte (encode_utf8 c) b) ≡ (nat_le 53248 c && nat_lt c 55296)
from_half c b h = by_width c b _ (λ p. grind (arith, nat_tests)) (λ p q. grind (arith, nat_tests)) (λ p q. grind (arith, nat_tests)) (λ p. grind (arith, nat_tests))

pub from_three : (c b : ℕ) → 225 ≤ b → (b ≡ 237 → ⊥) → b < 240 →
    (is_scalar c && starts_with_byte (encode_utf8 c) b) ≡ (nat_le ((b - 224) * 4096) c && nat_lt c ((b - 224) * 4096 + 4096))
from_three c b h ne k = by_width c b _ (λ p. grind (arith, nat_tests)) (λ p q. grind (arith, nat_tests)) (λ p q. grind (arith, nat_tests)) (λ p. grind (arith, nat_tests))

pub from_first_four : (c b : ℕ) → b ≡ 240 → (is_scalar c && starts_with_byte (encode_utf8 c) b) ≡ (nat_le 65536 c && nat_lt c 262144)
from_first_four c b h = by_width c b _ (λ p. grind (arith, nat_tests)) (λ p q. grind (arith, nat_tests)) (λ p q. grind (arith, nat_tests)) (λ p. grind (arith, nat_tests))

pub from_four : (c b : ℕ) → 241 ≤ b → b < 244 →
    (is_scalar c && starts_with_byte (encode_utf8 c) b) ≡ (nat_le ((b - 240) * 262144) c && nat_lt c ((b - 240) * 262144 + 262144))
from_four c b h k = by_width c b _ (λ p. grind (arith, nat_tests)) (λ p q. grind (arith, nat_tests)) (λ p q. grind (arith, nat_tests)) (λ p. grind (arith, nat_tests))

pub from_last_four : (c b : ℕ) → b ≡ 244 → (is_scalar c && starts_with_byte (encode_utf8 c) b) ≡ (nat_le 1048576 c && nat_lt c 1114112)
from_last_four c b h = by_width c b _ (λ p. grind (arith, nat_tests)) (λ p q. grind (arith, nat_tests)) (λ p q. grind (arith, nat_tests)) (λ p. grind (arith, nat_tests))

pub from_past : (c b : ℕ) → 245 ≤ b → (is_scalar c && starts_with_byte (encode_utf8 c) b) ≡ (nat_le 0 c && nat_lt c 0)
from_past c b h = by_width c b _ (λ p. grind (arith, nat_tests)) (λ p q. grind (arith, nat_tests)) (λ p q. grind (arith, nat_tests)) (λ p. grind (arith, nat_tests))

swapped : (s t u : Bool) → (s && (t && u)) ≡ true → ((s && u) ≡ true) × (t ≡ true)
swapped true true u e = (e, refl)
swapped true false u e = absurd (true≢false (sym e))
swapped false t u e = absurd (true≢false (sym e))

joined : (s t u : Bool) → (s && u) ≡ true → t ≡ true → (s && (t && u)) ≡ true
joined true true u e h = e
joined true false u e h = absurd (true≢false (sym h))
joined false t u e h = absurd (true≢false (sym e))

in_bounds : (first last c : ℕ) → (nat_le first c && nat_lt c last) ≡ true → (first ≤ c) × (c < last)
in_bounds first last c e =
    let both = parts_of (nat_le first c) (nat_lt c last) e in
    (le_holds first c both.0, lt_holds c last both.1)

-- a character of the set begins with the byte exactly where one of the byte's own characters is in the set
pub first_among : (test : ℕ → Bool) (b first last : ℕ) → ((c : ℕ) → (is_scalar c && starts_with_byte (encode_utf8 c) b) ≡ (nat_le first c && nat_lt c last)) → last ≤ codes →
    some_below last (λ c. nat_le first c && test c) ≡ first_of_characters test b
unfolding first_of_characters
first_among test b first last are within =
    same_truths _ _
    (λ e.
    let found = some_found last (λ c. nat_le first c && test c) e in
    let c : ℕ = found.0 in
    let both = parts_of (nat_le first c) (test c) found.2 in
    let below : c < last = found.1 in
    let bound : (nat_le first c && nat_lt c last) ≡ true = both_hold (nat_le first c) (nat_lt c last) both.0 (lt_test c last below) in
    some_below_from codes (λ c. is_scalar c && (test c && starts_with_byte (encode_utf8 c) b)) c (omega (arith, below, within))
    (joined (is_scalar c) (test c) (starts_with_byte (encode_utf8 c) b) (are c ∙ bound) both.1))
    (λ e.
    let found = some_found codes (λ c. is_scalar c && (test c && starts_with_byte (encode_utf8 c) b)) e in
    let c : ℕ = found.0 in
    let both = swapped (is_scalar c) (test c) (starts_with_byte (encode_utf8 c) b) found.2 in
    let bounds = in_bounds first last c (sym (are c) ∙ both.0) in
    some_below_from last (λ c. nat_le first c && test c) c bounds.1
    (both_hold (nat_le first c) (test c) (le_test first c bounds.0) both.1))

-- an ASCII byte is that of the character with its number
pub ascii_first : (test : ℕ → Bool) (b : ℕ) → (nat_lt b 128 && test b) ≡ (nat_lt b 128 && first_of_characters test b)
ascii_first test b = by_order (nat_lt b 128) refl where
  own : b < 128 → test b ≡ some_below (b + 1) (λ c. nat_le b c && test c)
  own lt =
      same_truths _ _ (λ e. some_below_from (b + 1) (λ c. nat_le b c && test c) b (omega arith) (both_hold (nat_le b b) (test b) (le_test b b (omega arith)) e))
      (λ e.
      let found = some_found (b + 1) (λ c. nat_le b c && test c) e in
      let both = parts_of (nat_le b found.0) (test found.0) found.2 in
      let same : b ≡ found.0 = omega (arith, le_holds b found.0 both.0, found.1) in
      ap test same ∙ both.1)

  by_order : (t : Bool) → nat_lt b 128 ≡ t → (t && test b) ≡ (t && first_of_characters test b)
  by_order false e = refl
  by_order true e =
      let lt : b < 128 = lt_holds b 128 e in
      own lt ∙ first_among test b b (b + 1) (λ c. from_ascii c b lt) (within_codes (b + 1) (omega (arith, lt)))
