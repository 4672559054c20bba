-- Sets of bytes, by their words.
use Rattle.std.proofs.Common.{◌≡◌, ℕ, zero, suc, ◌+◌, ◌-◌, ◌*◌, ◌^◌, ◌<◌, ◌≤◌, ◌/◌, ◌%◌, ◌==◌, ◌||◌, ◌&&◌, Bool, true, false, if◌then◌else◌, List, [], ◌∷◌, length, refl, sym, ap, ap₂, ◌∙◌, arith, max, min, slice_index, slice_set, bit_or, bit_and, count_ones, inl, inr, get_or-set_same, get_or-set_other, eq-eqb, ne_eqb, zero-add}
use Rattle.std.proofs.Math.Bool.{or-true, or-false}
use Rattle.std.specs.Int.{bit_at}
use Rattle.std.specs.Int.Count.{ones_step}
use Rattle.std.proofs.lemmas.Bool.{cases_eq}
use Rattle.std.proofs.lemmas.Bool.Decides.{nat_tests}
use Rattle.std.proofs.lemmas.List.FromFn.{get_or-map-range_with_len}
use Rattle.std.proofs.lemmas.Nat.{ones_le_self}
use Rattle.std.proofs.lemmas.Nat.Bits.{bit_at_or, bit_at_and, bit_at-lt, bit_at_ones, bit_at_lowest, bit_at-suc}
use Rattle.fancy_tree.specs.CharSet.{bit}
use Rattle.fancy_tree.proofs.CharSetLemmas.{set_same, set_other, bit_clear}
use Rattle.fancy_bytes.specs.Sets.{ByteFlags, member, flags_in_words, members_from}

member-flags : (words : List ℕ) (n b : ℕ) → b < n → member (flags_in_words words n) b ≡ (bit words b == 1)
unfolding member flags_in_words
member-flags words n b lt = get_or-map-range_with_len (λ k. bit words k == 1) 0 n b b false lt (omega arith)

pub member-words : (words : List ℕ) (b : ℕ) → b < 256 → member (flags_in_words words 256) b ≡ (bit words b == 1)
member-words words b lt = member-flags words 256 b lt

-- unions and intersections

either_bit : (x y : ℕ) → x < 2 → y < 2 → (max x y == 1) ≡ ((x == 1) || (y == 1))
either_bit x y p q = grind (arith, nat_tests)

both_bits : (x y : ℕ) → x < 2 → y < 2 → (min x y == 1) ≡ ((x == 1) && (y == 1))
both_bits x y p q = grind (arith, nat_tests)

bit-either : (a b r : List ℕ) → ((k : ℕ) → k < 4 → slice_index r k ≡ bit_or (slice_index a k) (slice_index b k)) → (n : ℕ) → n < 256 →
    (bit r n == 1) ≡ ((bit a n == 1) || (bit b n == 1))
unfolding bit
bit-either a b r is n lt =
    let x : ℕ = slice_index a (n / 64) in
    let y : ℕ = slice_index b (n / 64) in
    ap (λ w. bit_at w (n % 64) == 1) (is (n / 64) (omega arith))
    ∙ ap (λ v. v == 1) (bit_at_or x y (n % 64))
    ∙ either_bit (bit_at x (n % 64)) (bit_at y (n % 64)) (bit_at-lt x (n % 64)) (bit_at-lt y (n % 64))

bit-common : (a b r : List ℕ) → ((k : ℕ) → k < 4 → slice_index r k ≡ bit_and (slice_index a k) (slice_index b k)) → (n : ℕ) → n < 256 →
    (bit r n == 1) ≡ ((bit a n == 1) && (bit b n == 1))
unfolding bit
bit-common a b r is n lt =
    let x : ℕ = slice_index a (n / 64) in
    let y : ℕ = slice_index b (n / 64) in
    ap (λ w. bit_at w (n % 64) == 1) (is (n / 64) (omega arith))
    ∙ ap (λ v. v == 1) (bit_at_and x y (n % 64))
    ∙ both_bits (bit_at x (n % 64)) (bit_at y (n % 64)) (bit_at-lt x (n % 64)) (bit_at-lt y (n % 64))

pub member-either : (a b r : List ℕ) → ((k : ℕ) → k < 4 → slice_index r k ≡ bit_or (slice_index a k) (slice_index b k)) → (n : ℕ) → n < 256 →
    member (flags_in_words r 256) n ≡ (member (flags_in_words a 256) n || member (flags_in_words b 256) n)
member-either a b r is n lt =
    member-words r n lt ∙ bit-either a b r is n lt ∙ sym (ap₂ ◌||◌ (member-words a n lt) (member-words b n lt))

pub member-common : (a b r : List ℕ) → ((k : ℕ) → k < 4 → slice_index r k ≡ bit_and (slice_index a k) (slice_index b k)) → (n : ℕ) → n < 256 →
    member (flags_in_words r 256) n ≡ (member (flags_in_words a 256) n && member (flags_in_words b 256) n)
member-common a b r is n lt =
    member-words r n lt ∙ bit-common a b r is n lt ∙ sym (ap₂ ◌&&◌ (member-words a n lt) (member-words b n lt))

-- one more item that is as it should be
pub set_step : (ws : List ℕ) (f : ℕ → ℕ) (i v : ℕ) → i < length ws → v ≡ f i → ((k : ℕ) → k < i → slice_index ws k ≡ f k) →
    (k : ℕ) → k < i + 1 → slice_index (slice_set ws i v) k ≡ f k
set_step ws f i v within is below k lt =
    elim (cases_eq k i) [
      | inl same ↦ rw same (get_or-set_same ws i v 0 within ∙ is)
      | inr other ↦ get_or-set_other ws i k v 0 other ∙ below k (omega arith)
    ]

-- one more member

bit-added : (words : List ℕ) (byte b x : ℕ) → byte / 64 < length words → x ≡ slice_index words (byte / 64) →
    (bit (slice_set words (byte / 64) (bit_or x (1 * 2 ^ (byte % 64) % 18446744073709551616))) b == 1) ≡ ((bit words b == 1) || (b == byte))
bit-added words byte b x within is =
    elim (cases_eq b byte) [
      | inl same ↦ rw same
          (eq-eqb _ 1 (set_same words byte x within)
          ∙ sym (ap (λ t. (bit words byte == 1) || t) (eq-eqb byte byte refl) ∙ or-true (bit words byte == 1)))
      | inr other ↦
          ap (λ v. v == 1) (set_other words byte x within is b other)
          ∙ sym (ap (λ t. (bit words b == 1) || t) (ne_eqb b byte other) ∙ or-false (bit words b == 1))
    ]

pub member-added : (words : List ℕ) (byte b x : ℕ) → byte / 64 < length words → x ≡ slice_index words (byte / 64) → b < 256 →
    member (flags_in_words (slice_set words (byte / 64) (bit_or x (1 * 2 ^ (byte % 64) % 18446744073709551616))) 256) b
    ≡ (member (flags_in_words words 256) b || (b == byte))
member-added words byte b x within is lt =
    member-words _ b lt ∙ bit-added words byte b x within is ∙ sym (ap (λ t. t || (b == byte)) (member-words words b lt))

-- no member, and every one

pub member-none : (b : ℕ) → b < 256 → member (flags_in_words (0 ∷ 0 ∷ 0 ∷ 0 ∷ []) 256) b ≡ false
member-none b lt = member-words _ b lt ∙ ap (λ v. v == 1) (bit_clear 4 b (omega arith))

get_four : (w k : ℕ) → k < 4 → slice_index (w ∷ w ∷ w ∷ w ∷ []) k ≡ w
get_four w zero lt = refl
get_four w (suc zero) lt = refl
get_four w (suc (suc zero)) lt = refl
get_four w (suc (suc (suc zero))) lt = refl
get_four w (suc (suc (suc (suc k)))) lt = absurd (omega arith)

all_ones : (n : ℕ) → n < 256 → (bit (18446744073709551615 ∷ 18446744073709551615 ∷ 18446744073709551615 ∷ 18446744073709551615 ∷ []) n == 1) ≡ true
unfolding bit
all_ones n lt =
    ap (λ (w : ℕ). bit_at w (n % 64) == 1) (get_four 18446744073709551615 (n / 64) (omega arith))
    ∙ eq-eqb (bit_at 18446744073709551615 (n % 64)) 1 (bit_at_ones 64 (n % 64) (omega arith))

pub member-all : (b : ℕ) → b < 256 →
    member (flags_in_words (18446744073709551615 ∷ 18446744073709551615 ∷ 18446744073709551615 ∷ 18446744073709551615 ∷ []) 256) b ≡ true
member-all b lt = member-words _ b lt ∙ all_ones b lt

-- how many members there are

one_counted : (m : Bool) (b w : ℕ) (rest : List ℕ) → m ≡ (w % 2 == 1) → length (if m then b ∷ rest else rest) ≡ w % 2 + length rest
one_counted true b w rest e = grind (arith, nat_tests)
one_counted false b w rest e = grind (arith, nat_tests)

-- a word that holds the flags of n bytes has as many ones as there are members among them
count_word : (flags : ByteFlags) (n b w : ℕ) → w < 2 ^ n → ((k : ℕ) → k < n → member flags (b + k) ≡ (bit_at w k == 1)) →
    length (members_from flags n b) ≡ count_ones w
unfolding members_from
count_word flags zero b w lt tells =
    let none : w ≡ 0 = omega arith in
    let few : count_ones w ≡ 0 = omega (arith, ones_le_self w) in sym few
count_word flags (suc n) b w lt tells =
    let here : b ≡ b + 0 = omega arith in
    let first : member flags b ≡ (w % 2 == 1) = ap (member flags) here ∙ tells 0 (omega arith) ∙ ap (λ (v : ℕ). v == 1) (bit_at_lowest w) in
    one_counted (member flags b) b w (members_from flags n (suc b)) first
    ∙ ap (λ (k : ℕ). w % 2 + k) (count_word flags n (suc b) (w / 2) (omega arith)
    (λ k below.
    let there : suc b + k ≡ b + suc k = omega arith in
    ap (member flags) there ∙ tells (suc k) (omega arith) ∙ ap (λ (v : ℕ). v == 1) (bit_at-suc w k)))
    ∙ sym (ones_step w)

suc_plus : (a b k : ℕ) → a ≡ b + k → suc a ≡ suc b + k
suc_plus a b k e = omega arith

length_if : (m : Bool) (b k : ℕ) (one rest : List ℕ) → length rest ≡ length one + k → length (if m then b ∷ rest else rest) ≡ length (if m then b ∷ one else one) + k
length_if true b k one rest e = suc_plus (length rest) (length one) k e
length_if false b k one rest e = e

count_split : (flags : ByteFlags) (m n b : ℕ) → length (members_from flags (m + n) b) ≡ length (members_from flags m b) + length (members_from flags n (b + m))
unfolding members_from
count_split flags zero n b =
    let here : b ≡ b + zero = omega arith in
    let count : zero + n ≡ n = omega arith in
    ap (λ (k : ℕ). length (members_from flags k b)) count ∙ ap (λ (k : ℕ). length (members_from flags n k)) here
    ∙ sym (zero-add (length (members_from flags n (b + zero))))
count_split flags (suc m) n b =
    let there : suc b + m ≡ b + suc m = omega arith in
    let count : suc m + n ≡ suc (m + n) = omega arith in
    ap (λ (k : ℕ). length (members_from flags k b)) count
    ∙ length_if (member flags b) b (length (members_from flags n (b + suc m))) (members_from flags m (suc b)) (members_from flags (m + n) (suc b))
    (count_split flags m n (suc b) ∙ ap (λ (k : ℕ). length (members_from flags m (suc b)) + length (members_from flags n k)) there)

four_words : (flags : ByteFlags) → length (members_from flags 256 0)
    ≡ length (members_from flags 64 0) + (length (members_from flags 64 64) + (length (members_from flags 64 128) + length (members_from flags 64 192)))
four_words flags =
    count_split flags 64 192 0
    ∙ ap (λ k. length (members_from flags 64 0) + k)
    (count_split flags 64 128 64 ∙ ap (λ k. length (members_from flags 64 64) + k) (count_split flags 64 64 128))

-- the bits of the word at i
word_tells : (words : List ℕ) (i k : ℕ) → i < 4 → k < 64 → member (flags_in_words words 256) (64 * i + k) ≡ (bit_at (slice_index words i) k == 1)
unfolding bit
word_tells words i k lt below =
    let row : (64 * i + k) / 64 ≡ i = omega arith in
    let column : (64 * i + k) % 64 ≡ k = omega arith in
    member-words words (64 * i + k) (omega arith) ∙ ap₂ (λ (r q : ℕ). bit_at (slice_index words r) q == 1) row column

pub count_words : (words : List ℕ) (a b c d : ℕ) → a < 2 ^ 64 → b < 2 ^ 64 → c < 2 ^ 64 → d < 2 ^ 64 →
    slice_index words 0 ≡ a → slice_index words 1 ≡ b → slice_index words 2 ≡ c → slice_index words 3 ≡ d →
    length (members_from (flags_in_words words 256) 256 0) ≡ count_ones a + (count_ones b + (count_ones c + count_ones d))
count_words words a b c d la lb lc ld ia ib ic id =
    four_words (flags_in_words words 256)
    ∙ ap₂ (λ x y. x + y) (count_word (flags_in_words words 256) 64 0 a la (λ k below. word_tells words 0 k (omega arith) below ∙ ap (λ w. bit_at w k == 1) ia))
    (ap₂ (λ x y. x + y) (count_word (flags_in_words words 256) 64 64 b lb (λ k below. word_tells words 1 k (omega arith) below ∙ ap (λ w. bit_at w k == 1) ib))
    (ap₂ (λ x y. x + y) (count_word (flags_in_words words 256) 64 128 c lc (λ k below. word_tells words 2 k (omega arith) below ∙ ap (λ w. bit_at w k == 1) ic))
    (count_word (flags_in_words words 256) 64 192 d ld (λ k below. word_tells words 3 k (omega arith) below ∙ ap (λ w. bit_at w k == 1) id))))

-- the members that an iterator has left

if_is : (m : Bool) (xs ys : List ℕ) → m ≡ true → (if m then xs else ys) ≡ xs
if_is true xs ys e = refl
if_is false xs ys e = cc

if_is_not : (m : Bool) (xs ys : List ℕ) → m ≡ false → (if m then xs else ys) ≡ ys
if_is_not true xs ys e = cc
if_is_not false xs ys e = refl

from_first : (flags : ByteFlags) (n b : ℕ) → members_from flags (suc n) b ≡ (if member flags b then b ∷ members_from flags n (suc b) else members_from flags n (suc b))
unfolding members_from
from_first flags n b = refl

more_left : (flags : ByteFlags) (b : ℕ) → b < 256 →
    members_from flags (256 - b) b ≡ (if member flags b then b ∷ members_from flags (256 - (b + 1)) (b + 1) else members_from flags (256 - (b + 1)) (b + 1))
more_left flags b lt =
    let count : 256 - b ≡ suc (256 - (b + 1)) = omega arith in
    let next : suc b ≡ b + 1 = omega arith in
    ap (λ n. members_from flags n b) count ∙ from_first flags (256 - (b + 1)) b
    ∙ ap (λ k. if member flags b then b ∷ members_from flags (256 - (b + 1)) k else members_from flags (256 - (b + 1)) k) next

pub member_comes : (flags : ByteFlags) (b : ℕ) → b < 256 → member flags b ≡ true → members_from flags (256 - b) b ≡ b ∷ members_from flags (256 - (b + 1)) (b + 1)
member_comes flags b lt e = more_left flags b lt ∙ if_is (member flags b) _ _ e

pub none_comes : (flags : ByteFlags) (b : ℕ) → b < 256 → member flags b ≡ false → members_from flags (256 - b) b ≡ members_from flags (256 - (b + 1)) (b + 1)
none_comes flags b lt e = more_left flags b lt ∙ if_is_not (member flags b) _ _ e

pub none_left : (flags : ByteFlags) (b : ℕ) → 256 ≤ b → members_from flags (256 - b) b ≡ []
unfolding members_from
none_left flags b le = let end : 256 - b ≡ 0 = omega arith in rw end refl

pub one_fewer : (xs : List ℕ) (x : ℕ) (ys : List ℕ) → xs ≡ x ∷ ys → length ys < length xs
one_fewer xs x ys e = let size : length xs ≡ suc (length ys) = ap length e in omega arith
