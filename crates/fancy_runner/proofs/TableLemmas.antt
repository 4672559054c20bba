-- Words of 64 bits as a list of bits.
use Rattle.std.proofs.Common.{◌≡◌, ℕ, zero, suc, ◌+◌, ◌-◌, ◌*◌, ◌/◌, ◌%◌, ◌^◌, ◌<◌, ◌≤◌, ◌⊎◌, Bool, true, false, not, eqb, List, [], ◌∷◌, ◌++◌, length, drop, replicate, get_or, set, refl, sym, ◌∙◌, ap, subst, inl, inr, arith, ext_get_or, length-set, get_or-set_same, get_or-set_other, eq-eqb, ne_eqb, w64}
use Rattle.std.proofs.lemmas.List.{append_assoc, length-append, length-replicate, get_or-replicate, get_or_append_left, get_or-append_right, set-append_right, get_or-drop, get_or_read}
use Rattle.std.proofs.lemmas.List.FromFn.{length-map-range_with_len, get_or-map-range_with_len}
use Rattle.std.proofs.lemmas.Bool.{cases_eq, cases_lt, not-false, true≢false}
use Rattle.std.proofs.lemmas.Nat.{one_shl, pow_pos}
use Rattle.std.proofs.lemmas.Nat.Bits.{bit_at_set_same, bit_at_set_other, bit_at_clear_same, bit_at_clear_other, bit_at-zero, bit_at_not, and_pow}
use Rattle.std.specs.Prelude.{bit_and, bit_or}
use Rattle.std.specs.Int.{bit_at, bit_not}
use Rattle.std.proofs.Math.ListN.{get_or-eq_default}
use Rattle.fancy_runner.specs.Table.{bit_of, full_word, with_gone, bits_of, IsCleared, IsForgotten}

pub length-bits_of : (words : List ℕ) (n : ℕ) → length (bits_of words n) ≡ n
unfolding bits_of
length-bits_of words n = length-map-range_with_len (bit_of words) 0 n

pub get_or-bits_of : (words : List ℕ) (n k : ℕ) (d : Bool) → k < n → get_or (bits_of words n) k d ≡ bit_of words k
unfolding bits_of
get_or-bits_of words n k d h = get_or-map-range_with_len (bit_of words) 0 n k k d h (omega arith)

-- zeros after the words change no bit
get_or-zeros : (n j : ℕ) → get_or {A = ℕ} (replicate n 0) j 0 ≡ 0
get_or-zeros zero j = refl
get_or-zeros (suc n) zero = refl
get_or-zeros (suc n) (suc j) = get_or-zeros n j

get_or-padded : (words : List ℕ) (m j : ℕ) → get_or (words ++ replicate m 0) j 0 ≡ get_or words j 0
get_or-padded [] m j = get_or-zeros m j
get_or-padded (w ∷ words) m zero = refl
get_or-padded (w ∷ words) m (suc j) = get_or-padded words m j

pub bits_of-padded : (words : List ℕ) (m n : ℕ) → bits_of (words ++ replicate m 0) n ≡ bits_of words n
bits_of-padded words m n =
    ext_get_or false _ _ (length-bits_of _ n ∙ sym (length-bits_of words n))
    (λ k h.
    let within : k < n = omega (arith, length-bits_of (words ++ replicate m 0) n) in
    get_or-bits_of (words ++ replicate m 0) n k false within
    ∙ ap (λ x. eqb (bit_at x (k % 64)) 1) (get_or-padded words m (k / 64))
    ∙ sym (get_or-bits_of words n k false within))

pub bits_of-none : (n : ℕ) → bits_of [] n ≡ replicate n false
bits_of-none n =
    ext_get_or false _ _ (length-bits_of [] n ∙ sym (length-replicate n false))
    (λ k h.
    let within : k < n = omega (arith, length-bits_of [] n) in
    get_or-bits_of [] n k false within
    ∙ ap (λ x. eqb x 1) (bit_at-zero (k % 64))
    ∙ sym (get_or-replicate n k false false within))

-- the test `word & bit == 0`
pub bit_clear : (word k : ℕ) → k < 64 → eqb (bit_and word (1 * 2 ^ k % 2 ^ 64)) 0 ≡ not (eqb (bit_at word k) 1)
bit_clear word k h =
    let e : bit_and word (1 * 2 ^ k % 2 ^ 64) ≡ bit_at word k * 2 ^ k = ap (bit_and word) (one_shl k 64 h) ∙ and_pow word k in
    let b : ℕ = bit_at word k in
    let small : b < 2 = omega arith in
    elim (cases_eq b 1) [
      | inl one ↦
          let big : 0 < bit_and word (1 * 2 ^ k % 2 ^ 64) = rw (e, one) (omega (arith, pow_pos k)) in
          ne_eqb _ 0 (omega arith) ∙ sym (ap not (eq-eqb b 1 one))
      | inr other ↦
          let none : b ≡ 0 = omega arith in
          eq-eqb _ 0 (rw (e, none) (omega arith)) ∙ sym (ap not (ne_eqb b 1 other))
    ]

pub bits_of-set : (words : List ℕ) (m n word : ℕ) → n < m → n / 64 < length words → word ≡ get_or words (n / 64) 0
    → bits_of (set words (n / 64) (bit_or word (1 * 2 ^ (n % 64) % 2 ^ 64))) m ≡ set (bits_of words m) n true
bits_of-set words m n word within word_in read =
    let v : ℕ = bit_or word (1 * 2 ^ (n % 64) % 2 ^ 64) in
    let n_in : n < length (bits_of words m) = omega (arith, length-bits_of words m) in
    let low : n % 64 < 64 = omega arith in
    ext_get_or false _ _
    (length-bits_of _ m ∙ sym (length-bits_of words m) ∙ sym (length-set (bits_of words m) n true))
    (λ k h.
    let k_in : k < m = rw length-bits_of at h in
    get_or-bits_of _ m k false k_in
    ∙ (elim (cases_eq k n) as (λ _. bit_of (set words (n / 64) v) k ≡ get_or (set (bits_of words m) n true) k false) [
      | inl same ↦
          rw same
          (ap (λ x. eqb (bit_at x (n % 64)) 1) (get_or-set_same words (n / 64) v 0 word_in)
          ∙ eq-eqb _ 1 (bit_at_set_same w64 word (n % 64) low)
          ∙ sym (get_or-set_same (bits_of words m) n true false n_in))
      | inr other ↦
          (elim (cases_eq (k / 64) (n / 64)) as (λ _. bit_of (set words (n / 64) v) k ≡ bit_of words k) [
            | inl row ↦
                ap (λ x. eqb (bit_at (get_or (set words (n / 64) v) x 0) (k % 64)) 1) row
                ∙ ap (λ x. eqb (bit_at x (k % 64)) 1) (get_or-set_same words (n / 64) v 0 word_in)
                ∙ ap (λ x. eqb x 1) (bit_at_set_other w64 word (n % 64) low (k % 64) (omega arith))
                ∙ ap (λ x. eqb (bit_at x (k % 64)) 1) (read ∙ ap (λ x. get_or words x 0) (sym row))
            | inr apart ↦ ap (λ x. eqb (bit_at x (k % 64)) 1) (get_or-set_other words (n / 64) (k / 64) v 0 apart)
          ])
          ∙ sym (get_or-bits_of words m k false k_in)
          ∙ sym (get_or-set_other (bits_of words m) n k true false other)
    ]))

-- a mark that was made before
set_made : (bs : List Bool) (n : ℕ) → n < length bs → get_or bs n false ≡ true → set bs n true ≡ bs
set_made [] n h e = refl
set_made (b ∷ bs) zero h e = ap (λ (c : Bool). c ∷ bs) (sym e)
set_made (b ∷ bs) (suc n) h e = ap (λ (cs : List Bool). b ∷ cs) (set_made bs n (omega arith) e)

-- what a mark ensures
pub record Marking (flags after : List Bool) (k : ℕ) (fresh : Bool) : Type 0 where
  pub new : fresh ≡ not (get_or flags k false)
  pub is : after ≡ set flags k true
  pub same : fresh ≡ false → after ≡ flags

-- a mark in words that were padded first
marking : (words more : List ℕ) (m pad n word : ℕ) (flags : List Bool) → bits_of words m ≡ flags → n < length flags
    → more ≡ words ++ replicate pad 0 → n / 64 < length more → word ≡ get_or more (n / 64) word
    → Marking flags (bits_of (set more (n / 64) (bit_or word (1 * 2 ^ (n % 64) % 2 ^ 64))) m) n (eqb (bit_and word (1 * 2 ^ (n % 64) % 2 ^ 64)) 0)
marking words more m pad n word flags is within padded word_in found =
    let same : bits_of more m ≡ flags = ap (λ (x : List ℕ). bits_of x m) padded ∙ bits_of-padded words pad m ∙ is in
    let n_in : n < m = omega (arith, length-bits_of words m, ap length is) in
    let read : word ≡ get_or more (n / 64) 0 = get_or_read more (n / 64) word word_in found 0 in
    let new : eqb (bit_and word (1 * 2 ^ (n % 64) % 2 ^ 64)) 0 ≡ not (get_or flags n false) =
    bit_clear word (n % 64) (omega arith)
    ∙ ap (λ x. not (eqb (bit_at x (n % 64)) 1)) read
    ∙ ap not (sym (get_or-bits_of more m n false n_in))
    ∙ ap (λ (x : List Bool). not (get_or x n false)) same in
    let after : bits_of (set more (n / 64) (bit_or word (1 * 2 ^ (n % 64) % 2 ^ 64))) m ≡ set flags n true =
    bits_of-set more m n word n_in word_in read ∙ ap (λ (x : List Bool). set x n true) same in
    record {
      new = new;
      is = after;
      same = λ old. after ∙ set_made flags n within (not-false _ (sym new ∙ old));
    }

-- a mark in words that is taken away
unmarking : (words : List ℕ) (m n word : ℕ) (flags : List Bool) → bits_of words m ≡ flags → n < length flags → n / 64 < length words
    → word ≡ get_or words (n / 64) word → bits_of (set words (n / 64) (bit_and word (bit_not w64 (1 * 2 ^ (n % 64) % 2 ^ 64)))) m ≡ set flags n false
unmarking words m n word flags is within word_in found =
    let v : ℕ = bit_and word (bit_not w64 (1 * 2 ^ (n % 64) % 2 ^ 64)) in
    let n_bits : n < length (bits_of words m) = omega (arith, ap length is) in
    let low : n % 64 < 64 = omega arith in
    let read : word ≡ get_or words (n / 64) 0 = get_or_read words (n / 64) word word_in found 0 in
    ext_get_or false _ _
    (length-bits_of _ m ∙ sym (length-bits_of words m) ∙ sym (length-set (bits_of words m) n false))
    (λ k h.
    let k_in : k < m = rw length-bits_of at h in
    get_or-bits_of _ m k false k_in
    ∙ (elim (cases_eq k n) as (λ _. bit_of (set words (n / 64) v) k ≡ get_or (set (bits_of words m) n false) k false) [
      | inl same ↦
          rw same
          (ap (λ x. eqb (bit_at x (n % 64)) 1) (get_or-set_same words (n / 64) v 0 word_in)
          ∙ ne_eqb _ 1 (λ one. let none : bit_at v (n % 64) ≡ 0 = bit_at_clear_same w64 word (n % 64) low in omega (arith, one, none))
          ∙ sym (get_or-set_same (bits_of words m) n false false n_bits))
      | inr other ↦
          (elim (cases_eq (k / 64) (n / 64)) as (λ _. bit_of (set words (n / 64) v) k ≡ bit_of words k) [
            | inl row ↦
                ap (λ x. eqb (bit_at (get_or (set words (n / 64) v) x 0) (k % 64)) 1) row
                ∙ ap (λ x. eqb (bit_at x (k % 64)) 1) (get_or-set_same words (n / 64) v 0 word_in)
                ∙ ap (λ x. eqb x 1) (bit_at_clear_other w64 word (n % 64) low (k % 64) (omega arith) (omega arith))
                ∙ ap (λ x. eqb (bit_at x (k % 64)) 1) (read ∙ ap (λ x. get_or words x 0) (sym row))
            | inr apart ↦ ap (λ x. eqb (bit_at x (k % 64)) 1) (get_or-set_other words (n / 64) (k / 64) v 0 apart)
          ])
          ∙ sym (get_or-bits_of words m k false k_in)
          ∙ sym (get_or-set_other (bits_of words m) n k false false other)
    ]))
    ∙ ap (λ (x : List Bool). set x n false) is

-- no word is past the end
get_or-past : (words : List ℕ) (j : ℕ) → length words ≤ j → get_or words j 0 ≡ 0
get_or-past [] j h = refl
get_or-past (w ∷ words) zero h = absurd (omega arith)
get_or-past (w ∷ words) (suc j) h = get_or-past words j (omega arith)

-- a mark that was not made
set_unmade : (bs : List Bool) (n : ℕ) → get_or bs n false ≡ false → set bs n false ≡ bs
set_unmade [] n e = refl
set_unmade (b ∷ bs) zero e = ap (λ (c : Bool). c ∷ bs) (sym e)
set_unmade (b ∷ bs) (suc n) e = ap (λ (cs : List Bool). b ∷ cs) (set_unmade bs n e)

-- past the words that were filled in there is no mark to take away
unmarked_past : (words : List ℕ) (m n : ℕ) (flags : List Bool) → bits_of words m ≡ flags → n < length flags → length words ≤ n / 64 → flags ≡ set flags n false
unmarked_past words m n flags is within past =
    let n_in : n < m = omega (arith, length-bits_of words m, ap length is) in
    sym (set_unmade flags n
    (ap (λ (x : List Bool). get_or x n false) (sym is)
    ∙ get_or-bits_of words m n false n_in
    ∙ ap (λ x. eqb (bit_at x (n % 64)) 1) (get_or-past words (n / 64) past)
    ∙ ap (λ x. eqb x 1) (bit_at-zero (n % 64))))

-- nothing is cleared yet
pub cleared_none : (bs : List Bool) (from : ℕ) → IsCleared bs bs from 0
cleared_none bs from = record { many = refl; none = λ k low high. absurd (omega (arith, low, high)); same = λ k out. refl }

-- one bit more is cleared
pub cleared_more : (old new : List Bool) (from count : ℕ) → from + count < length old → IsCleared old new from count → IsCleared old (set new (from + count) false) from (count + 1)
cleared_more old new from count within is = record {
  many = length-set new (from + count) false ∙ is.many;
  none = λ k low high.
      elim (cases_eq k (from + count)) [
        | inl last ↦ subst (λ (j : ℕ). get_or (set new (from + count) false) j false ≡ false) (sym last) (get_or-set_same new (from + count) false false (omega (arith, within, is.many)))
        | inr other ↦ get_or-set_other new (from + count) k false false other ∙ is.none k low (omega (arith, high, other))
      ];
  same = λ k out.
      let other : (k ≡ from + count) → ⊥ = λ e. elim out [ inl less ↦ absurd (omega (arith, e, less)) | inr more ↦ absurd (omega (arith, e, more)) ] in
      get_or-set_other new (from + count) k false false other
      ∙ is.same k (elim out [ inl less ↦ inl less | inr more ↦ inr (omega (arith, more)) ]);
}

-- all bits of a word that was forgotten are set
full_bit : (k : ℕ) → k < 64 → eqb (bit_at full_word k) 1 ≡ true
full_bit k h = eq-eqb (bit_at full_word k) 1 (bit_at_not w64 0 k (omega arith) h ∙ ap (λ b. 1 - b) (bit_at-zero k))

length-gone : (gone : ℕ) (words : List ℕ) → length (with_gone gone words) ≡ gone + length words
length-gone gone words = length-append (replicate gone full_word) words ∙ ap (λ n. n + length words) (length-replicate gone full_word)

-- a word past those that were forgotten
word_kept : (gone : ℕ) (words : List ℕ) (j d : ℕ) → gone ≤ j → get_or (with_gone gone words) j d ≡ get_or words (j - gone) d
word_kept gone words j d h = get_or-append_right (replicate gone full_word) words gone j d (length-replicate gone full_word) h

word_gone : (gone : ℕ) (words : List ℕ) (j : ℕ) → j < gone → get_or (with_gone gone words) j 0 ≡ full_word
word_gone gone words j h = get_or_append_left (replicate gone full_word) words 0 j (omega (arith, h, length-replicate gone full_word)) ∙ get_or-replicate gone j full_word 0 h

put_kept : (gone : ℕ) (words : List ℕ) (j v : ℕ) → gone ≤ j → set (with_gone gone words) j v ≡ with_gone gone (set words (j - gone) v)
put_kept gone words j v h = set-append_right (replicate gone full_word) words gone j v (length-replicate gone full_word) h

-- a pair in a word that was forgotten
bit_gone : (gone : ℕ) (words : List ℕ) (k : ℕ) → k / 64 < gone → bit_of (with_gone gone words) k ≡ true
bit_gone gone words k h = ap (λ x. eqb (bit_at x (k % 64)) 1) (word_gone gone words (k / 64) h) ∙ full_bit (k % 64) (omega arith)

-- a mark in a word that was forgotten
pub marked_gone : (gone : ℕ) (words : List ℕ) (m n : ℕ) (flags : List Bool) → bits_of (with_gone gone words) m ≡ flags → n < length flags → n / 64 < gone
    → Marking flags flags n false
marked_gone gone words m n flags is within early =
    let n_in : n < m = omega (arith, within, length-bits_of (with_gone gone words) m, ap length is) in
    let made : get_or flags n false ≡ true =
    ap (λ (x : List Bool). get_or x n false) (sym is) ∙ get_or-bits_of (with_gone gone words) m n false n_in ∙ bit_gone gone words n early in
    record {
      new = sym (ap not made);
      is = sym (set_made flags n within made);
      same = λ e. refl;
    }

-- what is read of a pair, in a word that was forgotten, in another one, and past the words
pub read_gone : (gone : ℕ) (words : List ℕ) (m n : ℕ) (flags : List Bool) → bits_of (with_gone gone words) m ≡ flags → n < length flags → n / 64 < gone → true ≡ get_or flags n false
read_gone gone words m n flags is within early =
    let n_in : n < m = omega (arith, length-bits_of (with_gone gone words) m, ap length is) in
    sym (ap (λ (x : List Bool). get_or x n false) (sym is) ∙ get_or-bits_of (with_gone gone words) m n false n_in ∙ bit_gone gone words n early)

pub read_kept : (gone : ℕ) (words : List ℕ) (m n : ℕ) (flags : List Bool) → bits_of (with_gone gone words) m ≡ flags → n < length flags → gone ≤ n / 64
    → get_or flags n false ≡ eqb (bit_at (get_or words (n / 64 - gone) 0) (n % 64)) 1
read_kept gone words m n flags is within past =
    let n_in : n < m = omega (arith, length-bits_of (with_gone gone words) m, ap length is) in
    ap (λ (x : List Bool). get_or x n false) (sym is)
    ∙ get_or-bits_of (with_gone gone words) m n false n_in
    ∙ ap (λ x. eqb (bit_at x (n % 64)) 1) (word_kept gone words (n / 64) 0 past)

twice : (b : Bool) → not (not b) ≡ b
twice true = refl
twice false = refl

pub read_word : (gone : ℕ) (words : List ℕ) (m n word : ℕ) (flags : List Bool) → bits_of (with_gone gone words) m ≡ flags → n < length flags → gone ≤ n / 64
    → n / 64 - gone < length words → word ≡ get_or words (n / 64 - gone) word → not (eqb (bit_and word (1 * 2 ^ (n % 64) % 2 ^ 64)) 0) ≡ get_or flags n false
read_word gone words m n word flags is within past word_in found =
    ap not (bit_clear word (n % 64) (omega arith))
    ∙ twice (eqb (bit_at word (n % 64)) 1)
    ∙ ap (λ x. eqb (bit_at x (n % 64)) 1) (get_or_read words (n / 64 - gone) word word_in found 0)
    ∙ sym (read_kept gone words m n flags is within past)

pub read_past : (gone : ℕ) (words : List ℕ) (m n : ℕ) (flags : List Bool) → bits_of (with_gone gone words) m ≡ flags → n < length flags → gone ≤ n / 64
    → length words ≤ n / 64 - gone → false ≡ get_or flags n false
read_past gone words m n flags is within past none =
    sym (read_kept gone words m n flags is within past
    ∙ ap (λ x. eqb (bit_at x (n % 64)) 1) (get_or-past words (n / 64 - gone) none)
    ∙ ap (λ x. eqb x 1) (bit_at-zero (n % 64)))

-- a mark in another word
pub marking_kept : (gone : ℕ) (words more : List ℕ) (m pad n word : ℕ) (flags : List Bool) → bits_of (with_gone gone words) m ≡ flags → n < length flags → gone ≤ n / 64
    → more ≡ words ++ replicate pad 0 → n / 64 - gone < length more → word ≡ get_or more (n / 64 - gone) word
    → Marking flags (bits_of (with_gone gone (set more (n / 64 - gone) (bit_or word (1 * 2 ^ (n % 64) % 2 ^ 64)))) m) n (eqb (bit_and word (1 * 2 ^ (n % 64) % 2 ^ 64)) 0)
marking_kept gone words more m pad n word flags is within past padded word_in found =
    let whole : with_gone gone more ≡ with_gone gone words ++ replicate pad 0 = ap (with_gone gone) padded ∙ sym (append_assoc (replicate gone full_word) words (replicate pad 0)) in
    subst (λ (ws : List ℕ). Marking flags (bits_of ws m) n (eqb (bit_and word (1 * 2 ^ (n % 64) % 2 ^ 64)) 0))
    (put_kept gone more (n / 64) (bit_or word (1 * 2 ^ (n % 64) % 2 ^ 64)) past)
    (marking (with_gone gone words) (with_gone gone more) m pad n word flags is within whole
    (omega (arith, length-gone gone more, word_in, past))
    (found ∙ sym (word_kept gone more (n / 64) word past)))

-- words that were forgotten, with all bits set, stand before the others again
pub brought_back : (gone back : ℕ) (words more : List ℕ) → back ≤ gone → more ≡ replicate back full_word ++ words → with_gone (gone - back) more ≡ with_gone gone words
brought_back gone back words more le is =
    ap (with_gone (gone - back)) is
    ∙ sym (append_assoc (replicate (gone - back) full_word) (replicate back full_word) words)
    ∙ ap (λ (ws : List ℕ). ws ++ words) (joined (gone - back) back ∙ ap (λ n. replicate n full_word) (rest gone back le)) where
      none : (b : ℕ) → b ≡ 0 + b
      none b = omega arith

      next : (a b : ℕ) → suc (a + b) ≡ suc a + b
      next a b = omega arith

      joined : (a b : ℕ) → replicate a full_word ++ replicate b full_word ≡ replicate (a + b) full_word
      joined zero b = ap (λ n. replicate n full_word) (none b)
      joined (suc a) b = ap (λ (ws : List ℕ). full_word ∷ ws) (joined a b) ∙ ap (λ n. replicate n full_word) (next a b)

      rest : (gone back : ℕ) → back ≤ gone → gone - back + back ≡ gone
      rest gone back le = omega (arith, le)

-- a mark that is taken away
pub unmarking_kept : (gone : ℕ) (words : List ℕ) (m n word : ℕ) (flags : List Bool) → bits_of (with_gone gone words) m ≡ flags → n < length flags → gone ≤ n / 64
    → n / 64 - gone < length words → word ≡ get_or words (n / 64 - gone) word
    → bits_of (with_gone gone (set words (n / 64 - gone) (bit_and word (bit_not w64 (1 * 2 ^ (n % 64) % 2 ^ 64))))) m ≡ set flags n false
unmarking_kept gone words m n word flags is within past word_in found =
    ap (λ (ws : List ℕ). bits_of ws m) (sym (put_kept gone words (n / 64) (bit_and word (bit_not w64 (1 * 2 ^ (n % 64) % 2 ^ 64))) past))
    ∙ unmarking (with_gone gone words) m n word flags is within (omega (arith, length-gone gone words, word_in, past)) (found ∙ sym (word_kept gone words (n / 64) word past))

pub unmarked_kept : (gone : ℕ) (words : List ℕ) (m n : ℕ) (flags : List Bool) → bits_of (with_gone gone words) m ≡ flags → n < length flags → gone ≤ n / 64
    → length words ≤ n / 64 - gone → flags ≡ set flags n false
unmarked_kept gone words m n flags is within past none =
    unmarked_past (with_gone gone words) m n flags is within (omega (arith, length-gone gone words, none, past))

-- words at the front are forgotten, up to one whose pairs have lower numbers
module _ (gone count : ℕ) (words : List ℕ) (m before : ℕ) (old : List Bool) (is : bits_of (with_gone gone words) m ≡ old) (counted : (count ≡ 0) ⊎ (gone + count ≤ before / 64)) where
  abbrev pub left_over : List ℕ
  left_over = with_gone (gone + count) (drop count words)

  bits_old : (k : ℕ) → k < m → get_or old k false ≡ bit_of (with_gone gone words) k
  bits_old k lt = ap (λ (x : List Bool). get_or x k false) (sym is) ∙ get_or-bits_of (with_gone gone words) m k false lt

  -- past what was forgotten nothing changed
  bits_same : (k : ℕ) → gone + count ≤ k / 64 → bit_of left_over k ≡ bit_of (with_gone gone words) k
  bits_same k le =
      ap (λ x. eqb (bit_at x (k % 64)) 1)
      (word_kept (gone + count) (drop count words) (k / 64) 0 le
      ∙ get_or-drop count words (k / 64 - (gone + count)) 0
      ∙ ap (λ j. get_or words j 0) (index (k / 64) gone count le)
      ∙ sym (word_kept gone words (k / 64) 0 (omega (arith, le)))) where
        index : (j a b : ℕ) → a + b ≤ j → b + (j - (a + b)) ≡ j - a
        index j a b h = omega (arith, h)

  none_old : (k : ℕ) → m ≤ k → get_or old k false ≡ false
  none_old k le = get_or-eq_default old false (omega (arith, le, length-bits_of (with_gone gone words) m, ap length is))

  none_left : (k : ℕ) → m ≤ k → get_or (bits_of left_over m) k false ≡ false
  none_left k le = get_or-eq_default (bits_of left_over m) false (omega (arith, le, length-bits_of left_over m))

  pub forgotten : IsForgotten old (bits_of left_over m) before
  forgotten = record {
    many = length-bits_of left_over m ∙ sym (length-bits_of (with_gone gone words) m) ∙ ap length is;
    more = λ k made.
        elim (cases_lt k m) [
          | inl inside ↦
              get_or-bits_of left_over m k false inside
              ∙ (elim (cases_lt (k / 64) (gone + count)) as (λ _. bit_of left_over k ≡ true) [
                | inl early ↦ bit_gone (gone + count) (drop count words) k early
                | inr late ↦ bits_same k late ∙ sym (bits_old k inside) ∙ made
              ])
          | inr outside ↦ absurd (true≢false (sym made ∙ none_old k outside))
        ];
    same = λ k from.
        elim (cases_lt k m) [
          | inl inside ↦
              get_or-bits_of left_over m k false inside
              ∙ (elim (cases_lt (k / 64) (gone + count)) as (λ _. bit_of left_over k ≡ bit_of (with_gone gone words) k) [
                | inl early ↦ bit_gone (gone + count) (drop count words) k early ∙ sym (bit_gone gone words k (before_gone k from early))
                | inr late ↦ bits_same k late
              ])
              ∙ sym (bits_old k inside)
          | inr outside ↦ none_left k outside ∙ sym (none_old k outside)
        ];
  } where
    before_gone : (k : ℕ) → before ≤ k → k / 64 < gone + count → k / 64 < gone
    before_gone k from early = elim counted [ inl none ↦ omega (arith, early, none) | inr most ↦ absurd (omega (arith, from, early, most)) ]
