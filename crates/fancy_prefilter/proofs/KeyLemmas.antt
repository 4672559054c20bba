-- Keys of windows, and the numbers at them.
use Rattle.std.proofs.Common.{◌≡◌, ℕ, suc, ◌+◌, ◌-◌, ◌<◌, ◌≤◌, true, inl, inr, List, [], ◌∷◌, length, take, slice_index, sym, ap, ap₂, subst, ◌∙◌, arith}
use Rattle.std.proofs.lemmas.Bool.{cases_eq}
use Rattle.std.proofs.lemmas.List.{get_or-take, length-take-le}
use Rattle.fancy_bytes.specs.Sets.{ByteFlags, member}
use Rattle.fancy_bytes.specs.Rows.{set_at, StandsFrom}
use Rattle.fancy_prefilter.specs.Keys.{mixed, key_from, key_at, IsAmong, Covers, IsCovered}
use Rattle.fancy_prefilter.specs.LastKeys.{AreLast}

-- what holds of each number below n, and of n
pub one_more : (P : ℕ → Type 0) (n : ℕ) → ((k : ℕ) → k < n → P k) → P n → (k : ℕ) → k < n + 1 → P k
one_more P n before here k lt =
    elim (cases_eq k n) [
      | inl same ↦ subst P (sym same) here
      | inr other ↦ before k (omega (arith, other, lt))
    ]

-- keys

-- one more byte is read
pub key_step : (haystack : List ℕ) (seed next width place i : ℕ) → i < width → next ≡ mixed seed (slice_index haystack (place + i)) →
    key_from next (width - (i + 1)) haystack (place + (i + 1)) ≡ key_from seed (width - i) haystack (place + i)
key_step haystack seed next width place i lt is =
    let count : width - i ≡ suc (width - (i + 1)) = omega arith in
    let there : place + (i + 1) ≡ place + i + 1 = omega arith in
    ap₂ (λ (s p : ℕ). key_from s (width - (i + 1)) haystack p) is there
    ∙ sym (ap (λ (n : ℕ). key_from seed n haystack (place + i)) count)

-- no byte is left
pub key_done : (haystack : List ℕ) (seed width place i key : ℕ) → width ≤ i → key_from seed (width - i) haystack (place + i) ≡ key → seed ≡ key
key_done haystack seed width place i key le is =
    let none : width - i ≡ 0 = omega arith in
    sym (ap (λ (n : ℕ). key_from seed n haystack (place + i)) none) ∙ is

-- numbers at a key

-- where a byte of each set stands, the number is among those of the window's key
pub covered_at : (starts members haystack : List ℕ) (number : ℕ) (sets : List ByteFlags) (seed p : ℕ) → ((k : ℕ) → slice_index haystack k < 256) →
    Covers starts members number seed sets → ((j : ℕ) → j < length sets → member (set_at sets j) (slice_index haystack (p + j)) ≡ true) →
    IsAmong members (slice_index starts (key_from seed (length sets) haystack p)) (slice_index starts (key_from seed (length sets) haystack p + 1)) number
covered_at starts members haystack number [] seed p bytes covers stand = covers
covered_at starts members haystack number (set ∷ sets) seed p bytes covers stand =
    let here : p ≡ p + 0 = omega arith in
    covered_at starts members haystack number sets (mixed seed (slice_index haystack p)) (p + 1) bytes
    (covers (slice_index haystack p) (bytes p) (ap (λ (i : ℕ). member set (slice_index haystack i)) here ∙ stand 0 (omega arith)))
    (λ j lt.
    let there : p + 1 + j ≡ p + suc j = omega arith in
    ap (λ (i : ℕ). member (set_at sets j) (slice_index haystack i)) there ∙ stand (suc j) (omega arith))

module _ (starts members haystack : List ℕ) (number width : ℕ) (row : List ByteFlags) (end p : ℕ) (some : 0 < width) (is : IsCovered starts members number width row) (stands : StandsFrom row haystack end 0 p) where
  -- the window ends before the end
  pub fits : p + width ≤ end
  fits =
      let last : p + (width - 1) < end = (stands (width - 1) (omega arith) (omega (arith, is.enough, some))).0 in
      omega (arith, last, some)

  -- the row's number is among those of the window's key
  pub is_there : ((k : ℕ) → slice_index haystack k < 256) → IsAmong members (slice_index starts (key_at width haystack p)) (slice_index starts (key_at width haystack p + 1)) number
  is_there bytes =
      let size : length (take width row) ≡ width = length-take-le width row is.enough in
      subst (λ (n : ℕ). IsAmong members (slice_index starts (key_from 0 n haystack p)) (slice_index starts (key_from 0 n haystack p + 1)) number) size
      (covered_at starts members haystack number (take width row) 0 p bytes is.covered
      (λ j lt.
      let below : j < width = omega (arith, size, lt) in
      ap (λ (s : ByteFlags). member s (slice_index haystack (p + j))) (get_or-take width row j [] below)
      ∙ (stands j (omega arith) (omega (arith, below, is.enough))).1))

-- keys of the bytes that were read last

module _ (haystack : List ℕ) (p one two three : ℕ) (are : AreLast one two three haystack p) where
  -- the key of the window that one more byte ends
  pub window_key : (byte key : ℕ) → byte ≡ slice_index haystack (p + 3) → key ≡ mixed three byte → key ≡ key_at 4 haystack p
  window_key byte key is same =
      let there : p + 3 ≡ p + 1 + 1 + 1 = omega arith in
      same ∙ ap (λ (seed : ℕ). mixed seed byte) are.all ∙ ap (mixed (key_at 3 haystack p)) (is ∙ ap (slice_index haystack) there)

  -- the keys once that was read
  pub last_after : (byte a b c : ℕ) → byte ≡ slice_index haystack (p + 3) → a ≡ mixed 0 byte → b ≡ mixed one byte → c ≡ mixed two byte → AreLast a b c haystack (p + 1)
  last_after byte a b c is first second third =
      let there : p + 3 ≡ p + 1 + 1 + 1 = omega arith in
      let read : byte ≡ slice_index haystack (p + 1 + 1 + 1) = is ∙ ap (slice_index haystack) there in
      record {
        last = first ∙ ap (mixed 0) read;
        last_two = second ∙ ap (λ (seed : ℕ). mixed seed byte) are.last ∙ ap (mixed (key_at 1 haystack (p + 1 + 1))) read;
        all = third ∙ ap (λ (seed : ℕ). mixed seed byte) are.last_two ∙ ap (mixed (key_at 2 haystack (p + 1))) read;
      }

-- the same of keys of two bytes and of one

pub window_of_three : (haystack : List ℕ) (p two byte key : ℕ) → two ≡ key_at 2 haystack p → byte ≡ slice_index haystack (p + 2) → key ≡ mixed two byte → key ≡ key_at 3 haystack p
window_of_three haystack p two byte key before is same =
    let there : p + 2 ≡ p + 1 + 1 = omega arith in
    same ∙ ap (λ (seed : ℕ). mixed seed byte) before ∙ ap (mixed (key_at 2 haystack p)) (is ∙ ap (slice_index haystack) there)

pub two_after : (haystack : List ℕ) (p one byte key : ℕ) → one ≡ key_at 1 haystack (p + 1) → byte ≡ slice_index haystack (p + 2) → key ≡ mixed one byte → key ≡ key_at 2 haystack (p + 1)
two_after haystack p one byte key before is same =
    let there : p + 2 ≡ p + 1 + 1 = omega arith in
    same ∙ ap (λ (seed : ℕ). mixed seed byte) before ∙ ap (mixed (key_at 1 haystack (p + 1))) (is ∙ ap (slice_index haystack) there)

pub one_after : (haystack : List ℕ) (p byte key : ℕ) → byte ≡ slice_index haystack (p + 2) → key ≡ mixed 0 byte → key ≡ key_at 1 haystack (p + 1 + 1)
one_after haystack p byte key is same =
    let there : p + 2 ≡ p + 1 + 1 = omega arith in
    same ∙ ap (mixed 0) (is ∙ ap (slice_index haystack) there)
