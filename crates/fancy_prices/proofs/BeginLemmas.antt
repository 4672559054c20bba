-- Items that cannot begin with a byte.
use Rattle.std.proofs.Common.{◌≡◌, ℕ, zero, suc, ◌<◌, ◌≤◌, Bool, false, ◌⊎◌, inl, inr, List, [], ◌∷◌, ◌++◌, length, Option, Some, None, refl, sym, ap, ◌∙◌, arith, true≢false, slice_get, slice_index, drop, get_or-drop}
use Rattle.std.proofs.lemmas.Bool.Decides.{nat_tests}
use Rattle.std.proofs.lemmas.Bool.{cases_lt}
use Rattle.std.proofs.lemmas.List.{get_or_append_left}
use Rattle.std.proofs.lemmas.Str.{length-encode, len_utf8_bounds}
use Rattle.std.specs.Char.{encode_utf8}
use Rattle.fancy_tree.specs.declared.tree.Meaning.{Meaning}
use Rattle.fancy_tree.specs.declared.tree.Meaning.TheVariants.{Unicode, Bytes, AsciiText}
use Rattle.fancy_bytes.specs.Items.{encoding}
use Rattle.fancy_meaning.specs.Context.{Context, past_item}
use Rattle.fancy_bytes.proofs.ItemBytesLemmas.{low_text}
use Rattle.fancy_code.proofs.ForetoldLemmas.{item_at}
use Rattle.fancy_prices.specs.Prices.{BeginsNone}

pub encoding_some : (m : Meaning) (c : ℕ) → 0 < length (encoding m c)
encoding_some Unicode c = omega (arith, length-encode c, (len_utf8_bounds c).0)
encoding_some Bytes c = omega arith
encoding_some AsciiText c = omega (arith, length-encode c, (len_utf8_bounds c).0)

-- the first byte of an item
first_byte : (haystack bytes rest : List ℕ) (p : ℕ) → drop p haystack ≡ bytes ++ rest → 0 < length bytes → slice_index haystack p ≡ slice_index bytes 0
first_byte haystack bytes rest p e lt =
    ap (slice_index haystack) (omega arith) ∙ sym (get_or-drop p haystack 0 0) ∙ ap (λ (l : List ℕ). slice_index l 0) e ∙ get_or_append_left bytes rest 0 0 lt

-- the byte that stands at a place
pub get_index : (h : List ℕ) (p b : ℕ) → slice_get h p ≡ Some b → slice_index h p ≡ b
get_index [] p b e = absurd (some_not b e) where
  some_not : (c : ℕ) → None ≡ Some c → ⊥
  some_not c g = cc
get_index (a ∷ h) zero b e = cc
get_index (a ∷ h) (suc p) b e = get_index h p b e

-- no item passes the test where none begins with the byte
pub no_item : (x : Context) (test : ℕ → Bool) (p b : ℕ) → BeginsNone x.meaning test b → slice_get x.haystack p ≡ Some b → past_item x test p ≡ None
no_item x test p b never stands = by (past_item x test p) refl where
  by : (o : Option ℕ) → past_item x test p ≡ o → o ≡ None
  by None e = refl
  by (Some q) e =
      let h = item_at x test p q e in
      let byte = first_byte x.haystack (encoding x.meaning h.code) h.rest p h.bytes (encoding_some x.meaning h.code) in
      absurd (never h.code h.passes (sym byte ∙ get_index x.haystack p b stands))

-- a character past ASCII begins with no byte below C0
high_first : (c : ℕ) → 128 ≤ c → 192 ≤ slice_index (encode_utf8 c) 0
unfolding encode_utf8
high_first c high = grind (arith, nat_tests)

-- characters, and not bytes
abbrev pub IsText : Meaning → Type 0
IsText m = (m ≡ Unicode) ⊎ (m ≡ AsciiText)

text_encoding : (m : Meaning) → IsText m → (c : ℕ) → encoding m c ≡ encode_utf8 c
text_encoding m is c =
    elim is [
      | inl e ↦ ap (λ (k : Meaning). encoding k c) e
      | inr e ↦ ap (λ (k : Meaning). encoding k c) e
    ]

module _ (m : Meaning) (is : IsText m) (test : ℕ → Bool) (b : ℕ) where
  ascii_begins : (c : ℕ) → c < 128 → slice_index (encoding m c) 0 ≡ b → c ≡ b
  ascii_begins c low begins = sym (ap (λ (l : List ℕ). slice_index l 0) (text_encoding m is c ∙ low_text c low)) ∙ begins

  wide_begins : (c : ℕ) → 128 ≤ c → slice_index (encoding m c) 0 ≡ b → 192 ≤ b
  wide_begins c high begins = omega (arith, high_first c high, begins, ap (λ (l : List ℕ). slice_index l 0) (text_encoding m is c))

  -- an ASCII byte begins the item with its own number alone
  pub low_begins_none : b < 128 → test b ≡ false → BeginsNone m test b
  low_begins_none low fails c passes begins =
      elim (cases_lt c 128) [
        | inl ascii ↦ true≢false (sym passes ∙ ap test (ascii_begins c ascii begins) ∙ fails)
        | inr past ↦ absurd (omega (arith, low, wide_begins c past begins))
      ]

  -- a byte past ASCII begins none where it is a continuation, or no item is past ASCII
  pub high_begins_none : 128 ≤ b → (192 ≤ b → (d : ℕ) → 128 ≤ d → test d ≡ false) → BeginsNone m test b
  high_begins_none high none c passes begins =
      elim (cases_lt c 128) [
        | inl ascii ↦ absurd (omega (arith, high, ascii, ascii_begins c ascii begins))
        | inr past ↦ true≢false (sym passes ∙ none (wide_begins c past begins) c past)
      ]
