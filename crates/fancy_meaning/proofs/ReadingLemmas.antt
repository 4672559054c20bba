-- What the engines read at a place.
use Rattle.std.proofs.Common.{◌≡◌, ◌≢◌, ℕ, zero, suc, ◌+◌, ◌-◌, ◌<◌, ◌≤◌, ◌==◌, Bool, true, false, not, ◌&&◌, ◌||◌, List, [], ◌∷◌, length, drop, get_or, Option, Some, None, if◌then◌else◌, refl, sym, ap, ◌∙◌, arith, inl, inr, eq-eqb, ne_eqb}
use Rattle.std.specs.Char.{len_utf8}
use Rattle.std.proofs.lemmas.Bool.Decides.{eqb_tells}
use Rattle.std.proofs.lemmas.Option.{none-some, slice_get-get_or}
use Rattle.std.proofs.lemmas.Str.{len_utf8_ascii}
use Rattle.std.specs.Prelude.{slice_get, option_map}
use Rattle.std.specs.Option.{option_or}
use Rattle.std.proofs.lemmas.Bool.{le-leb}
use Rattle.fancy_tree.specs.declared.tree.Meaning.{Meaning}
use Rattle.fancy_tree.specs.declared.tree.Meaning.TheVariants.{Unicode, Bytes, AsciiText}
use Rattle.fancy_input.specs.Places.{char_at, if_wide, char_of_width_before, char_before}
use Rattle.fancy_input.proofs.CharacterLemmas.{char_at-low, char_at-ascii, char_at-past}
use Rattle.fancy_tree.specs.declared.tree.Assertion.TheVariants.{TextStart, TextEnd, LineStart, LineEnd, LineStartCrlf, LineEndCrlf, LastLine, LastLineCrlf, WordBoundary, NotWordBoundary, WordStart, WordEnd, WordStartHalf, WordEndHalf}
use Rattle.fancy_tree.specs.Sets.{differ}
use Rattle.fancy_meaning.specs.declared.reading.Reading.{Reading}
use Rattle.fancy_meaning.specs.declared.reading.SuppressedEnds.{SuppressedEnds}
use Rattle.fancy_meaning.specs.Context.{Unit_at, one_character, one_byte, unit_in, unit_at, past_item, past_byte, option_to, code_before, code_after, word_before, word_after, holds}
use Rattle.fancy_input.specs.Lines.{byte_before, is_line_feed, is_carriage_return, are_line_feeds, are_line_ends}
use Rattle.fancy_meaning.specs.Reading.{unit_read, search_context}

module _ (haystack : List ℕ) (meaning : Meaning) (suppressed : SuppressedEnds) (from p : ℕ) where
  pub holds_text_start : holds (search_context haystack meaning suppressed from) TextStart p ≡ ((p == 0) && not suppressed.start)
  unfolding holds
  holds_text_start = refl

  pub holds_text_end : holds (search_context haystack meaning suppressed from) TextEnd p ≡ ((p == length haystack) && not suppressed.end)
  unfolding holds
  holds_text_end = refl

  pub holds_line_start : holds (search_context haystack meaning suppressed from) LineStart p ≡ ((p == 0) || is_line_feed (byte_before haystack p))
  unfolding holds
  holds_line_start = refl

  pub holds_line_end : holds (search_context haystack meaning suppressed from) LineEnd p ≡ ((p == length haystack) || is_line_feed (slice_get haystack p))
  unfolding holds
  holds_line_end = refl

  pub holds_line_start_crlf : holds (search_context haystack meaning suppressed from) LineStartCrlf p
      ≡ ((p == 0) || (is_line_feed (byte_before haystack p) || (is_carriage_return (byte_before haystack p) && not (is_line_feed (slice_get haystack p)))))
  unfolding holds
  holds_line_start_crlf = refl

  pub holds_line_end_crlf : holds (search_context haystack meaning suppressed from) LineEndCrlf p
      ≡ ((p == length haystack) || (is_carriage_return (slice_get haystack p) || (is_line_feed (slice_get haystack p) && not (is_carriage_return (byte_before haystack p)))))
  unfolding holds
  holds_line_end_crlf = refl

  pub holds_last_line : holds (search_context haystack meaning suppressed from) LastLine p ≡ are_line_feeds (drop p haystack)
  unfolding holds
  holds_last_line = refl

  pub holds_last_line_crlf : holds (search_context haystack meaning suppressed from) LastLineCrlf p ≡ are_line_ends (drop p haystack)
  unfolding holds
  holds_last_line_crlf = refl

  pub holds_word_boundary : holds (search_context haystack meaning suppressed from) WordBoundary p ≡ differ (word_before meaning haystack p) (word_after meaning haystack p)
  unfolding holds
  holds_word_boundary = refl

  pub holds_not_word_boundary : holds (search_context haystack meaning suppressed from) NotWordBoundary p ≡ not (differ (word_before meaning haystack p) (word_after meaning haystack p))
  unfolding holds
  holds_not_word_boundary = refl

  pub holds_word_start : holds (search_context haystack meaning suppressed from) WordStart p ≡ (not (word_before meaning haystack p) && word_after meaning haystack p)
  unfolding holds
  holds_word_start = refl

  pub holds_word_end : holds (search_context haystack meaning suppressed from) WordEnd p ≡ (word_before meaning haystack p && not (word_after meaning haystack p))
  unfolding holds
  holds_word_end = refl

  pub holds_word_start_half : holds (search_context haystack meaning suppressed from) WordStartHalf p ≡ not (word_before meaning haystack p)
  unfolding holds
  holds_word_start_half = refl

  pub holds_word_end_half : holds (search_context haystack meaning suppressed from) WordEndHalf p ≡ not (word_after meaning haystack p)
  unfolding holds
  holds_word_end_half = refl

pub or_left : (a b : Bool) → a ≡ true → a ≡ (a || b)
or_left true b e = refl
or_left false b e = cc

pub or_right : (a b : Bool) → a ≡ false → b ≡ (a || b)
or_right true b e = cc
or_right false b e = refl

pub and_left : (a b : Bool) → a ≡ false → a ≡ (a && b)
and_left true b e = cc
and_left false b e = refl

pub and_right : (a b : Bool) → a ≡ true → b ≡ (a && b)
and_right true b e = refl
and_right false b e = cc

-- what an item reads, and whether the test passes
module _ (haystack : List ℕ) (meaning : Meaning) (suppressed : SuppressedEnds) (from : ℕ) (test : ℕ → Bool) (p : ℕ) (o : Option Reading) (e : option_map unit_read o ≡ unit_in meaning haystack p) where
  item_is : past_item (search_context haystack meaning suppressed from) test p ≡ option_to (option_map unit_read o) None (λ u. if test u.code then Some (p + u.width) else None)
  unfolding past_item unit_at
  item_is = ap (λ (u : Option Unit_at). option_to u None (λ u. if test u.code then Some (p + u.width) else None)) (sym e)

  pub no_item : o ≡ None → None ≡ past_item (search_context haystack meaning suppressed from) test p
  no_item none = sym (item_is ∙ ap (λ (r : Option Reading). option_to (option_map unit_read r) None (λ u. if test u.code then Some (p + u.width) else None)) none)

  pub an_item : (r : Reading) → o ≡ Some r → test r.code ≡ true → Some (p + r.width) ≡ past_item (search_context haystack meaning suppressed from) test p
  an_item r some passes =
      sym (item_is ∙ ap (λ (r : Option Reading). option_to (option_map unit_read r) None (λ u. if test u.code then Some (p + u.width) else None)) some
      ∙ ap (λ (b : Bool). if b then Some (p + r.width) else None) passes)

  pub other_item : (r : Reading) → o ≡ Some r → test r.code ≡ false → None ≡ past_item (search_context haystack meaning suppressed from) test p
  other_item r some fails =
      sym (item_is ∙ ap (λ (r : Option Reading). option_to (option_map unit_read r) None (λ u. if test u.code then Some (p + u.width) else None)) some
      ∙ ap (λ (b : Bool). if b then Some (p + r.width) else None) fails)

-- whether the byte stands there
module _ (haystack : List ℕ) (meaning : Meaning) (suppressed : SuppressedEnds) (from byte p : ℕ) where
  byte_is : past_byte (search_context haystack meaning suppressed from) byte p ≡ option_to (slice_get haystack p) None (λ b. if b == byte then Some (p + 1) else None)
  unfolding past_byte
  byte_is = refl

  pub no_byte : slice_get haystack p ≡ None → None ≡ past_byte (search_context haystack meaning suppressed from) byte p
  no_byte none = sym (byte_is ∙ ap (λ (o : Option ℕ). option_to o None (λ b. if b == byte then Some (p + 1) else None)) none)

  pub a_byte : (b : ℕ) → slice_get haystack p ≡ Some b → (b == byte) ≡ true → Some (p + 1) ≡ past_byte (search_context haystack meaning suppressed from) byte p
  a_byte b some same =
      sym (byte_is ∙ ap (λ (o : Option ℕ). option_to o None (λ b. if b == byte then Some (p + 1) else None)) some
      ∙ ap (λ (b : Bool). if b then Some (p + 1) else None) same)

  pub other_byte : (b : ℕ) → slice_get haystack p ≡ Some b → (b == byte) ≡ false → None ≡ past_byte (search_context haystack meaning suppressed from) byte p
  other_byte b some other =
      sym (byte_is ∙ ap (λ (o : Option ℕ). option_to o None (λ b. if b == byte then Some (p + 1) else None)) some
      ∙ ap (λ (b : Bool). if b then Some (p + 1) else None) other)

pub byte_there : (haystack : List ℕ) (p b : ℕ) → p < length haystack → ((d : ℕ) → b ≡ get_or haystack p d) → slice_get haystack p ≡ Some b
byte_there [] p b h e = absurd (omega arith)
byte_there (a ∷ haystack) zero b h e = ap Some (sym (e 0))
byte_there (a ∷ haystack) (suc p) b h e = byte_there haystack p b (omega arith) e

pub byte_past : (haystack : List ℕ) (p : ℕ) → length haystack ≤ p → slice_get haystack p ≡ None
byte_past [] p h = refl
byte_past (a ∷ haystack) zero h = absurd (omega arith)
byte_past (a ∷ haystack) (suc p) h = byte_past haystack p (omega arith)

stands : (haystack : List ℕ) (p b : ℕ) → slice_get haystack p ≡ Some b → (p < length haystack) × (get_or haystack p 0 ≡ b)
stands [] p b e = absurd (none-some b e)
stands (a ∷ haystack) zero b e = (omega arith, cc)
stands (a ∷ haystack) (suc p) b e = let k = stands haystack p b e in (omega (arith, k.0), k.1)

if_other : (b c : ℕ) (o : Option ℕ) → b ≢ c → (if b == c then o else None) ≡ None
if_other b c o ne = ap (λ (t : Bool). if t then o else None) (ne_eqb b c ne)

if_equal : (b c : ℕ) (o : Option ℕ) → b ≡ c → (if b == c then o else None) ≡ o
if_equal b c o e = ap (λ (t : Bool). if t then o else None) (eq-eqb b c e)

-- an ASCII character is one byte, in any meaning
low_test : (haystack : List ℕ) (p c : ℕ) → c < 128 → (o : Option ℕ) → o ≡ char_at haystack p → (b : Option ℕ) → b ≡ slice_get haystack p
    → option_to b None (λ b. if b == c then Some (p + 1) else None) ≡ option_to (one_character o) None (λ u. if u.code == c then Some (p + u.width) else None)
low_test haystack p c low None e None f = refl
low_test haystack p c low None e (Some b) f =
    let k = stands haystack p b (sym f) in
    if_other b c (Some (p + 1)) (λ same. none-some _ (e ∙ char_at-ascii haystack p k.0 (omega (arith, k.1, same))))
low_test haystack p c low (Some d) e None f =
    sym (if_other d c (Some (p + len_utf8 d)) (λ same.
    let k = char_at-low haystack p d (sym e) (omega (arith, same)) in none-some _ (f ∙ slice_get-get_or haystack p 0 k.0)))
low_test haystack p c low (Some d) e (Some b) f =
    let k = stands haystack p b (sym f) in
    elim (eqb_tells d c) [
      | inl same ↦
          let there = char_at-low haystack p d (sym e) (omega (arith, same.1)) in
          if_equal b c (Some (p + 1)) (sym k.1 ∙ there.1 ∙ same.1)
          ∙ ap (λ (n : ℕ). Some (p + n)) (sym (len_utf8_ascii d (omega (arith, same.1))))
          ∙ sym (if_equal d c (Some (p + len_utf8 d)) same.1)
      | inr other ↦
          if_other b c (Some (p + 1)) (λ same.
          let read : Some d ≡ Some (get_or haystack p 0) = e ∙ char_at-ascii haystack p k.0 (omega (arith, k.1, same)) in
          let code : d ≡ get_or haystack p 0 = cc in
          other.1 (code ∙ k.1 ∙ same))
          ∙ sym (if_other d c (Some (p + len_utf8 d)) other.1)
    ]

byte_test : (p c : ℕ) (o : Option ℕ)
    → option_to o None (λ b. if b == c then Some (p + 1) else None) ≡ option_to (one_byte o) None (λ u. if u.code == c then Some (p + u.width) else None)
byte_test p c None = refl
byte_test p c (Some b) = refl

pub low_character : (haystack : List ℕ) (meaning : Meaning) (suppressed : SuppressedEnds) (from c p : ℕ) → c < 128
    → past_byte (search_context haystack meaning suppressed from) c p ≡ past_item (search_context haystack meaning suppressed from) (λ d. d == c) p
unfolding past_byte past_item unit_at
low_character haystack Unicode suppressed from c p low = low_test haystack p c low (char_at haystack p) refl (slice_get haystack p) refl
low_character haystack Bytes suppressed from c p low = byte_test p c (slice_get haystack p)
low_character haystack AsciiText suppressed from c p low = low_test haystack p c low (char_at haystack p) refl (slice_get haystack p) refl

-- an ASCII character is its byte, in any meaning
module _ (meaning : Meaning) (haystack : List ℕ) (p b : ℕ) (low : b < 128) where
  low_at : slice_get haystack p ≡ Some b → char_at haystack p ≡ Some b
  low_at e = let k = stands haystack p b e in char_at-ascii haystack p k.0 (omega (arith, k.1, low)) ∙ ap Some k.1

  pub low_unit : slice_get haystack p ≡ Some b → unit_in meaning haystack p ≡ Some (record { code = b; width = 1 })
  low_unit e = at meaning where
    one : one_character (char_at haystack p) ≡ Some (record { code = b; width = 1 })
    one = ap one_character (low_at e) ∙ ap (λ (n : ℕ). Some (record { code = b; width = n })) (len_utf8_ascii b low)

    at : (m : Meaning) → unit_in m haystack p ≡ Some (record { code = b; width = 1 })
    at Unicode = one
    at Bytes = ap one_byte e
    at AsciiText = one

  pub low_after : slice_get haystack p ≡ Some b → code_after meaning haystack p ≡ Some b
  low_after e = at meaning where
    at : (m : Meaning) → code_after m haystack p ≡ Some b
    at Unicode = low_at e
    at Bytes = e
    at AsciiText = low_at e

pub no_unit : (meaning : Meaning) (haystack : List ℕ) (p : ℕ) → length haystack ≤ p → unit_in meaning haystack p ≡ None
no_unit Unicode haystack p h = ap one_character (char_at-past haystack p h)
no_unit Bytes haystack p h = ap one_byte (byte_past haystack p h)
no_unit AsciiText haystack p h = ap one_character (char_at-past haystack p h)

one_before : (haystack : List ℕ) (p b : ℕ) → b < 128 → slice_get haystack p ≡ Some b → char_before haystack (suc p) ≡ Some b
unfolding char_before
one_before haystack p b low e =
    let back : suc p - 1 ≡ p = omega arith in
    let first : char_of_width_before haystack 1 (suc p) ≡ Some b =
    ap (λ (t : Bool). if t then if_wide 1 (char_at haystack (suc p - 1)) else None) (le-leb 1 (suc p) (omega arith))
    ∙ ap (λ (i : ℕ). if_wide 1 (char_at haystack i)) back
    ∙ ap (if_wide 1) (low_at Unicode haystack p b low e)
    ∙ ap (λ (t : Bool). if t then Some b else None) (eq-eqb (len_utf8 b) 1 (len_utf8_ascii b low)) in
    ap (λ (o : Option ℕ). option_or o (option_or (char_of_width_before haystack 2 (suc p)) (option_or (char_of_width_before haystack 3 (suc p)) (char_of_width_before haystack 4 (suc p))))) first

pub low_before : (meaning : Meaning) (haystack : List ℕ) (p b : ℕ) → b < 128 → byte_before haystack p ≡ Some b → code_before meaning haystack p ≡ Some b
low_before meaning haystack zero b low e = absurd (none-some b e)
low_before Unicode haystack (suc p) b low e = one_before haystack p b low e
low_before Bytes haystack (suc p) b low e = e
low_before AsciiText haystack (suc p) b low e = one_before haystack p b low e
