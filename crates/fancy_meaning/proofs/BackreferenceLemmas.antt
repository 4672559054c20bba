-- In text, a group's text once more ends on a boundary, folded or not.
use Rattle.std.proofs.Common.{◌≡◌, ℕ, zero, suc, ◌+◌, ◌<◌, ◌≤◌, ◌==◌, Bool, true, false, not, ◌&&◌, ◌||◌, nat_le, List, [], ◌∷◌, ◌++◌, map, length, take, drop, Option, Some, None, if◌then◌else◌, IsTrue, refl, sym, ap, subst, ◌∙◌, arith, inl, inr, ap₂, append-nil, get_or, le_trans, true≢false, zero-add, zero-lt-suc, suc-le-suc}
use Rattle.std.specs.Prelude.{IsUtf8, slice_index, encode_utf8}
use Rattle.std.specs.Char.{len_utf8, to_ascii_lowercase}
use Rattle.std.specs.Str.{encode_utf8_all, str_eq_ignore_ascii_case}
use Rattle.std.specs.Cmp.Lexicographic.{same_text}
use Rattle.std.proofs.Math.Utf8.{scalar, scalars, low_scalar}
use Rattle.std.proofs.lemmas.Bool.{and_parts, cases_lt}
use Rattle.std.proofs.lemmas.Bool.Decides.{nat_tests}
use Rattle.std.proofs.lemmas.Option.{same_Some}
use Rattle.std.proofs.lemmas.List.{take-append-drop, length-map, drop-map, map-append}
use Rattle.std.proofs.lemmas.Str.{IsUtf8-between, drop_past_char, encode_ascii, inside_one}
use Rattle.std.proofs.lemmas.Str.Ascii.{lowercase_ascii}
use Rattle.fancy_tree.specs.declared.tree.Meaning.{Meaning}
use Rattle.fancy_tree.specs.declared.tree.Meaning.TheVariants.{Unicode, Bytes, AsciiText}
use Rattle.fancy_input.specs.Places.{char_at, has_bytes_at, is_boundary, is_continuation}
use Rattle.fancy_input.proofs.PlaceLemmas.{boundary_of_text}
use Rattle.fancy_input.proofs.TextLemmas.{char_at-boundary, text_at-boundary}
use Rattle.fancy_input.specs.declared.span.Span.{Span}
use Rattle.fancy_meaning.specs.Context.{Context, State, group_span, unit_at, unit_in, one_character, past_item, past_byte, option_to}
use Rattle.fancy_meaning.specs.Backreference.{captured_text, past_text, past_letters, shares_folding, past_characters, past_folded, past_span, past_backreference}
use Rattle.fancy_meaning.specs.Placed.{IsSpan, IsPlaced, reads_characters}
use Rattle.fancy_meaning.proofs.PieceLemmas.{past_nothing, past_first}
use Rattle.fancy_input.proofs.CharacterLemmas.{char_at-from_bytes, char_at-fits, bytes_stand}

-- a place, if there is one, is a boundary within the haystack
unfoldable EndsWell : List ℕ → Option ℕ → Type 0
EndsWell haystack None = Unit {0}
EndsWell haystack (Some r) = (r ≤ length haystack) × IsTrue (is_boundary haystack r)

-- one step, and then on from there
ends_then : (haystack : List ℕ) (o : Option ℕ) (next : ℕ → Option ℕ) → EndsWell haystack o →
    ((r : ℕ) → r ≤ length haystack → IsTrue (is_boundary haystack r) → EndsWell haystack (next r)) → EndsWell haystack (option_to o None (λ r. next r))
unfolding EndsWell
ends_then haystack None next first on = tt
ends_then haystack (Some r) next first on = on r first.0 first.1

-- the place after a character of the text

test_ends : (haystack : List ℕ) (b : Bool) (r : ℕ) → r ≤ length haystack → IsTrue (is_boundary haystack r) → EndsWell haystack (if b then Some r else None)
unfolding EndsWell
test_ends haystack true r within here = (within, here)
test_ends haystack false r within here = tt

character_ends : (haystack : List ℕ) (test : ℕ → Bool) (p : ℕ) (o : Option ℕ) → char_at haystack p ≡ o → IsUtf8 haystack → p ≤ length haystack →
    IsTrue (is_boundary haystack p) → EndsWell haystack (option_to (one_character o) None (λ u. if test u.code then Some (p + u.width) else None))
unfolding EndsWell
character_ends haystack test p None e text within here = tt
character_ends haystack test p (Some c) e text within here =
    test_ends haystack (test c) (p + len_utf8 c) (char_at-fits haystack p c e) (char_at-boundary haystack p c text within here e)

unit_ends : (m : Meaning) (haystack : List ℕ) (test : ℕ → Bool) (p : ℕ) → reads_characters m ≡ true → IsUtf8 haystack → p ≤ length haystack →
    IsTrue (is_boundary haystack p) → EndsWell haystack (option_to (unit_in m haystack p) None (λ u. if test u.code then Some (p + u.width) else None))
unit_ends Unicode haystack test p m text within here = character_ends haystack test p (char_at haystack p) refl text within here
unit_ends Bytes haystack test p m text within here = absurd (true≢false (sym m))
unit_ends AsciiText haystack test p m text within here = character_ends haystack test p (char_at haystack p) refl text within here

item_ends : (x : Context) (test : ℕ → Bool) (p : ℕ) → reads_characters x.meaning ≡ true → IsUtf8 x.haystack → p ≤ length x.haystack →
    IsTrue (is_boundary x.haystack p) → EndsWell x.haystack (past_item x test p)
unfolding past_item unit_at
item_ends x test p m text within here = unit_ends x.meaning x.haystack test p m text within here

-- the place after text that matches a text, a character by one

characters_end : (x : Context) (text cs : List ℕ) (p : ℕ) → reads_characters x.meaning ≡ true → IsUtf8 x.haystack → scalars cs ≡ true →
    encode_utf8_all cs ≡ text → p ≤ length x.haystack → IsTrue (is_boundary x.haystack p) → EndsWell x.haystack (past_characters x text p)
unfolding EndsWell
characters_end x [] cs p m whole are e within here = subst (EndsWell x.haystack) (sym (past_nothing x p)) (within, here)
characters_end x (b ∷ bs) [] p m whole are e within here = cc
characters_end x (b ∷ bs) (c ∷ cs) p m whole are e within here =
    let good = and_parts (scalar c) (scalars cs) are in
    let first : char_at (b ∷ bs) 0 ≡ Some c = char_at-from_bytes (b ∷ bs) 0 c (encode_utf8_all cs) good.0 (sym e) in
    let rest : drop (len_utf8 c) (b ∷ bs) ≡ encode_utf8_all cs =
    ap (λ (k : ℕ). drop k (b ∷ bs)) (sym (zero-add (len_utf8 c))) ∙ drop_past_char (b ∷ bs) (encode_utf8_all cs) 0 c (sym e) in
    let same =
    past_first x b bs p
    ∙ ap (λ (o : Option ℕ). option_to o (option_to (past_byte x b p) None (λ r. past_characters x bs r))
    (λ c. option_to (past_item x (shares_folding c) p) None (λ r. past_characters x (drop (len_utf8 c) (b ∷ bs)) r))) first in
    subst (EndsWell x.haystack) (sym same)
    (ends_then x.haystack (past_item x (shares_folding c) p) (past_characters x (drop (len_utf8 c) (b ∷ bs))) (item_ends x (shares_folding c) p m whole within here)
    (λ r within here. characters_end x (drop (len_utf8 c) (b ∷ bs)) cs r m whole good.1 (sym rest) within here))

-- the place after text that equals a text, ASCII letters in either case

lower_index : (bs : List ℕ) (i : ℕ) → slice_index (map to_ascii_lowercase bs) i ≡ to_ascii_lowercase (slice_index bs i)
lower_index [] i = refl
lower_index (b ∷ bs) zero = refl
lower_index (b ∷ bs) (suc i) = lower_index bs i

lower_continues : (b : ℕ) → is_continuation (to_ascii_lowercase b) ≡ is_continuation b
lower_continues b = grind (arith, nat_tests)

lower_high : (b : ℕ) → 128 ≤ b → to_ascii_lowercase b ≡ b
lower_high b h = grind (arith, nat_tests)

-- no byte of a wide character is ASCII
wide_bytes : (c k : ℕ) → 128 ≤ c → k < length (encode_utf8 c) → 128 ≤ get_or (encode_utf8 c) k 0
wide_bytes c k wide lt =
    elim (cases_lt (get_or (encode_utf8 c) k 0) 128) [
      | inl low ↦ let same = inside_one c [] (encode_utf8 c) k (sym (append-nil (encode_utf8 c))) lt low in absurd (omega arith)
      | inr high ↦ high
    ]

lower_same : (bs : List ℕ) → ((k : ℕ) → k < length bs → 128 ≤ get_or bs k 0) → map to_ascii_lowercase bs ≡ bs
lower_same [] high = refl
lower_same (b ∷ bs) high = ap₂ (λ (c : ℕ) (cs : List ℕ). c ∷ cs) (lower_high b (high zero (zero-lt-suc _))) (lower_same bs (λ k lt. high (suc k) (suc-le-suc lt)))

lower_encode : (c : ℕ) → map to_ascii_lowercase (encode_utf8 c) ≡ encode_utf8 (to_ascii_lowercase c)
lower_encode c =
    elim (cases_lt c 128) [
      | inl low ↦ ap (map to_ascii_lowercase) (encode_ascii c low) ∙ sym (encode_ascii (to_ascii_lowercase c) (lowercase_ascii c low))
      | inr wide ↦ lower_same (encode_utf8 c) (λ k lt. wide_bytes c k wide lt) ∙ ap encode_utf8 (sym (lower_high c wide))
    ]

lower_scalar : (c : ℕ) → scalar c ≡ true → scalar (to_ascii_lowercase c) ≡ true
lower_scalar c e =
    elim (cases_lt c 128) [
      | inl low ↦ let still = lowercase_ascii c low in low_scalar (to_ascii_lowercase c) (omega arith)
      | inr wide ↦ ap scalar (lower_high c wide) ∙ e
    ]

lower_all : (cs : List ℕ) → scalars cs ≡ true →
    (scalars (map to_ascii_lowercase cs) ≡ true) × (encode_utf8_all (map to_ascii_lowercase cs) ≡ map to_ascii_lowercase (encode_utf8_all cs))
lower_all [] e = (refl, refl)
lower_all (c ∷ cs) e =
    let are = and_parts (scalar c) (scalars cs) e in
    let rest = lower_all cs are.1 in (
      ap₂ ◌&&◌ (lower_scalar c are.0) rest.0,
      ap₂ ◌++◌ (sym (lower_encode c)) rest.1 ∙ sym (map-append to_ascii_lowercase (encode_utf8 c) (encode_utf8_all cs)),
    )

-- a text in lower case is a text
lowered : (bs : List ℕ) → IsUtf8 bs → IsUtf8 (map to_ascii_lowercase bs)
lowered bs u =
    let all = lower_all u.0 u.1.0 in
    (map to_ascii_lowercase u.0, (all.0, all.1 ∙ ap (map to_ascii_lowercase) u.1.1))

-- the boundaries of a text are those of it in lower case
lower_boundary : (bs : List ℕ) (i : ℕ) → is_boundary (map to_ascii_lowercase bs) i ≡ is_boundary bs i
lower_boundary bs i =
    ap (λ (n : ℕ). (i == 0) || (nat_le n i || not (is_continuation (slice_index (map to_ascii_lowercase bs) i)))) (length-map bs to_ascii_lowercase)
    ∙ ap (λ (b : Bool). (i == 0) || (nat_le (length bs) i || not b)) (ap is_continuation (lower_index bs i) ∙ lower_continues (slice_index bs i))

letters_boundary : (haystack text : List ℕ) (p : ℕ) → IsUtf8 haystack → IsUtf8 text → p ≤ length haystack → IsTrue (is_boundary haystack p) →
    str_eq_ignore_ascii_case (take (length text) (drop p haystack)) text ≡ true → IsTrue (is_boundary haystack (p + length text))
letters_boundary haystack text p whole part within here e =
    let low = map to_ascii_lowercase in
    let next = take (length text) (drop p haystack) in
    let same : low next ≡ low text = same_text (low next) (low text) (sym e) in
    let begins : drop p (low haystack) ≡ low text ++ low (drop (length text) (drop p haystack)) =
    drop-map to_ascii_lowercase p haystack ∙ ap low (sym (take-append-drop (length text) (drop p haystack)))
    ∙ map-append to_ascii_lowercase next (drop (length text) (drop p haystack)) ∙ ap (λ (l : List ℕ). l ++ low (drop (length text) (drop p haystack))) same in
    let after =
    text_at-boundary (low haystack) p (low text) (lowered haystack whole) (lowered text part) (omega (arith, length-map haystack to_ascii_lowercase))
    (lower_boundary haystack p ∙ here)
    (bytes_stand (low haystack) p (low text) (low (drop (length text) (drop p haystack))) begins) in
    sym (lower_boundary haystack (p + length text)) ∙ ap (λ (n : ℕ). is_boundary (low haystack) (p + n)) (sym (length-map text to_ascii_lowercase)) ∙ after

-- a group's text once more

if_some : (b : Bool) (p r : ℕ) → (if b then Some p else None) ≡ Some r → (b ≡ true) × (p ≡ r)
if_some true p r e = (refl, same_Some p r e)
if_some false p r e = cc

ends_at : (haystack : List ℕ) (o : Option ℕ) (r : ℕ) → EndsWell haystack o → o ≡ Some r → IsTrue (is_boundary haystack r)
unfolding EndsWell
ends_at haystack None r h e = cc
ends_at haystack (Some q) r h e = subst (λ (i : ℕ). IsTrue (is_boundary haystack i)) (same_Some q r e) h.1

module _ (x : Context) (whole : IsUtf8 x.haystack) where
  -- the text of a span between boundaries is text
  span_text : (span : Span) → IsSpan x.haystack (is_boundary x.haystack) span → IsUtf8 (captured_text x span)
  unfolding captured_text
  span_text span is =
      IsUtf8-between x.haystack span.start span.end whole is.ordered
      (boundary_of_text x.haystack span.start whole (le_trans is.ordered is.within) is.begins)
      (boundary_of_text x.haystack span.end whole is.within is.ends)

  text_ends : (text : List ℕ) (p r : ℕ) → IsUtf8 text → p ≤ length x.haystack → IsTrue (is_boundary x.haystack p) → past_text x text p ≡ Some r →
      IsTrue (is_boundary x.haystack r)
  unfolding past_text
  text_ends text p r part within here e =
      let found = if_some (has_bytes_at x.haystack p text) (p + length text) r e in
      subst (λ (i : ℕ). IsTrue (is_boundary x.haystack i)) found.1 (text_at-boundary x.haystack p text whole part within here found.0)

  letters_end : (text : List ℕ) (p r : ℕ) → IsUtf8 text → p ≤ length x.haystack → IsTrue (is_boundary x.haystack p) → past_letters x text p ≡ Some r →
      IsTrue (is_boundary x.haystack r)
  unfolding past_letters
  letters_end text p r part within here e =
      let found = if_some (str_eq_ignore_ascii_case (take (length text) (drop p x.haystack)) text) (p + length text) r e in
      subst (λ (i : ℕ). IsTrue (is_boundary x.haystack i)) found.1 (letters_boundary x.haystack text p whole part within here found.0)

  folded_ends : (m : Meaning) (text : List ℕ) (p r : ℕ) → reads_characters x.meaning ≡ true → IsUtf8 text → p ≤ length x.haystack →
      IsTrue (is_boundary x.haystack p) → past_folded x m text p ≡ Some r → IsTrue (is_boundary x.haystack r)
  folded_ends Unicode text p r reads part within here e =
      ends_at x.haystack (past_characters x text p) r
      (characters_end x text part.0 p reads whole part.1.0 part.1.1 within here) e
  folded_ends Bytes text p r reads part within here e = letters_end text p r part within here e
  folded_ends AsciiText text p r reads part within here e = letters_end text p r part within here e

  span_ends : (folded : Bool) (o : Option Span) (p r : ℕ) → reads_characters x.meaning ≡ true →
      ((span : Span) → o ≡ Some span → IsSpan x.haystack (is_boundary x.haystack) span) → p ≤ length x.haystack → IsTrue (is_boundary x.haystack p) →
      past_span x folded o p ≡ Some r → IsTrue (is_boundary x.haystack r)
  span_ends folded None p r reads spans within here e = cc
  span_ends false (Some span) p r reads spans within here e = text_ends (captured_text x span) p r (span_text span (spans span refl)) within here e
  span_ends true (Some span) p r reads spans within here e =
      folded_ends x.meaning (captured_text x span) p r reads (span_text span (spans span refl)) within here e

pub past_backreference-boundary : (x : Context) (folded : Bool) (number r : ℕ) (s : State) → IsUtf8 x.haystack → reads_characters x.meaning ≡ true →
    IsPlaced x.haystack (is_boundary x.haystack) s → past_backreference x folded number s ≡ Some r → IsTrue (is_boundary x.haystack r)
unfolding past_backreference
past_backreference-boundary x folded number r s whole reads placed e =
    span_ends x whole folded (group_span s number) s.place r reads (placed.spans number) placed.within placed.stands e
