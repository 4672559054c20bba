-- What a leaf reads: the encoding of its item, or its byte, stands at its place; and the text of a group is read nowhere at the end but where it is empty.
use Rattle.std.proofs.Common.{◌≡◌, ℕ, zero, suc, ◌+◌, ◌<◌, ◌≤◌, ◌==◌, Bool, true, false, ◌&&◌, List, [], ◌∷◌, ◌++◌, length, drop, take, map, Option, Some, None, if◌then◌else◌, ◌⊎◌, inl, inr, refl, sym, ap, subst, ◌∙◌, arith, true≢false, slice_get, eq-eqb}
use Rattle.std.specs.Prelude.{encode_utf8}
use Rattle.std.specs.Char.{to_ascii_lowercase}
use Rattle.std.specs.Str.{str_eq_ignore_ascii_case}
use Rattle.std.specs.Cmp.Lexicographic.{same_text}
use Rattle.std.proofs.lemmas.Bool.Decides.{nat_tests, eqb_tells}
use Rattle.std.proofs.lemmas.Str.{length-encode, len_utf8_bounds}
use Rattle.fancy_tree.specs.declared.tree.Meaning.{Meaning}
use Rattle.fancy_tree.specs.declared.tree.Meaning.TheVariants.{Unicode, Bytes, AsciiText}
use Rattle.fancy_tree.specs.Sets.{has}
use Rattle.fancy_input.specs.Places.{is_scalar, char_at, has_bytes_at}
use Rattle.fancy_input.specs.declared.span.Span.{Span}
use Rattle.fancy_meaning.specs.Context.{Context, State, Unit_at, one_character, one_byte, unit_in, unit_at, past_item, past_byte, group_span, option_to}
use Rattle.fancy_meaning.specs.Backreference.{captured_text, past_text, past_letters, shares_folding, Piece, whole_character, other_byte, cut, past_piece, past_pieces, past_characters, past_folded, past_span, past_backreference}
use Rattle.fancy_input.proofs.CharacterLemmas.{is_scalar-scalar, char_at-bytes, char_at-past, bytes_begin}
use Rattle.fancy_bytes.specs.Items.{codes, encoding, starts_with_byte, includes, first_of_characters, first_of_items, one_member, is_item, is_in_one, is_in_all, only}
use Rattle.fancy_meaning.specs.Stands.{SeesByte, Stands}
use Rattle.fancy_bytes.proofs.BoolLemmas.{parts_of, both_hold, either_of, some_below_from}
use Rattle.fancy_bytes.proofs.ItemLemmas.{scalar_below}
use Rattle.fancy_bytes.proofs.EdgeLemmas.{all_have}

-- an item of this code, which passes the test, stands at p
pub record HasItem (m : Meaning) (haystack : List ℕ) (test : ℕ → Bool) (p : ℕ) : Type 0 where
  pub code : ℕ
  pub passes : test code ≡ true
  pub scalar : (m ≡ Bytes) ⊎ (is_scalar code ≡ true)
  pub rest : List ℕ
  pub bytes : drop p haystack ≡ encoding m code ++ rest

pub get_first : (haystack : List ℕ) (p b : ℕ) (rest : List ℕ) → drop p haystack ≡ b ∷ rest → slice_get haystack p ≡ Some b
get_first [] zero b rest e = cc
get_first [] (suc p) b rest e = cc
get_first (x ∷ xs) zero b rest e = cc
get_first (x ∷ xs) (suc p) b rest e = get_first xs p b rest e

pub drop_from_get : (haystack : List ℕ) (p b : ℕ) → slice_get haystack p ≡ Some b → drop p haystack ≡ b ∷ drop (suc p) haystack
drop_from_get [] p b e = cc
drop_from_get (x ∷ xs) zero b e = let same : x ≡ b = cc in ap (λ y. y ∷ xs) same
drop_from_get (x ∷ xs) (suc p) b e = drop_from_get xs p b e

-- what stands in a rest stands in the whole
stands_later : (haystack : List ℕ) (p b : ℕ) → Stands (drop p haystack) b → Stands haystack b
stands_later haystack zero b h = h
stands_later [] (suc p) b h = h
stands_later (x ∷ xs) (suc p) b h =
    let there = stands_later xs p b h in
    record { place = suc there.place; there = there.there }

pub included_stands : (bs rest : List ℕ) (b : ℕ) → includes bs b ≡ true → Stands (bs ++ rest) b
included_stands [] rest b e = absurd (true≢false (sym e))
included_stands (x ∷ bs) rest b e =
    elim (either_of (b == x) (includes bs b) e) [
      | inl here ↦ elim (eqb_tells b x) [
        | inl h ↦ record { place = 0; there = ap Some (sym h.1) }
        | inr h ↦ absurd (true≢false (sym here ∙ h.0))
      ]
      | inr later ↦ let there = included_stands bs rest b later in record { place = suc there.place; there = there.there }
    ]

module _ (haystack : List ℕ) (p : ℕ) where
  char_item : (m : Meaning) (same : (c : ℕ) → encoding m c ≡ encode_utf8 c) (test : ℕ → Bool) (o : Option ℕ) → char_at haystack p ≡ o →
      (u : Unit_at) → one_character o ≡ Some u → test u.code ≡ true → HasItem m haystack test p
  char_item m same test None is u e passes = cc
  char_item m same test (Some c) is u e passes =
      let code : c ≡ u.code = cc in
      let b = char_at-bytes haystack p c is in
      record {
        code = c;
        passes = rw code passes;
        scalar = inr (is_scalar-scalar c ∙ b.0);
        rest = b.1;
        bytes = b.2 ∙ ap (λ bs. bs ++ b.1) (sym (same c));
      }

  byte_item : (test : ℕ → Bool) (o : Option ℕ) → slice_get haystack p ≡ o →
      (u : Unit_at) → one_byte o ≡ Some u → test u.code ≡ true → HasItem Bytes haystack test p
  byte_item test None is u e passes = cc
  byte_item test (Some c) is u e passes =
      let code : c ≡ u.code = cc in
      record {
        code = c;
        passes = rw code passes;
        scalar = inl refl;
        rest = drop (suc p) haystack;
        bytes = drop_from_get haystack p c is;
      }

  pub unit_item : (m : Meaning) (test : ℕ → Bool) (u : Unit_at) → unit_in m haystack p ≡ Some u → test u.code ≡ true → HasItem m haystack test p
  unit_item Unicode test u e passes = char_item Unicode (λ c. refl) test (char_at haystack p) refl u e passes
  unit_item Bytes test u e passes = byte_item test (slice_get haystack p) refl u e passes
  unit_item AsciiText test u e passes = char_item AsciiText (λ c. refl) test (char_at haystack p) refl u e passes

passed_test : (x : Context) (test : ℕ → Bool) (p q : ℕ) (u : Unit_at) (b : Bool) → unit_in x.meaning x.haystack p ≡ Some u → test u.code ≡ b →
    (if b then Some (p + u.width) else None) ≡ Some q → HasItem x.meaning x.haystack test p
passed_test x test p q u true is passes e = unit_item x.haystack p x.meaning test u is passes
passed_test x test p q u false is passes e = cc

passed : (x : Context) (test : ℕ → Bool) (p q : ℕ) (o : Option Unit_at) → unit_in x.meaning x.haystack p ≡ o →
    option_to o None (λ u. if test u.code then Some (p + u.width) else None) ≡ Some q → HasItem x.meaning x.haystack test p
passed x test p q None is e = cc
passed x test p q (Some u) is e = passed_test x test p q u (test u.code) is refl e

-- where a walk gets past an item, it stands there
pub past_item-has : (x : Context) (test : ℕ → Bool) (p q : ℕ) → past_item x test p ≡ Some q → HasItem x.meaning x.haystack test p
unfolding past_item unit_at
past_item-has x test p q e = passed x test p q (unit_in x.meaning x.haystack p) refl e

record FirstByte (haystack bs : List ℕ) (p : ℕ) : Type 0 where
  byte : ℕ
  stands : slice_get haystack p ≡ Some byte
  begins : starts_with_byte bs byte ≡ true

first_byte : (haystack : List ℕ) (p : ℕ) (bs rest : List ℕ) → 0 < length bs → drop p haystack ≡ bs ++ rest → FirstByte haystack bs p
first_byte haystack p [] rest some e = absurd (omega arith)
first_byte haystack p (y ∷ ys) rest some e = record { byte = y; stands = get_first haystack p y (ys ++ rest) e; begins = eq-eqb y y refl }

first_of_character : (haystack : List ℕ) (p : ℕ) (test : ℕ → Bool) (c : ℕ) (rest : List ℕ) → is_scalar c ≡ true → test c ≡ true →
    drop p haystack ≡ encode_utf8 c ++ rest → SeesByte haystack (first_of_characters test) p
unfolding first_of_characters
first_of_character haystack p test c rest scalar passes e =
    let some : 0 < length (encode_utf8 c) = omega (arith, length-encode c, (len_utf8_bounds c).0) in
    let b = first_byte haystack p (encode_utf8 c) rest some e in
    record {
      byte = b.byte;
      stands = b.stands;
      passes = some_below_from codes (λ d. is_scalar d && (test d && starts_with_byte (encode_utf8 d) b.byte)) c (scalar_below c scalar)
          (both_hold (is_scalar c) _ scalar (both_hold (test c) _ passes b.begins));
    }

-- an item begins with one of the first bytes of its kind
pub item_begins : (m : Meaning) (haystack : List ℕ) (test : ℕ → Bool) (p : ℕ) → HasItem m haystack test p → SeesByte haystack (first_of_items m test) p
item_begins Unicode haystack test p h =
    first_of_character haystack p test h.code h.rest (elim h.scalar [ inl e ↦ cc | inr e ↦ e ]) h.passes h.bytes
item_begins Bytes haystack test p h = record { byte = h.code; stands = get_first haystack p h.code h.rest h.bytes; passes = h.passes }
item_begins AsciiText haystack test p h =
    first_of_character haystack p test h.code h.rest (elim h.scalar [ inl e ↦ cc | inr e ↦ e ]) h.passes h.bytes

-- each byte of an item stands in the haystack
pub item_stands : (m : Meaning) (haystack : List ℕ) (test : ℕ → Bool) (p b c : ℕ) → HasItem m haystack test p → ((d : ℕ) → test d ≡ true → d ≡ c) →
    includes (encoding m c) b ≡ true → Stands haystack b
item_stands m haystack test p b c h one e =
    let same : h.code ≡ c = one h.code h.passes in
    stands_later haystack p b
    (subst (λ bs. Stands bs b) (sym h.bytes) (included_stands (encoding m h.code) h.rest b (rw same e)))

pub only_one : (c d : ℕ) → only c d ≡ true → d ≡ c
only_one c d e = elim (eqb_tells d c) [ inl h ↦ h.1 | inr h ↦ absurd (true≢false (sym e ∙ h.0)) ]

pair_member : (e f d : ℕ) → has (e ∷ f ∷ []) d ≡ true → f ≡ suc e → d ≡ e
unfolding has
pair_member e f d h same = grind (arith, nat_tests)

-- where a set has a single member, its bytes stand
pub one_stands : (m : Meaning) (haystack edges : List ℕ) (p b : ℕ) → HasItem m haystack (has edges) p → is_in_one m (one_member edges) b ≡ true → Stands haystack b
one_stands m haystack [] p b h e = cc
one_stands m haystack (x ∷ []) p b h e = cc
one_stands m haystack (x ∷ y ∷ []) p b h e =
    elim (eqb_tells y (suc x)) [
      | inl same ↦ item_stands m haystack (has (x ∷ y ∷ [])) p b x h (λ d passes. pair_member x y d passes same.1) (parts_of (is_item m x) _ (rw same.0 at e)).1
      | inr other ↦ absurd (true≢false (sym (rw other.0 at e)))
    ]
one_stands m haystack (x ∷ y ∷ z ∷ zs) p b h e = cc

pub item_of : (m : Meaning) (c : ℕ) → (m ≡ Bytes) ⊎ (is_scalar c ≡ true) → is_item m c ≡ true
item_of Unicode c h = elim h [ inl e ↦ cc | inr e ↦ e ]
item_of Bytes c h = refl
item_of AsciiText c h = elim h [ inl e ↦ cc | inr e ↦ e ]

-- a byte that all members of a set have stands where one of them does
pub all_stand : (m : Meaning) (haystack edges : List ℕ) (p b : ℕ) → HasItem m haystack (has edges) p → is_in_all m edges b ≡ true → Stands haystack b
all_stand m haystack edges p b h e =
    stands_later haystack p b
    (subst (λ bs. Stands bs b) (sym h.bytes)
    (included_stands (encoding m h.code) h.rest b (all_have m edges b h.code e h.passes (item_of m h.code h.scalar))))

-- raw bytes and texts

byte_here : (haystack : List ℕ) (byte p q : ℕ) (o : Option ℕ) → slice_get haystack p ≡ o →
    option_to o None (λ b. if b == byte then Some (p + 1) else None) ≡ Some q → slice_get haystack p ≡ Some byte
byte_here haystack byte p q None is e = cc
byte_here haystack byte p q (Some b) is e =
    elim (eqb_tells b byte) [ inl h ↦ is ∙ ap Some h.1 | inr h ↦ let no : None ≡ Some q = rw h.0 at e in cc ]

pub past_byte-here : (x : Context) (byte p q : ℕ) → past_byte x byte p ≡ Some q → slice_get x.haystack p ≡ Some byte
unfolding past_byte
past_byte-here x byte p q e = byte_here x.haystack byte p q (slice_get x.haystack p) refl e

past_end : (haystack : List ℕ) (p : ℕ) → slice_get haystack p ≡ None → drop p haystack ≡ []
past_end [] zero e = refl
past_end [] (suc p) e = refl
past_end (x ∷ xs) zero e = cc
past_end (x ∷ xs) (suc p) e = past_end xs p e

empty_front : (text rest : List ℕ) → [] ≡ text ++ rest → text ≡ []
empty_front [] rest e = refl
empty_front (x ∷ xs) rest e = cc

if_holds : (b : Bool) (r q : ℕ) → (if b then Some r else None) ≡ Some q → b ≡ true
if_holds true r q e = refl
if_holds false r q e = cc

if_given : (b : Bool) (r q : ℕ) → (if b then Some r else None) ≡ Some q → r ≡ q
if_given true r q e = cc
if_given false r q e = cc

text_past : (haystack text : List ℕ) (p q : ℕ) (b : Bool) → has_bytes_at haystack p text ≡ b → (if b then Some (p + length text) else None) ≡ Some q →
    slice_get haystack p ≡ None → q ≡ p
text_past haystack text p q true begin e none =
    let empty : text ≡ [] = empty_front text _ (sym (past_end haystack p none) ∙ bytes_begin haystack p text begin) in
    let len : length text ≡ 0 = ap length empty in
    let is : p + length text ≡ q = cc in
    omega arith
text_past haystack text p q false begin e none = cc

past_end_length : (haystack : List ℕ) (p : ℕ) → slice_get haystack p ≡ None → length haystack ≤ p
past_end_length [] p e = omega arith
past_end_length (x ∷ xs) zero e = cc
past_end_length (x ∷ xs) (suc p) e = omega (arith, past_end_length xs p e)

no_unit : (m : Meaning) (haystack : List ℕ) (p : ℕ) → slice_get haystack p ≡ None → unit_in m haystack p ≡ None
no_unit Unicode haystack p none = ap one_character (char_at-past haystack p (past_end_length haystack p none))
no_unit Bytes haystack p none = ap one_byte none
no_unit AsciiText haystack p none = ap one_character (char_at-past haystack p (past_end_length haystack p none))

module _ (x : Context) (p q : ℕ) (none : slice_get x.haystack p ≡ None) where
  no_item : (test : ℕ → Bool) → past_item x test p ≡ None
  unfolding past_item unit_at
  no_item test = ap (λ o. option_to o None (λ u. if test u.code then Some (p + u.width) else None)) (no_unit x.meaning x.haystack p none)

  no_byte : (byte : ℕ) → past_byte x byte p ≡ None
  unfolding past_byte
  no_byte byte = ap (λ o. option_to o None (λ b. if b == byte then Some (p + 1) else None)) none

  text-past : (text : List ℕ) → past_text x text p ≡ Some q → q ≡ p
  unfolding past_text
  text-past text e = text_past x.haystack text p q (has_bytes_at x.haystack p text) refl e none

  letters-past : (text : List ℕ) → past_letters x text p ≡ Some q → q ≡ p
  unfolding past_letters
  letters-past [] e =
      let is : p + 0 ≡ q = if_given (str_eq_ignore_ascii_case (take (length {A = ℕ} []) (drop p x.haystack)) []) (p + 0) q e in omega (arith, is)
  letters-past (b ∷ bs) e =
      let rest : drop p x.haystack ≡ [] = past_end x.haystack p none in
      let holds = if_holds (str_eq_ignore_ascii_case (take (length (b ∷ bs)) (drop p x.haystack)) (b ∷ bs)) (p + length (b ∷ bs)) q e in
      let same : map to_ascii_lowercase (take (length (b ∷ bs)) (drop p x.haystack)) ≡ map to_ascii_lowercase (b ∷ bs) = same_text _ _ (sym holds) in
      let shown : [] ≡ map to_ascii_lowercase (b ∷ bs) = rw rest at same in
      cc

  no_piece : (piece : Piece) → past_piece x piece p ≡ None
  no_piece (whole_character c) = no_item (shares_folding c)
  no_piece (other_byte b) = no_byte b

  pieces-past : (pieces : List Piece) → past_pieces x pieces p ≡ Some q → q ≡ p
  unfolding past_pieces
  pieces-past [] e = cc
  pieces-past (piece ∷ pieces) e = let no : None ≡ Some q = sym (ap (λ o. option_to o None (λ r. past_pieces x pieces r)) (no_piece piece)) ∙ e in cc

  characters-past : (text : List ℕ) → past_characters x text p ≡ Some q → q ≡ p
  unfolding past_characters
  characters-past text e = pieces-past (cut text) e

  folded-past : (m : Meaning) (text : List ℕ) → past_folded x m text p ≡ Some q → q ≡ p
  folded-past Unicode text e = characters-past text e
  folded-past Bytes text e = letters-past text e
  folded-past AsciiText text e = letters-past text e

  span-past : (folded : Bool) (o : Option Span) → past_span x folded o p ≡ Some q → q ≡ p
  span-past folded None e = cc
  span-past false (Some span) e = text-past (captured_text x span) e
  span-past true (Some span) e = folded-past x.meaning (captured_text x span) e

-- at the haystack's end the text of a group is empty
pub backreference-past : (x : Context) (folded : Bool) (number : ℕ) (s : State) (q : ℕ) → past_backreference x folded number s ≡ Some q →
    slice_get x.haystack s.place ≡ None → q ≡ s.place
unfolding past_backreference
backreference-past x folded number s q e none = span-past x s.place q none folded (group_span s number) e
