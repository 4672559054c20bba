-- What the byte at a place and the one before it tell of words.
use Rattle.std.proofs.Common.{◌≡◌, ℕ, zero, suc, ◌<◌, Bool, true, false, not, ◌&&◌, ◌||◌, List, [], ◌∷◌, Option, Some, None, IfSome, refl, sym, ap, ap₂, ◌∙◌, subst, arith, true≢false, nat_lt, ◌==◌, ne_eqb, ltb-true, slice_get}
use Rattle.std.specs.Bool.{beq}
use Rattle.std.proofs.lemmas.Bool.Decides.{nat_tests}
use Rattle.unicode.specs.Perl.{is_word_byte}
use Rattle.unicode.proofs.PerlLemmas.{is_word_char-ascii}
use Rattle.fancy_tree.specs.declared.tree.Assertion.{Assertion}
use Rattle.fancy_tree.specs.declared.tree.Assertion.TheVariants.{TextStart, LineStart, LineStartCrlf, WordBoundary, NotWordBoundary, WordStart, WordEnd, WordStartHalf, WordEndHalf}
use Rattle.fancy_tree.specs.declared.tree.Meaning.{Meaning}
use Rattle.fancy_tree.specs.declared.tree.Meaning.TheVariants.{Unicode, Bytes, AsciiText}
use Rattle.fancy_tree.specs.declared.named.Named.TheVariants.{Word}
use Rattle.fancy_tree.specs.Named.{in_named_set}
use Rattle.fancy_tree.specs.Sets.{differ}
use Rattle.fancy_input.specs.Lines.{byte_before, is_line_feed, is_carriage_return}
use Rattle.fancy_input.specs.Places.{char_before}
use Rattle.fancy_meaning.specs.Context.{Context, holds, is_word, code_before, word_before, word_after}
use Rattle.fancy_meaning.proofs.ReadingLemmas.{low_after, low_before}
use Rattle.fancy_meaning.proofs.WordCharacters.{ascii_word, unicode_word}
use Rattle.fancy_prices.specs.declared.facts.Facts.{Facts}
use Rattle.fancy_prices.specs.declared.facts.Before.{Before}
use Rattle.fancy_prices.proofs.FlagLemmas.{both, neither, off, on}
use Rattle.std.specs.Option.{ForSome}
use Rattle.fancy_bytes.specs.Sets.{ByteFlags, member}
use Rattle.fancy_prices.specs.Kinds.{AreWords}
use Rattle.fancy_prices.specs.Facts.{IsByteOf, FailsWith, HoldsWith, IsAlways, IsOfKind, Stands, TellsBefore, TellsHere}

-- an ASCII byte is of a word in each meaning, or in none
word_byte : (m : Meaning) (c : ℕ) → c < 128 → in_named_set m Word c ≡ is_word_byte c
word_byte Unicode c low = sym (unicode_word c (grind (arith, nat_tests))) ∙ is_word_char-ascii c low
word_byte Bytes c low = sym (ascii_word c)
word_byte AsciiText c low = sym (ascii_word c)

-- a byte before a byte stands there as well
get_down : (h : List ℕ) (p b : ℕ) → slice_get h (suc p) ≡ Some b → slice_get h p ≡ None → ⊥
get_down [] p b e none = cc
get_down (a ∷ h) zero b e none = cc
get_down (a ∷ h) (suc p) b e none = get_down h p b e none

at_start : (h : List ℕ) (p b : ℕ) → slice_get h p ≡ Some b → byte_before h p ≡ None → p ≡ 0
at_start h zero b e none = refl
at_start h (suc p) b e none = absurd (get_down h p b e none)

none_at_start : (m : Meaning) (h : List ℕ) → code_before m h 0 ≡ None
unfolding char_before
none_at_start Unicode h = refl
none_at_start Bytes h = refl
none_at_start AsciiText h = refl

module _ (m : Meaning) (h : List ℕ) (p : ℕ) where
  -- nothing stands before
  pub no_word_at_start : (b : ℕ) → slice_get h p ≡ Some b → byte_before h p ≡ None → word_before m h p ≡ false
  unfolding word_before
  no_word_at_start b e none = ap (λ (k : ℕ). is_word m (code_before m h k)) (at_start h p b e none) ∙ ap (is_word m) (none_at_start m h)

  pub low_word_before : (b : ℕ) → b < 128 → byte_before h p ≡ Some b → word_before m h p ≡ is_word_byte b
  unfolding word_before
  low_word_before b low e = ap (is_word m) (low_before m h p b low e) ∙ word_byte m b low

  pub low_word_here : (b : ℕ) → b < 128 → slice_get h p ≡ Some b → word_after m h p ≡ is_word_byte b
  unfolding word_after
  low_word_here b low e = ap (is_word m) (low_after m h p b low e) ∙ word_byte m b low

-- bytes that are of a word, or are not
pub words_before : (bytes : ByteFlags) (o : Option Bool) → ForSome o (AreWords bytes)
    → IfSome o (λ word. (m : Meaning) (h : List ℕ) (p b : ℕ) → slice_get h p ≡ Some b → IsByteOf (λ c. nat_lt c 256 && member bytes c) (byte_before h p) → word_before m h p ≡ word)
words_before bytes None words = tt
words_before bytes (Some word) words =
    λ m h p b stands is.
    (let parts = both (nat_lt is.0 256) _ is.2 in
    let tells = words word refl is.0 (ltb-true is.0 256 parts.0) parts.1 in
    low_word_before m h p is.0 tells.0 is.1 ∙ tells.1)

-- what is told to stand before
pub kind_before : (f : Facts) (k : Before) → f.before ≡ Some k → (h : List ℕ) (p : ℕ) → Stands f h p → IsOfKind k (byte_before h p)
kind_before f k e h p stands = subst (λ (o : Option Before). IfSome o (λ kind. IsOfKind kind (byte_before h p))) e stands.before

-- where both are told, so is each assertion of words
module _ (f : Facts) (before here : Bool) (tells : TellsBefore f (Some before)) (told : TellsHere f (Some here)) (a : Assertion) (x : Context) (p : ℕ) (stands : Stands f x.haystack p) where
  by_word : (b : Assertion) → a ≡ b → holds x b p ≡ false → holds x a p ≡ false
  by_word b is e = ap (λ (c : Assertion). holds x c p) is ∙ e

  was : word_before x.meaning x.haystack p ≡ before
  was = tells x.meaning x.haystack p stands

  is : word_after x.meaning x.haystack p ≡ here
  is = told x.meaning x.haystack p stands

  pub boundary_fails : a ≡ WordBoundary → beq before here ≡ true → holds x a p ≡ false
  unfolding holds
  boundary_fails e same = by_word WordBoundary e (ap₂ differ was is ∙ alike before here same) where
    alike : (b c : Bool) → beq b c ≡ true → differ b c ≡ false
    alike true true s = refl
    alike true false s = absurd (true≢false (sym s))
    alike false true s = absurd (true≢false (sym s))
    alike false false s = refl

  pub no_boundary_fails : a ≡ NotWordBoundary → not (beq before here) ≡ true → holds x a p ≡ false
  unfolding holds
  no_boundary_fails e other = by_word NotWordBoundary e (ap₂ (λ (b c : Bool). not (differ b c)) was is ∙ unlike before here other) where
    unlike : (b c : Bool) → not (beq b c) ≡ true → not (differ b c) ≡ false
    unlike true true s = absurd (true≢false (sym s))
    unlike true false s = refl
    unlike false true s = refl
    unlike false false s = absurd (true≢false (sym s))

  pub start_fails_before : a ≡ WordStart → before ≡ true → holds x a p ≡ false
  unfolding holds
  start_fails_before e word = by_word WordStart e (ap (λ (b : Bool). not b && word_after x.meaning x.haystack p) (was ∙ word))

  pub start_fails_here : a ≡ WordStart → not here ≡ true → holds x a p ≡ false
  unfolding holds
  start_fails_here e none = by_word WordStart e (ap₂ (λ (b c : Bool). not b && c) was is ∙ neither before here none) where
    neither : (b c : Bool) → not c ≡ true → (not b && c) ≡ false
    neither true c s = refl
    neither false true s = absurd (true≢false (sym s))
    neither false false s = refl

  pub end_fails_before : a ≡ WordEnd → not before ≡ true → holds x a p ≡ false
  unfolding holds
  end_fails_before e none = by_word WordEnd e (ap (λ (b : Bool). b && not (word_after x.meaning x.haystack p)) was ∙ by before none) where
    by : (b : Bool) → not b ≡ true → (b && not (word_after x.meaning x.haystack p)) ≡ false
    by true s = absurd (true≢false (sym s))
    by false s = refl

  pub end_fails_here : a ≡ WordEnd → here ≡ true → holds x a p ≡ false
  unfolding holds
  end_fails_here e word = by_word WordEnd e (ap₂ (λ (b c : Bool). b && not c) was (is ∙ word) ∙ by before) where
    by : (b : Bool) → (b && false) ≡ false
    by true = refl
    by false = refl

  pub start_half_fails : a ≡ WordStartHalf → before ≡ true → holds x a p ≡ false
  unfolding holds
  start_half_fails e word = by_word WordStartHalf e (ap not (was ∙ word))

  pub end_half_fails : a ≡ WordEndHalf → here ≡ true → holds x a p ≡ false
  unfolding holds
  end_half_fails e word = by_word WordEndHalf e (ap not (is ∙ word))

-- where something stands before it is not the text's start
not_at_start : (h : List ℕ) (p b : ℕ) → byte_before h p ≡ Some b → (p == 0) ≡ false
not_at_start h zero b e = cc
not_at_start h (suc p) b e = ne_eqb (suc p) 0 (λ z. cc)

module _ (f : Facts) (k : Before) (before : f.before ≡ Some k) (a : Assertion) (x : Context) (p : ℕ) (stands : Stands f x.haystack p) where
  pub text_start_fails : a ≡ TextStart → IsAlways k (λ b. true) → holds x a p ≡ false
  unfolding holds
  text_start_fails e always =
      let b = always (byte_before x.haystack p) (kind_before f k before x.haystack p stands) in
      ap (λ (c : Assertion). holds x c p) e ∙ ap (λ (s : Bool). s && not x.start_text_off) (not_at_start x.haystack p b.0 b.1)

  pub line_start_fails : a ≡ LineStart → IsAlways k (λ b. not (is_line_feed (Some b))) → holds x a p ≡ false
  unfolding holds
  line_start_fails e always =
      let b = always (byte_before x.haystack p) (kind_before f k before x.haystack p stands) in
      ap (λ (c : Assertion). holds x c p) e
      ∙ ap₂ (λ (s l : Bool). s || l) (not_at_start x.haystack p b.0 b.1) (ap is_line_feed b.1 ∙ off (is_line_feed (Some b.0)) b.2)

  pub line_start_crlf_fails : a ≡ LineStartCrlf → IsAlways k (λ b. not (is_line_feed (Some b) || is_carriage_return (Some b))) → holds x a p ≡ false
  unfolding holds
  line_start_crlf_fails e always =
      let b = always (byte_before x.haystack p) (kind_before f k before x.haystack p stands) in
      let none = neither (is_line_feed (Some b.0)) _ _ refl (off _ b.2) in
      let feed : is_line_feed (byte_before x.haystack p) ≡ false = ap is_line_feed b.1 ∙ none.0 in
      let return : is_carriage_return (byte_before x.haystack p) ≡ false = ap is_carriage_return b.1 ∙ none.1 in
      ap (λ (c : Assertion). holds x c p) e
      ∙ ap₂ (λ (s l : Bool). s || (l || (is_carriage_return (byte_before x.haystack p) && not (is_line_feed (slice_get x.haystack p))))) (not_at_start x.haystack p b.0 b.1) feed
      ∙ ap (λ (c : Bool). c && not (is_line_feed (slice_get x.haystack p))) return

-- one assertion of a word's boundary holds where the other fails
pub boundary_holds : (f : Facts) → FailsWith NotWordBoundary f → HoldsWith WordBoundary f
unfolding holds
boundary_holds f fails x p stands = on (holds x WordBoundary p) (fails x p stands)

pub no_boundary_holds : (f : Facts) → FailsWith WordBoundary f → HoldsWith NotWordBoundary f
unfolding holds
no_boundary_holds f fails x p stands = ap not (fails x p stands)
