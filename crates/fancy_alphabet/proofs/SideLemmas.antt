-- What stands beside a place.
use Rattle.std.proofs.Common.{◌≡◌, ℕ, zero, suc, ◌+◌, ◌<◌, ◌≤◌, inl, inr, Bool, true, false, not, ◌&&◌, List, length, Option, Some, None, refl, sym, ap, ap₂, ◌∙◌, subst, arith, ◌==◌, ne_eqb, slice_get}
use Rattle.std.proofs.lemmas.Bool.{eq-eqb}
use Rattle.std.proofs.lemmas.Bool.Decides.{eqb_tells, leb_tells, nat_tests}
use Rattle.std.proofs.lemmas.Option.{none-some, slice_get-get_or, slice_get_past, slice_get_within}
use Rattle.unicode.specs.Perl.{is_word_byte}
use Rattle.fancy_tree.specs.declared.tree.Assertion.{Assertion}
use Rattle.fancy_tree.specs.declared.tree.Assertion.TheVariants.{TextStart, TextEnd, LineStart, LineEnd, LineStartCrlf, LineEndCrlf, LastLine, LastLineCrlf, WordBoundary, NotWordBoundary, WordStart, WordEnd, WordStartHalf, WordEndHalf}
use Rattle.fancy_tree.specs.declared.tree.Meaning.{Meaning}
use Rattle.fancy_tree.specs.declared.tree.Meaning.TheVariants.{Unicode, Bytes, AsciiText}
use Rattle.fancy_tree.specs.declared.named.Named.TheVariants.{Word}
use Rattle.fancy_tree.specs.Named.{in_named_set}
use Rattle.fancy_tree.specs.Sets.{differ}
use Rattle.fancy_input.specs.Lines.{byte_before, is_line_feed, is_carriage_return}
use Rattle.fancy_input.proofs.CharacterLemmas.{char_at-past}
use Rattle.fancy_input.specs.Places.{char_before}
use Rattle.fancy_meaning.specs.Context.{Context, is_word, word_before, word_after}
use Rattle.fancy_code.specs.Instructions.{Instruction, Assert, Fail}
use Rattle.fancy_code.specs.Run.{instr_at}
use Rattle.fancy_meaning.proofs.ReadingLemmas.{low_after, low_before}
use Rattle.fancy_code.proofs.RunMore.{past_end}
use Rattle.fancy_meaning.proofs.WordCharacters.{word_byte}
use Rattle.fancy_alphabet.specs.Sides.{AreToldBy, IsAfter, IsBefore, IsToldBy, is_edge, is_feed, is_nothing, is_return, is_worded, nothing_where, seen_as, side_of, tests_for, wide_of}
use Rattle.fancy_alphabet.specs.declared.side.Side.{Side}
use Rattle.fancy_alphabet.specs.declared.side.Side.TheVariants as side
use Rattle.fancy_alphabet.specs.declared.side.Tests.{Tests}
use Rattle.fancy_alphabet.specs.declared.side.Tests.TheVariants as tests

-- tests of words tell apart where a word character stands
seen_word : (s : Side) → is_worded (seen_as tests.Words s) ≡ is_worded s
seen_word side.Other = refl
seen_word side.Word = refl
seen_word side.LineFeed = refl
seen_word side.CarriageReturn = refl
seen_word side.Edge = refl
seen_word side.Hidden = refl

-- where an assertion holds is told by its own tests
pub told_by_own : (a : Assertion) → IsToldBy (tests_for a) a
told_by_own TextStart b f = refl
told_by_own TextEnd b f = refl
told_by_own LineStart b f = refl
told_by_own LineEnd b f = refl
told_by_own LineStartCrlf b f = refl
told_by_own LineEndCrlf b f = refl
told_by_own LastLine b f = refl
told_by_own LastLineCrlf b f = refl
told_by_own WordBoundary b f = ap₂ differ (seen_word b) (seen_word f)
told_by_own NotWordBoundary b f = ap₂ (λ (v w : Bool). not (differ v w)) (seen_word b) (seen_word f)
told_by_own WordStart b f = ap₂ (λ (v w : Bool). not v && w) (seen_word b) (seen_word f)
told_by_own WordEnd b f = ap₂ (λ (v w : Bool). v && not w) (seen_word b) (seen_word f)
told_by_own WordStartHalf b f = ap not (seen_word b)
told_by_own WordEndHalf b f = ap not (seen_word f)

-- the assertion of an instruction
pub assertion_of : (a b : Assertion) (m n : ℕ) → Assert a m ≡ Assert b n → a ≡ b
assertion_of a b m n e = cc

-- the assertions of the instructions below n are told
abbrev pub ToldBelow : List Instruction → ℕ → Tests → Type 0
ToldBelow code n t = (q : ℕ) → q < n → (a : Assertion) (next : ℕ) → instr_at code q ≡ Assert a next → IsToldBy t a

pub told_more : (code : List Instruction) (n : ℕ) (t later : Tests) → ToldBelow code n t → ((a : Assertion) → IsToldBy t a → IsToldBy later a)
    → ((a : Assertion) (next : ℕ) → instr_at code n ≡ Assert a next → IsToldBy later a) → ToldBelow code (n + 1) later
told_more code n t later below kept this q lt =
    elim (eqb_tells q n) [
      | inl same ↦ (λ a next e. this a next (ap (instr_at code) (sym same.1) ∙ e))
      | inr other ↦ (λ a next e. kept a (below q (omega (arith, lt, other.1)) a next e))
    ]

pub told_all : (code : List Instruction) (n : ℕ) (t : Tests) → length code ≤ n → ToldBelow code n t → AreToldBy t code
told_all code n t all below q a next e =
    elim (leb_tells n q) [
      | inl past ↦ absurd (fails (sym e ∙ past_end code q (omega (arith, all, past.1))))
      | inr here ↦ below q here.1 a next e
    ] where
      fails : Assert a next ≡ Fail → ⊥
      fails same = cc

-- what an ASCII byte is
pub byte_is_something : (b : ℕ) → is_nothing (side_of b) ≡ false
byte_is_something b = grind (arith, nat_tests)

byte_is_no_edge : (b : ℕ) → is_edge (side_of b) ≡ false
byte_is_no_edge b = grind (arith, nat_tests)

byte_is_feed : (b : ℕ) → is_feed (side_of b) ≡ is_line_feed (Some b)
byte_is_feed b = grind (arith, nat_tests)

byte_is_return : (b : ℕ) → is_return (side_of b) ≡ is_carriage_return (Some b)
byte_is_return b = grind (arith, nat_tests)

byte_is_word : (b : ℕ) → is_worded (side_of b) ≡ is_word_byte b
byte_is_word b = grind (arith, nat_tests)

-- which tests a side passes
abbrev Passes : Side → Bool → Bool → Bool → Bool → Bool → Type 0
Passes s none edge feed return word =
    (is_nothing s ≡ none) × (is_edge s ≡ edge) × (is_feed s ≡ feed) × (is_return s ≡ return) × (is_worded s ≡ word)

nothing_is : (off : Bool) → Passes (nothing_where off) true (not off) false false false
nothing_is true = (refl, refl, refl, refl, refl)
nothing_is false = (refl, refl, refl, refl, refl)

wide_is : (w : Bool) → Passes (wide_of w) false false false false w
wide_is true = (refl, refl, refl, refl, refl)
wide_is false = (refl, refl, refl, refl, refl)

wide_is_no_feed : (b : ℕ) → 128 ≤ b → is_line_feed (Some b) ≡ false
wide_is_no_feed b high = grind (arith, nat_tests)

wide_is_no_return : (b : ℕ) → 128 ≤ b → is_carriage_return (Some b) ≡ false
wide_is_no_return b high = grind (arith, nat_tests)

-- where nothing stands before a place the text begins
start_of : (h : List ℕ) (p : ℕ) → p ≤ length h → byte_before h p ≡ None → p ≡ 0
start_of h zero le none = refl
start_of h (suc p) le none =
    let some = slice_get-get_or h p 0 (omega (arith, le)) in
    absurd (none-some _ (sym none ∙ some))

not_at_start : (h : List ℕ) (p b : ℕ) → byte_before h p ≡ Some b → (p == 0) ≡ false
not_at_start h zero b e = cc
not_at_start h (suc p) b e = ne_eqb (suc p) 0 (λ z. cc)

no_word_at_start : (m : Meaning) (h : List ℕ) → word_before m h 0 ≡ false
unfolding word_before char_before
no_word_at_start Unicode h = refl
no_word_at_start Bytes h = refl
no_word_at_start AsciiText h = refl

at_start : (x : Context) (off : Bool) → x.start_text_off ≡ off → IsBefore x 0 (nothing_where off)
at_start x off e = record {
  start = (nothing_is off).0;
  counts = (nothing_is off).1 ∙ sym (ap not e);
  feed = (nothing_is off).2;
  return = (nothing_is off).3;
  word = (nothing_is off).4 ∙ sym (no_word_at_start x.meaning x.haystack);
}

-- what stands before a place, by the byte there
module _ (x : Context) (p : ℕ) where
  pub nothing_before : p ≤ length x.haystack → byte_before x.haystack p ≡ None → IsBefore x p (nothing_where x.start_text_off)
  nothing_before le none =
      subst (λ (q : ℕ). IsBefore x q (nothing_where x.start_text_off)) (sym (start_of x.haystack p le none)) (at_start x x.start_text_off refl)

  low_word_before : (b : ℕ) → b < 128 → byte_before x.haystack p ≡ Some b → word_before x.meaning x.haystack p ≡ is_word_byte b
  unfolding word_before
  low_word_before b low e = ap (is_word x.meaning) (low_before x.meaning x.haystack p b low e) ∙ word_byte x.meaning b low

  pub low_side_before : (b : ℕ) → b < 128 → byte_before x.haystack p ≡ Some b → IsBefore x p (side_of b)
  low_side_before b low e =
      let inner = not_at_start x.haystack p b e in
      record {
        start = byte_is_something b ∙ sym inner;
        counts = byte_is_no_edge b ∙ sym (ap (λ (s : Bool). s && not x.start_text_off) inner);
        feed = byte_is_feed b ∙ sym (ap is_line_feed e);
        return = byte_is_return b ∙ sym (ap is_carriage_return e);
        word = byte_is_word b ∙ sym (low_word_before b low e);
      }

  pub wide_side_before : (b : ℕ) (w : Bool) → 128 ≤ b → byte_before x.haystack p ≡ Some b → w ≡ word_before x.meaning x.haystack p → IsBefore x p (wide_of w)
  wide_side_before b w high e word =
      let inner = not_at_start x.haystack p b e in
      record {
        start = (wide_is w).0 ∙ sym inner;
        counts = (wide_is w).1 ∙ sym (ap (λ (s : Bool). s && not x.start_text_off) inner);
        feed = (wide_is w).2 ∙ sym (ap is_line_feed e ∙ wide_is_no_feed b high);
        return = (wide_is w).3 ∙ sym (ap is_carriage_return e ∙ wide_is_no_return b high);
        word = (wide_is w).4 ∙ word;
      }

  pub some_before : p ≤ length x.haystack → (s : Side) × IsBefore x p s
  some_before le = of (byte_before x.haystack p) refl where
    of : (o : Option ℕ) → byte_before x.haystack p ≡ o → (s : Side) × IsBefore x p s
    of None e = (nothing_where x.start_text_off, nothing_before le e)
    of (Some b) e =
        elim (leb_tells 128 b) [
          | inl high ↦ (wide_of (word_before x.meaning x.haystack p), wide_side_before b _ high.1 e refl)
          | inr low ↦ (side_of b, low_side_before b low.1 e)
        ]

-- where nothing stands after a place the text ends
end_of : (h : List ℕ) (p : ℕ) → p ≤ length h → slice_get h p ≡ None → p ≡ length h
end_of h p le none =
    elim (leb_tells (length h) p) [
      | inl past ↦ omega (arith, le, past.1)
      | inr inside ↦ absurd (none-some _ (sym none ∙ slice_get-get_or h p 0 inside.1))
    ]

not_at_end : (h : List ℕ) (p b : ℕ) → slice_get h p ≡ Some b → (p == length h) ≡ false
not_at_end h p b e = ne_eqb p (length h) (λ same. omega (arith, same, slice_get_within h p b e))

no_word_at_end : (m : Meaning) (h : List ℕ) → word_after m h (length h) ≡ false
unfolding word_after
no_word_at_end Unicode h = ap (is_word Unicode) (char_at-past h (length h) (omega arith))
no_word_at_end Bytes h = ap (is_word Bytes) (slice_get_past h (length h) (omega arith))
no_word_at_end AsciiText h = ap (is_word AsciiText) (char_at-past h (length h) (omega arith))

at_end : (x : Context) (off : Bool) → x.end_text_off ≡ off → IsAfter x (length x.haystack) (nothing_where off)
at_end x off e = record {
  end = (nothing_is off).0 ∙ sym here;
  counts = (nothing_is off).1 ∙ sym (ap₂ (λ (s o : Bool). s && not o) here e);
  feed = (nothing_is off).2 ∙ sym (ap is_line_feed none);
  return = (nothing_is off).3 ∙ sym (ap is_carriage_return none);
  word = (nothing_is off).4 ∙ sym (no_word_at_end x.meaning x.haystack);
} where
  here : (length x.haystack == length x.haystack) ≡ true
  here = eq-eqb (length x.haystack) (length x.haystack) refl

  none : slice_get x.haystack (length x.haystack) ≡ None
  none = slice_get_past x.haystack (length x.haystack) (omega arith)

-- what stands after a place, by the byte there
module _ (x : Context) (p : ℕ) where
  pub nothing_after : p ≤ length x.haystack → slice_get x.haystack p ≡ None → IsAfter x p (nothing_where x.end_text_off)
  nothing_after le none =
      subst (λ (q : ℕ). IsAfter x q (nothing_where x.end_text_off)) (sym (end_of x.haystack p le none)) (at_end x x.end_text_off refl)

  low_word_after : (b : ℕ) → b < 128 → slice_get x.haystack p ≡ Some b → word_after x.meaning x.haystack p ≡ is_word_byte b
  unfolding word_after
  low_word_after b low e = ap (is_word x.meaning) (low_after x.meaning x.haystack p b low e) ∙ word_byte x.meaning b low

  pub low_side_after : (b : ℕ) → b < 128 → slice_get x.haystack p ≡ Some b → IsAfter x p (side_of b)
  low_side_after b low e =
      let inner = not_at_end x.haystack p b e in
      record {
        end = byte_is_something b ∙ sym inner;
        counts = byte_is_no_edge b ∙ sym (ap (λ (s : Bool). s && not x.end_text_off) inner);
        feed = byte_is_feed b ∙ sym (ap is_line_feed e);
        return = byte_is_return b ∙ sym (ap is_carriage_return e);
        word = byte_is_word b ∙ sym (low_word_after b low e);
      }

  pub wide_side_after : (b : ℕ) (w : Bool) → 128 ≤ b → slice_get x.haystack p ≡ Some b → w ≡ word_after x.meaning x.haystack p → IsAfter x p (wide_of w)
  wide_side_after b w high e word =
      let inner = not_at_end x.haystack p b e in
      record {
        end = (wide_is w).0 ∙ sym inner;
        counts = (wide_is w).1 ∙ sym (ap (λ (s : Bool). s && not x.end_text_off) inner);
        feed = (wide_is w).2 ∙ sym (ap is_line_feed e ∙ wide_is_no_feed b high);
        return = (wide_is w).3 ∙ sym (ap is_carriage_return e ∙ wide_is_no_return b high);
        word = (wide_is w).4 ∙ word;
      }

  pub some_after : p ≤ length x.haystack → (s : Side) × IsAfter x p s
  some_after le = of (slice_get x.haystack p) refl where
    of : (o : Option ℕ) → slice_get x.haystack p ≡ o → (s : Side) × IsAfter x p s
    of None e = (nothing_where x.end_text_off, nothing_after le e)
    of (Some b) e =
        elim (leb_tells 128 b) [
          | inl high ↦ (wide_of (word_after x.meaning x.haystack p), wide_side_after b _ high.1 e refl)
          | inr low ↦ (side_of b, low_side_after b low.1 e)
        ]
