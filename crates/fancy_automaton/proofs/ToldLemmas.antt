-- What is read past ASCII, and what stands beside it.
use Rattle.std.proofs.Common.{◌≡◌, ℕ, suc, ◌+◌, ◌-◌, ◌<◌, ◌≤◌, ◌||◌, ◌==◌, inl, inr, Bool, true, false, not, List, Option, Some, None, refl, sym, ap, subst, ◌∙◌, arith, length, true≢false, get_or, nat_le, le-leb}
use Rattle.std.specs.Prelude.{slice_get, slice_index, if◌then◌else◌}
use Rattle.std.specs.Char.{len_utf8}
use Rattle.std.proofs.lemmas.Bool.Decides.{leb_tells, nat_tests}
use Rattle.std.proofs.lemmas.Option.{slice_get-get_or}
use Rattle.std.proofs.lemmas.Str.{len_utf8_bounds}
use Rattle.fancy_tree.specs.declared.tree.Meaning.{Meaning}
use Rattle.fancy_tree.specs.declared.tree.Meaning.TheVariants.{Unicode, Bytes, AsciiText}
use Rattle.fancy_input.specs.Lines.{byte_before}
use Rattle.fancy_input.specs.Places.{char_at, char_before, is_continuation}
use Rattle.fancy_input.proofs.CharacterLemmas.{char_at-fits}
use Rattle.fancy_meaning.specs.Context.{Context, Unit_at, is_word, one_byte, one_character, unit_in, word_after, word_before}
use Rattle.fancy_meaning.specs.Reading.{unit_read}
use Rattle.fancy_meaning.specs.declared.reading.Reading.{Reading}
use Rattle.fancy_meaning.proofs.ReachLemmas.{ends_of}
use Rattle.fancy_code.specs.declared.attempt.Attempt.{Attempt}
use Rattle.fancy_code.specs.Attempt.{context_in, instrs_in, may_end_in}
use Rattle.fancy_alphabet.specs.Classes.{AreClasses, row_start}
use Rattle.fancy_alphabet.specs.Sides.{IsAfter, IsAfterAs, IsBefore, is_feed, is_nothing, is_return, is_worded, seen_as, wide_of}
use Rattle.fancy_alphabet.specs.Sights.{IsSeenAs}
use Rattle.fancy_alphabet.specs.Units.{cut, unit_by}
use Rattle.fancy_alphabet.specs.declared.classes.Classes.{Classes}
use Rattle.fancy_alphabet.specs.declared.side.Side.{Side}
use Rattle.fancy_alphabet.specs.declared.side.Side.TheVariants as side
use Rattle.fancy_alphabet.specs.declared.sight.Sight.{Sight}
use Rattle.fancy_alphabet.proofs.SideLemmas.{wide_side_after, wide_side_before}
use Rattle.fancy_alphabet.proofs.SightLemmas.{like_wide, unit_is}
use Rattle.fancy_states.specs.Search.{IsFollowed}
use Rattle.fancy_automaton.specs.Told.{Sees}
use Rattle.fancy_automaton.proofs.SteadyLemmas.{inside_character}

-- a side where a character stands that ends no line
side_is : (s : Side) (w : Bool) → is_nothing s ≡ false → is_feed s ≡ false → is_return s ≡ false → is_worded s ≡ w → s ≡ wide_of w
side_is side.Other w n f r e = ap wide_of e
side_is side.Word w n f r e = ap wide_of e
side_is side.LineFeed w n f r e = absurd (true≢false f)
side_is side.CarriageReturn w n f r e = absurd (true≢false r)
side_is side.Edge w n f r e = absurd (true≢false n)
side_is side.Hidden w n f r e = absurd (true≢false n)

-- two such sides of one character
sides_same : (s t : Side) (w : Bool) → is_nothing t ≡ false → is_feed t ≡ false → is_return t ≡ false → is_worded t ≡ w → s ≡ wide_of w → s ≡ t
sides_same s t w n f r e is = is ∙ sym (side_is t w n f r e)

-- the character that ends after what is read is the one that starts before it
character_beside : (m : Meaning) (h : List ℕ) (p : ℕ) (u : Unit_at) (o : Option ℕ) → char_at h p ≡ o → one_character o ≡ Some u
    → char_before h (p + u.width) ≡ char_at h p
character_beside m h p u None at e = cc
character_beside m h p u (Some c) at e =
    let same : record { code = c; width = len_utf8 c } ≡ u = cc in
    ends_of h (p + u.width) c (record { start = p; starts = at; reaches = ap (λ (v : Unit_at). p + v.width) same }) ∙ sym at

byte_beside : (h : List ℕ) (p : ℕ) (u : Unit_at) (o : Option ℕ) → one_byte o ≡ Some u → byte_before h (p + u.width) ≡ slice_get h p
byte_beside h p u None e = cc
byte_beside h p u (Some b) e =
    let same : record { code = b; width = 1 } ≡ u = cc in
    let next : p + u.width ≡ suc p = ap (λ (v : Unit_at). p + v.width) (sym same) ∙ omega arith in
    ap (byte_before h) next

words_beside : (m : Meaning) (h : List ℕ) (p : ℕ) (u : Unit_at) → unit_in m h p ≡ Some u → word_before m h (p + u.width) ≡ word_after m h p
unfolding word_before word_after
words_beside Unicode h p u e = ap (is_word Unicode) (character_beside Unicode h p u _ refl e)
words_beside Bytes h p u e = ap (is_word Bytes) (byte_beside h p u _ e)
words_beside AsciiText h p u e = ap (is_word AsciiText) (character_beside AsciiText h p u _ refl e)

high_of : (n k b : ℕ) → ((k == 0) || (nat_le n k || not (is_continuation b))) ≡ false → 128 ≤ b
high_of n k b e = grind (arith, nat_tests)

-- the byte before the place after what is read
abbrev EndsHigh : List ℕ → ℕ → Type 0
EndsHigh h q = (c : ℕ) × (byte_before h q ≡ Some c) × (128 ≤ c)

high_first : (h : List ℕ) (p q b : ℕ) → q ≡ p + 1 → slice_get h p ≡ Some b → 128 ≤ b → EndsHigh h q
high_first h p q b e here high =
    let next : q ≡ suc p = e ∙ omega arith in
    (b, ap (byte_before h) next ∙ here, high)

high_last : (h : List ℕ) (p c : ℕ) → char_at h p ≡ Some c → 2 ≤ len_utf8 c → EndsHigh h (p + len_utf8 c)
high_last h p c at more =
    let k = p + (len_utf8 c - 1) in
    let fits = char_at-fits h p c at in
    let next : p + len_utf8 c ≡ suc k = omega (arith, more) in
    let some = slice_get-get_or h k 0 (omega (arith, fits, more)) in
    (get_or h k 0, ap (byte_before h) next ∙ some, high_of (length h) k (slice_index h k) (inside_character h p c k at (omega (arith, more)) (omega (arith, more))))

character_ends : (h : List ℕ) (p b : ℕ) (u : Unit_at) (o : Option ℕ) → char_at h p ≡ o → one_character o ≡ Some u → slice_get h p ≡ Some b → 128 ≤ b → EndsHigh h (p + u.width)
character_ends h p b u None at e here high = cc
character_ends h p b u (Some c) at e here high =
    let same : record { code = c; width = len_utf8 c } ≡ u = cc in
    subst (λ (v : Unit_at). EndsHigh h (p + v.width)) same
    (elim (leb_tells 2 (len_utf8 c)) [
      | inl more ↦ high_last h p c at more.1
      | inr one ↦ high_first h p (p + len_utf8 c) b (let low = (len_utf8_bounds c).0 in omega (arith, one.1, low)) here high
    ])

byte_ends : (h : List ℕ) (p b : ℕ) (u : Unit_at) (o : Option ℕ) → one_byte o ≡ Some u → slice_get h p ≡ Some b → 128 ≤ b → EndsHigh h (p + u.width)
byte_ends h p b u None e here high = cc
byte_ends h p b u (Some d) e here high =
    let same : record { code = d; width = 1 } ≡ u = cc in
    high_first h p (p + u.width) b (ap (λ (v : Unit_at). p + v.width) (sym same)) here high

ends_high : (m : Meaning) (h : List ℕ) (p b : ℕ) (u : Unit_at) → unit_in m h p ≡ Some u → slice_get h p ≡ Some b → 128 ≤ b → EndsHigh h (p + u.width)
ends_high Unicode h p b u e here high = character_ends h p b u _ refl e here high
ends_high Bytes h p b u e here high = byte_ends h p b u _ e here high
ends_high AsciiText h p b u e here high = character_ends h p b u _ refl e here high

-- what stands after a place where such a character is read stands before the next one
side_beside : (x : Context) (p b : ℕ) (u : Unit_at) (s : Side) → unit_in x.meaning x.haystack p ≡ Some u → slice_get x.haystack p ≡ Some b → 128 ≤ b → IsAfter x p s
    → IsBefore x (p + u.width) s
side_beside x p b u s e here high is =
    let last = ends_high x.meaning x.haystack p b u e here high in
    let w = word_after x.meaning x.haystack p in
    let there = wide_side_after x p b w high here refl in
    let same : wide_of w ≡ s = sides_same (wide_of w) s w (is.end ∙ sym there.end ∙ nothing_wide w) (is.feed ∙ sym there.feed ∙ feed_wide w) (is.return ∙ sym there.return ∙ return_wide w) is.word refl in
    subst (IsBefore x (p + u.width)) same (wide_side_before x (p + u.width) last.0 w last.2 last.1 (sym (words_beside x.meaning x.haystack p u e)))
  where
    nothing_wide : (w : Bool) → is_nothing (wide_of w) ≡ false
    nothing_wide true = refl
    nothing_wide false = refl

    feed_wide : (w : Bool) → is_feed (wide_of w) ≡ false
    feed_wide true = refl
    feed_wide false = refl

    return_wide : (w : Bool) → is_return (wide_of w) ≡ false
    return_wide true = refl
    return_wide false = refl

module _ (a : Attempt) (classes : Classes) (p : ℕ) where
  read_by : (r : Reading) → Some (unit_read r) ≡ unit_in a.code.now.meaning a.haystack.now p → p + r.width ≤ a.last → Some (unit_read r) ≡ unit_by (context_in a) a.last p
  read_by r e within =
      sym (ap (cut a.last p) (unit_is a p ∙ sym e) ∙ ap (λ (b : Bool). if b then Some (unit_read r) else None) (le-leb (p + r.width) a.last within))

  -- a character past ASCII is read
  pub sees_wide : (s after : Side) (r : Reading) (b past : ℕ) → IsFollowed a → AreClasses classes (instrs_in a) → IsBefore (context_in a) p s → IsAfterAs (context_in a) p classes.tests after
      → p < a.last → slice_get a.haystack.now p ≡ Some b → 128 ≤ b → Some (unit_read r) ≡ unit_in a.code.now.meaning a.haystack.now p → past ≡ p + r.width → past ≤ a.last
      → may_end_in a p ≡ true → Sees a classes p past (record { before = seen_as classes.tests s; after = after; reading = Some r })
  sees_wide s after r b past followed are stands next before here high read is within good =
      let fits : p + r.width ≤ a.last = omega (arith, is, within) in
      let whole : Sight = record { before = s; after = next.0; reading = Some r } in
      let asked : Sight = record { before = seen_as classes.tests s; after = after; reading = Some r } in
      let seen : IsSeenAs (context_in a) a.last p classes.tests asked = (
        whole,
        record { before = stands; after = next.1; unit = read_by r read fits },
        ap (λ (x : Side). record { before = seen_as classes.tests s; after = x; reading = Some r }) next.2,
      ) in
      let like = like_wide a p classes.tests are.tests asked seen fits in
      let leads = followed.steady p (unit_read r) (omega (arith, before)) good (sym read) in
      let beside = side_beside (context_in a) p b (unit_read r) next.0 (sym read) here high next.1 in
      record {
        like = like;
        width = sym like.width ∙ sym is;
        forth = omega (arith, is, leads.0);
        within = within;
        good = subst (λ (q : ℕ). may_end_in a q ≡ true) (sym is) leads.1;
        begins = λ row start begun. (
          next.0,
          subst (λ (q : ℕ). IsBefore (context_in a) q next.0) (sym is) beside,
          begun ∙ ap (row_start classes row) next.2,
        );
      }
