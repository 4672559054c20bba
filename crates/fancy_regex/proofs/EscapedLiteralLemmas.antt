-- The escape of a text spells its characters, and is found where the text stands.
use Rattle.std.proofs.Common.{◌≡◌, ℕ, ◌≤◌, ◌==◌, ◌&&◌, Bool, true, false, List, [], ◌∷◌, ◌++◌, codes, length, map, flat_map, chars, IsUtf8, IsTrue, if◌then◌else◌, inl, inr, refl, sym, ap, subst, ◌∙◌, arith, eqb-true, true≢false}
use Rattle.std.proofs.lemmas.Bool.Decides.{leb_tells}
use Rattle.std.proofs.lemmas.Str.{encodes-chars, scalars-chars, chars_from_encodes, IsUtf8-string_bytes}
use Rattle.fancy_tree.specs.Limits.{most_nodes}
use Rattle.fancy_tree.specs.declared.tree.Meaning.{Meaning}
use Rattle.fancy_tree.specs.declared.tree.Meaning.TheVariants.{Unicode}
use Rattle.fancy_tree.specs.Refers.{refers_to}
use Rattle.fancy_tree.specs.Pattern.{Pattern, character, followed, in_sequence}
use Rattle.fancy_syntax.specs.Dialect.{Scope, IsPattern, standard, begin, numbers, is_escapable}
use Rattle.fancy_tree.specs.Modes.{keeps_characters}
use Rattle.fancy_tree.specs.Sizes.{nodes, are_sized}
use Rattle.fancy_tree.specs.Text.{Text}
use Rattle.fancy_tree.proofs.Facts.{either_no}
use Rattle.fancy_syntax.proofs.LiteralSpelling.{IsPlain, StandsFor, StandFor, no_word, word, meant, by_escape, by_backslash, by_itself_alone, not_among_fewer, holds_among, words_spell, words_spell_one, nodes-characters}
use Rattle.fancy_input.specs.Places.{is_boundary}
use Rattle.fancy_input.specs.Requests.{effective_start, positions}
use Rattle.fancy_input.specs.declared.input.Request.{Request}
use Rattle.fancy_meaning.specs.Literals.{stands_within, cuts_none, span_if, first_span}
use Rattle.fancy_meaning.proofs.LiteralLemmas.{Seeks, finds_first, anchored_span, text_cuts_none}
use Rattle.fancy_search.specs.declared.options.Options.{Options}
use Rattle.fancy_core.specs.declared.regex.Regex.{Regex}
use Rattle.fancy_search.specs.Options.{meaning_in}
use Rattle.fancy_core.specs.Regexes.{pattern_text, pattern_in, options_in, query}
use Rattle.fancy_search.specs.Searching.{CanSearch}
use Rattle.fancy_regex.specs.Escapes.{special, is_special, has_special, escaped_character, escaped_pattern}
use Rattle.fancy_regex.specs.EscapedLiterals.{IsOfEscape, span_found}

-- what is escaped can be, and what is not means nothing else
special_escapable : (c : ℕ) → is_special c ≡ true → is_escapable c ≡ true
unfolding is_special
special_escapable c h = holds_among is_escapable c special refl h

others_plain : (s : Scope) (c : ℕ) → IsPlain s → is_special c ≡ false → StandsFor s (c ∷ []) c
unfolding is_special
others_plain s c plain h = by_itself_alone s c plain (not_among_fewer c meant special refl h)

-- the escaped form of a character stands for it
character_stands : (s : Scope) (c : ℕ) → IsPlain s → StandsFor s (escaped_character c) c
unfolding escaped_character
character_stands s c plain = feed (c == 10) refl
  where
    with_backslash : (b : Bool) → is_special c ≡ b → StandsFor s (if b then codes "\\" ++ (c ∷ []) else c ∷ []) c
    with_backslash true e = by_backslash s c plain (special_escapable c e)
    with_backslash false e = others_plain s c plain e

    return : (b : Bool) → (c == 13) ≡ b → StandsFor s (if b then codes "\\r" else if is_special c then codes "\\" ++ (c ∷ []) else c ∷ []) c
    return true e = subst (λ d. StandsFor s (codes "\\r") d) (sym (eqb-true c 13 e)) (by_escape s 114 13 plain (λ rest. refl))
    return false e = with_backslash (is_special c) refl

    tab : (b : Bool) → (c == 9) ≡ b
        → StandsFor s (if b then codes "\\t" else if c == 13 then codes "\\r" else if is_special c then codes "\\" ++ (c ∷ []) else c ∷ []) c
    tab true e = subst (λ d. StandsFor s (codes "\\t") d) (sym (eqb-true c 9 e)) (by_escape s 116 9 plain (λ rest. refl))
    tab false e = return (c == 13) refl

    feed : (b : Bool) → (c == 10) ≡ b
        → StandsFor s (if b then codes "\\n" else if c == 9 then codes "\\t" else if c == 13 then codes "\\r" else if is_special c then codes "\\" ++ (c ∷ []) else c ∷ []) c
    feed true e = subst (λ d. StandsFor s (codes "\\n") d) (sym (eqb-true c 10 e)) (by_escape s 110 10 plain (λ rest. refl))
    feed false e = tab (c == 9) refl

escaped_stand : (s : Scope) (t : Text) → IsPlain s → StandFor s (flat_map escaped_character t) t
escaped_stand s [] plain = no_word
escaped_stand s (c ∷ t) plain = word (character_stands s c plain) (escaped_stand s t plain)

unescaped_stand : (s : Scope) (t : Text) → IsPlain s → has_special t ≡ false → StandFor s t t
unescaped_stand s [] plain h = no_word
unescaped_stand s (c ∷ t) plain h =
    let none = either_no (is_special c) (has_special t) h in
    word (others_plain s c plain none.0) (unescaped_stand s t plain none.1)

-- so does that of a text
text_stands : (s : Scope) (t : Text) → IsPlain s → StandFor s (escaped_pattern t) t
text_stands s t plain = go (has_special t) refl
  where
    go : (b : Bool) → has_special t ≡ b → StandFor s (if b then flat_map escaped_character t else t) t
    go true e = escaped_stand s t plain
    go false e = unescaped_stand s t plain e

begins_plain : (unnamed : Bool) → IsPlain (begin unnamed standard)
begins_plain unnamed = record { meaning = refl; ignore_case = refl; ignore_blanks = refl }

-- the effective start of a search in text is a boundary, unless it is past the end
starts_cleanly : {o : Options} (haystack : List ℕ) (r : Request) → CanSearch o true haystack r → effective_start r ≤ length haystack → IsTrue (is_boundary haystack (effective_start r))
starts_cleanly haystack r can within =
    elim (leb_tells r.start r.range_start) [
      | inl later ↦ (let le = later.1 in subst (λ p. IsTrue (is_boundary haystack p)) (omega (arith, le)) (can.range_starts refl))
      | inr sooner ↦ (let lt = sooner.1 in subst (λ p. IsTrue (is_boundary haystack p)) (omega (arith, lt)) (can.starts refl (omega (arith, within, lt))))
    ]

-- characters refer to nothing, and have sizes
refers-characters : (f : ℕ → ℕ) (t : Text) → refers_to f (in_sequence (map character t)) ≡ in_sequence (map character t)
unfolding refers_to
refers-characters f [] = refl
refers-characters f (c ∷ []) = refl
refers-characters f (c ∷ d ∷ t) = ap (followed (character c)) (refers-characters f (d ∷ t))

sized-characters : (m : Meaning) (t : Text) → are_sized m (in_sequence (map character t)) ≡ true
unfolding are_sized
sized-characters m [] = refl
sized-characters m (c ∷ []) = refl
sized-characters m (c ∷ d ∷ t) = sized-characters m (d ∷ t)

-- the escape of a text is a pattern exactly where the text has at most a million characters, and then the one of these characters
pub escape_spells : (t : Text) (p : Pattern) → IsPattern standard (escaped_pattern t) p → (p ≡ in_sequence (map character t)) × (length t ≤ most_nodes)
escape_spells t p h =
    let s = h.spelled in
    let written = words_spell_one (begins_plain s.unnamed) (text_stands (begin s.unnamed standard) t (begins_plain s.unnamed)) s.spelled in
    let is : p ≡ in_sequence (map character t) = h.is ∙ (ap (refers_to (numbers standard h.end)) written ∙ refers-characters (numbers standard h.end) t) in
    let small = h.small in
    (is, omega (arith, small, ap nodes is, nodes-characters t))

pub spells_escape : (t : Text) (p : Pattern) → (p ≡ in_sequence (map character t)) × (length t ≤ most_nodes) → IsPattern standard (escaped_pattern t) p
spells_escape t p h =
    let is = h.0 in
    let few = h.1 in
    record {
      written = in_sequence (map character t);
      end = begin true standard;
      spelled = record {
        unnamed = true;
        spelled = words_spell (begins_plain true) (text_stands (begin true standard) t (begins_plain true));
        settled = refl;
      };
      is = is ∙ sym (refers-characters (numbers standard (begin true standard)) t);
      resolved = λ k d below. absurd (omega (arith, below));
      sized = ap (are_sized Unicode) is ∙ sized-characters Unicode t;
      fills = λ on. absurd (true≢false (sym on));
      small = omega (arith, few, ap nodes is, nodes-characters t);
    }

module _ (regex : Regex) (text : List ℕ) (utf8 : IsUtf8 text) (built : IsOfEscape regex text) where
  accepts : IsPattern standard (escaped_pattern (chars text)) (pattern_in regex)
  accepts =
      subst (λ t. IsPattern standard t (pattern_in regex)) (sym (chars_from_encodes (escaped_pattern (chars text)) (pattern_text regex) (IsUtf8-string_bytes regex.pattern) (sym built.escaped)))
      built.accepted

  seeks : (haystack : List ℕ) (r : Request) → Seeks (chars text) (query regex haystack r)
  seeks haystack r = record {
    pattern = (escape_spells (chars text) (pattern_in regex) accepts).0;
    meaning = ap meaning_in built.options;
    on_boundaries = ap (λ (o : Options). keeps_characters o.bytes_mode) built.options;
    not_empty = ap (λ (o : Options). o.find_not_empty) built.options;
    longest = ap (λ (o : Options). o.leftmost_longest) built.options;
  }

  -- it is found at the first place where the text stands
  pub found_first : (haystack : List ℕ) (r : Request)
      → span_found regex haystack r ≡ first_span text haystack r.range_end (positions r) (effective_start r)
  found_first haystack r =
      finds_first (chars text) (scalars-chars text utf8) (query regex haystack r) (seeks haystack r)
      ∙ ap (λ bs. first_span bs haystack r.range_end (positions r) (effective_start r)) (encodes-chars text utf8)

  -- anchored, at the effective start or nowhere
  pub found_anchored : (haystack : List ℕ) (r : Request) → r.anchored ≡ true → span_found regex haystack r
      ≡ span_if (stands_within text haystack r.range_end (effective_start r) && cuts_none text haystack (effective_start r)) text (effective_start r)
  found_anchored haystack r h = found_first haystack r ∙ anchored_span text haystack r h

  -- and in text there wherever the text stands
  pub found_in_text : (haystack : List ℕ) (r : Request) → r.anchored ≡ true → IsUtf8 haystack → r.range_end ≤ length haystack → CanSearch (options_in regex) true haystack r
      → span_found regex haystack r ≡ span_if (stands_within text haystack r.range_end (effective_start r)) text (effective_start r)
  found_in_text haystack r h whole range can =
      found_anchored haystack r h
      ∙ ap (λ b. span_if b text (effective_start r)) (text_cuts_none text haystack r.range_end (effective_start r) utf8 whole range (starts_cleanly haystack r can))
