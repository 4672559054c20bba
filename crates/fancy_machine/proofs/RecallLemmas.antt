-- What a backreference sees.
use Rattle.std.proofs.Common.{◌≡◌, ℕ, ◌+◌, ◌-◌, ◌<◌, ◌≤◌, ◌==◌, Bool, true, false, List, [], ◌∷◌, length, map, take, drop, IsTrue, Option, Some, None, nat_eq, if◌then◌else◌, refl, sym, ap, ap₂, ◌∙◌, arith}
use Rattle.std.specs.Prelude.{slice_index}
use Rattle.std.specs.Char.{len_utf8, is_ascii, to_ascii_lowercase}
use Rattle.std.specs.Str.{str_eq_ignore_ascii_case}
use Rattle.std.specs.List.{starts_with}
use Rattle.std.proofs.lemmas.Bool.Decides.{nat_tests}
use Rattle.std.proofs.lemmas.Slice.Eq.{bytes_eq-Decides}
use Rattle.std.proofs.lemmas.Str.{len_utf8_bounds}
use Rattle.unicode.proofs.CaseFoldingLemmas.{simple_fold-ascii}
use Rattle.fancy_tree.specs.declared.tree.Meaning.{Meaning}
use Rattle.fancy_tree.specs.declared.tree.Meaning.TheVariants.{Unicode}
use Rattle.fancy_input.specs.Places.{char_at, has_bytes_at}
use Rattle.fancy_meaning.specs.Context.{Context, State, group_span, unit_at, past_item, past_byte, one_character, option_to}
use Rattle.fancy_input.specs.declared.span.Span.{Span}
use Rattle.fancy_meaning.specs.Backreference.{captured_text, past_text, past_folded, past_characters, past_span, past_backreference, shares_folding}
use Rattle.fancy_input.proofs.CharacterLemmas.{char_at-fits}
use Rattle.fancy_meaning.proofs.PieceLemmas.{past_nothing, past_first}
use Rattle.fancy_machine.specs.Attempt.{reading}

pub recall_seen : (x : Context) (folded : Bool) (number : ℕ) (s : State) → past_backreference x folded number s ≡ past_span x folded (group_span s number) s.place
unfolding past_backreference
recall_seen x folded number s = refl

-- what a test for a text says
pub stands_if : (haystack rest text : List ℕ) (p : ℕ) (b : Bool) → rest ≡ drop p haystack → b ≡ starts_with nat_eq rest text → has_bytes_at haystack p text ≡ b
unfolding has_bytes_at
stands_if haystack rest text p b e f = ap (λ (r : List ℕ). starts_with nat_eq r text) (sym e) ∙ sym f

same_bool : (a b : Bool) → (a ≡ true → b ≡ true) → (b ≡ true → a ≡ true) → a ≡ b
same_bool true b f g = sym (f refl)
same_bool false true f g = g refl
same_bool false false f g = refl

-- what a test for a text in either case says
pub letters_if : (haystack rest next text : List ℕ) (p : ℕ) (b : Bool) → rest ≡ drop p haystack → next ≡ take (length text) rest
    → (IsTrue b → map to_ascii_lowercase next ≡ map to_ascii_lowercase text) × (map to_ascii_lowercase next ≡ map to_ascii_lowercase text → IsTrue b)
    → str_eq_ignore_ascii_case (take (length text) (drop p haystack)) text ≡ b
letters_if haystack rest next text p b e f g =
    let decides = bytes_eq-Decides (map to_ascii_lowercase next) (map to_ascii_lowercase text) in
    ap (λ (l : List ℕ). str_eq_ignore_ascii_case l text) (ap (take (length text)) (sym e) ∙ sym f)
    ∙ same_bool (str_eq_ignore_ascii_case next text) b (λ h. g.1 (decides.0 h)) (λ h. decides.1 (g.0 h))

pub ascii_low : (c : ℕ) (b : Bool) → b ≡ is_ascii c → b ≡ true → c < 128
ascii_low c b e f = grind (arith, nat_tests)

-- what a test for an empty text says
pub something_left : (text : List ℕ) (b : Bool) → b ≡ (length text == 0) → b ≡ false → 0 < length text
something_left text b e f = grind (arith, nat_tests)

pub none_left : (text : List ℕ) (b : Bool) → b ≡ (length text == 0) → b ≡ true → length text ≡ 0
none_left text b e f = grind (arith, nat_tests)

-- of two ASCII characters the folding is that of their letters
pub shares_ascii : (c d : ℕ) → c < 128 → d < 128 → shares_folding c d ≡ (to_ascii_lowercase d == to_ascii_lowercase c)
shares_ascii c d low_c low_d = ap₂ (λ (a b : ℕ). a == b) (simple_fold-ascii d low_d) (simple_fold-ascii c low_c)

module _ (haystack : List ℕ) (x : Context) (c p : ℕ) where
  -- what the character at p gives
  sharing_seen : (o : Option ℕ) → o ≡ char_at haystack p
      → past_item (reading haystack Unicode x) (shares_folding c) p ≡ option_to (one_character o) None (λ u. if shares_folding c u.code then Some (p + u.width) else None)
  unfolding past_item unit_at
  sharing_seen o e = ap (λ (o : Option ℕ). option_to (one_character o) None (λ u. if shares_folding c u.code then Some (p + u.width) else None)) (sym e)

  pub sharing_none : None ≡ char_at haystack p → past_item (reading haystack Unicode x) (shares_folding c) p ≡ None
  sharing_none e = sharing_seen None e

  pub sharing_other : (d : ℕ) (b : Bool) → Some d ≡ char_at haystack p → b ≡ shares_folding c d → b ≡ false
      → past_item (reading haystack Unicode x) (shares_folding c) p ≡ None
  sharing_other d b e h n = sharing_seen (Some d) e ∙ ap (λ (b : Bool). if b then Some (p + len_utf8 d) else None) (sym h ∙ n)

  pub sharing_some : (d : ℕ) (b : Bool) → Some d ≡ char_at haystack p → b ≡ shares_folding c d → b ≡ true
      → past_item (reading haystack Unicode x) (shares_folding c) p ≡ Some (p + len_utf8 d)
  sharing_some d b e h y = sharing_seen (Some d) e ∙ ap (λ (b : Bool). if b then Some (p + len_utf8 d) else None) (sym h ∙ y)

pub character_fits : (haystack : List ℕ) (i c : ℕ) → Some c ≡ char_at haystack i → i + len_utf8 c ≤ length haystack
character_fits haystack i c e = char_at-fits haystack i c (sym e)

module _ (x : Context) where
  -- the text begins with a character
  by_character : (text : List ℕ) (p c : ℕ) (o : Option ℕ) → Some c ≡ char_at text 0 → o ≡ past_item x (shares_folding c) p
      → past_characters x text p ≡ option_to o None (λ r. past_characters x (drop (len_utf8 c) text) r)
  by_character [] p c o e f = absurd (omega (arith, character_fits [] 0 c e, (len_utf8_bounds c).0))
  by_character (t ∷ ts) p c o e f =
      past_first x t ts p
      ∙ ap (λ (o : Option ℕ).
      option_to o (option_to (past_byte x t p) None (λ r. past_characters x ts r))
      (λ c. option_to (past_item x (shares_folding c) p) None (λ r. past_characters x (drop (len_utf8 c) (t ∷ ts)) r))) (sym e)
      ∙ ap (λ (o : Option ℕ). option_to o None (λ r. past_characters x (drop (len_utf8 c) (t ∷ ts)) r)) (sym f)

  -- the text begins with another byte
  by_byte : (text : List ℕ) (p : ℕ) (o : Option ℕ) → 0 < length text → None ≡ char_at text 0 → o ≡ past_byte x (slice_index text 0) p
      → past_characters x text p ≡ option_to o None (λ r. past_characters x (drop 1 text) r)
  by_byte [] p o lt e f = absurd (omega arith)
  by_byte (t ∷ ts) p o lt e f =
      past_first x t ts p
      ∙ ap (λ (o : Option ℕ).
      option_to o (option_to (past_byte x t p) None (λ r. past_characters x ts r))
      (λ c. option_to (past_item x (shares_folding c) p) None (λ r. past_characters x (drop (len_utf8 c) (t ∷ ts)) r))) (sym e)
      ∙ ap (λ (o : Option ℕ). option_to o None (λ r. past_characters x ts r)) (sym f)

  pub character_stops : (text : List ℕ) (p c : ℕ) → Some c ≡ char_at text 0 → None ≡ past_item x (shares_folding c) p → past_characters x text p ≡ None
  character_stops text p c e f = by_character text p c None e f

  pub character_leads : (text : List ℕ) (p c r : ℕ) → Some c ≡ char_at text 0 → Some r ≡ past_item x (shares_folding c) p
      → past_characters x text p ≡ past_characters x (drop (len_utf8 c) text) r
  character_leads text p c r e f = by_character text p c (Some r) e f

  pub byte_stops : (text : List ℕ) (p : ℕ) → 0 < length text → None ≡ char_at text 0 → None ≡ past_byte x (slice_index text 0) p → past_characters x text p ≡ None
  byte_stops text p lt e f = by_byte text p None lt e f

  pub byte_leads : (text : List ℕ) (p r : ℕ) → 0 < length text → None ≡ char_at text 0 → Some r ≡ past_byte x (slice_index text 0) p
      → past_characters x text p ≡ past_characters x (drop 1 text) r
  byte_leads text p r lt e f = by_byte text p (Some r) lt e f

  pub nothing_left : (text : List ℕ) (p : ℕ) → length text ≡ 0 → past_characters x text p ≡ Some p
  nothing_left [] p e = past_nothing x p
  nothing_left (t ∷ ts) p e = absurd (omega arith)

-- the text of a span, and what matches it

pub text_seen : (haystack : List ℕ) (m : Meaning) (x : Context) (e : Span) (rest text : List ℕ) (n : ℕ) → rest ≡ drop e.start haystack → text ≡ take n rest → n ≡ e.end - e.start
    → text ≡ captured_text (reading haystack m x) e
unfolding captured_text
text_seen haystack m x e rest text n is cut long = cut ∙ ap₂ (λ (n : ℕ) (l : List ℕ). take n l) long is

pub again_exact : (x : Context) (folded : Bool) (o : Option Span) (e : Span) (p : ℕ) (text : List ℕ) → folded ≡ false → o ≡ Some e → text ≡ captured_text x e
    → past_text x text p ≡ past_span x folded o p
again_exact x folded o e p text exact some is =
    ap (λ (t : List ℕ). past_text x t p) is ∙ sym (ap₂ (λ (b : Bool) (o : Option Span). past_span x b o p) exact some)

-- under flag `i`, where the meaning is n
pub again_folded : (haystack : List ℕ) (m n : Meaning) (x : Context) (folded : Bool) (o : Option Span) (e : Span) (p : ℕ) (text : List ℕ) → m ≡ n → folded ≡ true → o ≡ Some e
    → text ≡ captured_text (reading haystack m x) e → past_folded (reading haystack n x) n text p ≡ past_span (reading haystack m x) folded o p
again_folded haystack m n x folded o e p text same fold some is =
    ap (λ (n : Meaning). past_folded (reading haystack n x) n text p) (sym same)
    ∙ ap (λ (t : List ℕ). past_folded (reading haystack m x) m t p) is
    ∙ sym (ap₂ (λ (b : Bool) (o : Option Span). past_span (reading haystack m x) b o p) fold some)
