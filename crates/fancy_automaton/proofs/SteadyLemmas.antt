-- What is read leads from boundary to boundary.
use Rattle.std.proofs.Common.{◌≡◌, ℕ, zero, suc, ◌+◌, ◌-◌, ◌<◌, ◌≤◌, Bool, true, false, not, ◌||◌, ◌==◌, nat_le, List, ◌++◌, length, Option, Some, None, IsUtf8, refl, sym, ap, subst, ◌∙◌, arith, true≢false, get_or-drop}
use Rattle.std.specs.Prelude.{slice_index}
use Rattle.std.specs.Char.{len_utf8, encode_utf8}
use Rattle.std.proofs.lemmas.Bool.Decides.{nat_tests}
use Rattle.std.proofs.lemmas.Str.{len_utf8_bounds}
use Rattle.fancy_tree.specs.declared.tree.Meaning.{Meaning}
use Rattle.fancy_tree.specs.declared.tree.Meaning.TheVariants.{Unicode, Bytes, AsciiText}
use Rattle.fancy_input.specs.Places.{char_at, is_boundary, is_continuation}
use Rattle.fancy_input.proofs.TextLemmas.{char_at-boundary}
use Rattle.fancy_code.specs.declared.attempt.Attempt.{Attempt}
use Rattle.fancy_code.specs.Attempt.{may_end_in}
use Rattle.fancy_meaning.specs.Context.{Unit_at, unit_in, one_character, one_byte}
use Rattle.fancy_meaning.specs.Placed.{reads_characters}
use Rattle.fancy_input.proofs.CharacterLemmas.{char_at-bytes, char_at-fits}
use Rattle.fancy_states.specs.Search.{Steady, KeepsPlaces, by_characters, by_bytes}

-- each byte of a character but the first continues it
inside_encoded : (c : ℕ) (rest : List ℕ) (j : ℕ) → 0 < j → j < len_utf8 c → is_continuation (slice_index (encode_utf8 c ++ rest) j) ≡ true
unfolding encode_utf8
inside_encoded c rest zero pos lt = absurd (omega arith)
inside_encoded c rest (suc zero) pos lt = grind (arith, nat_tests)
inside_encoded c rest (suc (suc zero)) pos lt = grind (arith, nat_tests)
inside_encoded c rest (suc (suc (suc zero))) pos lt = grind (arith, nat_tests)
inside_encoded c rest (suc (suc (suc (suc j)))) pos lt = absurd (omega (arith, (len_utf8_bounds c).1))

no_boundary : (n k b : ℕ) → 0 < k → k < n → is_continuation b ≡ true → ((k == 0) || (nat_le n k || not (is_continuation b))) ≡ false
no_boundary n k b pos lt e = grind (arith, nat_tests)

-- no boundary stands inside of a character
pub inside_character : (haystack : List ℕ) (p c k : ℕ) → char_at haystack p ≡ Some c → p < k → k < p + len_utf8 c → is_boundary haystack k ≡ false
inside_character haystack p c k e above below =
    let b = char_at-bytes haystack p c e in
    let j = k - p in
    let at : p + j ≡ k = omega arith in
    let there : slice_index haystack k ≡ slice_index (encode_utf8 c ++ b.1) j =
    ap (slice_index haystack) (sym at) ∙ sym (get_or-drop p haystack j 0) ∙ ap (λ (xs : List ℕ). slice_index xs j) b.2 in
    no_boundary (length haystack) k (slice_index haystack k) (omega arith) (let fits : p + len_utf8 c ≤ length haystack = char_at-fits haystack p c e in omega arith)
    (ap is_continuation there ∙ inside_encoded c b.1 j (omega arith) (omega arith))

abbrev ReachesNext : (ℕ → Bool) → ℕ → Unit_at → Type 0
ReachesNext good p u = (0 < u.width) × (good (p + u.width) ≡ true) × ((k : ℕ) → p < k → k < p + u.width → good k ≡ false)

character_leads : (haystack : List ℕ) (p : ℕ) (u : Unit_at) (o : Option ℕ) → char_at haystack p ≡ o → IsUtf8 haystack → p ≤ length haystack → is_boundary haystack p ≡ true
    → one_character o ≡ Some u → ReachesNext (is_boundary haystack) p u
character_leads haystack p u None read text within here e = cc
character_leads haystack p u (Some c) read text within here e =
    let same : record { code = c; width = len_utf8 c } ≡ u = cc in
    subst (λ (v : Unit_at). ReachesNext (is_boundary haystack) p v) same
    (omega (arith, (len_utf8_bounds c).0), char_at-boundary haystack p c text within here read, λ k above below. inside_character haystack p c k read above below)

text_leads : (m : Meaning) (haystack : List ℕ) (p : ℕ) (u : Unit_at) → reads_characters m ≡ true → IsUtf8 haystack → p ≤ length haystack → is_boundary haystack p ≡ true
    → unit_in m haystack p ≡ Some u → ReachesNext (is_boundary haystack) p u
text_leads Unicode haystack p u m text within here e = character_leads haystack p u _ refl text within here e
text_leads Bytes haystack p u m text within here e = absurd (true≢false (sym m))
text_leads AsciiText haystack p u m text within here e = character_leads haystack p u _ refl text within here e

byte_leads : (good : ℕ → Bool) → ((i : ℕ) → good i ≡ true) → (p : ℕ) (u : Unit_at) (o : Option ℕ) → one_byte o ≡ Some u → ReachesNext good p u
byte_leads good all p u None e = cc
byte_leads good all p u (Some b) e =
    let same : record { code = b; width = 1 } ≡ u = cc in
    subst (λ (v : Unit_at). ReachesNext good p v) same (omega arith, all (p + 1), λ k above below. absurd (omega arith))

bytes_lead : (m : Meaning) (haystack : List ℕ) (good : ℕ → Bool) → ((i : ℕ) → good i ≡ true) → (p : ℕ) (u : Unit_at) → reads_characters m ≡ false
    → unit_in m haystack p ≡ Some u → ReachesNext good p u
bytes_lead Unicode haystack good all p u m e = absurd (true≢false m)
bytes_lead Bytes haystack good all p u m e = byte_leads good all p u _ e
bytes_lead AsciiText haystack good all p u m e = absurd (true≢false m)

only_boundaries : (on : Bool) (haystack : List ℕ) (i : ℕ) → on ≡ true → (not on || is_boundary haystack i) ≡ is_boundary haystack i
only_boundaries true haystack i e = refl
only_boundaries false haystack i e = absurd (true≢false (sym e))

anywhere : (on : Bool) (haystack : List ℕ) (i : ℕ) → on ≡ false → (not on || is_boundary haystack i) ≡ true
anywhere true haystack i e = absurd (true≢false e)
anywhere false haystack i e = refl

pub steady : (a : Attempt) → a.last ≤ length a.haystack.now → KeepsPlaces a.haystack.now a.code.now.meaning a.on_boundaries → Steady a
steady a inside (by_characters text m on) p u within fine e =
    let same : (i : ℕ) → may_end_in a i ≡ is_boundary a.haystack.now i = λ i. only_boundaries a.on_boundaries a.haystack.now i on in
    let l = text_leads a.code.now.meaning a.haystack.now p u m text (omega (arith, within, inside)) (sym (same p) ∙ fine) e in
    (l.0, same (p + u.width) ∙ l.1, λ k above below. same k ∙ l.2 k above below)
steady a inside (by_bytes m on) p u within fine e =
    bytes_lead a.code.now.meaning a.haystack.now (may_end_in a) (λ i. anywhere a.on_boundaries a.haystack.now i on) p u m e
