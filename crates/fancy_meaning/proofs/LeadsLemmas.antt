-- Three ways to see that a pattern leads from good places to good places: text read by characters, ASCII text, and bytes.
use Rattle.std.proofs.Common.{◌≡◌, ℕ, zero, suc, ◌+◌, ◌≤◌, Bool, true, false, List, length, Option, Some, None, IsTrue, refl, sym, subst, ◌∙◌, true≢false}
use Rattle.std.specs.Prelude.{IsUtf8}
use Rattle.std.specs.Char.{len_utf8}
use Rattle.std.specs.Str.{IsAscii}
use Rattle.fancy_tree.specs.declared.tree.Meaning.{Meaning}
use Rattle.fancy_tree.specs.declared.tree.Meaning.TheVariants.{Unicode, Bytes, AsciiText}
use Rattle.fancy_tree.specs.Pattern.{Pattern}
use Rattle.fancy_input.specs.Places.{char_at, is_boundary}
use Rattle.fancy_input.proofs.PlaceLemmas.{prev_place_boundary}
use Rattle.fancy_input.proofs.TextLemmas.{char_at-boundary, ascii_boundary}
use Rattle.fancy_meaning.specs.Context.{Context, Unit_at, unit_at, unit_in, one_character, units_back, previous_in}
use Rattle.fancy_meaning.specs.Placed.{any_place, Leads, has_raw_byte, reads_characters}
use Rattle.fancy_meaning.proofs.BackreferenceLemmas.{past_backreference-boundary}

-- where each place is good, everything leads to good places
pub leads_anywhere : (x : Context) (p : Pattern) (good : ℕ → Bool) → ((i : ℕ) → IsTrue (good i)) → Leads x p good
leads_anywhere x p good all = record {
  items = λ i u within here e. all (i + u.width);
  bytes = λ e i here. all (i + 1);
  repeats = λ folded number r s placed e. all r;
  back = λ n i r here e. all r;
}

-- any pattern over bytes
pub leads_bytes : (x : Context) (p : Pattern) → Leads x p any_place
leads_bytes x p = leads_anywhere x p any_place (λ i. refl)

-- any pattern over ASCII text
pub leads_ascii : (x : Context) (p : Pattern) → IsAscii x.haystack → Leads x p (is_boundary x.haystack)
leads_ascii x p h = leads_anywhere x p (is_boundary x.haystack) (ascii_boundary x.haystack h)

character_leads : (haystack : List ℕ) (i : ℕ) (u : Unit_at) (o : Option ℕ) → char_at haystack i ≡ o → IsUtf8 haystack → i ≤ length haystack →
    IsTrue (is_boundary haystack i) → one_character o ≡ Some u → IsTrue (is_boundary haystack (i + u.width))
character_leads haystack i u None read text within here e = cc
character_leads haystack i u (Some c) read text within here e =
    let same : record { code = c; width = len_utf8 c } ≡ u = cc in
    subst (λ (v : Unit_at). IsTrue (is_boundary haystack (i + v.width))) same (char_at-boundary haystack i c text within here read)

unit_leads : (m : Meaning) (haystack : List ℕ) (i : ℕ) (u : Unit_at) → reads_characters m ≡ true → IsUtf8 haystack → i ≤ length haystack →
    IsTrue (is_boundary haystack i) → unit_in m haystack i ≡ Some u → IsTrue (is_boundary haystack (i + u.width))
unit_leads Unicode haystack i u m text within here e = character_leads haystack i u _ refl text within here e
unit_leads Bytes haystack i u m text within here e = absurd (true≢false (sym m))
unit_leads AsciiText haystack i u m text within here e = character_leads haystack i u _ refl text within here e

previous_boundary : (m : Meaning) (haystack : List ℕ) (p : ℕ) → reads_characters m ≡ true → IsTrue (is_boundary haystack (previous_in m haystack p))
previous_boundary Unicode haystack p m = prev_place_boundary haystack p
previous_boundary Bytes haystack p m = absurd (true≢false (sym m))
previous_boundary AsciiText haystack p m = prev_place_boundary haystack p

units_back-boundary : (x : Context) (n p r : ℕ) → reads_characters x.meaning ≡ true → IsTrue (is_boundary x.haystack p) → units_back x n p ≡ Some r →
    IsTrue (is_boundary x.haystack r)
unfolding units_back
units_back-boundary x zero p r m here e =
    let same : p ≡ r = cc in
    subst (λ (i : ℕ). IsTrue (is_boundary x.haystack i)) same here
units_back-boundary x (suc n) zero r m here e = cc
units_back-boundary x (suc n) (suc p) r m here e =
    units_back-boundary x n (previous_in x.meaning x.haystack (suc p)) r m (previous_boundary x.meaning x.haystack (suc p) m) e

-- a pattern without raw bytes, over text that is read by characters
pub leads_text : (x : Context) (p : Pattern) → IsUtf8 x.haystack → reads_characters x.meaning ≡ true → has_raw_byte p ≡ false →
    Leads x p (is_boundary x.haystack)
unfolding unit_at
leads_text x p text m no_bytes = record {
  items = λ i u within here e. unit_leads x.meaning x.haystack i u m text within here e;
  bytes = λ e i here. absurd (true≢false (sym e ∙ no_bytes));
  repeats = λ folded number r s placed e. past_backreference-boundary x folded number r s text m placed e;
  back = λ n i r here e. units_back-boundary x n i r m here e;
}
