-- Ends of lines and of the text, told by the byte that stands there.
use Rattle.std.proofs.Common.{◌≡◌, ℕ, zero, suc, ◌<◌, ◌==◌, Bool, false, ◌&&◌, ◌||◌, not, List, [], ◌∷◌, length, drop, Some, if◌then◌else◌, refl, sym, ap, ◌∙◌, arith, slice_get, slice_index, ne_eqb, true≢false}
use Rattle.std.proofs.lemmas.Bool.{or_from, or_parts}
use Rattle.fancy_tree.specs.declared.tree.Assertion.TheVariants.{TextEnd, LineEnd, LineEndCrlf, LastLine, LastLineCrlf}
use Rattle.fancy_tree.specs.declared.tree.Meaning.{Meaning}
use Rattle.fancy_bytes.specs.Sets.{ByteFlags, IsSetOf}
use Rattle.fancy_input.specs.Lines.{are_line_ends, are_line_feeds, byte_before, is_carriage_return, is_line_feed}
use Rattle.fancy_meaning.specs.Context.{Context, holds}
use Rattle.fancy_code.specs.Choices.{BeginsAmong}
use Rattle.fancy_code.specs.Foretold.{GoesOnAtEnds, HoldsAtEnds, is_at_end}
use Rattle.fancy_code.specs.Instructions.{Instruction}
use Rattle.fancy_code.specs.Run.{run}
use Rattle.fancy_code.proofs.ChoosingLemmas.{none_foretold}

-- a byte stands there that is no line end
record Stands (h : List ℕ) (p : ℕ) : Type 0 where
  byte : ℕ
  rest : List ℕ
  onward : drop p h ≡ byte ∷ rest
  here : slice_get h p ≡ Some byte
  inside : p < length h
  feed : (byte == 10) ≡ false
  return : (byte == 13) ≡ false

stands : (h : List ℕ) (p : ℕ) → is_at_end (slice_index h p) ≡ false → Stands h p
stands [] p lacks = absurd (true≢false lacks)
stands (b ∷ h) zero lacks =
    let ends = or_parts (b == 10) (b == 13) (or_parts (b == 0) ((b == 10) || (b == 13)) lacks).1 in
    record { byte = b; rest = h; onward = refl; here = refl; inside = omega arith; feed = ends.0; return = ends.1 }
stands (b ∷ h) (suc p) lacks =
    let s = stands h p lacks in
    record { byte = s.byte; rest = s.rest; onward = s.onward; here = s.here; inside = omega (arith, s.inside); feed = s.feed; return = s.return }

module _ (x : Context) (p : ℕ) (s : Stands x.haystack p) where
  before_end : (p == length x.haystack) ≡ false
  before_end = ne_eqb p (length x.haystack) (λ e. omega (arith, e, s.inside))

  no_feed : is_line_feed (slice_get x.haystack p) ≡ false
  no_feed = ap is_line_feed s.here ∙ s.feed

  no_return : is_carriage_return (slice_get x.haystack p) ≡ false
  no_return = ap is_carriage_return s.here ∙ s.return

ends_no_row : (b : ℕ) (rest : List ℕ) → (b == 10) ≡ false → (b == 13) ≡ false → are_line_ends (b ∷ rest) ≡ false
ends_no_row b [] feed return = feed
ends_no_row b (c ∷ rest) feed return =
    ap (λ (t : Bool). if t then (are_line_ends (c ∷ rest)) else ((b == 13) && ((c == 10) && are_line_ends rest))) feed
    ∙ ap (λ (t : Bool). t && ((c == 10) && are_line_ends rest)) return

pub text_end : HoldsAtEnds TextEnd
unfolding holds
text_end x p lacks = ap (λ (t : Bool). t && not x.end_text_off) (before_end x p (stands x.haystack p lacks))

pub line_end : HoldsAtEnds LineEnd
unfolding holds
line_end x p lacks = let s = stands x.haystack p lacks in or_from _ _ (before_end x p s) (no_feed x p s)

pub line_end_crlf : HoldsAtEnds LineEndCrlf
unfolding holds
line_end_crlf x p lacks =
    let s = stands x.haystack p lacks in
    or_from _ _ (before_end x p s)
    (or_from _ _ (no_return x p s) (ap (λ (t : Bool). t && not (is_carriage_return (byte_before x.haystack p))) (no_feed x p s)))

pub last_line : HoldsAtEnds LastLine
unfolding holds
last_line x p lacks =
    let s = stands x.haystack p lacks in
    ap are_line_feeds s.onward ∙ ap (λ (t : Bool). t && are_line_feeds s.rest) s.feed

pub last_line_crlf : HoldsAtEnds LastLineCrlf
unfolding holds
last_line_crlf x p lacks = let s = stands x.haystack p lacks in ap are_line_ends s.onward ∙ ends_no_row s.byte s.rest s.feed s.return

-- code that goes on at ends alone begins among what may stand there
pub begins_at_ends : (code : List Instruction) (m : Meaning) (set : ByteFlags) (q : ℕ) → IsSetOf is_at_end set → GoesOnAtEnds code q → BeginsAmong code m set q
begins_at_ends code m set q is ends x limit n s v meant bytes lacks =
    none_foretold ⊥ (λ h. h) (run x limit code n q s v)
    (ends.2 x limit n s v (ends.1 x s.place (sym (is (slice_index x.haystack s.place) (bytes s.place)) ∙ lacks)))
