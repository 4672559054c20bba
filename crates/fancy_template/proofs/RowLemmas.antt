-- Lemmas on the characters at the front of a text.
use Rattle.std.proofs.Common.{arith, ℕ, ◌+◌, ◌-◌, ◌<◌, ◌≤◌, ◌≡◌, ◌≢◌, ◌==◌, Bool, true, false, List, [], ◌∷◌, ◌++◌, Option, None, Some, MatchOption, length, take, drop, refl, sym, ◌∙◌, ap, chars, encode_utf8, encode_utf8_all, IsUtf8, IsCharBoundary, append_assoc, append-nil, length-append}
use Rattle.std.specs.Borrow.{Bor}
use Rattle.std.specs.Str.Pattern.{FindsTextPrefix, StripsPrefix}
use Rattle.std.proofs.lemmas.Str.{encodes-chars, encodes-append, chars-append, chars_from_encodes, IsUtf8-take, IsCharBoundary-at_seam, length-le-encodes}
use Rattle.std.proofs.lemmas.Slice.Eq.{starts_is}
use Rattle.std.proofs.lemmas.Bool.Decides.{Decides-eqb}
use Rattle.std.proofs.Math.Seq.{drop-append_seam, take-append_seam}
use Rattle.std.proofs.lemmas.Grind.{common_steps}
use Rattle.fancy_tree.specs.Text.{Text}
use Rattle.fancy_template.specs.Templates.{begins_with, row, past_row}

not_true : (b : Bool) → (b ≡ true → ⊥) → b ≡ false
not_true true h = absurd (h refl)
not_true false h = refl

-- a text begins with a word just where it is the word and more
pub begins_is : (w t : Text) → (begins_with w t ≡ true → t ≡ w ++ drop (length w) t) × ((rest : Text) → t ≡ w ++ rest → begins_with w t ≡ true)
begins_is w t = starts_is Decides-eqb t w (begins_with w t) refl

has_word : (w t rest : List ℕ) → IsUtf8 w → t ≡ w ++ rest → (begins_with (chars w) (chars t) ≡ true) × (chars rest ≡ drop (length (chars w)) (chars t))
has_word w t rest u e =
    let k : chars t ≡ chars w ++ chars rest = ap chars e ∙ chars-append w rest u in
    ((begins_is (chars w) (chars t)).1 (chars rest) k, sym (ap (λ (z : List ℕ). drop (length (chars w)) z) k ∙ drop-append_seam (chars w) (chars rest)))

no_word : (w t : List ℕ) → IsUtf8 w → IsUtf8 t → ((rest : List ℕ) → t ≢ w ++ rest) → begins_with (chars w) (chars t) ≡ false
no_word w t u v h = not_true (begins_with (chars w) (chars t)) (λ b.
    let rest : List ℕ = drop (length (chars w)) (chars t) in
    let k : encode_utf8_all (chars t) ≡ encode_utf8_all (chars w ++ rest) = ap encode_utf8_all ((begins_is (chars w) (chars t)).0 b) in
    h (encode_utf8_all rest) (sym (encodes-chars t v) ∙ k ∙ encodes-append (chars w) rest ∙ ap (λ (z : List ℕ). z ++ encode_utf8_all rest) (encodes-chars w u)))

-- what `strip_prefix` at a text gives, by characters
pub strips : (w t : List ℕ) (r : Option (Bor (List ℕ))) → IsUtf8 w → IsUtf8 t → MatchOption r (FindsTextPrefix w t None) (λ x. StripsPrefix (FindsTextPrefix w) t x.now)
    → MatchOption r (begins_with (chars w) (chars t) ≡ false) (λ x. (begins_with (chars w) (chars t) ≡ true) × (chars x.now ≡ drop (length (chars w)) (chars t)))
strips w t None u v h = no_word w t u v h
strips w t (Some x) u v h = has_word w t x.now u (h.1.1 ∙ ap (λ (z : List ℕ). w ++ z) (sym h.2))

-- `front` of the text was passed, and all its characters pass the test
pub record Passed (p : ℕ → Bool) (text rest : List ℕ) : Type 0 where
  pub front : Text
  pub bytes : text ≡ encode_utf8_all front ++ rest
  pub spelled : chars text ≡ front ++ chars rest
  pub onward : (more : Text) → row p (front ++ more) ≡ front ++ row p more

pub passed_none : (p : ℕ → Bool) (t : List ℕ) → Passed p t t
passed_none p t = record { front = []; bytes = refl; spelled = refl; onward = λ more. refl }

row_more : (p : ℕ → Bool) (c : ℕ) (t : Text) → p c ≡ true → row p (c ∷ t) ≡ c ∷ row p t
row_more p c t e = rw e refl

pub row_stops : (p : ℕ → Bool) (c : ℕ) (t : Text) → p c ≡ false → row p (c ∷ t) ≡ []
row_stops p c t e = rw e refl

pub passed_more : (p : ℕ → Bool) (text rest after : List ℕ) (c : ℕ) → Passed p text rest → rest ≡ encode_utf8 c ++ after → chars rest ≡ c ∷ chars after → p c ≡ true → Passed p text after
passed_more p text rest after c h e k b = record {
  front = h.front ++ (c ∷ []);
  bytes = h.bytes ∙ ap (λ (z : List ℕ). encode_utf8_all h.front ++ z) e ∙ sym (append_assoc (encode_utf8_all h.front) (encode_utf8 c) after) ∙ ap (λ (z : List ℕ). z ++ after) (ap (λ (z : List ℕ). encode_utf8_all h.front ++ z) (sym (append-nil (encode_utf8 c))) ∙ sym (encodes-append h.front (c ∷ [])));
  spelled = h.spelled ∙ ap (λ (z : List ℕ). h.front ++ z) k ∙ sym (append_assoc h.front (c ∷ []) (chars after));
  onward = λ (more : Text). ap (row p) (append_assoc h.front (c ∷ []) more) ∙ h.onward (c ∷ more) ∙ ap (λ (z : List ℕ). h.front ++ z) (row_more p c more b) ∙ sym (append_assoc h.front (c ∷ []) (row p more));
}

module _ (p : ℕ → Bool) (text rest : List ℕ) (h : Passed p text rest) where
  passed_length : length text - length rest ≡ length (encode_utf8_all h.front)
  passed_length = let e : length text ≡ length (encode_utf8_all h.front) + length rest = ap length h.bytes ∙ length-append (encode_utf8_all h.front) rest in omega arith

  passed_take : take (length text - length rest) text ≡ encode_utf8_all h.front
  passed_take = rw passed_length (ap (λ (z : List ℕ). take (length (encode_utf8_all h.front)) z) h.bytes ∙ take-append_seam (encode_utf8_all h.front) rest)

  passed_drop : drop (length text - length rest) text ≡ rest
  passed_drop = rw passed_length (ap (λ (z : List ℕ). drop (length (encode_utf8_all h.front)) z) h.bytes ∙ drop-append_seam (encode_utf8_all h.front) rest)

  pub passed_boundary : IsUtf8 rest → IsCharBoundary text (length text - length rest)
  passed_boundary u = rw passed_length (IsCharBoundary-at_seam text (encode_utf8_all h.front) rest h.bytes u)

  passed_row : row p (chars rest) ≡ [] → row p (chars text) ≡ h.front
  passed_row e = ap (row p) h.spelled ∙ h.onward (chars rest) ∙ ap (λ (z : List ℕ). h.front ++ z) e ∙ append-nil h.front

  pub front_is_text : (front : List ℕ) → IsUtf8 text → IsUtf8 rest → front ≡ take (length text - length rest) text → IsUtf8 front
  front_is_text front u v f = rw f (IsUtf8-take text (length text - length rest) u (passed_boundary v))

  -- where the row ends, it is what was passed
  pub front_is_row : (front : List ℕ) → IsUtf8 text → IsUtf8 rest → row p (chars rest) ≡ [] → front ≡ take (length text - length rest) text → chars front ≡ row p (chars text)
  front_is_row front u v e f =
      let w : IsUtf8 (take (length text - length rest) text) = IsUtf8-take text (length text - length rest) u (passed_boundary v) in
      ap chars f ∙ sym (chars_from_encodes h.front (take (length text - length rest) text) w (sym passed_take)) ∙ sym (passed_row e)

  pub back_is_past : (back : List ℕ) → row p (chars rest) ≡ [] → back ≡ drop (length text - length rest) text → chars back ≡ past_row p (chars text)
  back_is_past back e f =
      let k : drop (length h.front) (chars text) ≡ chars rest = ap (λ (z : List ℕ). drop (length h.front) z) h.spelled ∙ drop-append_seam h.front (chars rest) in
      ap chars (f ∙ passed_drop) ∙ sym k ∙ ap (λ (z : List ℕ). drop (length z) (chars text)) (sym (passed_row e))

-- a loop over a row ends at the end of the text, or at a character that does not pass
pub row_of_none : (p : ℕ → Bool) (t : Text) → t ≡ [] → row p t ≡ []
row_of_none p t e = rw e refl

pub row_of_other : (p : ℕ → Bool) (t u : Text) (c : ℕ) → t ≡ c ∷ u → p c ≡ false → row p t ≡ []
row_of_other p t u c e f = rw e (row_stops p c u f)

no_zero : (n : ℕ) → 0 < n → (n == 0) ≡ false
no_zero n h = grind (arith, common_steps)

-- a text is empty just where it has no characters
pub empty_by_chars : (bs : List ℕ) → IsUtf8 bs → (length bs == 0) ≡ (length (chars bs) == 0)
empty_by_chars bs u = by (chars bs) (encodes-chars bs u)
  where
    by : (cs : Text) → encode_utf8_all cs ≡ bs → (length bs == 0) ≡ (length cs == 0)
    by [] e = rw (← e) refl
    by (c ∷ cs) e = let k : length (encode_utf8_all (c ∷ cs)) ≡ length bs = ap length e in let b : length (c ∷ cs) ≤ length (encode_utf8_all (c ∷ cs)) = length-le-encodes (c ∷ cs) in no_zero (length bs) (omega arith) ∙ sym (no_zero (length (c ∷ cs)) (omega arith))

pub empty_row : (bs : List ℕ) (w : Text) (b : Bool) → IsUtf8 bs → chars bs ≡ w → b ≡ (length bs == 0) → (length w == 0) ≡ b
empty_row bs w b u e h = rw (← e) (sym (empty_by_chars bs u) ∙ sym h)
