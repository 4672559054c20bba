-- Lemmas on marks and what they double.
use Rattle.std.proofs.Common.{ℕ, ◌≡◌, ◌==◌, Bool, true, false, List, [], ◌∷◌, ◌++◌, Some, refl, sym, ◌∙◌, ap, flat_map, map, chars, encode_utf8, encode_utf8_all, IsUtf8, if◌then◌else◌, eqb-true, ◌||◌, append-nil}
use Rattle.std.specs.List.{list_any}
use Rattle.std.proofs.lemmas.Str.{encodes-chars, chars_from_encodes, encodes-append}
use Rattle.std.proofs.lemmas.Grind.{flat_map-append}
use Rattle.fancy_tree.specs.Text.{Text}
use Rattle.fancy_template.specs.Templates.{TemplateSyntax, Step, literal, form, steps, begins_with}
use Rattle.fancy_template.specs.Expansions.{Captured, expanded, expansion}
use Rattle.fancy_template.specs.Marks.{escaped_template}
use Rattle.fancy_template.proofs.RowLemmas.{begins_is}
use Rattle.fancy_template.proofs.TemplateLemmas.{steps_plain, steps_formed}

-- a mark after a mark is a form
pub twice : (s : TemplateSyntax) (t : Text) → form s (s.mark ∷ t) ≡ Some (record { step = literal s.mark; width = 1 })
unfolding form
twice s t = let b : begins_with (s.mark ∷ []) (s.mark ∷ t) ≡ true = (begins_is (s.mark ∷ []) (s.mark ∷ t)).1 t refl in rw b refl

literals_at : (s : TemplateSyntax) (c : ℕ) (t : Text) (b : Bool) → (c == s.mark) ≡ b → steps s (escaped_template s.mark t) ≡ map literal t → steps s ((if b then c ∷ c ∷ [] else c ∷ []) ++ escaped_template s.mark t) ≡ literal c ∷ map literal t
literals_at s c t true e r = rw (eqb-true c s.mark e) (steps_formed s _ _ (twice s (escaped_template s.mark t)) ∙ ap (λ (z : List Step). literal s.mark ∷ z) r)
literals_at s c t false e r = steps_plain s c (escaped_template s.mark t) e ∙ ap (λ (z : List Step). literal c ∷ z) r

-- a text with its marks doubled is cut into its characters
literals : (s : TemplateSyntax) (t : Text) → steps s (escaped_template s.mark t) ≡ map literal t
unfolding steps
literals s [] = refl
literals s (c ∷ t) = literals_at s c t (c == s.mark) refl (literals s t)

expands_back : (k : Captured) (t : Text) → flat_map (expanded k) (map literal t) ≡ encode_utf8_all t
expands_back k [] = refl
expands_back k (c ∷ t) = ap (λ (z : List ℕ). encode_utf8 c ++ z) (expands_back k t)

-- what was escaped expands to the text
pub stands_for : (s : TemplateSyntax) (k : Captured) (text bs : List ℕ) → IsUtf8 text → IsUtf8 bs → bs ≡ encode_utf8_all (escaped_template s.mark (chars text)) → expansion s k (chars bs) ≡ text
unfolding expansion
stands_for s k text bs u v e =
    let w : escaped_template s.mark (chars text) ≡ chars bs = chars_from_encodes (escaped_template s.mark (chars text)) bs v (sym e) in
    rw (← w, literals s (chars text)) (expands_back k (chars text) ∙ encodes-chars text u)

unmarked_at : (m c : ℕ) (t : Text) (b : Bool) → (c == m) ≡ b → b ≡ false → escaped_template m t ≡ t → (if b then c ∷ c ∷ [] else c ∷ []) ++ escaped_template m t ≡ c ∷ t
unmarked_at m c t true e f r = absurd (cc)
unmarked_at m c t false e f r = ap (λ (z : Text). c ∷ z) r

left : (a b : Bool) → (a || b) ≡ false → a ≡ false
left true b e = e
left false b e = refl

right : (a b : Bool) → (a || b) ≡ false → b ≡ false
right true b e = absurd (cc)
right false b e = e

-- without a mark nothing is doubled
unmarked : (m : ℕ) (t : Text) → list_any (λ c. c == m) t ≡ false → escaped_template m t ≡ t
unmarked m [] e = refl
unmarked m (c ∷ t) e = unmarked_at m c t (c == m) refl (left (c == m) (list_any (λ d. d == m) t) e) (unmarked m t (right (c == m) (list_any (λ d. d == m) t) e))

-- a template without a mark stands for itself
pub unmarked_expands : (s : TemplateSyntax) (k : Captured) (t : Text) → list_any (λ c. c == s.mark) t ≡ false → expansion s k t ≡ encode_utf8_all t
unfolding expansion
unmarked_expands s k t e = ap (λ (z : List Step). flat_map (expanded k) z) (ap (steps s) (sym (unmarked s.mark t e)) ∙ literals s t) ∙ expands_back k t

pub unmarked_bytes : (m : ℕ) (text : List ℕ) → IsUtf8 text → list_any (λ c. c == m) (chars text) ≡ false → text ≡ encode_utf8_all (escaped_template m (chars text))
unmarked_bytes m text u e = sym (encodes-chars text u) ∙ ap encode_utf8_all (sym (unmarked m (chars text) e))

-- one more character was written
pub one_more : (f : ℕ → Text) (before after : List ℕ) (done : Text) (c : ℕ) → before ≡ encode_utf8_all (flat_map f done) → after ≡ before ++ encode_utf8_all (f c) → after ≡ encode_utf8_all (flat_map f (done ++ c ∷ []))
one_more f before after done c e k = rw (flat_map-append, encodes-append, ← e, append-nil) k
