-- Lemmas on expanding a template step by step.
use Rattle.std.proofs.Common.{arith, ℕ, ◌+◌, ◌<◌, ◌≤◌, ◌≡◌, List, [], ◌∷◌, ◌++◌, Option, length, take, sym, ◌∙◌, ap, subst, flat_map, append_assoc, append-nil, length-append, chars, encode_utf8, encode_utf8_all, IsUtf8, IsCharBoundary}
use Rattle.std.proofs.lemmas.Str.{encodes-chars, IsUtf8-past_char, IsCharBoundary-at_seam}
use Rattle.std.specs.Io.KnownBytes.{Appends}
use Rattle.std.specs.String.Boundary.{IsSplitPoint}
use Rattle.std.proofs.KnownBytes.{Appends-trans}
use Rattle.std.proofs.lemmas.List.{take-append-le}
use Rattle.std.proofs.Math.Seq.{take-append-add}
use Rattle.fancy_tree.specs.Text.{Text}
use Rattle.fancy_template.specs.Templates.{TemplateSyntax, Step, steps}
use Rattle.fancy_template.specs.Expansions.{Captured, expanded, expansion}

-- What was given so far, of which P holds, and what the steps that are left give make up the whole.
pub record Given (k : Captured) (whole : List ℕ) (P : List ℕ → Type 0) (left : List Step) : Type 0 where
  pub done : List ℕ
  pub joined : whole ≡ done ++ flat_map (expanded k) left
  pub holds : P done

pub given_none : (s : TemplateSyntax) (k : Captured) (t : Text) (P : List ℕ → Type 0) (left : List Step) → left ≡ steps s t → P [] → Given k (expansion s k t) P left
unfolding expansion
given_none s k t P left e p = record { done = []; joined = ap (λ (z : List Step). flat_map (expanded k) z) (sym e); holds = p }

pub given_more : (k : Captured) (whole : List ℕ) (P Q : List ℕ → Type 0) (left rest : List Step) (x : Step) → left ≡ x ∷ rest → ((done : List ℕ) → P done → Q (done ++ expanded k x)) → Given k whole P left → Given k whole Q rest
given_more k whole P Q left rest x e f g = record {
  done = g.done ++ expanded k x;
  joined = g.joined ∙ (ap (λ (z : List Step). g.done ++ flat_map (expanded k) z) e ∙ sym (append_assoc g.done (expanded k x) (flat_map (expanded k) rest)));
  holds = f g.done g.holds;
}

pub given_all : (k : Captured) (whole : List ℕ) (P : List ℕ → Type 0) (left : List Step) → left ≡ [] → Given k whole P left → P whole
given_all k whole P left e g = subst P (sym (g.joined ∙ (ap (λ (z : List Step). g.done ++ flat_map (expanded k) z) e ∙ append-nil g.done))) g.holds

-- the text after one more step
pub text_more : (k : Captured) (x : Step) (old now next add done : List ℕ) → next ≡ now ++ add → add ≡ expanded k x → now ≡ old ++ done → next ≡ old ++ (done ++ expanded k x)
text_more k x old now next add done e f g = e ∙ (ap (λ (z : List ℕ). now ++ z) f ∙ (ap (λ (z : List ℕ). z ++ expanded k x) g ∙ append_assoc old done (expanded k x)))

-- what a writer has been given after one more step
pub written_more : (k : Captured) (x : Step) (old now next : Option (List ℕ)) (add done : List ℕ) → Appends now next add → add ≡ expanded k x → Appends old now done → Appends old next (done ++ expanded k x)
written_more k x old now next add done e f g = rw (← f) (Appends-trans old now next done add g e)

-- what is taken of a whole that goes on
take_part : (d e r : List ℕ) (m : ℕ) → m < length e → d ++ take m e ≡ take (length d + m) (d ++ (e ++ r))
take_part d e r m h = let w : m ≤ length e = omega arith in sym (take-append-add d (e ++ r) m ∙ ap (λ (z : List ℕ). d ++ z) (take-append-le m e r w))

-- a step that fails has written a beginning of the whole, and not all of it
pub written_part : (k : Captured) (whole : List ℕ) (old now next : Option (List ℕ)) (left rest : List Step) (x : Step) (add : List ℕ) → left ≡ x ∷ rest → add ≡ expanded k x → ((n : ℕ) × (n < length add) × Appends now next (take n add)) → Given k whole (λ done. Appends old now done) left
    → ((n : ℕ) × (n < length whole) × Appends old next (take n whole))
written_part k whole old now next left rest x add e f (n, short, part) g =
    let more : List ℕ = flat_map (expanded k) rest in
    let all : whole ≡ g.done ++ (add ++ more) = g.joined ∙ (ap (λ (z : List Step). g.done ++ flat_map (expanded k) z) e ∙ ap (λ (z : List ℕ). g.done ++ (z ++ more)) (sym f)) in
    let size : length whole ≡ length g.done + (length add + length more) = ap length all ∙ (length-append g.done (add ++ more) ∙ ap (λ (z : ℕ). length g.done + z) (length-append add more)) in
    (length g.done + n, omega arith, rw (all, ← take_part g.done add more n short) (Appends-trans old now next g.done (take n add) g.holds part))

text_after : (cs : Text) (rest : List ℕ) → IsUtf8 (encode_utf8_all cs ++ rest) → IsUtf8 rest
text_after [] rest u = u
text_after (c ∷ cs) rest u = text_after cs rest (IsUtf8-past_char ((encode_utf8 c ++ encode_utf8_all cs) ++ rest) (encode_utf8_all cs ++ rest) c u (append_assoc (encode_utf8 c) (encode_utf8_all cs) rest))

-- what was appended to a text can be cut off again
pub may_cut : (old now more : List ℕ) → IsUtf8 old → IsUtf8 now → now ≡ old ++ more → IsSplitPoint now (length old)
may_cut old now more u v e =
    let seam : IsCharBoundary now (length old) = IsCharBoundary-at_seam now old more e (text_after (chars old) more (rw (encodes-chars old u, ← e) v)) in
    (seam.0, λ _. seam.1)
