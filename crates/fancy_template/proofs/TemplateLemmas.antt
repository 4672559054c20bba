-- Lemmas on the steps of a template.
use Rattle.std.proofs.Common.{arith, ℕ, zero, suc, ◌<◌, ◌≤◌, ◌≡◌, ◌≢◌, ◌==◌, Bool, true, false, List, [], ◌∷◌, Option, None, Some, length, drop, refl, sym, ◌∙◌, ap, subst, option_map, eqb-true, ne_eqb, length-drop}
use Rattle.std.proofs.lemmas.Grind.{common_steps}
use Rattle.fancy_tree.specs.Text.{Text}
use Rattle.fancy_template.specs.Templates.{TemplateSyntax, Step, literal, error, Form, form, cut, steps, Cuts, done, literal_character, formed, faulty}
use Rattle.fancy_template.specs.Expanders.{form_in, with_mark_if}

cut_skips : (s : TemplateSyntax) (n : ℕ) (t : Text) → cut s n t ≡ cut s 0 (drop n t)
cut_skips s zero t = refl
cut_skips s (suc n) [] = refl
cut_skips s (suc n) (c ∷ t) = cut_skips s n t

same_mark : (m : ℕ) → (m == m) ≡ true
same_mark m = grind (arith, common_steps)

-- how a template begins decides its first steps
pub steps_plain : (s : TemplateSyntax) (c : ℕ) (t : Text) → (c == s.mark) ≡ false → steps s (c ∷ t) ≡ literal c ∷ steps s t
unfolding steps
steps_plain s c t e = rw e refl

pub steps_formed : (s : TemplateSyntax) (f : Form) (t : Text) → form s t ≡ Some f → steps s (s.mark ∷ t) ≡ f.step ∷ steps s (drop f.width t)
unfolding steps
steps_formed s f t e = rw (same_mark s.mark, e) (ap (λ (z : List Step). f.step ∷ z) (cut_skips s f.width t))

pub steps_faulty : (s : TemplateSyntax) (t : Text) → form s t ≡ None → steps s (s.mark ∷ t) ≡ error ∷ (literal s.mark ∷ steps s t)
unfolding steps
steps_faulty s t e = rw (same_mark s.mark, e) refl

-- the same of a form that was read
read_as : (s : TemplateSyntax) (t : Text) (o : Option Form) (x : Step × Text) → form s t ≡ o → option_map (form_in t) o ≡ Some x → steps s (s.mark ∷ t) ≡ x.0 ∷ steps s x.1
read_as s t None x e h = cc
read_as s t (Some f) x e h =
    let k : (f.step, drop f.width t) ≡ x = cc in
    subst (λ (z : Step × Text). steps s (s.mark ∷ t) ≡ z.0 ∷ steps s z.1) k (steps_formed s f t e)

pub read_forms : (s : TemplateSyntax) (t : Text) (x : Step × Text) → option_map (form_in t) (form s t) ≡ Some x → steps s (s.mark ∷ t) ≡ x.0 ∷ steps s x.1
read_forms s t x h = read_as s t (form s t) x refl h

none_as : (s : TemplateSyntax) (t : Text) (o : Option Form) → form s t ≡ o → option_map (form_in t) o ≡ None → steps s (s.mark ∷ t) ≡ error ∷ (literal s.mark ∷ steps s t)
none_as s t None e h = steps_faulty s t e
none_as s t (Some f) e h = absurd (cc)

pub read_none : (s : TemplateSyntax) (t : Text) → option_map (form_in t) (form s t) ≡ None → steps s (s.mark ∷ t) ≡ error ∷ (literal s.mark ∷ steps s t)
read_none s t h = none_as s t (form s t) refl h

-- a template has one cutting
pub cuts_steps : (s : TemplateSyntax) (t : Text) (xs : List Step) → Cuts s t xs → xs ≡ steps s t
unfolding steps
cuts_steps s t xs done = refl
cuts_steps s t xs (literal_character c u rest e r) = ap (λ (z : List Step). literal c ∷ z) (cuts_steps s u rest r) ∙ sym (steps_plain s c u e)
cuts_steps s t xs (formed f u rest e r) = ap (λ (z : List Step). f.step ∷ z) (cuts_steps s (drop f.width u) rest r) ∙ sym (steps_formed s f u e)
cuts_steps s t xs (faulty u rest e r) = ap (λ (z : List Step). error ∷ (literal s.mark ∷ z)) (cuts_steps s u rest r) ∙ sym (steps_faulty s u e)

-- the steps that are left, by what was read of the text that is left
module _ (s : TemplateSyntax) (o : Bool) (t : Text) (none_owed : o ≡ false) where
  pub left_none : t ≡ [] → with_mark_if o s.mark (steps s t) ≡ []
  unfolding steps
  left_none e = rw (none_owed, e) refl

  pub left_plain : (c : ℕ) (u : Text) → t ≡ c ∷ u → c ≢ s.mark → with_mark_if o s.mark (steps s t) ≡ literal c ∷ with_mark_if o s.mark (steps s u)
  left_plain c u e n = rw (none_owed, e) (steps_plain s c u (ne_eqb c s.mark n))

  pub left_formed : (c : ℕ) (u : Text) (x : Step × Text) → t ≡ c ∷ u → c ≡ s.mark → Some x ≡ option_map (form_in u) (form s u) → with_mark_if o s.mark (steps s t) ≡ x.0 ∷ with_mark_if o s.mark (steps s x.1)
  left_formed c u x e m h = rw (none_owed, e, m) (read_forms s u x (sym h))

  pub left_faulty : (c : ℕ) (u : Text) → t ≡ c ∷ u → c ≡ s.mark → None ≡ option_map (form_in u) (form s u) → with_mark_if o s.mark (steps s t) ≡ error ∷ with_mark_if true s.mark (steps s u)
  left_faulty c u e m h = rw (none_owed, e, m) (read_none s u (sym h))

pub one_fewer : (xs ys : List Step) (x : Step) → xs ≡ x ∷ ys → length ys < length xs
one_fewer xs ys x e = rw e (omega arith)

nothing_cut : (s : TemplateSyntax) → Cuts s [] (steps s [])
unfolding steps
nothing_cut s = done

cuts_next : (s : TemplateSyntax) (c : ℕ) (t : Text) (b : Bool) → (c == s.mark) ≡ b → (o : Option Form) → form s t ≡ o → ((u : Text) → length u ≤ length t → Cuts s u (steps s u)) → Cuts s (c ∷ t) (steps s (c ∷ t))
cuts_next s c t false e o f later = rw (steps_plain s c t e) (literal_character c t (steps s t) e (later t (omega arith)))
cuts_next s c t true e None f later = rw (eqb-true c s.mark e, steps_faulty s t f) (faulty t (steps s t) f (later t (omega arith)))
cuts_next s c t true e (Some g) f later = rw (eqb-true c s.mark e, steps_formed s g t f) (formed g t (steps s (drop g.width t)) f (later (drop g.width t) (omega (arith, length-drop g.width t))))

-- every template has a cutting: by its length
cuts_within : (n : ℕ) (s : TemplateSyntax) (t : Text) → length t ≤ n → Cuts s t (steps s t)
cuts_within n s [] h = nothing_cut s
cuts_within zero s (c ∷ t) h = absurd (omega arith)
cuts_within (suc n) s (c ∷ t) h = cuts_next s c t (c == s.mark) refl (form s t) refl (λ (u : Text) (k : length u ≤ length t). cuts_within n s u (omega arith))

pub cuts_all : (s : TemplateSyntax) (t : Text) → Cuts s t (steps s t)
cuts_all s t = cuts_within (length t) s t (omega arith)
