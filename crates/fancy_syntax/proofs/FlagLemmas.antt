-- Letters of flags, as they are spelled and as they are read.
use Rattle.std.proofs.Common.{◌≡◌, ℕ, suc, ◌==◌, ◌&&◌, Bool, true, false, [], ◌∷◌, ◌++◌, Option, Some, None, refl, sym, ap, ◌∙◌, subst, append_assoc, length, drop, get_or, add-one, drop-cons, take, ◌+◌, ◌-◌, ◌<◌, ◌≤◌, arith, ◌⊎◌, inl, inr, cond}
use Rattle.std.proofs.lemmas.List.{drop_all, take_all, length-drop}
use Rattle.std.specs.Option.{option_map, option_and_then}
use Rattle.fancy_tree.specs.declared.tree.Meaning.{Meaning}
use Rattle.fancy_tree.specs.Text.{Text, ◌∈◌}
use Rattle.fancy_class.specs.Words.{is_at, begins}
use Rattle.fancy_syntax.specs.Dialect.{Flags, with_flag, FlagLetters, no_letter, letter, Setting, setting_on, setting_off}
use Rattle.fancy_syntax.specs.Grammar.{LettersRead, next_letter, flags_in, first_letter, mark_here}
use Rattle.fancy_tree.proofs.Facts.{some_is_none, some_pair, chosen, char_is}

abbrev pub reached : Flags → Bool → Bool → LettersRead
reached f on some = record { flags = f; on = on; some = some }

-- a character that no flag has is no letter
pub not_letter : (m : Meaning) (on : Bool) (f g : Flags) (d c : ℕ) → with_flag m on d f ≡ None → with_flag m on c f ≡ Some g → (d == c) ≡ false
not_letter m on f g d c none h = go (d == c) refl
  where
    go : (b : Bool) → (d == c) ≡ b → b ≡ false
    go true e = absurd (some_is_none (sym h ∙ (ap (λ x. with_flag m on x f) (char_is d c e) ∙ none)))
    go false e = refl

pub letter_step : (m : Meaning) (t : Text) (c : ℕ) (l next : LettersRead) → (c ∈ ":)") ≡ false → next_letter m c l ≡ Some next → flags_in m (c ∷ t) l ≡ flags_in m t next
unfolding flags_in
letter_step m t c l next e h = rw e (ap (option_and_then (λ n. flags_in m t n)) h)

pub letter_stop : (m : Meaning) (t : Text) (c : ℕ) (l : LettersRead) → (c ∈ ":)") ≡ true → l.some ≡ true → ◌≡◌ {A = Option (Flags × Text)} (flags_in m (c ∷ t) l) (Some (l.flags, c ∷ t))
unfolding flags_in
letter_stop m t c l e h = rw (e, h) refl

one_letter : (m : Meaning) (on some : Bool) (f g : Flags) (c : ℕ) (t : Text) → with_flag m on c f ≡ Some g → flags_in m (c ∷ t) (reached f on some) ≡ flags_in m t (reached g on true)
one_letter m on some f g c t h =
    let colon = not_letter m on f g 58 c refl h in
    let paren = not_letter m on f g 41 c refl h in
    let dash = not_letter m on f g 45 c refl h in
    letter_step m t c (reached f on some) (reached g on true) (rw (colon, paren) refl) (rw dash (ap (option_map (λ (x : Flags). reached x on true)) h))

-- letters that are spelled are read
more_read : {m : Meaning} {on : Bool} {t : Text} {f g : Flags} → FlagLetters m on t f g → (rest : Text) → flags_in m (t ++ rest) (reached f on true) ≡ flags_in m rest (reached g on true)
more_read no_letter rest = refl
more_read {m} {on} {f = f} (letter {t = t} {g = g} c h r) rest = one_letter m on true f g c (t ++ rest) h ∙ more_read r rest

some_read : {m : Meaning} {on : Bool} {t : Text} {f g : Flags} {c : ℕ} → FlagLetters m on (c ∷ t) f g → (rest : Text) → flags_in m (c ∷ (t ++ rest)) (reached f on false) ≡ flags_in m rest (reached g on true)
some_read {m} {on} {f = f} (letter {t = t} {g = g} c h r) rest = one_letter m on false f g c (t ++ rest) h ∙ more_read r rest

-- a dash, after letters or at once
dash_read : (m : Meaning) (f : Flags) (some : Bool) (t : Text) → flags_in m (45 ∷ t) (reached f true some) ≡ flags_in m t (reached f false false)
dash_read m f some t = letter_step m t 45 (reached f true some) (reached f false false) refl refl

on_read : {m : Meaning} {t : Text} {f g : Flags} → FlagLetters m true t f g → (rest : Text) → flags_in m (t ++ 45 ∷ rest) (reached f true false) ≡ flags_in m rest (reached g false false)
on_read {m} {f = f} no_letter rest = dash_read m f false rest
on_read {m} {f = f} (letter {t = t} {g = g} {h = h} c e r) rest = one_letter m true false f g c (t ++ 45 ∷ rest) e ∙ (more_read r (45 ∷ rest) ∙ dash_read m h true rest)

pub setting_is_read : {m : Meaning} {t : Text} {f g : Flags} → Setting m t f g → (d : ℕ) (rest : Text) → (d ∈ ":)") ≡ true → ◌≡◌ {A = Option (Flags × Text)} (flags_in m (t ++ d ∷ rest) (first_letter f)) (Some (g, d ∷ rest))
setting_is_read {m} {g = g} (setting_on c l) d rest h = some_read l (d ∷ rest) ∙ letter_stop m rest d (reached g true true) h refl
setting_is_read {m} {g = g} (setting_off {t = t} {u = u} c l k) d rest h =
    rw (append_assoc t (45 ∷ (c ∷ u)) (d ∷ rest)) (on_read l (c ∷ (u ++ d ∷ rest)) ∙ (some_read k (d ∷ rest) ∙ letter_stop m rest d (reached g false true) h refl))

-- the first letter is not this character
first_is_not : {m : Meaning} {t : Text} {f g : Flags} → Setting m t f g → (d : ℕ) → (d == 45) ≡ false → ((on : Bool) (x : Flags) → with_flag m on d x ≡ None) → (c : ℕ) × (u : Text) × ((t ≡ c ∷ u) × ((d == c) ≡ false))
first_is_not {m} {f = f} (setting_on {t = t} c (letter {g = g} _ h r)) d e none = (c, t, (refl, not_letter m true f g d c (none true f) h))
first_is_not {m} {f = f} (setting_off {t = t} {u = u} c l k) d e none = from_letters l
  where
    from_letters : {t : Text} {x : Flags} → FlagLetters m true t f x → (b : ℕ) × (v : Text) × ((t ++ (45 ∷ (c ∷ u)) ≡ b ∷ v) × ((d == b) ≡ false))
    from_letters no_letter = (45, c ∷ u, (refl, e))
    from_letters (letter {t = t} {g = g} b h r) = (b, t ++ (45 ∷ (c ∷ u)), (refl, not_letter m true f g d b (none true f) h))

pub no_colon_first : {m : Meaning} {t : Text} {f g : Flags} → Setting m t f g → (c : ℕ) × (u : Text) × ((t ≡ c ∷ u) × ((58 == c) ≡ false))
no_colon_first s = first_is_not s 58 refl (λ on x. refl)

pub no_angle_first : {m : Meaning} {t : Text} {f g : Flags} → Setting m t f g → (c : ℕ) × (u : Text) × ((t ≡ c ∷ u) × ((60 == c) ≡ false))
no_angle_first s = first_is_not s 60 refl (λ on x. refl)

pub no_p_first : {m : Meaning} {t : Text} {f g : Flags} → Setting m t f g → (c : ℕ) × (u : Text) × ((t ≡ c ∷ u) × ((80 == c) ≡ false))
no_p_first s = first_is_not s 80 refl (λ on x. refl)

-- the first letter makes no mark of a group
pub no_mark_first : {m : Meaning} {t : Text} {f g : Flags} → Setting m t f g → (rest : Text) → mark_here (40 ∷ 63 ∷ (t ++ rest)) ≡ None
no_mark_first {t = t} s rest =
    let a = first_is_not s 62 refl (λ on x. refl) in
    let b = first_is_not s 61 refl (λ on x. refl) in
    let c = first_is_not s 33 refl (λ on x. refl) in
    let d = first_is_not s 60 refl (λ on x. refl) in
    let atomic : begins "(?>" (40 ∷ 63 ∷ (t ++ rest)) ≡ false = rw a.2.0 (rw a.2.1 refl) in
    let ahead : begins "(?=" (40 ∷ 63 ∷ (t ++ rest)) ≡ false = rw b.2.0 (rw b.2.1 refl) in
    let not_ahead : begins "(?!" (40 ∷ 63 ∷ (t ++ rest)) ≡ false = rw c.2.0 (rw c.2.1 refl) in
    let behind : begins "(?<=" (40 ∷ 63 ∷ (t ++ rest)) ≡ false = rw d.2.0 (rw d.2.1 refl) in
    let not_behind : begins "(?<!" (40 ∷ 63 ∷ (t ++ rest)) ≡ false = rw d.2.0 (rw d.2.1 refl) in
    rw (atomic, ahead, not_ahead, behind, not_behind) refl

pub no_parenthesis_first : {m : Meaning} {t : Text} {f g : Flags} → Setting m t f g → (c : ℕ) × (u : Text) × ((t ≡ c ∷ u) × ((40 == c) ≡ false))
no_parenthesis_first s = first_is_not s 40 refl (λ on x. refl)

pub no_hash_first : {m : Meaning} {t : Text} {f g : Flags} → Setting m t f g → (c : ℕ) × (u : Text) × ((t ≡ c ∷ u) × ((35 == c) ≡ false))
no_hash_first s = first_is_not s 35 refl (λ on x. refl)

-- letters that are read are spelled: those that are cleared
record Cleared (m : Meaning) (text : Text) (f : Flags) (some : Bool) (g : Flags) (rest : Text) : Type 0 where
  letters : Text
  is : text ≡ letters ++ rest
  spelled : FlagLetters m false letters f g
  enough : (some ≡ true) ⊎ ((c : ℕ) × (t : Text) × (letters ≡ c ∷ t))
  ends : is_at ":)" rest ≡ true

-- those that are set, with what follows a dash
data Switched (m : Meaning) (text : Text) (f : Flags) (some : Bool) (g : Flags) (rest : Text) : Type 0 where
  only_set : (t : Text) → text ≡ t ++ rest → FlagLetters m true t f g → (some ≡ true) ⊎ ((c : ℕ) × (u : Text) × (t ≡ c ∷ u)) → is_at ":)" rest ≡ true → Switched m text f some g rest
  then_cleared : (t : Text) (h : Flags) (u : Text) → text ≡ t ++ 45 ∷ u → FlagLetters m true t f h → Cleared m u h false g rest → Switched m text f some g rest

cleared : (m : Meaning) (text : Text) (f : Flags) (some : Bool) (g : Flags) (rest : Text) → ◌≡◌ {A = Option (Flags × Text)} (flags_in m text (reached f false some)) (Some (g, rest)) → Cleared m text f some g rest
unfolding flags_in
cleared m [] f some g rest h = absurd (some_is_none (sym h))
cleared m (c ∷ t) f some g rest h =
    elim (chosen (c ∈ ":)") _ _ _ h) [
      | inl x ↦ elim (chosen some _ _ _ x.1) [
        | inl y ↦ (let s = some_pair y.1 in record { letters = []; is = s.1; spelled = subst (λ z. FlagLetters m false [] f z) s.0 no_letter; enough = inl y.0; ends = ap (is_at ":)") (sym s.1) ∙ x.0 })
        | inr y ↦ absurd (some_is_none (sym y.1))
      ]
      | inr x ↦ further (45 == c) (with_flag m false c f) refl x.1 (λ n e. cleared m t n true g rest e)
    ]
  where
    further : (b : Bool) (o : Option Flags) → with_flag m false c f ≡ o
        → ◌≡◌ {A = Option (Flags × Text)} (option_and_then (λ n. flags_in m t n) (cond (b && false) (Some (reached f false false)) (option_map (λ (x : Flags). reached x false true) o))) (Some (g, rest))
        → ((n : Flags) → ◌≡◌ {A = Option (Flags × Text)} (flags_in m t (reached n false true)) (Some (g, rest)) → Cleared m t n true g rest) → Cleared m (c ∷ t) f some g rest
    further true None e h on = absurd (some_is_none (sym h))
    further false None e h on = absurd (some_is_none (sym h))
    further true (Some n) e h on = let r = on n h in record { letters = c ∷ r.letters; is = ap (λ l. c ∷ l) r.is; spelled = letter c e r.spelled; enough = inr (c, r.letters, refl); ends = r.ends }
    further false (Some n) e h on = let r = on n h in record { letters = c ∷ r.letters; is = ap (λ l. c ∷ l) r.is; spelled = letter c e r.spelled; enough = inr (c, r.letters, refl); ends = r.ends }

switched : (m : Meaning) (text : Text) (f : Flags) (some : Bool) (g : Flags) (rest : Text) → ◌≡◌ {A = Option (Flags × Text)} (flags_in m text (reached f true some)) (Some (g, rest)) → Switched m text f some g rest
unfolding flags_in
switched m [] f some g rest h = absurd (some_is_none (sym h))
switched m (c ∷ t) f some g rest h =
    elim (chosen (c ∈ ":)") _ _ _ h) [
      | inl x ↦ elim (chosen some _ _ _ x.1) [
        | inl y ↦ (let s = some_pair y.1 in only_set [] s.1 (subst (λ z. FlagLetters m true [] f z) s.0 no_letter) (inl y.0) (ap (is_at ":)") (sym s.1) ∙ x.0))
        | inr y ↦ absurd (some_is_none (sym y.1))
      ]
      | inr x ↦ further (45 == c) (with_flag m true c f) refl refl x.1 (λ n e. switched m t n true g rest e)
    ]
  where
    longer : {n : Flags} → with_flag m true c f ≡ Some n → Switched m t n true g rest → Switched m (c ∷ t) f some g rest
    longer e (only_set u is l s d) = only_set (c ∷ u) (ap (λ v. c ∷ v) is) (letter c e l) (inr (c, u, refl)) d
    longer e (then_cleared u h v is l r) = then_cleared (c ∷ u) h v (ap (λ w. c ∷ w) is) (letter c e l) r

    further : (b : Bool) (o : Option Flags) → (45 == c) ≡ b → with_flag m true c f ≡ o
        → ◌≡◌ {A = Option (Flags × Text)} (option_and_then (λ n. flags_in m t n) (cond (b && true) (Some (reached f false false)) (option_map (λ (x : Flags). reached x true true) o))) (Some (g, rest))
        → ((n : Flags) → ◌≡◌ {A = Option (Flags × Text)} (flags_in m t (reached n true true)) (Some (g, rest)) → Switched m t n true g rest) → Switched m (c ∷ t) f some g rest
    further true o d e h on = then_cleared [] f t (ap (λ b. b ∷ t) (char_is 45 c d)) no_letter (cleared m t f false g rest h)
    further false None d e h on = absurd (some_is_none (sym h))
    further false (Some n) d e h on = longer e (on n h)

pub record IsSetting (m : Meaning) (text : Text) (f g : Flags) (rest : Text) : Type 0 where
  pub letters : Text
  pub is : text ≡ letters ++ rest
  pub spelled : Setting m letters f g
  pub ends : is_at ":)" rest ≡ true

false_is_true : false ≡ true → ⊥
false_is_true h = cc

pub setting_spelled : (m : Meaning) (text : Text) (f g : Flags) (rest : Text) → ◌≡◌ {A = Option (Flags × Text)} (flags_in m text (first_letter f)) (Some (g, rest)) → IsSetting m text f g rest
setting_spelled m text f g rest h = of_switched (switched m text f false g rest h)
  where
    of_switched : Switched m text f false g rest → IsSetting m text f g rest
    of_switched (only_set t is l s d) = elim s [
      | inl x ↦ absurd (false_is_true x)
      | inr x ↦ record { letters = t; is = is; spelled = subst (λ v. Setting m v f g) (sym x.2) (setting_on x.0 (subst (λ v. FlagLetters m true v f g) x.2 l)); ends = d }
    ]
    of_switched (then_cleared t h u is l r) = elim r.enough [
      | inl x ↦ absurd (false_is_true x)
      | inr x ↦ record {
        letters = t ++ (45 ∷ r.letters);
        is = is ∙ (ap (λ v. t ++ 45 ∷ v) r.is ∙ sym (append_assoc t (45 ∷ r.letters) rest));
        spelled = subst (λ v. Setting m (t ++ (45 ∷ v)) f g) (sym x.2) (setting_off x.0 l (subst (λ v. FlagLetters m false v h g) x.2 r.spelled));
        ends = r.ends;
      }
    ]

-- the places that a loop reaches
module _ (m : Meaning) (t : Text) (i d c : ℕ) (l : LettersRead) (below : i < length t) (is : c ≡ get_or t i d) where
  here_is : drop i t ≡ c ∷ drop (suc i) t
  here_is = drop-cons t i d below ∙ ap (λ x. x ∷ drop (suc i) t) (sym is)

  pub stops_here : (c ∈ ":)") ≡ true → l.some ≡ true → ◌≡◌ {A = Option (Flags × Text)} (flags_in m (drop i t) l) (Some (l.flags, drop i t))
  stops_here e h = rw here_is (letter_stop m (drop (suc i) t) c l e h)

  pub stops_early : (c ∈ ":)") ≡ true → l.some ≡ false → flags_in m (drop i t) l ≡ None
  unfolding flags_in
  stops_early e h = rw here_is (rw (e, h) refl)

  pub no_letter_here : (c ∈ ":)") ≡ false → next_letter m c l ≡ None → flags_in m (drop i t) l ≡ None
  unfolding flags_in
  no_letter_here e h = rw here_is (rw e (ap (option_and_then (λ n. flags_in m (drop (suc i) t) n)) h))

  pub letter_here : (next : LettersRead) → (c ∈ ":)") ≡ false → next_letter m c l ≡ Some next → flags_in m (drop i t) l ≡ flags_in m (drop (i + 1) t) next
  letter_here next e h = rw (here_is, add-one) (letter_step m (drop (suc i) t) c l next e h)

pub all_the_rest : (t : Text) (i : ℕ) → take (length t - i) (drop i t) ≡ drop i t
all_the_rest t i = take_all (length t - i) (drop i t) (omega (arith, length-drop i t))

pub no_end_here : (m : Meaning) (t : Text) (i : ℕ) (l : LettersRead) → length t ≤ i → flags_in m (drop i t) l ≡ None
unfolding flags_in
no_end_here m t i l h = ap (λ u. flags_in m u l) (drop_all i t h)
