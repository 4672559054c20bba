-- A text that is spelled where groups without a name capture nothing, is spelled also where they capture; and under options a text has at most one pattern.
use Rattle.std.proofs.Common.{◌≡◌, ℕ, ◌+◌, Bool, true, false, not, ◌&&◌, List, [], ◌∷◌, ◌++◌, length, Option, Some, None, codes, refl, sym, ap, ◌∙◌, subst}
use Rattle.fancy_syntax.specs.declared.groups.Grouping.{Grouping}
use Rattle.fancy_syntax.specs.declared.groups.Grouping.TheVariants.{Atomic, LookAhead, LookBehind}
use Rattle.fancy_tree.specs.Pattern.{Pattern, backreference, group_test, group, repeat, in_sequence, in_branches}
use Rattle.fancy_tree.specs.Sizes.{is_empty}
use Rattle.fancy_tree.specs.Text.{Text}
use Rattle.fancy_syntax.specs.Dialect.{Scope, DialectOptions, begin, has_name, lexeme, ReadsAtom, by_lexeme, by_class, with_part, Branches, one, either, Parts, nothing, item, Item, set, bare, quantified, Atom, single, plain, flagged, capture, unnamed, named, marked, reference, reference_by_name, tested, decided, conditional_of, inside, group_of, Spells, SpellsUnder}
use Rattle.fancy_syntax.specs.References.{Target, called}
use Rattle.fancy_tree.proofs.Facts.{true_is_false}
use Rattle.fancy_syntax.proofs.UniqueLemmas.{one_pattern, one_end}
use Rattle.fancy_syntax.proofs.ReferenceLemmas.{reference_any}

abbrev Names : Type 0
Names = List (Text × ℕ)

-- what was opened and written before a place: how many groups, which of them have names, and what the references name
record Before : Type 0 where
  opened : ℕ
  names : Names
  wanted : List Target

-- the same scope, but that groups without a name capture, and that this stands before it
abbrev capturing : Before → Scope → Scope
capturing b s = record s { unnamed_capture = true; opened = b.opened; names = b.names; wanted = b.wanted }

abbrev nothing_before : Before
nothing_before = record { opened = 0; names = []; wanted = [] }

abbrev one_more : Before → Before
one_more b = record b { opened = b.opened + 1 }

-- what is no group does not ask for groups
same_lexeme : (f : Before) (s : Scope) (t : Text) → lexeme (capturing f s) t ≡ lexeme s t
same_lexeme f s [] = refl
same_lexeme f s (c ∷ []) = refl
same_lexeme f s (c ∷ d ∷ t) = refl

same_atom : (f : Before) {s : Scope} {t u : Text} {a : Pattern} → ReadsAtom s t a u → ReadsAtom (capturing f s) t a u
same_atom f {s} {t} (by_lexeme h m) = by_lexeme (same_lexeme f s t ∙ h) m
same_atom f (by_class h m) = by_class h m

-- The second pattern is empty only where the first is: a group that captures is not.
record IsFuller (p q : Pattern) : Type 0 where
  empty : is_empty q ≡ true → is_empty p ≡ true

data AreFuller : List Pattern → List Pattern → Type 0 where
  no_more : AreFuller [] []
  one_more_pattern : {p q : Pattern} {ps qs : List Pattern} → IsFuller p q → AreFuller ps qs → AreFuller (p ∷ ps) (q ∷ qs)

data IsFullerPart : Option Pattern → Option Pattern → Type 0 where
  no_part : IsFullerPart None None
  a_part : {p q : Pattern} → IsFuller p q → IsFullerPart (Some p) (Some q)

fuller_sequence : {ps qs : List Pattern} → AreFuller ps qs → IsFuller (in_sequence ps) (in_sequence qs)
fuller_sequence no_more = record { empty = λ h. refl }
fuller_sequence (one_more_pattern f no_more) = f
fuller_sequence (one_more_pattern f (one_more_pattern g rest)) = record { empty = λ h. h }

fuller_branches : {ps qs : List Pattern} → AreFuller ps qs → IsFuller (in_branches ps) (in_branches qs)
fuller_branches no_more = record { empty = λ h. refl }
fuller_branches (one_more_pattern f no_more) = f
fuller_branches (one_more_pattern f (one_more_pattern g no_more)) = record { empty = λ h. h }
fuller_branches (one_more_pattern f (one_more_pattern g (one_more_pattern h rest))) = record { empty = λ x. x }

fuller_parts : {x y : Option Pattern} {ps qs : List Pattern} → IsFullerPart x y → AreFuller ps qs → AreFuller (with_part x ps) (with_part y qs)
fuller_parts no_part rest = rest
fuller_parts (a_part f) rest = one_more_pattern f rest

never_empty : {p q : Pattern} → is_empty q ≡ false → IsFuller p q
never_empty e = record { empty = λ h. absurd (true_is_false (sym h ∙ e)) }

not_empty : (p q : Pattern) → IsFuller p q → is_empty p ≡ false → is_empty q ≡ false
not_empty p q f h = go (is_empty q) refl
  where
    go : (b : Bool) → is_empty q ≡ b → b ≡ false
    go false e = refl
    go true e = absurd (true_is_false (sym (f.empty e) ∙ h))

has_name-append : (names : Names) (g : Text × ℕ) → has_name (names ++ (g ∷ [])) ≡ true
has_name-append [] g = refl
has_name-append (f ∷ names) g = refl

-- a mark says the same
same_inside : (how : Grouping) (f : Before) (s : Scope) → capturing f (inside how s) ≡ inside how (capturing f s)
same_inside Atomic f s = refl
same_inside (LookAhead negated) f s = refl
same_inside (LookBehind negated) f s = refl

same_names : (how : Grouping) (s : Scope) → (inside how s).names ≡ s.names
same_names Atomic s = refl
same_names (LookAhead negated) s = refl
same_names (LookBehind negated) s = refl

fuller_marked : (how : Grouping) (p q : Pattern) → IsFuller (group_of how p) (group_of how q)
fuller_marked Atomic p q = never_empty refl
fuller_marked (LookAhead negated) p q = never_empty refl
fuller_marked (LookBehind negated) p q = never_empty refl

fuller_chosen : (c d : Pattern) (ps qs : List Pattern) → IsFuller (conditional_of c ps) (conditional_of d qs)
fuller_chosen c d ps [] = never_empty refl
fuller_chosen c d ps (q ∷ qs) = never_empty refl

-- What is spelled from s to r is spelled so where groups without a name capture: something fuller, with names where there were some.
record Captures {T : Type 0} (Fuller : T → T → Type 0) (Spelled : Scope → T → Scope → Type 0) (before : Before) (s : Scope) (x : T) (r : Scope) : Type 0 where
  after : Before
  found : T
  fuller : Fuller x found
  spelled : Spelled (capturing before s) found (capturing after r)
  named : has_name before.names ≡ has_name s.names → has_name after.names ≡ has_name r.names

mutual
  capture_branches : {k : ℕ} {s r : Scope} {t after : Text} {bs : List Pattern} → Branches k s t after bs r → (f : Before) → Captures AreFuller (λ q cs e. Branches k q t after cs e) f s bs r
  capture_branches (one p) f =
      let x = capture_parts p f in
      record { after = x.after; found = in_sequence x.found ∷ []; fuller = one_more_pattern (fuller_sequence x.fuller) no_more; spelled = one x.spelled; named = x.named }
  capture_branches (either p b) f =
      let x = capture_parts p f in
      let y = capture_branches b x.after in
      record {
        after = y.after;
        found = in_sequence x.found ∷ y.found;
        fuller = one_more_pattern (fuller_sequence x.fuller) y.fuller;
        spelled = either x.spelled y.spelled;
        named = λ h. y.named (x.named h);
      }

  capture_parts : {k : ℕ} {s r : Scope} {t after : Text} {ps : List Pattern} → Parts k s t after ps r → (f : Before) → Captures AreFuller (λ q us e. Parts k q t after us e) f s ps r
  capture_parts (nothing b) f = record { after = f; found = []; fuller = no_more; spelled = nothing b; named = λ h. h }
  capture_parts (item b i p) f =
      let x = capture_item i f in
      let y = capture_parts p x.after in
      record { after = y.after; found = with_part x.found y.found; fuller = fuller_parts x.fuller y.fuller; spelled = item b x.spelled y.spelled; named = λ h. y.named (x.named h) }

  capture_item : {k : ℕ} {s r : Scope} {t after : Text} {i : Option Pattern} → Item k s t after i r → (f : Before) → Captures IsFullerPart (λ q j e. Item k q t after j e) f s i r
  capture_item (set g) f = record { after = f; found = None; fuller = no_part; spelled = set g; named = λ h. h }
  capture_item (bare a u) f =
      let x = capture_atom a f in
      record { after = x.after; found = Some x.found; fuller = a_part x.fuller; spelled = bare x.spelled u; named = x.named }
  capture_item (quantified {low = low} {high = high} {kind = kind} {a = a} b e c q) f =
      let x = capture_atom b f in
      record {
        after = x.after;
        found = Some (repeat low high kind x.found);
        fuller = a_part (never_empty refl);
        spelled = quantified x.spelled (not_empty a x.found x.fuller e) c q;
        named = x.named;
      }

  capture_atom : {k : ℕ} {s r : Scope} {t after : Text} {a : Pattern} → Atom k s t after a r → (f : Before) → Captures IsFuller (λ q b e. Atom k q t after b e) f s a r
  capture_atom (single {a = a} b h) f = record { after = f; found = a; fuller = record { empty = λ e. e }; spelled = single b (same_atom f h); named = λ e. e }
  capture_atom (plain b) f =
      let x = capture_branches b f in
      record { after = x.after; found = in_branches x.found; fuller = fuller_branches x.fuller; spelled = plain x.spelled; named = x.named }
  capture_atom (flagged g b) f =
      let x = capture_branches b f in
      record { after = x.after; found = in_branches x.found; fuller = fuller_branches x.fuller; spelled = flagged g x.spelled; named = x.named }
  capture_atom (capture u h b) f =
      let x = capture_branches b (one_more f) in
      record { after = x.after; found = group (f.opened + 1) (in_branches x.found); fuller = never_empty refl; spelled = capture refl h x.spelled; named = x.named }
  capture_atom (unnamed u h b) f =
      let x = capture_branches b (one_more f) in
      record { after = x.after; found = group (f.opened + 1) (in_branches x.found); fuller = never_empty refl; spelled = capture refl h x.spelled; named = x.named }
  capture_atom (named {s = s} name m h b) f =
      let x = capture_branches b (record f { opened = f.opened + 1; names = f.names ++ ((name, f.opened + 1) ∷ []) }) in
      record {
        after = x.after;
        found = group (f.opened + 1) (in_branches x.found);
        fuller = never_empty refl;
        spelled = named name m h x.spelled;
        named = λ e. x.named (has_name-append f.names (name, f.opened + 1) ∙ sym (has_name-append s.names (name, s.opened + 1)));
      }
  capture_atom (marked {k = k} {s = s} {q = q} {t = t} {after = after} {how = how} {bs = bs} m b) f =
      let x = capture_branches b f in
      record {
        after = x.after;
        found = group_of how (in_branches x.found);
        fuller = fuller_marked how (in_branches bs) (in_branches x.found);
        spelled = marked m (subst (λ z. Branches k z t (codes ")" ++ after) x.found (capturing x.after q)) (same_inside how f s) x.spelled);
        named = λ e. x.named (e ∙ ap has_name (sym (same_names how s)));
      }
  capture_atom (reference {s = s} {t = t} {after = after} h) f =
      let w = reference_any s.opened f.opened (t ++ after) h in
      record { after = record f { wanted = f.wanted ++ (w.0 ∷ []) }; found = backreference s.flags.ignore_case (length f.wanted); fuller = never_empty refl; spelled = reference w.1; named = λ e. e }
  capture_atom (tested {s = s} {w = w} {bs = bs} c h b) f =
      let x = capture_branches b (record f { wanted = f.wanted ++ (w ∷ []) }) in
      record { after = x.after; found = conditional_of (group_test (length f.wanted)) x.found; fuller = fuller_chosen (group_test (length s.wanted)) (group_test (length f.wanted)) bs x.found; spelled = tested c h x.spelled; named = x.named }
  capture_atom (decided {cs = cs} {bs = bs} c h g a b) f =
      let x = capture_branches a f in
      let y = capture_branches b x.after in
      record {
        after = y.after;
        found = conditional_of (in_branches x.found) y.found;
        fuller = fuller_chosen (in_branches cs) (in_branches x.found) bs y.found;
        spelled = decided c h g x.spelled y.spelled;
        named = λ e. y.named (x.named e);
      }
  capture_atom (reference_by_name {s = s} n h) f =
      record { after = record f { wanted = f.wanted ++ (called n ∷ []) }; found = backreference s.flags.ignore_case (length f.wanted); fuller = never_empty refl; spelled = reference_by_name n h; named = λ e. e }

-- what is spelled where groups without a name capture nothing, is spelled where they capture, with names where there were some
pub record Capturing (o : DialectOptions) (text : Text) (end : Scope) : Type 0 where
  pub pattern : Pattern
  pub inside : Scope
  pub spelled : Spells (begin true o) text pattern inside
  pub named : has_name inside.names ≡ has_name end.names

pub spelled_capturing : (b : Bool) (o : DialectOptions) {text : Text} {p : Pattern} {end : Scope} → Spells (begin b o) text p end → Capturing o text end
spelled_capturing b o {end = end} x =
    let y = capture_branches x.spelled nothing_before in
    record { pattern = in_branches y.found; inside = capturing y.after end; spelled = record { branches = y.found; is = refl; spelled = y.spelled }; named = y.named refl }

-- a text that is not spelled where groups without a name capture, is spelled under no options
pub none_under : {o : DialectOptions} {text : Text} → ((p : Pattern) (end : Scope) → Spells (begin true o) text p end → ⊥) → (p : Pattern) (end : Scope) → SpellsUnder o text p end → ⊥
none_under {o} none p end x = let y = spelled_capturing x.unnamed o x.spelled in none y.pattern y.inside y.spelled

-- the options settle whether groups without a name capture, by the names that are found where they do
pub settled_by : {o : DialectOptions} {text : Text} {p q : Pattern} {e f : Scope} → Spells (begin true o) text q f → (x : SpellsUnder o text p e) → x.unnamed ≡ not (o.only_named && has_name f.names)
settled_by {o} {text} {q = q} {f = f} y x =
    let z = spelled_capturing x.unnamed o x.spelled in
    let same : f ≡ z.inside = one_end (begin true o) text q z.pattern f z.inside y z.spelled in
    x.settled ∙ ap (λ b. not (o.only_named && b)) (sym z.named ∙ ap (λ (s : Scope). has_name s.names) (sym same))

-- what is spelled as the names settle, is spelled under the options
pub settles : {o : DialectOptions} {text : Text} {p q : Pattern} {e f : Scope} (b : Bool) → Spells (begin true o) text q f → b ≡ not (o.only_named && has_name f.names) → Spells (begin b o) text p e → SpellsUnder o text p e
settles {o} {text} {q = q} {e = e} {f = f} b y h x =
    let z = spelled_capturing b o x in
    let same : f ≡ z.inside = one_end (begin true o) text q z.pattern f z.inside y z.spelled in
    record { unnamed = b; spelled = x; settled = h ∙ ap (λ n. not (o.only_named && n)) (ap (λ (s : Scope). has_name s.names) same ∙ z.named) }

pub none_settled : {o : DialectOptions} {text : Text} {q : Pattern} {f : Scope} (b : Bool) → Spells (begin true o) text q f → b ≡ not (o.only_named && has_name f.names)
    → ((p : Pattern) (end : Scope) → Spells (begin b o) text p end → ⊥) → (p : Pattern) (end : Scope) → SpellsUnder o text p end → ⊥
none_settled {o} {text} b y h none p end x = none p end (subst (λ c. Spells (begin c o) text p end) (settled_by y x ∙ sym h) x.spelled)

same_unnamed : {o : DialectOptions} {text : Text} {p q : Pattern} {e f : Scope} → SpellsUnder o text q f → (x : SpellsUnder o text p e) → Spells (begin x.unnamed o) text q f
same_unnamed {o} {text} {q = q} {f = f} y x =
    let z = spelled_capturing y.unnamed o y.spelled in
    let same : y.unnamed ≡ x.unnamed = settled_by z.spelled y ∙ sym (settled_by z.spelled x) in
    subst (λ b. Spells (begin b o) text q f) same y.spelled

pub one_under : {o : DialectOptions} {text : Text} {p q : Pattern} {e f : Scope} → SpellsUnder o text p e → SpellsUnder o text q f → p ≡ q
one_under {o} {text} {p} {q} {e} {f} x y = one_pattern (begin x.unnamed o) text p q e f x.spelled (same_unnamed y x)

-- and ends in one way
pub one_end_under : {o : DialectOptions} {text : Text} {p q : Pattern} {e f : Scope} → SpellsUnder o text p e → SpellsUnder o text q f → e ≡ f
one_end_under {o} {text} {p} {q} {e} {f} x y = one_end (begin x.unnamed o) text p q e f x.spelled (same_unnamed y x)
