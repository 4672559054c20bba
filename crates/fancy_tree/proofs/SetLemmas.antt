-- Lemmas on results that are sets.
use Rattle.std.proofs.Common.{if◌then◌else◌, ◌≡◌, ◌⊎◌, ◌↔◌, inl, inr, ℕ, ◌<◌, ◌≤◌, ◌==◌, Bool, true, false, ◌&&◌, ◌||◌, nat_le, List, [], ◌∷◌, length, get_or, refl, sym, ap, ap₂, ◌∙◌, arith, Result, Ok, Err, IfOk, subst, leb-true, eqb-true, suc, zero, zero-lt-suc, suc-le-suc, le_of_suc-le-suc, not-suc-le-zero, Contains}
use Rattle.ucd_case.specs.FoldOtherRows.{fold_other_rows}
use Rattle.ucd_case.specs.CaseFolding.{fold_pairs, IsFoldPairs}
use Rattle.fancy_tree.specs.Widening.{in_pairs, pairs_to, ascii_pairs, SharesFolding}
use Rattle.std.specs.List.{list_all}
use Rattle.std.proofs.lemmas.Bool.{cases_Bool, and_parts, cases_eq}
use Rattle.std.proofs.lemmas.Bool.Decides.{nat_tests}
use Rattle.unicode.specs.Rows.{in_ranges, HasExactly}
use Rattle.fancy_tree.specs.Named.{in_universe, ascii_ranges}
use Rattle.fancy_tree.specs.declared.tree.Meaning.TheVariants.{Unicode}
use Rattle.fancy_tree.specs.Sets.{in_range}
use Rattle.fancy_tree.specs.declared.named.Named.{Named}
use Rattle.fancy_tree.specs.declared.named.Named.TheVariants.{Digit, Word, Space, Hexadecimal, Alphanumeric, Alphabetic, Ascii, Blank, Control, Graphic, Lowercase, Printable, Punctuation, AsciiSpace, Uppercase, AsciiWord, AsciiDigit}
use Rattle.fancy_tree.specs.Members.{members}
use Rattle.fancy_tree.specs.declared.set.Set.{Set}

pub same_set : {E : Type 0} (r : Result Set E) {f g : ℕ → Bool} → ((c : ℕ) → f c ≡ g c) → IfOk r (λ s. (c : ℕ) → members s c ≡ f c) → IfOk r (λ s. (c : ℕ) → members s c ≡ g c)
same_set (Ok s) e h = λ c. h c ∙ e c
same_set (Err x) e h = h

le_true : (a b : ℕ) → a ≤ b → nat_le a b ≡ true
le_true a b h = grind (arith, nat_tests)

and_none : (b : Bool) → false ≡ (b && false)
and_none true = refl
and_none false = refl

-- ranges that end within Unicode have no member past it
abbrev pub all_within : List (ℕ × ℕ) → Bool
all_within rs = list_all (λ r. nat_le r.1 0x10_FFFF) rs

range_within : (r : ℕ × ℕ) (c : ℕ) → nat_le r.1 0x10_FFFF ≡ true → (nat_le c 0x10_FFFF && in_range r c) ≡ in_range r c
range_within r c h = grind (arith, nat_tests)

spread : (x y z : Bool) → (x && (y || z)) ≡ ((x && y) || (x && z))
spread true y z = refl
spread false y z = refl

pub ranges_within : (rs : List (ℕ × ℕ)) (c : ℕ) → all_within rs ≡ true → (nat_le c 0x10_FFFF && in_ranges rs c) ≡ in_ranges rs c
unfolding in_ranges
ranges_within [] c h = sym (and_none (nat_le c 0x10_FFFF))
ranges_within (r ∷ rs) c h =
    let p = and_parts (nat_le r.1 0x10_FFFF) (all_within rs) h in
    spread (nat_le c 0x10_FFFF) (in_range r c) (in_ranges rs c) ∙ ap₂ ◌||◌ (range_within r c p.0) (ranges_within rs c p.1)

-- a character is within Unicode
pub character_within : (c : ℕ) → in_universe Unicode c ≡ (in_universe Unicode c && nat_le c 0x10_FFFF)
unfolding in_ranges
character_within c = grind (arith, nat_tests)

and_assoc : (x y z : Bool) → ((x && y) && z) ≡ (x && (y && z))
and_assoc true y z = refl
and_assoc false y z = refl

pub in_both : (a b : Bool) (rs : List (ℕ × ℕ)) (c : ℕ) → a ≡ in_universe Unicode c → b ≡ (nat_le c 0x10_FFFF && in_ranges rs c) → (a && b) ≡ (in_universe Unicode c && in_ranges rs c)
in_both a b rs c e f = ap₂ ◌&&◌ e f ∙ (sym (and_assoc (in_universe Unicode c) (nat_le c 0x10_FFFF) (in_ranges rs c)) ∙ ap (λ x. x && in_ranges rs c) (sym (character_within c)))

-- the ranges of a table, read within the characters
pub of_table : (rs : List (ℕ × ℕ)) (p : ℕ → Bool) (c : ℕ) → HasExactly rs p → (in_universe Unicode c && in_ranges rs c) ≡ (in_universe Unicode c && p c)
of_table rs p c h =
    elim (cases_Bool (in_universe Unicode c)) [
      | inl t ↦ rw t (h c (leb-true c 0x10_FFFF (and_parts (in_universe Unicode c) _ (sym (character_within c) ∙ t)).1))
      | inr f ↦ rw f refl
    ]

-- pairs whose first parts are within Unicode lead nowhere past it
abbrev pub firsts_within : List (ℕ × ℕ) → Bool
firsts_within ps = list_all (λ q. nat_le q.0 0x10_FFFF) ps

pair_within : (q : ℕ × ℕ) (p : ℕ → Bool) (c : ℕ) → nat_le q.0 0x10_FFFF ≡ true → (nat_le c 0x10_FFFF && pairs_to p c q) ≡ pairs_to p c q
pair_within q p c h =
    elim (cases_eq q.0 c) [
      | inl e ↦ ap (λ b. b && pairs_to p c q) (subst (λ n. nat_le n 0x10_FFFF ≡ true) e h)
      | inr n ↦ let no : (q.0 == c) ≡ false = grind (arith, nat_tests) in rw no (sym (and_none (nat_le c 0x10_FFFF)))
    ]

pub pairs_within : (ps : List (ℕ × ℕ)) (p : ℕ → Bool) (c : ℕ) → firsts_within ps ≡ true → (nat_le c 0x10_FFFF && in_pairs ps p c) ≡ in_pairs ps p c
pairs_within [] p c h = sym (and_none (nat_le c 0x10_FFFF))
pairs_within (q ∷ ps) p c h =
    let t = and_parts (nat_le q.0 0x10_FFFF) (firsts_within ps) h in
    spread (nat_le c 0x10_FFFF) (pairs_to p c q) (in_pairs ps p c) ∙ ap₂ ◌||◌ (pair_within q p c t.0) (pairs_within ps p c t.1)

pub fold_pairs_within : firsts_within fold_pairs ≡ true
unfolding fold_pairs fold_other_rows
fold_pairs_within = refl

pub with_fold_pairs : (ps : List (ℕ × ℕ)) (p : ℕ → Bool) (c : ℕ) → ps ≡ fold_pairs → (p c || (nat_le c 0x10_FFFF && in_pairs ps p c)) ≡ (p c || in_pairs fold_pairs p c)
with_fold_pairs ps p c e = rw e (ap (λ b. p c || b) (pairs_within fold_pairs p c fold_pairs_within))

pub with_ascii_pairs : (p : ℕ → Bool) (c : ℕ) → (p c || (nat_le c 0x10_FFFF && in_pairs ascii_pairs p c)) ≡ (p c || in_pairs ascii_pairs p c)
with_ascii_pairs p c = ap (λ b. p c || b) (pairs_within ascii_pairs p c refl)

-- ---- the law of widening

or_of : (x y : Bool) → (x || y) ≡ true → (x ≡ true) ⊎ (y ≡ true)
or_of true y h = inl refl
or_of false y h = inr h

pub in_pairs-some : (ps : List (ℕ × ℕ)) (p : ℕ → Bool) (c : ℕ) → in_pairs ps p c ≡ true → (d : ℕ) × (p d ≡ true) × Contains ps (c, d)
in_pairs-some [] p c h = cc
in_pairs-some (q ∷ ps) p c h =
    elim (or_of (pairs_to p c q) (in_pairs ps p c) h) [
      | inl t ↦ let e = and_parts (q.0 == c) (p q.1) t in (q.1, e.1, (0, zero-lt-suc _, ap (λ x. (x, q.1)) (eqb-true q.0 c e.0)))
      | inr t ↦ let r = in_pairs-some ps p c t in (r.0, r.1, (suc r.2.0, suc-le-suc r.2.1, r.2.2))
    ]

or_right : (x : Bool) → (x || true) ≡ true
or_right true = refl
or_right false = refl

pub some-in_pairs : (ps : List (ℕ × ℕ)) (p : ℕ → Bool) (c d k : ℕ) → p d ≡ true → k < length ps → get_or ps k (c, d) ≡ (c, d) → in_pairs ps p c ≡ true
some-in_pairs [] p c d k h lt at = absurd (not-suc-le-zero lt)
some-in_pairs (q ∷ ps) p c d zero h lt at =
    let one : (q.0 == c) ≡ true = ap (λ x. x.0 == c) at ∙ same_eqb c in
    let two : p q.1 ≡ true = ap (λ x. p x.1) at ∙ h in
    rw (one, two) refl
  where
    same_eqb : (n : ℕ) → (n == n) ≡ true
    same_eqb n = grind (arith, nat_tests)
some-in_pairs (q ∷ ps) p c d (suc k) h lt at = ap (λ b. pairs_to p c q || b) (some-in_pairs ps p c d k h (le_of_suc-le-suc lt) at) ∙ or_right (pairs_to p c q)

pub widening_is : (pairs : List (ℕ × ℕ)) (p : ℕ → Bool) (c : ℕ) → IsFoldPairs pairs → ((p c || in_pairs pairs p c) ≡ true) ↔ SharesFolding p c
widening_is pairs p c law = (
  λ h. elim (or_of (p c) (in_pairs pairs p c) h) [
    | inl t ↦ (c, t, refl)
    | inr t ↦ let r = in_pairs-some pairs p c t in (r.0, r.1, ((law c r.0).0 r.2).1)
  ],
  λ s. elim (cases_eq c s.0) [
    | inl e ↦ ap (λ b. b || in_pairs pairs p c) (ap p e ∙ s.1)
    | inr n ↦ let k = (law c s.0).1 (n, s.2) in ap (λ b. p c || b) (some-in_pairs pairs p c s.0 k.0 s.1 k.1 k.2) ∙ or_right (p c)
  ],
)

pub others_in : (a : Bool) (p : ℕ → Bool) (rs ps : List (ℕ × ℕ)) (c : ℕ) (b : Bool) → in_ranges rs c ≡ in_pairs ps p c → b ≡ (nat_le c 0x10_FFFF && in_ranges rs c) → (a || b) ≡ (a || (nat_le c 0x10_FFFF && in_pairs ps p c))
others_in a p rs ps c b e f = rw (f, e) refl

pub wide_is : (b : Bool) (rs : List (ℕ × ℕ)) (p q : ℕ → Bool) (c : ℕ) → true ≡ b → HasExactly rs p → (in_universe Unicode c && in_ranges rs c) ≡ (if b then in_universe Unicode c && p c else q c)
wide_is true rs p q c e h = of_table rs p c h
wide_is false rs p q c e h = cc

ascii_all : (n : Named) → all_within (ascii_ranges n) ≡ true
ascii_all Digit = refl
ascii_all Word = refl
ascii_all Space = refl
ascii_all Hexadecimal = refl
ascii_all Alphanumeric = refl
ascii_all Alphabetic = refl
ascii_all Ascii = refl
ascii_all Blank = refl
ascii_all Control = refl
ascii_all Graphic = refl
ascii_all Lowercase = refl
ascii_all Printable = refl
ascii_all Punctuation = refl
ascii_all AsciiSpace = refl
ascii_all Uppercase = refl
ascii_all AsciiWord = refl
ascii_all AsciiDigit = refl

pub narrow_is : (b : Bool) (rs : List (ℕ × ℕ)) (n : Named) (p : ℕ → Bool) (c : ℕ) → false ≡ b → rs ≡ ascii_ranges n → (nat_le c 0x10_FFFF && in_ranges rs c) ≡ (if b then p c else in_ranges (ascii_ranges n) c)
narrow_is true rs n p c e is = cc
narrow_is false rs n p c e is = ap (λ l. nat_le c 0x10_FFFF && in_ranges l c) is ∙ ranges_within (ascii_ranges n) c (ascii_all n)
