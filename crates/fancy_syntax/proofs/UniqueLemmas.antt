-- A text has at most one pattern.
use Rattle.std.proofs.Common.{◌≡◌, ℕ, List, [], ◌∷◌, Option, Some, refl, sym, ap, ap₂, ◌∙◌, subst, inl, inr, add-one}
use Rattle.fancy_tree.specs.Pattern.{Pattern, in_sequence, in_branches}
use Rattle.fancy_tree.specs.Text.{Text}
use Rattle.fancy_class.specs.Words.{is_at}
use Rattle.fancy_syntax.specs.Grammar.{Place, place_past, with_quantifier, Opening, Opens, at_once, after_condition, wrap, after_group, BranchesReading, last, more, PartsReading, none, next, ItemReading, sets, refers_by_name, single, grouped}
use Rattle.fancy_syntax.specs.Dialect.{Scope, Spells, with_part}
use Rattle.fancy_class.specs.Readings.{IsTheReading}
use Rattle.fancy_syntax.proofs.SpellingLemmas.{spelling_read}
use Rattle.fancy_syntax.proofs.LexemeLemmas.{the_atom}
use Rattle.fancy_tree.proofs.Facts.{true_is_false, some_pair}
use Rattle.fancy_syntax.proofs.ParserLemmas.{branches_first, parts_end, parts_next, single_is, opens_is, condition_is, setting_is, reference_is, body_reads}

mutual
  pub one_branches : {k : ℕ} {p q r : Place} {bs cs : List Pattern} → BranchesReading k p bs q → BranchesReading k p cs r → (cs ≡ bs) × (r ≡ q)
  one_branches (last a e) y =
      let f = branches_first y in
      let o = one_parts a f.3 in
      elim f.5 [
        | inl l ↦ (f.4 ∙ (ap (λ v. in_sequence f.0 ∷ v) l.1 ∙ ap (λ v. in_sequence v ∷ []) o.0), l.2 ∙ o.1)
        | inr l ↦ absurd (true_is_false (sym l.0 ∙ (ap (λ (s : Place). is_at "|" s.text) o.1 ∙ e)))
      ]
  one_branches {k} {r = r} (more a e b) y =
      let f = branches_first y in
      let o = one_parts a f.3 in
      elim f.5 [
        | inl l ↦ absurd (true_is_false (sym e ∙ (ap (λ (s : Place). is_at "|" s.text) (sym o.1) ∙ l.0)))
        | inr l ↦ (let w = one_branches b (subst (λ s. BranchesReading k (place_past 1 s) f.2 r) o.1 l.1) in
            (f.4 ∙ ap₂ (λ u v. in_sequence u ∷ v) o.0 w.0, w.1))
      ]

  pub one_parts : {k : ℕ} {p q r : Place} {ts us : List Pattern} → PartsReading k p ts q → PartsReading k p us r → (us ≡ ts) × (r ≡ q)
  one_parts (none e) y = parts_end y e
  one_parts {k} {r = r} (next e i a) y =
      let n = parts_next y e in
      let o = one_item i n.4 in
      let w = one_parts a (subst (λ s. PartsReading k s n.1 r) o.1 n.5) in
      (n.3 ∙ ap₂ with_part o.0 w.0, w.1)

  pub one_item : {k : ℕ} {p q r : Place} {x y : Option Pattern} → ItemReading k p x q → ItemReading k p y r → (y ≡ x) × (r ≡ q)
  one_item (sets e o) y = (setting_is e (one_opening o)).1 _ _ y
  one_item (refers_by_name e o f) y = (reference_is e (one_opening o) f).1 _ _ y
  one_item (single e f h) y = (single_is e (the_atom f) h).1 _ _ y
  one_item {r = r} (grouped {k = k} {p = p} {inside = inside} {how = how} e o n b c f) y =
      let m = body_reads e (one_opening o) n (sym (add-one k)) y in
      let w = one_branches b m.3 in
      let z = some_pair (sym m.5 ∙ (ap₂ (λ (bs : List Pattern) (s : Place). with_quantifier (wrap how bs) (after_group p s)) w.0 w.1 ∙ f)) in
      (m.6 ∙ ap Some z.0, z.1)

  pub one_opening : {k : ℕ} {p q : Place} {how : Opening} → Opens k p how q → IsTheReading (Opens k) p how q
  one_opening (at_once {k = k} h n f) = opens_is k h n f
  one_opening (after_condition h b c) = condition_is h refl (b, λ cs r y. one_branches b y) c refl

pub one_pattern : (s : Scope) (text : Text) (p q : Pattern) (e f : Scope) → Spells s text p e → Spells s text q f → p ≡ q
one_pattern s text p q e f x y =
    let a = spelling_read x in
    let b = spelling_read y in
    a.is ∙ (ap in_branches (sym (one_branches a.reads b.reads).0) ∙ sym b.is)

pub one_end : (s : Scope) (text : Text) (p q : Pattern) (e f : Scope) → Spells s text p e → Spells s text q f → e ≡ f
one_end s text p q e f x y = ap (λ (r : Place). r.scope) (sym (one_branches (spelling_read x).reads (spelling_read y).reads).1)
