-- What the parser's loops and branches say of the grammar.
use Rattle.std.proofs.Common.{◌≡◌, ℕ, suc, ◌+◌, ◌-◌, ◌<◌, ◌≤◌, ◌==◌, Bool, true, false, List, [], ◌∷◌, ◌++◌, Option, Some, None, length, refl, sym, ap, ◌∙◌, subst, append_assoc, append-nil, arith, Result, Err, ◌⊎◌, inl, inr, ap₂, add-one}
use Rattle.std.proofs.lemmas.Bool.Decides.{nat_tests}
use Rattle.std.proofs.lemmas.List.{nil_from_length}
use Rattle.fancy_tree.specs.Limits.{most_parentheses}
use Rattle.fancy_tree.specs.Pattern.{Pattern, backreference, in_sequence, in_branches}
use Rattle.fancy_tree.specs.Text.{Text}
use Rattle.fancy_class.specs.Words.{is_at}
use Rattle.fancy_syntax.specs.Dialect.{Scope, with_part}
use Rattle.fancy_syntax.specs.Grammar.{Place, place_past, after_blanks, Opening, setting, plain, capture, marked, reference, chooses, condition, opens_group, asks, parentheses, opening_here, IsAtom, with_quantifier, wrap, after_group, ends_branch, BranchesReading, last, more, PartsReading, none, next, Opens, at_once, after_condition, ItemReading, sets, refers_by_name, single, grouped, start, Reads}
use Rattle.fancy_tree.specs.declared.error.Error.{Error}
use Rattle.fancy_tree.specs.declared.error.Error.TheVariants.{Memory, ParseError, CompileError, RuntimeError}
use Rattle.fancy_syntax.specs.declared.groups.Opening.{Opening as Found}
use Rattle.fancy_syntax.specs.declared.groups.Opening.TheVariants.{Setting, Plain, Capture, Marked, Reference, Chooses, Condition}
use Rattle.fancy_syntax.specs.Views.{opening_found, MemoryOr, Gives, GivesOpening, Sequence, Alternation}
use Rattle.fancy_class.specs.Readings.{IsTheReading, HasNoReading}
use Rattle.fancy_tree.proofs.Facts.{true_is_false, some_is_none, some_pair}

module _ {X T : Type 0} (view : X → T) (R : Place → T → Place → Type 0) where
  -- the exit of a `?` on the parser's own error, and on one of memory
  pub refused : (r : Result X Error) (p q : Place) (y e : Error) → r ≡ Err y → y ≡ e → MemoryOr e (HasNoReading R p) → Gives view R r p q
  refused r p q y e a b h = rw (a, b) h

  pub out_of_memory : (r : Result X Error) (p q : Place) (y : Error) → r ≡ Err y → y ≡ Memory → Gives view R r p q
  out_of_memory r p q y a b = rw (a, b) tt

pub MemoryOr-weaker : (e : Error) {A B : Type 0} → (A → B) → MemoryOr e A → MemoryOr e B
MemoryOr-weaker Memory f h = tt
MemoryOr-weaker (ParseError at kind) f h = f h
MemoryOr-weaker (CompileError why) f h = absurd h
MemoryOr-weaker (RuntimeError why) f h = absurd h

-- the readings from p are those from q with these in front
pub record GoesOn (R : Place → List Pattern → Place → Type 0) (p : Place) (done : List Pattern) (q : Place) : Type 0 where
  pub forth : (ts : List Pattern) (r : Place) → R q ts r → R p (done ++ ts) r
  pub back : (ts : List Pattern) (r : Place) → R p ts r → (us : List Pattern) × (ts ≡ done ++ us) × R q us r

pub goes_on_here : (R : Place → List Pattern → Place → Type 0) (p : Place) → GoesOn R p [] p
goes_on_here R p = record { forth = λ ts r h. h; back = λ ts r h. (ts, refl, h) }

pub goes_on_then : {R : Place → List Pattern → Place → Type 0} {p q r : Place} {a b : List Pattern} → GoesOn R p a q → GoesOn R q b r → GoesOn R p (a ++ b) r
goes_on_then {R} {p} {q} {r} {a} {b} g h = record {
  forth = λ ts s x. subst (λ l. R p l s) (sym (append_assoc a b ts)) (g.forth (b ++ ts) s (h.forth ts s x));
  back = λ ts s x. let y = g.back ts s x in let z = h.back y.0 s y.2 in (z.0, y.1 ∙ (ap (λ l. a ++ l) z.1 ∙ sym (append_assoc a b z.0)), z.2);
}

-- nothing more belongs to the branch
pub parts_end : {k : ℕ} {p q : Place} {ts : List Pattern} → PartsReading k p ts q → ends_branch (after_blanks p).text ≡ true → (ts ≡ []) × (q ≡ after_blanks p)
parts_end (none h) e = (refl, refl)
parts_end (next h i t) e = cc

pub parts_next : {k : ℕ} {p r : Place} {ts : List Pattern} → PartsReading k p ts r → ends_branch (after_blanks p).text ≡ false →
    (item : Option Pattern) × (us : List Pattern) × (q : Place) × (ts ≡ with_part item us) × ItemReading k (after_blanks p) item q × PartsReading k q us r
parts_next (none h) e = cc
parts_next (next {q = q} {item = item} {ps = us} h i t) e = (item, us, q, refl, i, t)

abbrev pub parts_of : Option Pattern → List Pattern
parts_of None = []
parts_of (Some t) = t ∷ []

pub with_part_is : (item : Option Pattern) (us : List Pattern) → with_part item us ≡ parts_of item ++ us
with_part_is None us = refl
with_part_is (Some t) us = refl

-- one more item
pub item_step : {k : ℕ} {p q : Place} {item : Option Pattern} → ends_branch (after_blanks p).text ≡ false → IsTheReading (ItemReading k) (after_blanks p) item q → GoesOn (PartsReading k) p (parts_of item) q
item_step {k} {p} {q} {item} e h = record {
  forth = λ ts r x. subst (λ l. PartsReading k p l r) (with_part_is item ts) (next e h.0 x);
  back = λ ts r x.
      let n = parts_next x e in
      let o = h.1 n.0 n.2 n.4 in
      (n.1, n.3 ∙ (ap (λ i. with_part i n.1) o.0 ∙ with_part_is item n.1), subst (λ s. PartsReading k s n.1 r) o.1 n.5);
}

pub no_item : {k : ℕ} {p q : Place} {done : List Pattern} → GoesOn (PartsReading k) p done q → ends_branch (after_blanks q).text ≡ false → HasNoReading (ItemReading k) (after_blanks q) → HasNoReading (Sequence k) p
no_item g e nothing t r (ts, is, x) = let y = g.back ts r x in let n = parts_next y.2 e in nothing n.0 n.2 n.4

pub sequence_is : {k : ℕ} {p q : Place} {done : List Pattern} (t : Pattern) → GoesOn (PartsReading k) p done q → ends_branch (after_blanks q).text ≡ true → t ≡ in_sequence done → IsTheReading (Sequence k) p t (after_blanks q)
sequence_is {k} {p} {q} {done} t g e is = (
  (done, is, subst (λ l. PartsReading k p l (after_blanks q)) (append-nil done) (g.forth [] (after_blanks q) (none e))),
  λ u r (ts, same, x).
      let y = g.back ts r x in
      let z = parts_end y.2 e in
      (same ∙ (ap in_sequence (y.1 ∙ (ap (λ l. done ++ l) z.0 ∙ append-nil done)) ∙ sym is), z.1),
)

-- the same where the code has moved past the blanks
pub item_step_at : {k : ℕ} {p s q : Place} {item : Option Pattern} → s ≡ after_blanks p → ends_branch s.text ≡ false → IsTheReading (ItemReading k) s item q → GoesOn (PartsReading k) p (parts_of item) q
item_step_at {k} {p} {s} {q} {item} e f h = item_step (ap (λ (x : Place). ends_branch x.text) (sym e) ∙ f) (subst (λ x. IsTheReading (ItemReading k) x item q) e h)

pub no_item_at : {k : ℕ} {p s q : Place} {done : List Pattern} → GoesOn (PartsReading k) p done q → s ≡ after_blanks q → ends_branch s.text ≡ false → HasNoReading (ItemReading k) s → HasNoReading (Sequence k) p
no_item_at {k} g e f h = no_item g (ap (λ (x : Place). ends_branch x.text) (sym e) ∙ f) (subst (λ x. HasNoReading (ItemReading k) x) e h)

pub sequence_is_at : {k : ℕ} {p s q : Place} {done : List Pattern} (t : Pattern) → GoesOn (PartsReading k) p done q → s ≡ after_blanks q → ends_branch s.text ≡ true → t ≡ in_sequence done → IsTheReading (Sequence k) p t s
sequence_is_at {k} {p} t g e f is = subst (λ x. IsTheReading (Sequence k) p t x) (sym e) (sequence_is t g (ap (λ (x : Place). ends_branch x.text) (sym e) ∙ f) is)

pub branches_first : {k : ℕ} {p q : Place} {bs : List Pattern} → BranchesReading k p bs q →
    (ts : List Pattern) × (r : Place) × (others : List Pattern) × PartsReading k p ts r × (bs ≡ in_sequence ts ∷ others)
    × (((is_at "|" r.text ≡ false) × (others ≡ []) × (q ≡ r)) ⊎ ((is_at "|" r.text ≡ true) × BranchesReading k (place_past 1 r) others q))
branches_first (last {q = q} {ps = ts} h e) = (ts, q, [], h, refl, inl (e, refl, refl))
branches_first (more {q = q} {ps = ts} {bs = bs} h e b) = (ts, q, bs, h, refl, inr (e, b))

pub no_branch : {k : ℕ} {p q : Place} {done : List Pattern} → GoesOn (BranchesReading k) p done q → HasNoReading (Sequence k) q → HasNoReading (BranchesReading k) p
no_branch g nothing bs r x = let y = g.back bs r x in let f = branches_first y.2 in nothing (in_sequence f.0) f.1 (f.0, refl, f.3)

pub branch_step : {k : ℕ} {p q : Place} {t : Pattern} → IsTheReading (Sequence k) p t q → is_at "|" q.text ≡ true → GoesOn (BranchesReading k) p (t ∷ []) (place_past 1 q)
branch_step {k} {p} {q} {t} h e = record {
  forth = λ bs r x. subst (λ u. BranchesReading k p (u ∷ bs) r) (sym h.0.1) (more h.0.2 e x);
  back = λ bs r x.
      let f = branches_first x in
      let o = h.1 (in_sequence f.0) f.1 (f.0, refl, f.3) in
      elim f.5 [
        | inl l ↦ absurd (true_is_false (sym e ∙ (ap (λ (s : Place). is_at "|" s.text) (sym o.1) ∙ l.0)))
        | inr l ↦ (f.2, f.4 ∙ ap (λ u. u ∷ f.2) o.0, subst (λ s. BranchesReading k (place_past 1 s) f.2 r) o.1 l.1)
      ];
}

pub alternation_is : {k : ℕ} {p q r : Place} {done : List Pattern} {t : Pattern} (whole : List Pattern) → GoesOn (BranchesReading k) p done q → IsTheReading (Sequence k) q t r
    → is_at "|" r.text ≡ false → whole ≡ done ++ t ∷ [] → IsTheReading (BranchesReading k) p whole r
alternation_is {k} {p} {q} {r} {done} {t} whole g h e is = (
  subst (λ l. BranchesReading k p l r) (sym is) (g.forth (t ∷ []) r (subst (λ u. BranchesReading k q (u ∷ []) r) (sym h.0.1) (last h.0.2 e))),
  λ bs s x.
      let y = g.back bs s x in
      let f = branches_first y.2 in
      let o = h.1 (in_sequence f.0) f.1 (f.0, refl, f.3) in
      elim f.5 [
        | inl l ↦ (y.1 ∙ ap (λ v. done ++ v) (f.4 ∙ (ap (λ v. in_sequence f.0 ∷ v) l.1 ∙ ap (λ v. v ∷ []) o.0)) ∙ sym is, l.2 ∙ o.1)
        | inr l ↦ absurd (true_is_false (sym l.0 ∙ (ap (λ (s : Place). is_at "|" s.text) o.1 ∙ e)))
      ],
)

-- an item that is no group
pub item_single : {k : ℕ} {p r : Place} {item : Option Pattern} → ItemReading k p item r → is_at "(" p.text ≡ false →
    (a : Pattern) × (q : Place) × (t : Pattern) × IsAtom p a q × (with_quantifier a q ≡ Some (t, r)) × (item ≡ Some t)
item_single (sets h o) e = absurd (true_is_false (sym h ∙ e))
item_single (refers_by_name h o f) e = absurd (true_is_false (sym h ∙ e))
item_single (single {q = q} {a = a} {x = t} h f g) e = (a, q, t, f, g, refl)
item_single (grouped h o n b c f) e = absurd (true_is_false (sym h ∙ e))

pub no_atom : {k : ℕ} {p : Place} → is_at "(" p.text ≡ false → HasNoReading IsAtom p → HasNoReading (ItemReading k) p
no_atom e nothing i r x = let s = item_single x e in nothing s.0 s.1 s.3

pub no_quantified : {k : ℕ} {p q : Place} {a : Pattern} → is_at "(" p.text ≡ false → IsTheReading IsAtom p a q → with_quantifier a q ≡ None → HasNoReading (ItemReading k) p
no_quantified e found nothing i r x =
    let s = item_single x e in
    let same = found.1 s.0 s.1 s.3 in
    some_is_none (sym s.4 ∙ (ap₂ with_quantifier same.0 same.1 ∙ nothing))

pub single_is : {k : ℕ} {p q r : Place} {a t : Pattern} → is_at "(" p.text ≡ false → IsTheReading IsAtom p a q → with_quantifier a q ≡ Some (t, r) → IsTheReading (ItemReading k) p (Some t) r
single_is e found given = (
  single e found.0 given,
  λ i s x.
      let n = item_single x e in
      let same = found.1 n.0 n.1 n.3 in
      let done = some_pair (sym n.4 ∙ (ap₂ with_quantifier same.0 same.1 ∙ given)) in
      (n.5 ∙ ap Some done.0, done.1),
)

-- an item that begins with a parenthesis
pub data Group (k : ℕ) (p r : Place) : Opening → Place → Option Pattern → Type 0 where
  of_setting : {how : Opening} → how ≡ setting → Group k p r how r None
  of_reference : {how : Opening} {inside : Place} {n : ℕ} {folded : Bool} {t : Pattern} → how ≡ reference folded n → with_quantifier (backreference folded n) inside ≡ Some (t, r) → Group k p r how inside (Some t)
  of_body : {how : Opening} {inside : Place} {j : ℕ} {bs : List Pattern} {q : Place} {t : Pattern} → opens_group how ≡ true → k ≡ suc j → BranchesReading j inside bs q → is_at ")" q.text ≡ true
      → with_quantifier (wrap how bs) (after_group p q) ≡ Some (t, r) → Group k p r how inside (Some t)

pub item_group : {k : ℕ} {p r : Place} {item : Option Pattern} → ItemReading k p item r → is_at "(" p.text ≡ true →
    (how : Opening) × (inside : Place) × Opens k p how inside × Group k p r how inside item
item_group (sets {q = q} h o) e = (setting, q, o, of_setting refl)
item_group (refers_by_name {n = n} {q = q} {folded = folded} h o f) e = (reference folded n, q, o, of_reference refl f)
item_group (single h f g) e = absurd (true_is_false (sym e ∙ h))
item_group (grouped {inside = inside} {how = how} h o n b c f) e = (how, inside, o, of_body n refl b c f)

-- what a parenthesis opens
same_opened : {k : ℕ} {p q r : Place} {how u : Opening} → opening_here p ≡ Some (how, q) → asks how ≡ false → Opens k p u r → (u ≡ how) × (r ≡ q)
same_opened found n (at_once h a f) = some_pair (sym h ∙ found)
same_opened found n (after_condition h b c) = absurd (true_is_false (ap asks (some_pair (sym h ∙ found)).0 ∙ n))

pub opens_is : {p q : Place} {how : Opening} (j : ℕ) → opening_here p ≡ Some (how, q) → asks how ≡ false → parentheses how ≤ suc j → IsTheReading (Opens (suc j)) p how q
opens_is j found n fits = (at_once found n fits, λ u r x. same_opened found n x)

pub opened_in : {k : ℕ} {p q : Place} {how : Opening} (j : ℕ) → k ≡ j + 1 → opening_here p ≡ Some (how, q) → asks how ≡ false → parentheses how ≤ k → IsTheReading (Opens k) p how q
opened_in {k} {p} {q} {how} j deeper found n fits = subst (λ m. IsTheReading (Opens m) p how q) (sym (deeper ∙ add-one j)) (opens_is j found n (omega (arith, deeper, fits)))

pub none_opened : {k : ℕ} {p : Place} → opening_here p ≡ None → HasNoReading (Opens k) p
none_opened nothing how q (at_once h a f) = some_is_none (sym h ∙ nothing)
none_opened nothing how q (after_condition h b c) = some_is_none (sym h ∙ nothing)

pub no_room : {k : ℕ} {p q : Place} {how : Opening} → opening_here p ≡ Some (how, q) → k < parentheses how → HasNoReading (Opens k) p
no_room {k} {how = how} found few u r (at_once h a f) = let same = ap parentheses (some_pair (sym h ∙ found)).0 in omega (arith, few, f, same)
no_room {k} {how = how} found few u r (after_condition h b c) = let same = ap parentheses (some_pair (sym h ∙ found)).0 in omega (arith, few, same)

-- the exit of a `?` where no opening was found
pub opening_refused : (k : ℕ) (r : Result Found Error) (p q : Place) (y e : Error) → r ≡ Err y → y ≡ e → MemoryOr e (opening_here p ≡ None) → GivesOpening k r p q
opening_refused k r p q y e a b h = rw (a, b) (MemoryOr-weaker e none_opened h)

-- what reads on after a condition
record Conditioned (k : ℕ) (p inside : Place) (how : Opening) (r : Place) : Type 0 where
  room : ℕ
  branches : List Pattern
  end : Place
  deeper : k ≡ suc (suc room)
  reads : BranchesReading room inside branches end
  closes : is_at ")" end.text ≡ true
  is : how ≡ chooses (in_branches branches)
  after : r ≡ after_group p end

conditioned : {k : ℕ} {p inside r : Place} {how : Opening} → opening_here p ≡ Some (condition, inside) → Opens k p how r → Conditioned k p inside how r
conditioned found (at_once h a f) = absurd (true_is_false (sym (ap asks (some_pair (sym h ∙ found)).0) ∙ a))
conditioned found (after_condition {k = j} {q = q} {cs = cs} h b c) =
    record { room = j; branches = cs; end = q; deeper = refl; reads = subst (λ s. BranchesReading j s cs q) (some_pair (sym h ∙ found)).1 b; closes = c; is = refl; after = refl }

module _ {k j : ℕ} {p inside : Place} (found : opening_here p ≡ Some (condition, inside)) (deeper : k ≡ suc (suc j)) where
  condition_reads : {how : Opening} {r : Place} → Opens k p how r → (cs : List Pattern) × (q : Place) × BranchesReading j inside cs q × (is_at ")" q.text ≡ true) × (how ≡ chooses (in_branches cs)) × (r ≡ after_group p q)
  condition_reads x =
      let c = conditioned found x in
      let same : c.room ≡ j = omega (arith, c.deeper, deeper) in
      (c.branches, c.end, subst (λ m. BranchesReading m inside c.branches c.end) same c.reads, c.closes, c.is, c.after)

  pub no_condition : HasNoReading (BranchesReading j) inside → HasNoReading (Opens k) p
  no_condition nothing how r x = let c = condition_reads x in nothing c.0 c.1 c.2

  pub unclosed_condition : {cs : List Pattern} {q : Place} → IsTheReading (BranchesReading j) inside cs q → is_at ")" q.text ≡ false → HasNoReading (Opens k) p
  unclosed_condition h f how r x =
      let c = condition_reads x in
      let o = h.1 c.0 c.1 c.2 in
      true_is_false (sym c.3 ∙ (ap (λ (s : Place). is_at ")" s.text) o.1 ∙ f))

  pub condition_is : {cs : List Pattern} {q : Place} {how : Opening} → IsTheReading (BranchesReading j) inside cs q → is_at ")" q.text ≡ true → how ≡ chooses (in_branches cs) → IsTheReading (Opens k) p how (after_group p q)
  condition_is {cs} {q} {how} h closes is = (
    subst (λ m. Opens m p how (after_group p q)) (sym deeper) (subst (λ o. Opens (suc (suc j)) p o (after_group p q)) (sym is) (after_condition found h.0 closes)),
    λ u r x.
        let c = condition_reads x in
        let o = h.1 c.0 c.1 c.2 in
        (c.4 ∙ (ap (λ v. chooses (in_branches v)) o.0 ∙ sym is), c.5 ∙ ap (after_group p) o.1),
  )

asked_is : (how : Opening) → asks how ≡ true → how ≡ condition
asked_is setting h = absurd (true_is_false (sym h))
asked_is plain h = absurd (true_is_false (sym h))
asked_is (capture n) h = absurd (true_is_false (sym h))
asked_is (marked how) h = absurd (true_is_false (sym h))
asked_is (reference folded n) h = absurd (true_is_false (sym h))
asked_is (chooses c) h = absurd (true_is_false (sym h))
asked_is condition h = refl

pub asked : (p : Place) {q : Place} {how : Opening} → opening_here p ≡ Some (how, q) → asks how ≡ true → opening_here p ≡ Some (condition, q)
asked p {q} {how} opens h = opens ∙ ap (λ (o : Opening). Some (o, q)) (asked_is how h)

pub room_inside : {k : ℕ} (how : Opening) → asks how ≡ true → parentheses how ≤ k → k ≡ suc (suc (k - 2))
room_inside how h fits = let two = ap parentheses (asked_is how h) in omega (arith, fits, two)

pub not_asked : {k : ℕ} {p r : Place} {how : Opening} → Opens k p how r → asks how ≡ false
not_asked (at_once h a f) = a
not_asked (after_condition h b c) = refl

some_parentheses : (how : Opening) → 1 ≤ parentheses how
some_parentheses setting = omega arith
some_parentheses plain = omega arith
some_parentheses (capture n) = omega arith
some_parentheses (marked how) = omega arith
some_parentheses (reference folded n) = omega arith
some_parentheses (chooses c) = omega arith
some_parentheses condition = omega arith

pub some_room : {k : ℕ} (how : Opening) → parentheses how ≤ k → 1 ≤ k
some_room how fits = omega (arith, some_parentheses how, fits)

pub no_opening : {k : ℕ} {p : Place} → is_at "(" p.text ≡ true → HasNoReading (Opens k) p → HasNoReading (ItemReading k) p
no_opening e nothing i r x = let g = item_group x e in nothing g.0 g.1 g.2

no_reference : {folded : Bool} {n : ℕ} → setting ≡ reference folded n → ⊥
no_reference h = cc

pub setting_is : {k : ℕ} {p q : Place} → is_at "(" p.text ≡ true → IsTheReading (Opens k) p setting q → IsTheReading (ItemReading k) p None q
setting_is {k} {p} {q} e found = (
  sets e found.0,
  λ i r x. let g = item_group x e in let same = found.1 g.0 g.1 g.2 in of_a_setting g.3 same.0 same.1,
)
  where
    of_a_setting : {how : Opening} {inside r : Place} {i : Option Pattern} → Group k p r how inside i → how ≡ setting → inside ≡ q → (i ≡ None) × (r ≡ q)
    of_a_setting (of_setting h) a b = (refl, b)
    of_a_setting (of_reference h f) a c = absurd (no_reference (sym a ∙ h))
    of_a_setting (of_body n h b f g) a c = absurd (true_is_false (sym n ∙ ap opens_group a))

-- the reference that stands for a whole one
abbrev pub referred : Opening → Pattern
referred setting = in_sequence []
referred plain = in_sequence []
referred (capture n) = in_sequence []
referred (marked how) = in_sequence []
referred (reference folded n) = backreference folded n
referred (chooses c) = in_sequence []
referred condition = in_sequence []

-- what reads on after a reference by name
after_reference : {k : ℕ} {p r inside : Place} {how : Opening} {item : Option Pattern} {folded : Bool} {n : ℕ} → Group k p r how inside item → how ≡ reference folded n
    → (t : Pattern) × (with_quantifier (backreference folded n) inside ≡ Some (t, r)) × (item ≡ Some t)
after_reference (of_setting h) e = absurd (no_reference (sym h ∙ e))
after_reference {r = r} {inside = inside} (of_reference {t = t} h f) e = (t, ap (λ (o : Opening). with_quantifier (referred o) inside) (sym e ∙ h) ∙ f, refl)
after_reference (of_body n d b f g) e = absurd (true_is_false (sym n ∙ ap opens_group e))

module _ {k : ℕ} {p q : Place} {folded : Bool} {n : ℕ} (e : is_at "(" p.text ≡ true) (found : IsTheReading (Opens k) p (reference folded n) q) where
  reference_reads : {r : Place} {item : Option Pattern} → ItemReading k p item r → (t : Pattern) × (with_quantifier (backreference folded n) q ≡ Some (t, r)) × (item ≡ Some t)
  reference_reads {r} {item} x =
      let g = item_group x e in
      let same = found.1 g.0 g.1 g.2 in
      after_reference (subst (λ s. Group k p r g.0 s item) same.1 g.3) same.0

  pub no_quantified_reference : with_quantifier (backreference folded n) q ≡ None → HasNoReading (ItemReading k) p
  no_quantified_reference nothing i r x = let y = reference_reads x in some_is_none (sym y.1 ∙ nothing)

  pub reference_is : {t : Pattern} {r : Place} → with_quantifier (backreference folded n) q ≡ Some (t, r) → IsTheReading (ItemReading k) p (Some t) r
  reference_is {t} {r} given = (
    refers_by_name e found.0 given,
    λ i s x.
        let y = reference_reads x in
        let done = some_pair (sym y.1 ∙ given) in
        (y.2 ∙ ap Some done.0, done.1),
  )

-- what is inside the parentheses, and what follows it
pub record Body (k : ℕ) (p r : Place) (how : Opening) (inside : Place) (item : Option Pattern) : Type 0 where
  pub room : ℕ
  pub branches : List Pattern
  pub end : Place
  pub quantity : Pattern
  pub deeper : k ≡ suc room
  pub reads : BranchesReading room inside branches end
  pub closes : is_at ")" end.text ≡ true
  pub given : with_quantifier (wrap how branches) (after_group p end) ≡ Some (quantity, r)
  pub is : item ≡ Some quantity

pub body_of : {k : ℕ} {p r : Place} {how : Opening} {inside : Place} {item : Option Pattern} → Group k p r how inside item → opens_group how ≡ true → Body k p r how inside item
body_of (of_setting h) n = absurd (true_is_false (sym n ∙ ap opens_group h))
body_of (of_reference h f) n = absurd (true_is_false (sym n ∙ ap opens_group h))
body_of (of_body {j = j} {bs = bs} {q = q} {t = t} m h b f g) n = record { room = j; branches = bs; end = q; quantity = t; deeper = h; reads = b; closes = f; given = g; is = refl }

pub item_body : {k : ℕ} {p r : Place} {how : Opening} {inside : Place} {item : Option Pattern} → is_at "(" p.text ≡ true → IsTheReading (Opens k) p how inside → opens_group how ≡ true
    → ItemReading k p item r → Body k p r how inside item
item_body {k} {p} {r} {how} {inside} {item} e found n x =
    let g = item_group x e in
    let same = found.1 g.0 g.1 g.2 in
    body_of (subst (λ h. Group k p r h inside item) same.0 (subst (λ s. Group k p r g.0 s item) same.1 g.3)) n

module _ {k j : ℕ} {p inside : Place} {how : Opening} (e : is_at "(" p.text ≡ true) (found : IsTheReading (Opens k) p how inside) (n : opens_group how ≡ true) (deeper : k ≡ j + 1) where
  pub body_reads : {r : Place} {item : Option Pattern} → ItemReading k p item r → (bs : List Pattern) × (q : Place) × (t : Pattern) × BranchesReading j inside bs q × (is_at ")" q.text ≡ true)
      × (with_quantifier (wrap how bs) (after_group p q) ≡ Some (t, r)) × (item ≡ Some t)
  body_reads {r} {item} x =
      let b = item_body e found n x in
      let same : b.room ≡ j = omega (arith, b.deeper, deeper) in
      (b.branches, b.end, b.quantity, subst (λ m. BranchesReading m inside b.branches b.end) same b.reads, b.closes, b.given, b.is)

  pub no_body : HasNoReading (BranchesReading j) inside → HasNoReading (ItemReading k) p
  no_body nothing i r x = let b = body_reads x in nothing b.0 b.1 b.3

  pub unclosed : {bs : List Pattern} {q : Place} → IsTheReading (BranchesReading j) inside bs q → is_at ")" q.text ≡ false → HasNoReading (ItemReading k) p
  unclosed h f i r x =
      let b = body_reads x in
      let o = h.1 b.0 b.1 b.3 in
      true_is_false (sym b.4 ∙ (ap (λ (s : Place). is_at ")" s.text) o.1 ∙ f))

  pub no_quantified_group : {bs : List Pattern} {u : Pattern} {q : Place} → IsTheReading (BranchesReading j) inside bs q → u ≡ wrap how bs → with_quantifier u (after_group p q) ≡ None → HasNoReading (ItemReading k) p
  no_quantified_group {bs} {u} {q} h made nothing i r x =
      let b = body_reads x in
      let o = h.1 b.0 b.1 b.3 in
      some_is_none (sym b.5 ∙ (ap₂ (λ (v : List Pattern) (s : Place). with_quantifier (wrap how v) (after_group p s)) o.0 o.1 ∙ (ap (λ v. with_quantifier v (after_group p q)) (sym made) ∙ nothing)))

  pub group_is : {bs : List Pattern} {u v : Pattern} {q r : Place} → IsTheReading (BranchesReading j) inside bs q → is_at ")" q.text ≡ true → u ≡ wrap how bs → with_quantifier u (after_group p q) ≡ Some (v, r) → IsTheReading (ItemReading k) p (Some v) r
  group_is {bs} {u} {v} {q} {r} h closes made given = (
    subst (λ m. ItemReading m p (Some v) r) (sym (deeper ∙ add-one j))
        (grouped e (subst (λ m. Opens m p how inside) (deeper ∙ add-one j) found.0) n h.0 closes (ap (λ w. with_quantifier w (after_group p q)) (sym made) ∙ given)),
    λ i s x.
        let b = body_reads x in
        let o = h.1 b.0 b.1 b.3 in
        let done = some_pair (sym b.5 ∙ (ap₂ (λ (w : List Pattern) (y : Place). with_quantifier (wrap how w) (after_group p y)) o.0 o.1 ∙ (ap (λ w. with_quantifier w (after_group p q)) (sym made) ∙ given))) in
        (b.6 ∙ ap Some done.0, done.1),
  )

-- what is neither a setting nor a reference opens a group
pub found_group : (how : Found) → (how ≡ Setting → ⊥) → ((folded : Bool) (index : ℕ) → how ≡ Reference folded index → ⊥) → asks (opening_found how) ≡ false → opens_group (opening_found how) ≡ true
found_group Setting h f n = absurd (h refl)
found_group Plain h f n = refl
found_group (Capture m) h f n = refl
found_group (Marked how) h f n = refl
found_group (Reference folded index) h f n = absurd (f folded index refl)
found_group (Chooses c) h f n = refl
found_group Condition h f n = absurd (true_is_false n)

pub joined : {k : ℕ} {p q : Place} {bs : List Pattern} (t : Pattern) → IsTheReading (BranchesReading k) p bs q → t ≡ in_branches bs → IsTheReading (Alternation k) p t q
joined {bs = bs} t h is = (
  (bs, is, h.0),
  λ u r (cs, same, x). let o = h.1 cs r x in (same ∙ (ap in_branches o.0 ∙ sym is), o.1),
)

pub no_whole_reading : {s : Scope} {text : Text} {p : Place} → p ≡ start s text → HasNoReading (Alternation most_parentheses) p → (t : Pattern) (end : Place) → Reads s text t end → ⊥
no_whole_reading is nothing t end x = nothing t end (x.branches, x.is, subst (λ y. BranchesReading most_parentheses y x.branches end) (sym is) x.reads)

pub not_whole : {s : Scope} {text : Text} {p q : Place} {found : Pattern} → p ≡ start s text → IsTheReading (Alternation most_parentheses) p found q → (q.text ≡ [] → ⊥) → (t : Pattern) (end : Place) → Reads s text t end → ⊥
not_whole is h left t end x =
    let o = h.1 t end (x.branches, x.is, subst (λ y. BranchesReading most_parentheses y x.branches end) (sym is) x.reads) in
    left (ap (λ (s : Place). s.text) (sym o.1) ∙ x.all)

pub whole_reading : {s : Scope} {text : Text} {p q : Place} {found : Pattern} → p ≡ start s text → IsTheReading (Alternation most_parentheses) p found q → q.text ≡ [] → Reads s text found q
whole_reading {q = q} is h all = record { branches = h.0.0; is = h.0.1; reads = subst (λ y. BranchesReading most_parentheses y h.0.0 q) is h.0.2; all = all }

is_zero : (n : ℕ) → true ≡ (n == 0) → n ≡ 0
is_zero n h = grind (arith, nat_tests)

pub nothing_left : (t : Text) → true ≡ (length t == 0) → t ≡ []
nothing_left t h = nil_from_length t (is_zero (length t) h)

pub some_left : (t : Text) → false ≡ (length t == 0) → t ≡ [] → ⊥
some_left [] h e = cc
some_left (c ∷ t) h e = cc
