-- Groups are numbered in the order of their openings.
use Rattle.std.proofs.Common.{ℕ, ◌+◌, List, [], ◌∷◌, map, Option, Some, None, ◌≡◌, refl, sym, subst}
use Rattle.std.specs.Prelude.{encode_utf8}
use Rattle.fancy_syntax.specs.declared.groups.Grouping.{Grouping}
use Rattle.fancy_syntax.specs.declared.groups.Grouping.TheVariants.{Atomic, LookAhead, LookBehind}
use Rattle.fancy_tree.specs.declared.tree.Meaning.{Meaning}
use Rattle.fancy_tree.specs.declared.tree.Meaning.TheVariants.{Unicode, Bytes, AsciiText}
use Rattle.fancy_syntax.specs.Dialect.{Scope, inside, group_of, literal_of, Branches, one, either, Parts, nothing, item, Item, set, bare, quantified, Atom, single, plain, flagged, capture, unnamed, named, marked, reference, reference_by_name, tested, decided, test_here, conditional_of, Spells, with_part}
use Rattle.fancy_tree.specs.GroupNumbers.{NumbersInOrder}
use Rattle.fancy_tree.specs.Pattern.{Pattern, character, in_sequence, in_choice, in_branches}
use Rattle.fancy_tree.specs.Text.{Text}
use Rattle.fancy_syntax.proofs.AtomLemmas as simple
use Rattle.fancy_syntax.proofs.AtomLemmas.{IsSimple, simple_atom}

-- these, one after another
abbrev AllInOrder : ℕ → ℕ → List Pattern → Type 0
AllInOrder n m [] = m ≡ n
AllInOrder n m (p ∷ ps) = (k : ℕ) × NumbersInOrder n k p × AllInOrder k m ps

alone : (n k m : ℕ) (p : Pattern) → NumbersInOrder n k p → m ≡ k → NumbersInOrder n m p
alone n k m p h e = subst (λ (j : ℕ). NumbersInOrder n j p) (sym e) h

sequence_in_order : (n m : ℕ) (ps : List Pattern) → AllInOrder n m ps → NumbersInOrder n m (in_sequence ps)
sequence_in_order n m [] h = h
sequence_in_order n m (p ∷ []) h = alone n h.0 m p h.1 h.2
sequence_in_order n m (p ∷ q ∷ ps) h = (h.0, h.1, sequence_in_order h.0 m (q ∷ ps) h.2)

choice_in_order : (n m : ℕ) (ps : List Pattern) → AllInOrder n m ps → NumbersInOrder n m (in_choice ps)
choice_in_order n m [] h = h
choice_in_order n m (p ∷ []) h = alone n h.0 m p h.1 h.2
choice_in_order n m (p ∷ q ∷ ps) h = (h.0, h.1, choice_in_order h.0 m (q ∷ ps) h.2)

branches_in_order : (n m : ℕ) (ps : List Pattern) → AllInOrder n m ps → NumbersInOrder n m (in_branches ps)
branches_in_order n m [] h = h
branches_in_order n m (p ∷ []) h = alone n h.0 m p h.1 h.2
branches_in_order n m (p ∷ q ∷ ps) h = choice_in_order n m (p ∷ q ∷ ps) h

characters_in_order : (n : ℕ) (cs : List ℕ) → AllInOrder n n (map character cs)
characters_in_order n [] = refl
characters_in_order n (c ∷ cs) = (n, refl, characters_in_order n cs)

literal_in_order : (n : ℕ) (m : Meaning) (c : ℕ) → NumbersInOrder n n (literal_of m c)
literal_in_order n Unicode c = refl
literal_in_order n Bytes c = sequence_in_order n n (map character (encode_utf8 c)) (characters_in_order n (encode_utf8 c))
literal_in_order n AsciiText c = refl

simple_in_order : (n : ℕ) (s : Scope) {p : Pattern} → IsSimple s p → NumbersInOrder n n p
simple_in_order n s (simple.literal c) = literal_in_order n s.meaning c
simple_in_order n s (simple.test a) = refl
simple_in_order n s (simple.item es e) = refl
simple_in_order n s (simple.any_case es e) = refl
simple_in_order n s (simple.byte c k) = refl
simple_in_order n s simple.search_start = refl
simple_in_order n s (simple.kept_start k) = refl

-- an item, which may give no part
abbrev PartInOrder : ℕ → ℕ → Option Pattern → Type 0
PartInOrder n m None = m ≡ n
PartInOrder n m (Some p) = NumbersInOrder n m p

parts_in_order : (n k m : ℕ) (x : Option Pattern) (ps : List Pattern) → PartInOrder n k x → AllInOrder k m ps → AllInOrder n m (with_part x ps)
parts_in_order n k m None ps e all = subst (λ (j : ℕ). AllInOrder j m ps) e all
parts_in_order n k m (Some p) ps h all = (k, h, all)

marked_in_order : (how : Grouping) (n m : ℕ) (p : Pattern) → NumbersInOrder n m p → NumbersInOrder n m (group_of how p)
marked_in_order Atomic n m p h = h
marked_in_order (LookAhead negated) n m p h = h
marked_in_order (LookBehind negated) n m p h = h

-- a conditional: the groups of its condition, and then those of its branches
chosen_in_order : (n k m : ℕ) (c : Pattern) (bs : List Pattern) → NumbersInOrder n k c → AllInOrder k m bs → NumbersInOrder n m (conditional_of c bs)
chosen_in_order n k m c [] h e = (k, k, h, refl, e)
chosen_in_order n k m c (b ∷ bs) h all = (k, all.0, h, all.1, branches_in_order all.0 m bs all.2)

-- a mark opens no group that captures
marked_opens_none : (how : Grouping) (s : Scope) → (inside how s).opened ≡ s.opened
marked_opens_none Atomic s = refl
marked_opens_none (LookAhead negated) s = refl
marked_opens_none (LookBehind negated) s = refl

mutual
  ordered_branches : {k : ℕ} {s r : Scope} {t after : Text} {bs : List Pattern} → Branches k s t after bs r → AllInOrder (s.opened + 1) (r.opened + 1) bs
  ordered_branches (one {s = s} {r = r} {ps = ps} p) = (r.opened + 1, sequence_in_order (s.opened + 1) (r.opened + 1) ps (ordered_parts p), refl)
  ordered_branches (either {s = s} {q = q} {r = r} {ps = ps} {bs = bs} p b) =
      (q.opened + 1, sequence_in_order (s.opened + 1) (q.opened + 1) ps (ordered_parts p), ordered_branches b)

  ordered_parts : {k : ℕ} {s r : Scope} {t after : Text} {ps : List Pattern} → Parts k s t after ps r → AllInOrder (s.opened + 1) (r.opened + 1) ps
  ordered_parts (nothing b) = refl
  ordered_parts (item {s = s} {q = q} {r = r} {x = i} {ps = ps} b f g) =
      parts_in_order (s.opened + 1) (q.opened + 1) (r.opened + 1) i ps (ordered_item f) (ordered_parts g)

  ordered_item : {k : ℕ} {s r : Scope} {t after : Text} {x : Option Pattern} → Item k s t after x r → PartInOrder (s.opened + 1) (r.opened + 1) x
  ordered_item (set f) = refl
  ordered_item (bare a e) = ordered_atom a
  ordered_item (quantified a e b q) = ordered_atom a

  ordered_atom : {k : ℕ} {s r : Scope} {t after : Text} {p : Pattern} → Atom k s t after p r → NumbersInOrder (s.opened + 1) (r.opened + 1) p
  ordered_atom (single {s = s} b r) = simple_in_order (s.opened + 1) s (simple_atom r)
  ordered_atom (plain {s = s} {q = q} {bs = bs} b) = branches_in_order (s.opened + 1) (q.opened + 1) bs (ordered_branches b)
  ordered_atom (flagged {s = s} {q = q} {bs = bs} f b) = branches_in_order (s.opened + 1) (q.opened + 1) bs (ordered_branches b)
  ordered_atom (unnamed {s = s} {q = q} {bs = bs} u e b) = branches_in_order (s.opened + 1) (q.opened + 1) bs (ordered_branches b)
  ordered_atom (marked {s = s} {q = q} {how = how} {bs = bs} m b) =
      let x = rw (marked_opens_none how s) at (ordered_branches b) in
      marked_in_order how (s.opened + 1) (q.opened + 1) (in_branches bs) (branches_in_order (s.opened + 1) (q.opened + 1) bs x)
  ordered_atom (reference h) = refl
  ordered_atom (reference_by_name n h) = refl
  ordered_atom (tested {s = s} {q = q} {bs = bs} c h b) = chosen_in_order (s.opened + 1) (s.opened + 1) (q.opened + 1) (test_here s) bs refl (ordered_branches b)
  ordered_atom (decided {s = s} {r = r} {q = q} {cs = cs} {bs = bs} c h f a b) =
      chosen_in_order (s.opened + 1) (r.opened + 1) (q.opened + 1) (in_branches cs) bs (branches_in_order (s.opened + 1) (r.opened + 1) cs (ordered_branches a)) (ordered_branches b)
  ordered_atom (capture {s = s} {q = q} {bs = bs} u e b) = (refl, branches_in_order (s.opened + 1 + 1) (q.opened + 1) bs (ordered_branches b))
  ordered_atom (named {s = s} {q = q} {bs = bs} n m e b) = (refl, branches_in_order (s.opened + 1 + 1) (q.opened + 1) bs (ordered_branches b))

pub in_order : (s : Scope) (text : Text) (p : Pattern) (e : Scope) → Spells s text p e → NumbersInOrder (s.opened + 1) (e.opened + 1) p
in_order s text p e x = subst (λ y. NumbersInOrder (s.opened + 1) (e.opened + 1) y) (sym x.is) (branches_in_order (s.opened + 1) (e.opened + 1) x.branches (ordered_branches x.spelled))
