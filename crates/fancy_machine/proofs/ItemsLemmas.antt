-- Items of any width, read one after another.
use Rattle.std.proofs.Common.{◌≡◌, ℕ, zero, suc, ◌+◌, ◌<◌, ◌≤◌, Bool, List, [], length, Option, Some, None, refl, sym, ap, ◌∙◌, subst, arith, inl, inr}
use Rattle.std.specs.Prelude.{slice_get, if◌then◌else◌}
use Rattle.std.proofs.lemmas.Bool.{le-leb, lt-leb}
use Rattle.fancy_tree.specs.Sets.{has}
use Rattle.fancy_meaning.specs.Context.{Context, State, moved_to, past_item}
use Rattle.fancy_meaning.proofs.Past.{item_beyond}
use Rattle.fancy_code.specs.Instructions.{Instruction, Member}
use Rattle.fancy_code.specs.Items.{ReadsByte}
use Rattle.fancy_code.specs.Run.{Note, fetched, before, act, instr_at, onward, run}
use Rattle.fancy_prices.specs.Prices.{Costs}
use Rattle.fancy_splits.specs.declared.splits.ToldSplit.{ToldSplit}
use Rattle.fancy_splits.specs.Splits.{IsPast, IsToldSplit}
use Rattle.fancy_machine.specs.Atoms.{AreMembers, LacksMember, ReadsItem, ReadsItems, ReadsNone}
use Rattle.fancy_machine.specs.Runs.{HasItems, IsStuck, Stands}

module _ (x : Context) (edges : List ℕ) where
  more : (n p m q : ℕ) → AreMembers x edges n p m → past_item x (has edges) m ≡ Some q → AreMembers x edges (suc n) p q
  more zero p m q o is = (q, ap (past_item x (has edges)) o ∙ is, refl)
  more (suc n) p m q o is = (o.0, o.1, more n o.0 m q o.2 is)

  -- a further item of a set
  pub members_more : (n p m q : ℕ) → AreMembers x edges n p m → past_item x (has edges) m ≡ Some q → AreMembers x edges (n + 1) p q
  members_more n p m q o is = let one : suc n ≡ n + 1 = omega arith in subst (λ (j : ℕ). AreMembers x edges j p q) one (more n p m q o is)

  pub no_members : (n p q : ℕ) → n ≡ 0 → AreMembers x edges n p q → p ≡ q
  no_members zero p q none o = o
  no_members (suc n) p q none o = absurd (omega (arith, none))

module _ (x : Context) (code : List Instruction) (first back : ℕ) where
  -- each has one byte at least
  pub items_le : (n p q : ℕ) → ReadsItems x code first back n p q → p + n ≤ q
  items_le zero p q o = omega (arith, o)
  items_le (suc n) p q o = omega (arith, o.1.0, items_le n o.0 q o.2)

  pub items_then : (n k t p m q : ℕ) → t ≡ n + k → ReadsItems x code first back n p m → ReadsItems x code first back k m q → ReadsItems x code first back t p q
  items_then zero k t p m q is a b =
      let same : k ≡ t = omega (arith, is) in
      subst (λ (j : ℕ). ReadsItems x code first back j p q) same (subst (λ (j : ℕ). ReadsItems x code first back k j q) (sym a) b)
  items_then (suc n) k zero p m q is a b = absurd (omega (arith, is))
  items_then (suc n) k (suc t) p m q is a b = (a.0, a.1, items_then n k t a.0 m q (omega (arith, is)) a.2 b)

  -- a byte that is an item by itself
  pub reads_one : (p b : ℕ) → ReadsByte code x.meaning b first back → slice_get x.haystack p ≡ Some b → ReadsItem x code first back p (p + 1)
  reads_one p b reads here = (
    omega arith,
    λ limit n s v at le. subst (λ (j : ℕ). run x limit code (suc n) first s v ≡ before (Note fetched) (run x limit code n back (moved_to s (j + 1)) v)) at
        (reads x limit n s v refl (subst (λ (j : ℕ). slice_get x.haystack j ≡ Some b) (sym at) here) (omega (arith, at, le))),
  )

  -- an item of a set
  module _ (edges : List ℕ) (is : instr_at code first ≡ Member edges back) where
    reads_at : (limit n : ℕ) (s : State) (v : List ℕ) (p : ℕ) → s.place ≡ p
        → run x limit code (suc n) first s v ≡ before (Note fetched) (onward limit (run x limit code n) back s v (past_item x (has edges) p))
    reads_at limit n s v p at =
        ap (λ (j : Instruction). before (Note fetched) (act x limit first j (run x limit code n) (run x (length x.haystack) code n) s v)) is
        ∙ ap (λ (o : Option ℕ). before (Note fetched) (onward limit (run x limit code n) back s v o)) (ap (past_item x (has edges)) at)

    pub reads_member : (p q : ℕ) → past_item x (has edges) p ≡ Some q → ReadsItem x code first back p q
    reads_member p q o = (
      item_beyond x (has edges) p q o,
      λ limit n s v at le. reads_at limit n s v p at
          ∙ ap (λ (r : Option ℕ). before (Note fetched) (onward limit (run x limit code n) back s v r)) o
          ∙ ap (λ (b : Bool). before (Note fetched) (if b then (run x limit code n back (moved_to s q) v) else (Some []))) (le-leb q limit le),
    )

    pub reads_members : (n p q : ℕ) → AreMembers x edges n p q → ReadsItems x code first back n p q
    reads_members zero p q o = o
    reads_members (suc n) p q o = (o.0, reads_member p o.0 o.1, reads_members n o.0 q o.2)

    pub reads_no_member : (limit p : ℕ) → LacksMember x edges limit p → ReadsNone x code first limit p
    reads_no_member limit p lacks zero s v at = tt
    reads_no_member limit p lacks (suc n) s v at = subst (Costs 0 0) (sym (reads_at limit n s v p at)) (by (past_item x (has edges) p) lacks) where
      by : (o : Option ℕ) → ((q : ℕ) → o ≡ Some q → limit < q) → Costs 0 0 (before (Note fetched) (onward limit (run x limit code n) back s v o))
      by None far = (refl, refl)
      by (Some q) far = subst (λ (b : Bool). Costs 0 0 (before (Note fetched) (if b then (run x limit code n back (moved_to s q) v) else (Some [])))) (sym (lt-leb q limit (far q refl))) (refl, refl)

-- what is told of a loop
module _ (x : Context) (code : List Instruction) (at : ℕ) (l : ToldSplit) (is : IsToldSplit code x.meaning at l) where
  pub reads_bytes : (n p : ℕ) → l.group ≡ None → HasItems l x.haystack p n → ReadsItems x code l.first at n p (p + n)
  reads_bytes zero p alone items = omega arith
  reads_bytes (suc n) p alone items =
      let here = items 0 (omega arith) in
      let first : p + 0 ≡ p = omega arith in
      let end : p + 1 + n ≡ p + suc n = omega arith in (
        p + 1,
        reads_one x code l.first at p here.0 (is.reads alone here.0 here.2 here.3) (subst (λ (j : ℕ). slice_get x.haystack j ≡ Some here.0) first here.1),
        subst (ReadsItems x code l.first at n (p + 1)) end
            (reads_bytes n (p + 1) alone (λ k lt. let later : p + suc k ≡ p + 1 + k = omega arith in subst (Stands l.items x.haystack) later (items (suc k) (omega (arith, lt))))),
      )

  pub stuck_reads : (limit p : ℕ) → IsStuck l x.haystack limit p → ReadsNone x code l.first limit p
  stuck_reads limit p stuck n s v here =
      elim stuck [
        | inl lacks ↦ is.misses lacks.0 lacks.2 lacks.3 x limit n s v refl (record { here = subst (λ (j : ℕ). slice_get x.haystack j ≡ Some lacks.0) (sym here) lacks.1; before = tt })
        | inr past ↦ is.ends x limit n s v (subst (IsPast x.haystack limit) (sym here) past)
      ]
