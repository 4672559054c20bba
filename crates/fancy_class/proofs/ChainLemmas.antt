-- Lemmas on operators, one after another.
use Rattle.std.proofs.Common.{if◌then◌else◌, ◌≡◌, ℕ, ◌≤◌, Bool, true, false, nat_le, List, [], ◌∷◌, ◌++◌, length, cond, refl, sym, ap, ◌∙◌, arith}
use Rattle.std.proofs.lemmas.Bool.Decides.{nat_tests}
use Rattle.fancy_tree.specs.Sets.{has, AreEdges, in_range}
use Rattle.fancy_tree.specs.Members.{Members, members, edges_of, applied}
use Rattle.fancy_tree.specs.declared.operation.Operation.{Operation}
use Rattle.fancy_tree.specs.declared.set.Set.{Set}
use Rattle.fancy_tree.proofs.EdgesLemmas.{has_count}
use Rattle.std.proofs.lemmas.List.{map-append}
use Rattle.fancy_class.specs.declared.chain.Step.{Step}
use Rattle.fancy_class.specs.ClassGrammar.{none_of, combine_all}
use Rattle.fancy_class.specs.Chains.{step_of, steps_of}

-- no number past the last is a member
past_last : (es : List ℕ) (c : ℕ) → AreEdges es → 0x11_0000 ≤ c → has es c ≡ false
past_last es c h past = has_count es (length es) c (omega arith) (λ k lt. let w = h.within k lt in omega arith) (λ k from lt. absurd (omega arith)) ∙ h.closed

members_within : (s : Set) (c : ℕ) → members s c ≡ true → nat_le c 0x10_FFFF ≡ true
members_within s c h = go (nat_le c 0x10_FFFF) refl
  where
    go : (b : Bool) → nat_le c 0x10_FFFF ≡ b → b ≡ true
    go true e = refl
    go false e = sym (past_last (edges_of s) c s.are_edges (grind (arith, nat_tests))) ∙ h

pub all_numbers : (s : Set) (c : ℕ) → members s c ≡ in_range (0, 0x10_FFFF) c → nat_le c 0x10_FFFF ≡ true → members s c ≡ true
all_numbers s c e h = grind (arith, nat_tests)

-- what operators make of a number hangs on that number alone
pub combine_all-at : (f g : Members) (steps : List (Operation × Members)) (c : ℕ) → f c ≡ g c → combine_all f steps c ≡ combine_all g steps c
combine_all-at f g [] c e = e
combine_all-at f g ((how, x) ∷ steps) c e = combine_all-at (λ d. applied how (f d) (x d)) (λ d. applied how (g d) (x d)) steps c (ap (λ b. applied how b (x c)) e)

pub combine_all-append : (f : Members) (xs ys : List (Operation × Members)) → combine_all f (xs ++ ys) ≡ combine_all (combine_all f xs) ys
combine_all-append f [] ys = refl
combine_all-append f ((how, x) ∷ xs) ys = combine_all-append (λ c. applied how (f c) (x c)) xs ys

-- a set that was changed, number by number
pub changed : (s : Set) (steps : List (Operation × Members)) (k g : Bool) (c : ℕ) → g ≡ combine_all none_of steps c → (nat_le c 0x10_FFFF ≡ true → k ≡ combine_all (λ d. true) steps c) →
    (if members s c then k else g) ≡ combine_all (members s) steps c
changed s steps k g c e h = go (members s c) refl
  where
    go : (b : Bool) → members s c ≡ b → cond b k g ≡ combine_all (members s) steps c
    go true is = h (members_within s c is) ∙ combine_all-at (λ d. true) (members s) steps c (sym is)
    go false is = e ∙ combine_all-at none_of (members s) steps c (sym is)

-- a set that steps gave, and that is changed by those after them
pub changed_on : (f : Members) (s : Set) (xs ys all : List Step) (k g : Bool) (c : ℕ) → all ≡ xs ++ ys → members s c ≡ combine_all f (steps_of xs) c → g ≡ combine_all none_of (steps_of ys) c →
    (nat_le c 0x10_FFFF ≡ true → k ≡ combine_all (λ d. true) (steps_of ys) c) → (if members s c then k else g) ≡ combine_all f (steps_of all) c
changed_on f s xs ys all k g c is from e h =
    changed s (steps_of ys) k g c e h
    ∙ (combine_all-at (members s) (combine_all f (steps_of xs)) (steps_of ys) c from
    ∙ (ap (λ (m : Members). m c) (sym (combine_all-append f (steps_of xs) (steps_of ys))) ∙ ap (λ l. combine_all f l c) (sym (map-append step_of xs ys) ∙ ap steps_of (sym is))))

-- one more step
pub added : (f : Members) (steps new : List Step) (s : Step) (c : ℕ) → new ≡ steps ++ s ∷ [] → combine_all f (steps_of new) c ≡ applied s.how (combine_all f (steps_of steps) c) (members s.right c)
added f steps new s c is =
    ap (λ l. combine_all f l c) (ap steps_of is ∙ map-append step_of steps (s ∷ [])) ∙ ap (λ (m : Members). m c) (combine_all-append f (steps_of steps) ((s.how, members s.right) ∷ []))
