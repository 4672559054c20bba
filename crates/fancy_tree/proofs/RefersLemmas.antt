-- What the numbers of groups change in a pattern.
use Rattle.std.proofs.Common.{◌≡◌, ℕ, ◌+◌, ◌<◌, List, [], ◌∷◌, ◌++◌, map, length, take, drop, get_or, set, refl, sym, ap, ap₂, ◌∙◌, arith}
use Rattle.std.proofs.lemmas.List.{map-set, get_or-map}
use Rattle.std.proofs.lemmas.List.Edits.{map_over_more}
use Rattle.fancy_tree.specs.Pattern.{Pattern, empty, character, member_of, in_any_case, raw_byte, backreference, assertion, group_test, keep_start, continue_here, group, repeat, look_ahead, look_behind, atomic, conditional, followed, or_else, last_branch, in_sequence, in_choice}
use Rattle.fancy_tree.specs.Sizes.{nodes, repeat_nodes, kind_nodes}
use Rattle.fancy_tree.specs.Refers.{refers_to}

pub refers_to-in_sequence : (f : ℕ → ℕ) (ps : List Pattern) → refers_to f (in_sequence ps) ≡ in_sequence (map (refers_to f) ps)
unfolding refers_to
refers_to-in_sequence f [] = refl
refers_to-in_sequence f (p ∷ []) = refl
refers_to-in_sequence f (p ∷ q ∷ ps) = ap (followed (refers_to f p)) (refers_to-in_sequence f (q ∷ ps))

pub refers_to-in_choice : (f : ℕ → ℕ) (ps : List Pattern) → refers_to f (in_choice ps) ≡ in_choice (map (refers_to f) ps)
unfolding refers_to
refers_to-in_choice f [] = refl
refers_to-in_choice f (p ∷ []) = refl
refers_to-in_choice f (p ∷ q ∷ ps) = ap (or_else (refers_to f p)) (refers_to-in_choice f (q ∷ ps))

pub same_conditional : {a b c x y z : Pattern} → a ≡ x → b ≡ y → c ≡ z → conditional a b c ≡ conditional x y z
same_conditional {c = c} {x = x} {y = y} e f h = ap₂ (λ p q. conditional p q c) e f ∙ ap (conditional x y) h

-- no node comes or goes
pub nodes-refers_to : (f : ℕ → ℕ) (p : Pattern) → nodes (refers_to f p) ≡ nodes p
unfolding nodes refers_to
nodes-refers_to f empty = refl
nodes-refers_to f (character c) = refl
nodes-refers_to f (member_of edges) = refl
nodes-refers_to f (in_any_case edges) = refl
nodes-refers_to f (raw_byte byte) = refl
nodes-refers_to f (backreference folded number) = refl
nodes-refers_to f (assertion a) = refl
nodes-refers_to f (group_test number) = refl
nodes-refers_to f keep_start = refl
nodes-refers_to f continue_here = refl
nodes-refers_to f (group index body) = ap (λ n. n + 1) (nodes-refers_to f body)
nodes-refers_to f (repeat low high kind body) = ap (λ n. repeat_nodes low high n + kind_nodes kind) (nodes-refers_to f body)
nodes-refers_to f (look_ahead negated body) = ap (λ n. n + 1) (nodes-refers_to f body)
nodes-refers_to f (look_behind negated body) = ap (λ n. n + 1) (nodes-refers_to f body)
nodes-refers_to f (atomic body) = ap (λ n. n + 1) (nodes-refers_to f body)
nodes-refers_to f (conditional condition first second) = omega (arith, nodes-refers_to f condition, nodes-refers_to f first, nodes-refers_to f second)
nodes-refers_to f (followed part rest) = omega (arith, nodes-refers_to f part, nodes-refers_to f rest)
nodes-refers_to f (or_else branch others) = omega (arith, nodes-refers_to f branch, nodes-refers_to f others)
nodes-refers_to f (last_branch branch) = ap (λ n. n + 1) (nodes-refers_to f branch)

-- one more of the values that a loop changes in their places, as they are seen
pub changed_next : {X P : Type 0} (view : X → P) (f : P → P) (xs : List X) (qs : List P) (i : ℕ) (old new : X) → i < length xs → length xs ≡ length qs → map view xs ≡ map f (take i qs) ++ drop i qs
    → old ≡ get_or xs i old → view new ≡ f (view old) → map view (set xs i new) ≡ map f (take (i + 1) qs) ++ drop (i + 1) qs
changed_next view f xs qs i old new below same so_far is e =
    map-set view xs i new
    ∙ (ap (set (map view xs) i) e
    ∙ map_over_more f qs (map view xs) i (view old) (omega (arith, below, same)) so_far (ap view is ∙ sym (get_or-map view xs i old (view old) below)))
