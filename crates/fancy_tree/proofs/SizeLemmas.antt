-- How `nodes` adds up over lists.
use Rattle.std.proofs.Common.{◌≡◌, ◌+◌, ◌<◌, max, List, [], ◌∷◌, length, sum_by, Some, None, refl, arith}
use Rattle.std.proofs.lemmas.List.Sums.{sum_by-cons}
use Rattle.fancy_tree.specs.Pattern.{Pattern, repeat, followed, in_sequence, in_choice}
use Rattle.fancy_tree.specs.Sizes.{nodes}

pub nodes-pos : (p : Pattern) → 0 < nodes p
unfolding nodes
nodes-pos (repeat low None kind body) = omega arith
nodes-pos (repeat low (Some high) kind body) = omega arith
nodes-pos (followed part rest) = omega (arith, nodes-pos part)
nodes-pos _ = omega arith

nodes-in_sequence_more : (p : Pattern) (ps : List Pattern) → nodes (in_sequence (p ∷ ps)) ≡ sum_by nodes (p ∷ ps)
unfolding nodes
nodes-in_sequence_more p [] = omega arith
nodes-in_sequence_more p (q ∷ ps) =
    omega (arith, nodes-in_sequence_more q ps, sum_by-cons nodes p (q ∷ ps))

nodes-in_choice_more : (p : Pattern) (ps : List Pattern) →
    nodes (in_choice (p ∷ ps)) ≡ sum_by nodes (p ∷ ps) + length (p ∷ ps)
unfolding nodes
nodes-in_choice_more p [] = omega arith
nodes-in_choice_more p (q ∷ ps) = omega (arith, nodes-in_choice_more q ps, sum_by-cons nodes p (q ∷ ps))

pub nodes-in_sequence : (ps : List Pattern) → nodes (in_sequence ps) ≡ max (sum_by nodes ps) 1
unfolding nodes
nodes-in_sequence [] = refl
nodes-in_sequence (p ∷ ps) =
    omega (arith, nodes-in_sequence_more p ps, nodes-pos p, sum_by-cons nodes p ps)

pub nodes-in_choice : (ps : List Pattern) → nodes (in_choice ps) ≡ max (sum_by nodes ps + length ps) 1
unfolding nodes
nodes-in_choice [] = refl
nodes-in_choice (p ∷ ps) = omega (arith, nodes-in_choice_more p ps)
