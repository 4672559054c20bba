-- Which trees are the leaf of a sequence without parts.
use Rattle.std.proofs.Common.{◌≡◌, ◌≤◌, false, List, [], ◌∷◌, length, map, refl, sym, ap, ◌∙◌, arith, Vec, Global}
use Rattle.fancy_tree.specs.declared.tree.Tree.{Tree, Tree-F, fold-roll-Tree}
use Rattle.fancy_tree.specs.declared.tree.Tree.TheVariants as made
use Rattle.fancy_tree.specs.declared.tree.Tree.TheViews.{out-Tree, roll-Tree, roll-out-Tree}
use Rattle.fancy_tree.specs.Pattern.{Pattern, pattern_of, node_pattern, in_sequence, in_choice}
use Rattle.fancy_tree.specs.Sizes.{is_empty}

pub several : (ps : List Pattern) → 2 ≤ length ps → is_empty (in_sequence ps) ≡ false
several [] h = absurd (omega (arith, h))
several (p ∷ []) h = absurd (omega (arith, h))
several (p ∷ q ∷ ps) h = refl

-- an alternative is no leaf
pub choice : (ps : List Pattern) → is_empty (in_choice ps) ≡ false
choice [] = refl
choice (p ∷ []) = refl
choice (p ∷ q ∷ ps) = refl

no_leaf_layer : (f : Tree-F Tree) → (roll-Tree f ≡ made.Empty → ⊥) → ((parts : Vec Tree Global) → roll-Tree f ≡ made.Concat parts → ⊥) → is_empty (pattern_of (roll-Tree f)) ≡ false
no_leaf_layer Tree-F.Empty e s = absurd (e made.rolls-Empty)
no_leaf_layer (Tree-F.Concat parts) e s = absurd (s parts (made.rolls-Concat parts))
no_leaf_layer (Tree-F.Character a) e s = ap is_empty (fold-roll-Tree Pattern node_pattern (Tree-F.Character a))
no_leaf_layer (Tree-F.Member a) e s = ap is_empty (fold-roll-Tree Pattern node_pattern (Tree-F.Member a))
no_leaf_layer (Tree-F.InAnyCase a) e s = ap is_empty (fold-roll-Tree Pattern node_pattern (Tree-F.InAnyCase a))
no_leaf_layer (Tree-F.RawByte a) e s = ap is_empty (fold-roll-Tree Pattern node_pattern (Tree-F.RawByte a))
no_leaf_layer (Tree-F.Backreference a b) e s = ap is_empty (fold-roll-Tree Pattern node_pattern (Tree-F.Backreference a b))
no_leaf_layer (Tree-F.Assertion a) e s = ap is_empty (fold-roll-Tree Pattern node_pattern (Tree-F.Assertion a))
no_leaf_layer (Tree-F.GroupTest a) e s = ap is_empty (fold-roll-Tree Pattern node_pattern (Tree-F.GroupTest a))
no_leaf_layer Tree-F.KeepStart e s = ap is_empty (fold-roll-Tree Pattern node_pattern Tree-F.KeepStart)
no_leaf_layer Tree-F.ContinueHere e s = ap is_empty (fold-roll-Tree Pattern node_pattern Tree-F.ContinueHere)
no_leaf_layer (Tree-F.Group a b) e s = ap is_empty (fold-roll-Tree Pattern node_pattern (Tree-F.Group a b))
no_leaf_layer (Tree-F.Repeat a b c d) e s = ap is_empty (fold-roll-Tree Pattern node_pattern (Tree-F.Repeat a b c d))
no_leaf_layer (Tree-F.LookAhead a b) e s = ap is_empty (fold-roll-Tree Pattern node_pattern (Tree-F.LookAhead a b))
no_leaf_layer (Tree-F.LookBehind a b) e s = ap is_empty (fold-roll-Tree Pattern node_pattern (Tree-F.LookBehind a b))
no_leaf_layer (Tree-F.Atomic a) e s = ap is_empty (fold-roll-Tree Pattern node_pattern (Tree-F.Atomic a))
no_leaf_layer (Tree-F.Conditional a b c) e s = ap is_empty (fold-roll-Tree Pattern node_pattern (Tree-F.Conditional a b c))
no_leaf_layer (Tree-F.Alternation branches) e s = ap is_empty (fold-roll-Tree Pattern node_pattern (Tree-F.Alternation branches)) ∙ choice (map pattern_of branches.items)

pub no_leaf : (t : Tree) → (t ≡ made.Empty → ⊥) → ((parts : Vec Tree Global) → t ≡ made.Concat parts → ⊥) → is_empty (pattern_of t) ≡ false
no_leaf t e s =
    let is : roll-Tree (out-Tree t) ≡ t = roll-out-Tree t in
    ap (λ u. is_empty (pattern_of u)) (sym is) ∙ no_leaf_layer (out-Tree t) (λ h. e (sym is ∙ h)) (λ parts h. s parts (sym is ∙ h))
