-- When look-behind can step back, over lists.
use Rattle.std.proofs.Common.{◌≡◌, ◌&&◌, Bool, true, false, List, [], ◌∷◌, length, map, get_or, refl, sym, ap, subst, arith}
use Rattle.std.specs.List.{list_all}
use Rattle.fancy_tree.specs.declared.tree.Meaning.{Meaning}
use Rattle.fancy_tree.specs.declared.tree.Tree.{Tree}
use Rattle.fancy_tree.specs.Pattern.{Pattern, pattern_of, in_sequence, in_choice}
use Rattle.fancy_tree.specs.Sizes.{size, has_size, has_sizes, are_sized}

pub sized-in_sequence : (m : Meaning) (ps : List Pattern) → are_sized m (in_sequence ps) ≡ list_all (are_sized m) ps
unfolding are_sized
sized-in_sequence m [] = refl
sized-in_sequence m (p ∷ []) = last_one (are_sized m p)
  where
    last_one : (b : Bool) → b ≡ (b && true)
    last_one true = refl
    last_one false = refl
sized-in_sequence m (p ∷ q ∷ ps) = ap (λ b. are_sized m p && b) (sized-in_sequence m (q ∷ ps))

pub sized-in_choice : (m : Meaning) (ps : List Pattern) → are_sized m (in_choice ps) ≡ list_all (are_sized m) ps
unfolding are_sized
sized-in_choice m [] = refl
sized-in_choice m (p ∷ []) = last_one (are_sized m p)
  where
    last_one : (b : Bool) → b ≡ (b && true)
    last_one true = refl
    last_one false = refl
sized-in_choice m (p ∷ q ∷ ps) = ap (λ b. are_sized m p && b) (sized-in_choice m (q ∷ ps))

pub have_sizes : (m : Meaning) (ps : List Pattern) → has_sizes m (in_choice ps) ≡ list_all (has_size m) ps
unfolding size
have_sizes m [] = refl
have_sizes m (p ∷ []) = last_one (has_size m p)
  where
    last_one : (b : Bool) → b ≡ (b && true)
    last_one true = refl
    last_one false = refl
have_sizes m (p ∷ q ∷ ps) = ap (λ b. has_size m p && b) (have_sizes m (q ∷ ps))

-- a sequence is no alternative, but one of a single part
pub one_size : (m : Meaning) (p : Pattern) (ps : List Pattern) → p ≡ in_sequence ps → (length ps ≡ 1 → ⊥) → has_size m p ≡ has_sizes m p
one_size m p ps e n = subst (λ q. has_size m q ≡ has_sizes m q) (sym e) (go ps n)
  where
    go : (qs : List Pattern) → (length qs ≡ 1 → ⊥) → has_size m (in_sequence qs) ≡ has_sizes m (in_sequence qs)
    go [] h = refl
    go (q ∷ []) h = absurd (h (omega arith))
    go (q ∷ r ∷ qs) h = refl

pub only_part : (ts : List Tree) (t : Tree) → length ts ≡ 1 → t ≡ get_or ts 0 t → in_sequence (map pattern_of ts) ≡ pattern_of t
only_part [] t h e = absurd (omega (arith, h))
only_part (x ∷ []) t h e = ap pattern_of (sym e)
only_part (x ∷ y ∷ ts) t h e = absurd (omega (arith, h))
