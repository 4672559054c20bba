-- Whether the last of patterns one after another ends at the end of the text.
use Rattle.std.proofs.Common.{◌≡◌, ℕ, zero, suc, ◌+◌, false, List, [], ◌∷◌, length, map, get_or, refl, ap, arith}
use Rattle.fancy_tree.specs.declared.tree.Tree.{Tree}
use Rattle.fancy_tree.specs.Pattern.{Pattern, in_sequence, in_choice, pattern_of}
use Rattle.fancy_required.specs.Ends.{ends_text}

pub ends-in_choice : (ps : List Pattern) → false ≡ ends_text (in_choice ps)
ends-in_choice [] = refl
ends-in_choice (p ∷ []) = refl
ends-in_choice (p ∷ q ∷ ps) = refl

pub last_part : (ts : List Tree) (k : ℕ) (t : Tree) → k + 1 ≡ length ts → t ≡ get_or ts k t → ends_text (pattern_of t) ≡ ends_text (in_sequence (map pattern_of ts))
last_part [] k t last is = absurd (omega (arith, last))
last_part (x ∷ []) zero t last is = ap (λ (u : Tree). ends_text (pattern_of u)) is
last_part (x ∷ []) (suc k) t last is = absurd (omega (arith, last))
last_part (x ∷ y ∷ ts) zero t last is = absurd (omega (arith, last))
last_part (x ∷ y ∷ ts) (suc k) t last is = last_part (y ∷ ts) k t (omega (arith, last)) is
