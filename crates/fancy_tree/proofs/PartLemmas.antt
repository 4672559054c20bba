-- The patterns of a list of trees, from a place on.
use Rattle.std.proofs.Common.{◌≡◌, ℕ, zero, suc, ◌+◌, ◌-◌, ◌<◌, true, false, List, [], ◌∷◌, length, map, drop, get_or, true≢false, eq-eqb, eqb-true, refl, sym, ap, ◌∙◌, arith}
use Rattle.std.specs.Prelude.{◌==◌}
use Rattle.std.proofs.Math.Seq.{drop-length}
use Rattle.std.proofs.lemmas.List.{nil_from_length, drop_more, length-map, length-drop}
use Rattle.fancy_tree.specs.declared.tree.Tree.{Tree}
use Rattle.fancy_tree.specs.Pattern.{Pattern, or_else, in_choice, pattern_of}

-- the parts from j on are the part at j, and those from the next on
pub parts_from : (ts : List Tree) (n j : ℕ) (t : Tree) → j + 1 ≡ n → j < length ts → t ≡ get_or ts j t → map pattern_of (drop j ts) ≡ pattern_of t ∷ map pattern_of (drop n ts)
parts_from ts n j t e h same =
    ap (map pattern_of) (drop_more ts j t h)
    ∙ ap (λ u. pattern_of u ∷ map pattern_of (drop (j + 1) ts)) (sym same)
    ∙ ap (λ k. pattern_of t ∷ map pattern_of (drop k ts)) e

one_more : (p : Pattern) (ps : List Pattern) → 0 < length ps → in_choice (p ∷ ps) ≡ or_else p (in_choice ps)
one_more p [] h = absurd (omega arith)
one_more p (q ∷ ps) h = refl

pub branches_from : (ts : List Tree) (n j : ℕ) (t : Tree) → j + 1 ≡ n → n < length ts → t ≡ get_or ts j t
    → in_choice (map pattern_of (drop j ts)) ≡ or_else (pattern_of t) (in_choice (map pattern_of (drop n ts)))
branches_from ts n j t e h same =
    ap in_choice (parts_from ts n j t e (omega arith) same)
    ∙ one_more (pattern_of t) (map pattern_of (drop n ts)) (omega (arith, length-map (drop n ts) pattern_of, length-drop n ts))

-- the patterns of the last tree alone, and of none
pub last_part : (ts : List Tree) (t : Tree) → 0 < length ts → t ≡ get_or ts (length ts - 1) t → map pattern_of (drop (length ts - 1) ts) ≡ pattern_of t ∷ []
last_part ts t h same =
    parts_from ts (length ts) (length ts - 1) t (omega arith) (omega arith) same
    ∙ ap (λ (us : List Tree). pattern_of t ∷ map pattern_of us) (drop-length ts)

pub no_parts : (ts : List Tree) → true ≡ (length ts == 0) → map pattern_of ts ≡ []
no_parts ts h = ap (map pattern_of) (nil_from_length ts (eqb-true (length ts) 0 (sym h)))

pub some_parts : (n : ℕ) → false ≡ (n == 0) → 0 < n
some_parts zero h = absurd (true≢false (sym (h ∙ eq-eqb 0 0 refl)))
some_parts (suc n) h = omega arith
