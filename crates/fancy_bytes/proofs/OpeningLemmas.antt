-- The opening of patterns one after another.
use Rattle.std.proofs.Common.{◌≡◌, ℕ, ◌+◌, ◌<◌, Bool, true, false, ◌&&◌, List, [], ◌∷◌, ◌++◌, length, map, drop, get_or, if◌then◌else◌, refl, sym, ap, ap₂, ◌∙◌, append_assoc}
use Rattle.std.proofs.lemmas.List.{append-nil}
use Rattle.fancy_tree.specs.declared.tree.Tree.{Tree}
use Rattle.fancy_tree.specs.declared.tree.Meaning.{Meaning}
use Rattle.fancy_tree.specs.Pattern.{Pattern, in_sequence, in_choice, pattern_of}
use Rattle.fancy_bytes.specs.Openings.{opening, is_literal, opening_of_row, are_literal}
use Rattle.fancy_bytes.proofs.BoolLemmas.{and_nothing}
use Rattle.fancy_bytes.proofs.ListLemmas.{next_part}

or_nil : (b : Bool) → (xs : List ℕ) → xs ≡ xs ++ (if b then [] else [])
or_nil true xs = sym (append-nil xs)
or_nil false xs = sym (append-nil xs)

pub opening-in_sequence : (m : Meaning) (ps : List Pattern) → opening m (in_sequence ps) ≡ opening_of_row m ps
opening-in_sequence m [] = refl
opening-in_sequence m (p ∷ []) = or_nil (is_literal m p) (opening m p)
opening-in_sequence m (p ∷ q ∷ ps) = ap (λ (t : List ℕ). opening m p ++ (if is_literal m p then t else [])) (opening-in_sequence m (q ∷ ps))

pub literal-in_sequence : (m : Meaning) (ps : List Pattern) → is_literal m (in_sequence ps) ≡ are_literal m ps
literal-in_sequence m [] = refl
literal-in_sequence m (p ∷ []) = sym (and_nothing (is_literal m p))
literal-in_sequence m (p ∷ q ∷ ps) = ap (λ (b : Bool). is_literal m p && b) (literal-in_sequence m (q ∷ ps))

pub opening-in_choice : (m : Meaning) (ps : List Pattern) → opening m (in_choice ps) ≡ []
opening-in_choice m [] = refl
opening-in_choice m (p ∷ []) = refl
opening-in_choice m (p ∷ q ∷ ps) = refl

pub literal-in_choice : (m : Meaning) (ps : List Pattern) → is_literal m (in_choice ps) ≡ false
literal-in_choice m [] = refl
literal-in_choice m (p ∷ []) = refl
literal-in_choice m (p ∷ q ∷ ps) = refl

-- the part at i adds its opening, after which the next comes only if it is literal
pub row_step : (m : Meaning) (ts : List Tree) (i : ℕ) (t : Tree) (now next was : List ℕ) (whole : Bool) → i < length ts → t ≡ get_or ts i t →
    next ≡ now ++ opening m (pattern_of t) → whole ≡ is_literal m (pattern_of t) → now ++ opening_of_row m (drop i (map pattern_of ts)) ≡ was →
    next ++ (if whole then opening_of_row m (drop (i + 1) (map pattern_of ts)) else []) ≡ was
row_step m ts i t now next was whole lt e adds is before =
    ap₂ (λ (xs : List ℕ) (b : Bool). xs ++ (if b then opening_of_row m (drop (i + 1) (map pattern_of ts)) else [])) adds is
    ∙ append_assoc now (opening m (pattern_of t)) _
    ∙ ap (λ (ps : List Pattern). now ++ opening_of_row m ps) (sym (next_part ts i t lt e))
    ∙ before

pub literal_step : (m : Meaning) (ts : List Tree) (i : ℕ) (t : Tree) (was whole : Bool) → i < length ts → t ≡ get_or ts i t →
    whole ≡ is_literal m (pattern_of t) → are_literal m (drop i (map pattern_of ts)) ≡ was →
    (whole && are_literal m (drop (i + 1) (map pattern_of ts))) ≡ was
literal_step m ts i t was whole lt e is before =
    ap (λ (b : Bool). b && are_literal m (drop (i + 1) (map pattern_of ts))) is
    ∙ ap (are_literal m) (sym (next_part ts i t lt e))
    ∙ before
