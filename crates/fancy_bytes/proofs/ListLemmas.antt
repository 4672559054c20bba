-- The byte sets of sequences and alternatives, part by part.
use Rattle.std.proofs.Common.{◌≡◌, ℕ, zero, suc, ◌+◌, ◌<◌, ◌≤◌, Bool, true, false, ◌&&◌, ◌||◌, List, [], ◌∷◌, length, map, drop, get_or, refl, sym, ap, ap₂, ◌∙◌, arith}
use Rattle.fancy_tree.specs.declared.tree.Tree.{Tree}
use Rattle.fancy_tree.specs.declared.tree.Meaning.{Meaning}
use Rattle.fancy_tree.specs.Pattern.{Pattern, in_sequence, in_choice, pattern_of}
use Rattle.fancy_bytes.specs.Firsts.{nullable, first_bytes, has_keep_start}
use Rattle.fancy_bytes.specs.Required.{required_bytes}
use Rattle.fancy_bytes.specs.Lists.{all_nullable, some_nullable, some_keep_start, first_in_row, first_in_some, required_in_some, required_in_all, required_in_choice}
use Rattle.fancy_bytes.proofs.BoolLemmas.{or_assoc, and_assoc}
use Rattle.fancy_bytes.proofs.ItemLemmas.{first_of_none}

and_all : (b : Bool) → b ≡ (b && true)
and_all true = refl
and_all false = refl

or_none : (b : Bool) → b ≡ (b || false)
or_none true = refl
or_none false = refl

or_never : (b c : Bool) → b ≡ (b || (c && false))
or_never true c = refl
or_never false true = refl
or_never false false = refl

pub nullable-in_sequence : (ps : List Pattern) → nullable (in_sequence ps) ≡ all_nullable ps
nullable-in_sequence [] = refl
nullable-in_sequence (p ∷ []) = and_all (nullable p)
nullable-in_sequence (p ∷ q ∷ ps) = ap (λ b. nullable p && b) (nullable-in_sequence (q ∷ ps))

pub nullable-in_choice : (ps : List Pattern) → nullable (in_choice ps) ≡ some_nullable ps
nullable-in_choice [] = refl
nullable-in_choice (p ∷ []) = or_none (nullable p)
nullable-in_choice (p ∷ q ∷ ps) = ap (λ b. nullable p || b) (nullable-in_choice (q ∷ ps))

pub first-in_sequence : (m : Meaning) (ps : List Pattern) (b : ℕ) → first_bytes m (in_sequence ps) b ≡ first_in_row m ps b
first-in_sequence m [] b = refl
first-in_sequence m (p ∷ []) b = or_never (first_bytes m p b) (nullable p)
first-in_sequence m (p ∷ q ∷ ps) b = ap (λ c. first_bytes m p b || (nullable p && c)) (first-in_sequence m (q ∷ ps) b)

pub first-in_choice_more : (m : Meaning) (p : Pattern) (ps : List Pattern) (b : ℕ) → first_bytes m (in_choice (p ∷ ps)) b ≡ first_in_some m (p ∷ ps) b
first-in_choice_more m p [] b = or_none (first_bytes m p b)
first-in_choice_more m p (q ∷ ps) b = ap (λ c. first_bytes m p b || c) (first-in_choice_more m q ps b)

pub required-in_sequence : (m : Meaning) (ps : List Pattern) (b : ℕ) → required_bytes m (in_sequence ps) b ≡ required_in_some m ps b
required-in_sequence m [] b = refl
required-in_sequence m (p ∷ []) b = or_none (required_bytes m p b)
required-in_sequence m (p ∷ q ∷ ps) b = ap (λ c. required_bytes m p b || c) (required-in_sequence m (q ∷ ps) b)

pub required-in_choice_more : (m : Meaning) (p : Pattern) (ps : List Pattern) (b : ℕ) → required_bytes m (in_choice (p ∷ ps)) b ≡ required_in_all m (p ∷ ps) b
required-in_choice_more m p [] b = and_all (required_bytes m p b)
required-in_choice_more m p (q ∷ ps) b = ap (λ c. required_bytes m p b && c) (required-in_choice_more m q ps b)

next_one : (ts : List Tree) (i : ℕ) (t : Tree) → i < length ts → t ≡ get_or ts i t → drop i (map pattern_of ts) ≡ pattern_of t ∷ drop (suc i) (map pattern_of ts)
next_one [] i t lt e = absurd (omega arith)
next_one (u ∷ us) zero t lt e = ap (λ x. pattern_of x ∷ map pattern_of us) (sym e)
next_one (u ∷ us) (suc i) t lt e = next_one us i t (omega arith) e

-- the part at i, and those after it
pub next_part : (ts : List Tree) (i : ℕ) (t : Tree) → i < length ts → t ≡ get_or ts i t → drop i (map pattern_of ts) ≡ pattern_of t ∷ drop (i + 1) (map pattern_of ts)
next_part ts i t lt e =
    let same : suc i ≡ i + 1 = omega arith in
    next_one ts i t lt e ∙ ap (λ (k : ℕ). pattern_of t ∷ drop k (map pattern_of ts)) same

-- no part is left
pub no_part : (ts : List Tree) (i : ℕ) → length ts ≤ i → drop i (map pattern_of ts) ≡ []
no_part [] zero le = refl
no_part [] (suc i) le = refl
no_part (t ∷ ts) zero le = absurd (omega arith)
no_part (t ∷ ts) (suc i) le = no_part ts i (omega arith)

pub all_here : (ts : List Tree) (i : ℕ) (t : Tree) → i < length ts → t ≡ get_or ts i t →
    all_nullable (drop i (map pattern_of ts)) ≡ (nullable (pattern_of t) && all_nullable (drop (i + 1) (map pattern_of ts)))
all_here ts i t lt e = ap all_nullable (next_part ts i t lt e)

pub some_here : (ts : List Tree) (i : ℕ) (t : Tree) → i < length ts → t ≡ get_or ts i t →
    some_nullable (drop i (map pattern_of ts)) ≡ (nullable (pattern_of t) || some_nullable (drop (i + 1) (map pattern_of ts)))
some_here ts i t lt e = ap some_nullable (next_part ts i t lt e)

-- the members that are added to a set for the part at i, and what those after it still add
pub row_here : (m : Meaning) (ts : List Tree) (i : ℕ) (t : Tree) (b : ℕ) → i < length ts → t ≡ get_or ts i t →
    first_in_row m (drop i (map pattern_of ts)) b
    ≡ (first_bytes m (pattern_of t) b || (nullable (pattern_of t) && first_in_row m (drop (i + 1) (map pattern_of ts)) b))
row_here m ts i t b lt e = ap (λ ps. first_in_row m ps b) (next_part ts i t lt e)

pub any_here : (m : Meaning) (ts : List Tree) (i : ℕ) (t : Tree) (b : ℕ) → i < length ts → t ≡ get_or ts i t →
    first_in_some m (drop i (map pattern_of ts)) b
    ≡ (first_bytes m (pattern_of t) b || first_in_some m (drop (i + 1) (map pattern_of ts)) b)
any_here m ts i t b lt e = ap (λ ps. first_in_some m ps b) (next_part ts i t lt e)

-- The part at i adds its members to `now`; what was to come still is.
pub row_step : (m : Meaning) (ts : List Tree) (i : ℕ) (t : Tree) (b : ℕ) (was now next : Bool) (n : Bool) → i < length ts → t ≡ get_or ts i t →
    next ≡ (now || first_bytes m (pattern_of t) b) → n ≡ nullable (pattern_of t) → (now || first_in_row m (drop i (map pattern_of ts)) b) ≡ was →
    (next || (n && first_in_row m (drop (i + 1) (map pattern_of ts)) b)) ≡ was
row_step m ts i t b was now next n lt e adds nullable_is before =
    ap₂ (λ x y. x || (y && first_in_row m (drop (i + 1) (map pattern_of ts)) b)) adds nullable_is
    ∙ or_assoc now (first_bytes m (pattern_of t) b) _
    ∙ ap (λ x. now || x) (sym (row_here m ts i t b lt e))
    ∙ before

pub any_step : (m : Meaning) (ts : List Tree) (i : ℕ) (t : Tree) (b : ℕ) (was now next : Bool) → i < length ts → t ≡ get_or ts i t →
    next ≡ (now || first_bytes m (pattern_of t) b) → (now || first_in_some m (drop i (map pattern_of ts)) b) ≡ was →
    (next || first_in_some m (drop (i + 1) (map pattern_of ts)) b) ≡ was
any_step m ts i t b was now next lt e adds before =
    ap (λ x. x || first_in_some m (drop (i + 1) (map pattern_of ts)) b) adds
    ∙ or_assoc now (first_bytes m (pattern_of t) b) _
    ∙ ap (λ x. now || x) (sym (any_here m ts i t b lt e))
    ∙ before

pub first-in_any_choice : (m : Meaning) (ps : List Pattern) (b : ℕ) → first_bytes m (in_choice ps) b ≡ first_in_some m ps b
first-in_any_choice m [] b = first_of_none m b
first-in_any_choice m (p ∷ ps) b = first-in_choice_more m p ps b

pub keep_start-in_sequence : (ps : List Pattern) → has_keep_start (in_sequence ps) ≡ some_keep_start ps
keep_start-in_sequence [] = refl
keep_start-in_sequence (p ∷ []) = or_none (has_keep_start p)
keep_start-in_sequence (p ∷ q ∷ ps) = ap (λ b. has_keep_start p || b) (keep_start-in_sequence (q ∷ ps))

pub keep_start-in_choice : (ps : List Pattern) → has_keep_start (in_choice ps) ≡ some_keep_start ps
keep_start-in_choice [] = refl
keep_start-in_choice (p ∷ []) = or_none (has_keep_start p)
keep_start-in_choice (p ∷ q ∷ ps) = ap (λ b. has_keep_start p || b) (keep_start-in_choice (q ∷ ps))

pub keep_start_here : (ts : List Tree) (i : ℕ) (t : Tree) → i < length ts → t ≡ get_or ts i t →
    some_keep_start (drop i (map pattern_of ts)) ≡ (has_keep_start (pattern_of t) || some_keep_start (drop (i + 1) (map pattern_of ts)))
keep_start_here ts i t lt e = ap some_keep_start (next_part ts i t lt e)

pub required-in_choice : (m : Meaning) (ps : List Pattern) (b : ℕ) → required_bytes m (in_choice ps) b ≡ required_in_choice m ps b
required-in_choice m [] b = refl
required-in_choice m (p ∷ ps) b = required-in_choice_more m p ps b

pub some_step : (m : Meaning) (ts : List Tree) (i : ℕ) (t : Tree) (b : ℕ) (now next more w : Bool) → i < length ts → t ≡ get_or ts i t →
    next ≡ (now || more) → more ≡ required_bytes m (pattern_of t) b → (now || required_in_some m (drop i (map pattern_of ts)) b) ≡ w →
    (next || required_in_some m (drop (i + 1) (map pattern_of ts)) b) ≡ w
some_step m ts i t b now next more w lt e joins is before =
    ap (λ x. x || required_in_some m (drop (i + 1) (map pattern_of ts)) b) (joins ∙ ap (λ x. now || x) is)
    ∙ or_assoc now (required_bytes m (pattern_of t) b) _
    ∙ ap (λ ps. now || required_in_some m ps b) (sym (next_part ts i t lt e))
    ∙ before

pub each_step : (m : Meaning) (ts : List Tree) (i : ℕ) (t : Tree) (b : ℕ) (now next more w : Bool) → i < length ts → t ≡ get_or ts i t →
    next ≡ (now && more) → more ≡ required_bytes m (pattern_of t) b → (now && required_in_all m (drop i (map pattern_of ts)) b) ≡ w →
    (next && required_in_all m (drop (i + 1) (map pattern_of ts)) b) ≡ w
each_step m ts i t b now next more w lt e joins is before =
    ap (λ x. x && required_in_all m (drop (i + 1) (map pattern_of ts)) b) (joins ∙ ap (λ x. now && x) is)
    ∙ and_assoc now (required_bytes m (pattern_of t) b) _
    ∙ ap (λ ps. now && required_in_all m ps b) (sym (next_part ts i t lt e))
    ∙ before
