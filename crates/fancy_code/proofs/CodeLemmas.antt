-- Instructions that stand in a code still stand in a longer one.
use Rattle.std.proofs.Common.{◌≡◌, ◌≢◌, ℕ, zero, suc, ◌+◌, ◌<◌, ◌≤◌, List, [], ◌∷◌, ◌++◌, length, Some, refl, sym, ap, subst, arith, set}
use Rattle.std.specs.Prelude.{slice_get}
use Rattle.std.proofs.lemmas.Option.{slice_get_within, none-some}
use Rattle.fancy_code.specs.Instructions.{Instruction}
use Rattle.fancy_code.specs.declared.code.Entry.{Entry}
use Rattle.fancy_code.specs.Compile.{Has, HasBoth, Extends, Keeps}

pub get_append_left : (xs ys : List Instruction) (q : ℕ) (i : Instruction) → slice_get xs q ≡ Some i → slice_get (xs ++ ys) q ≡ Some i
get_append_left [] ys q i h = absurd (none-some i h)
get_append_left (x ∷ xs) ys zero i h = h
get_append_left (x ∷ xs) ys (suc q) i h = get_append_left xs ys q i h

pub get_append_seam : (xs ys : List Instruction) (i : Instruction) → slice_get (xs ++ i ∷ ys) (length xs) ≡ Some i
get_append_seam [] ys i = refl
get_append_seam (x ∷ xs) ys i = get_append_seam xs ys i

get_set_other : (xs : List Instruction) (m q : ℕ) (i j : Instruction) → q ≢ m → slice_get xs q ≡ Some i → slice_get (set xs m j) q ≡ Some i
get_set_other [] m q i j ne h = h
get_set_other (x ∷ xs) zero zero i j ne h = absurd (ne refl)
get_set_other (x ∷ xs) zero (suc q) i j ne h = h
get_set_other (x ∷ xs) (suc m) zero i j ne h = h
get_set_other (x ∷ xs) (suc m) (suc q) i j ne h = get_set_other xs m q i j (λ e. ne (ap suc e)) h

get_set_same : (xs : List Instruction) (m : ℕ) (j : Instruction) → m < length xs → slice_get (set xs m j) m ≡ Some j
get_set_same [] m j h = absurd (omega arith)
get_set_same (x ∷ xs) zero j h = refl
get_set_same (x ∷ xs) (suc m) j h = get_set_same xs m j (omega arith)

pub keeps_on : (a b c : List Instruction) → Keeps a b → Keeps b c → Keeps a c
keeps_on a b c f g q i le h = g q i le (f q i le h)

pub keeps_same : (c : List Instruction) → Keeps c c
keeps_same c q i le h = h

pub keeps_append : (a ys : List Instruction) → Keeps a (a ++ ys)
keeps_append a ys q i le h = get_append_left a ys q i h

-- what was appended from a place on, and then kept, stands in all that extends the code from there
pub extends_back : (a b later : List Instruction) (from from' : ℕ) → Keeps a b → Extends from b later → from ≤ from' → Extends from' a later
extends_back a b later from from' k x le q i within h = x q i (omega arith) (k q i (omega arith) h)

-- a write at m leaves what stood after it, and in an earlier code that was shorter
extends_set : (a : List Instruction) (m : ℕ) (j : Instruction) → Extends (m + 1) a (set a m j)
extends_set a m j q i le h = get_set_other a m q i j (λ e. let bad : ⊥ = omega arith in bad) h

pub keeps_set : (a b : List Instruction) (m : ℕ) (j : Instruction) → length a ≤ m → Keeps a b → Keeps a (set b m j)
keeps_set a b m j le k q i z h =
    let lt : q < length a = slice_get_within a q i h in
    get_set_other b m q i j (λ e. let bad : ⊥ = omega arith in bad) (k q i z h)

pub both_later : (c c' : List Instruction) (from : ℕ) (entry : Entry) (i j : Instruction) → Keeps c c' → from ≤ entry.moved → from ≤ entry.still → HasBoth c entry i j
    → (later : List Instruction) → Extends from c' later → HasBoth later entry i j
both_later c c' from entry i j k lm ls h later x = (x entry.moved i lm (k entry.moved i (omega arith) h.0), x entry.still j ls (k entry.still j (omega arith) h.1))

-- the same of anything that was emitted
pub emitted_later : (E : List Instruction → Type 0) (c c' : List Instruction) (from n : ℕ) → Keeps c c' → from ≤ n → ((later : List Instruction) → Extends n c later → E later)
    → (later : List Instruction) → Extends from c' later → E later
emitted_later E c c' from n k le e later x = e later (extends_back c c' later from n k x le)

-- the instruction at m, which was reserved, is written once what was emitted after it stands
pub emitted_set : (E : List Instruction → Type 0) (c2 c3 c4 : List Instruction) (from m : ℕ) (j : Instruction) → c3 ≡ set c2 m j → Keeps c3 c4 → from ≤ m
    → ((later : List Instruction) → Extends (m + 1) c2 later → E later) → (later : List Instruction) → Extends from c4 later → E later
emitted_set E c2 c3 c4 from m j e k le ea later x =
    ea later (λ q i le' h. x q i (omega arith) (k q i (omega arith) (subst (λ (l : List Instruction). Has l q i) (sym e) (extends_set c2 m j q i (omega arith) h))))

pub has_set : (c2 c3 c4 : List Instruction) (from m : ℕ) (j : Instruction) → c3 ≡ set c2 m j → m < length c2 → Keeps c3 c4 → from ≤ m → (later : List Instruction) → Extends from c4 later → Has later m j
has_set c2 c3 c4 from m j e lt k le later x = x m j le (k m j (omega arith) (subst (λ (l : List Instruction). Has l m j) (sym e) (get_set_same c2 m j lt)))
