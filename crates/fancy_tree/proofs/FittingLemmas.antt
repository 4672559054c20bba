-- Which sizes a `usize` holds: each operation on sizes can leave out those that it does not, and a pattern has no more units than nodes.
use Rattle.std.proofs.Common.{◌≡◌, ℕ, zero, suc, ◌+◌, ◌-◌, ◌*◌, ◌^◌, ◌<◌, ◌≤◌, inl, inr, Bool, true, false, ◌&&◌, cond, List, [], ◌∷◌, length, map, drop, get_or, Option, Some, None, refl, sym, ap, ◌∙◌, subst, arith, lt-ltb, le-ltb, ne_eqb, add-zero, zero-mul}
use Rattle.std.specs.Prelude.{◌==◌}
use Rattle.std.proofs.lemmas.Bool.{cases_lt, cond_both}
use Rattle.std.proofs.Math.Nat.{mul-le-mul_left, mul-le-mul_right}
use Rattle.std.proofs.Math.Seq.{drop-length}
use Rattle.fancy_tree.specs.declared.tree.Meaning.{Meaning}
use Rattle.fancy_tree.specs.declared.tree.Meaning.TheVariants.{Unicode, Bytes, AsciiText}
use Rattle.fancy_tree.specs.declared.tree.RepeatKind.{RepeatKind}
use Rattle.fancy_tree.specs.declared.tree.Tree.{Tree}
use Rattle.fancy_tree.specs.Pattern.{Pattern, empty, character, member_of, in_any_case, raw_byte, backreference, assertion, group_test, keep_start, continue_here, group, repeat, look_ahead, look_behind, atomic, conditional, followed, or_else, last_branch, in_sequence, in_choice, pattern_of}
use Rattle.fancy_tree.specs.Sizes.{nodes, repeat_nodes, kind_nodes, size, plus_size, common_size, times_size, only_zero, repeat_size, raw_byte_size, is_empty, fitting_size}
use Rattle.fancy_tree.proofs.PartLemmas.{parts_from, branches_from, last_part}

fits : (n : ℕ) → n < 2 ^ 64 → fitting_size (Some n) ≡ Some n
fits n h = ap (λ (b : Bool). cond b (Some n) None) (lt-ltb n (2 ^ 64) h)

past : (n : ℕ) → 2 ^ 64 ≤ n → fitting_size (Some n) ≡ None
past n h = ap (λ (b : Bool). cond b (Some n) None) (le-ltb n (2 ^ 64) h)

-- what holds of the number where it fits, and of none where it does not
by_fitting : (P : Option ℕ → Type 0) (n : ℕ) → (n < 2 ^ 64 → P (Some n)) → (2 ^ 64 ≤ n → P None) → P (fitting_size (Some n))
by_fitting P n small large =
    elim (cases_lt n (2 ^ 64)) [
      | inl h ↦ subst P (sym (fits n h)) (small h)
      | inr h ↦ subst P (sym (past n h)) (large h)
    ]

fitting_size-fitting_size : (s : Option ℕ) → fitting_size (fitting_size s) ≡ fitting_size s
fitting_size-fitting_size None = refl
fitting_size-fitting_size (Some m) = by_fitting (λ (x : Option ℕ). fitting_size x ≡ x) m (λ h. fits m h) (λ h. refl)

fitting_size-plus_size : (s t : Option ℕ) → fitting_size (plus_size (fitting_size s) (fitting_size t)) ≡ fitting_size (plus_size s t)
fitting_size-plus_size None t = refl
fitting_size-plus_size (Some m) None =
    by_fitting (λ (x : Option ℕ). fitting_size (plus_size x None) ≡ None) m (λ h. refl) (λ h. refl)
fitting_size-plus_size (Some m) (Some n) =
    by_fitting (λ (x : Option ℕ). fitting_size (plus_size x (fitting_size (Some n))) ≡ fitting_size (Some (m + n))) m
    (λ h. by_fitting (λ (y : Option ℕ). fitting_size (plus_size (Some m) y) ≡ fitting_size (Some (m + n))) n (λ k. refl) (λ k. sym (past (m + n) (omega arith))))
    (λ h. sym (past (m + n) (omega arith)))

-- a test between a number that is too large, and none
too_large : (b : Bool) (n : ℕ) → 2 ^ 64 ≤ n → fitting_size (cond b (Some n) None) ≡ None
too_large true n h = past n h
too_large false n h = refl

both_small : (b : Bool) (n : ℕ) → n < 2 ^ 64 → fitting_size (cond b (Some n) None) ≡ cond b (Some n) None
both_small true n h = fits n h
both_small false n h = refl

common_size-fitting_size : (s t : Option ℕ) → common_size (fitting_size s) (fitting_size t) ≡ fitting_size (common_size s t)
common_size-fitting_size None t = refl
common_size-fitting_size (Some m) None = by_fitting (λ (x : Option ℕ). common_size x None ≡ None) m (λ h. refl) (λ h. refl)
common_size-fitting_size (Some m) (Some n) =
    by_fitting (λ (x : Option ℕ). common_size x (fitting_size (Some n)) ≡ fitting_size (cond (m == n) (Some m) None)) m
    (λ h. by_fitting (λ (y : Option ℕ). common_size (Some m) y ≡ fitting_size (cond (m == n) (Some m) None)) n
    (λ k. sym (both_small (m == n) m h))
    (λ k. sym (ap (λ (b : Bool). fitting_size (cond b (Some m) None)) (ne_eqb m n (λ e. let bad : ⊥ = omega arith in bad)))))
    (λ h. sym (too_large (m == n) m h))

only_zero-fitting_size : (s : Option ℕ) → only_zero (fitting_size s) ≡ fitting_size (only_zero s)
only_zero-fitting_size None = refl
only_zero-fitting_size (Some m) =
    by_fitting (λ (x : Option ℕ). only_zero x ≡ fitting_size (cond (m == 0) (Some 0) None)) m
    (λ h. cond_both (m == 0) (Some 0) None (λ (x : Option ℕ). x ≡ fitting_size x) (λ e. refl) (λ e. refl))
    (λ h. sym (ap (λ (b : Bool). fitting_size (cond b (Some 0) None)) (ne_eqb m 0 (λ e. let bad : ⊥ = omega arith in bad))))

fitting_size-times_size : (n : ℕ) (s : Option ℕ) → fitting_size (times_size n (fitting_size s)) ≡ fitting_size (times_size n s)
fitting_size-times_size n None = refl
fitting_size-times_size zero (Some m) =
    by_fitting (λ (x : Option ℕ). fitting_size (times_size 0 x) ≡ fitting_size (Some (0 * m))) m (λ h. refl) (λ h. sym (ap (λ (k : ℕ). fitting_size (Some k)) (zero-mul m)))
fitting_size-times_size (suc n) (Some m) =
    by_fitting (λ (x : Option ℕ). fitting_size (times_size (suc n) x) ≡ fitting_size (Some (suc n * m))) m
    (λ h. refl)
    (λ h. ap (λ (b : Bool). fitting_size (cond b (Some 0) None)) (ne_eqb (suc n) 0 (λ e. let bad : ⊥ = omega arith in bad))
    ∙ sym (past (suc n * m) (let more : 1 * m ≤ suc n * m = mul-le-mul_right m (omega arith) in omega arith)))

either_fits : (b : Bool) (s s' t t' : Option ℕ) → fitting_size s ≡ fitting_size s' → fitting_size t ≡ fitting_size t' → fitting_size (cond b s t) ≡ fitting_size (cond b s' t')
either_fits true s s' t t' e f = e
either_fits false s s' t t' e f = f

zero_fits : (s : Option ℕ) → fitting_size (only_zero (fitting_size s)) ≡ fitting_size (only_zero s)
zero_fits s = ap fitting_size (only_zero-fitting_size s) ∙ fitting_size-fitting_size (only_zero s)

fitting_size-repeat_size : (low : ℕ) (high : Option ℕ) (s : Option ℕ) → fitting_size (repeat_size low high (fitting_size s)) ≡ fitting_size (repeat_size low high s)
fitting_size-repeat_size low None s = zero_fits s
fitting_size-repeat_size low (Some high) s =
    either_fits (low == high) (times_size low (fitting_size s)) (times_size low s) (only_zero (fitting_size s)) (only_zero s) (fitting_size-times_size low s) (zero_fits s)

-- the sizes of a sequence and of an alternative, from a part on
plus_size-zero : (s : Option ℕ) → plus_size s (Some 0) ≡ s
plus_size-zero None = refl
plus_size-zero (Some m) = ap Some (add-zero m)

size-in_sequence : (m : Meaning) (p : Pattern) (ps : List Pattern) → size m (in_sequence (p ∷ ps)) ≡ plus_size (size m p) (size m (in_sequence ps))
unfolding size
size-in_sequence m p [] = sym (plus_size-zero (size m p))
size-in_sequence m p (q ∷ ps) = refl

size-or_else : (m : Meaning) (p others all : Pattern) → all ≡ or_else p others → size m all ≡ common_size (size m p) (size m others)
unfolding size
size-or_else m p others all e = ap (size m) e

size-last_branch : (m : Meaning) (p all : Pattern) → all ≡ last_branch p → size m all ≡ size m p
unfolding size
size-last_branch m p all e = ap (size m) e

pub no_part_size : (m : Meaning) (ts : List Tree) → Some 0 ≡ fitting_size (size m (in_sequence (map pattern_of (drop (length ts) ts))))
unfolding size
no_part_size m ts = ap (λ (us : List Tree). fitting_size (size m (in_sequence (map pattern_of us)))) (sym (drop-length ts))

pub part_size : (m : Meaning) (ts : List Tree) (n j : ℕ) (t : Tree) → j + 1 ≡ n → j < length ts → t ≡ get_or ts j t → (x y z : Option ℕ)
    → x ≡ fitting_size (size m (pattern_of t)) → y ≡ fitting_size (size m (in_sequence (map pattern_of (drop n ts)))) → z ≡ fitting_size (plus_size x y)
    → z ≡ fitting_size (size m (in_sequence (map pattern_of (drop j ts))))
part_size m ts n j t e h same x y z ex ey ez =
    let p = pattern_of t in
    let ps = map pattern_of (drop n ts) in
    ez
    ∙ ap (λ (u : Option ℕ). fitting_size (plus_size u y)) ex
    ∙ ap (λ (u : Option ℕ). fitting_size (plus_size (fitting_size (size m p)) u)) ey
    ∙ fitting_size-plus_size (size m p) (size m (in_sequence ps))
    ∙ ap fitting_size (sym (size-in_sequence m p ps))
    ∙ ap (λ (qs : List Pattern). fitting_size (size m (in_sequence qs))) (sym (parts_from ts n j t e h same))

pub no_branch_size : (m : Meaning) (ps : List Pattern) → ps ≡ [] → Some 1 ≡ fitting_size (size m (in_choice ps))
unfolding size
no_branch_size m ps e = ap (λ (qs : List Pattern). fitting_size (size m (in_choice qs))) (sym e)

pub last_branch_size : (m : Meaning) (ts : List Tree) (t : Tree) → 0 < length ts → t ≡ get_or ts (length ts - 1) t → (x : Option ℕ) → x ≡ fitting_size (size m (pattern_of t))
    → x ≡ fitting_size (size m (in_choice (map pattern_of (drop (length ts - 1) ts))))
last_branch_size m ts t h same x ex =
    ex ∙ ap fitting_size (sym (size-last_branch m (pattern_of t) (in_choice (map pattern_of (drop (length ts - 1) ts))) (ap in_choice (last_part ts t h same))))

pub branch_size : (m : Meaning) (ts : List Tree) (n j : ℕ) (t : Tree) → j + 1 ≡ n → n < length ts → t ≡ get_or ts j t → (x y z : Option ℕ)
    → x ≡ fitting_size (size m (pattern_of t)) → y ≡ fitting_size (size m (in_choice (map pattern_of (drop n ts)))) → z ≡ common_size x y
    → z ≡ fitting_size (size m (in_choice (map pattern_of (drop j ts))))
branch_size m ts n j t e h same x y z ex ey ez =
    let p = pattern_of t in
    let others = in_choice (map pattern_of (drop n ts)) in
    ez
    ∙ ap (λ (u : Option ℕ). common_size u y) ex
    ∙ ap (λ (u : Option ℕ). common_size (fitting_size (size m p)) u) ey
    ∙ common_size-fitting_size (size m p) (size m others)
    ∙ ap fitting_size (sym (size-or_else m p others (in_choice (map pattern_of (drop j ts))) (branches_from ts n j t e h same)))

-- of a repeat, and of a conditional that is more than its condition
pub repeat_known : (m : Meaning) (low : ℕ) (high : Option ℕ) (kind : RepeatKind) (p all : Pattern) → all ≡ repeat low high kind p → (x y : Option ℕ) → x ≡ fitting_size (size m p)
    → y ≡ fitting_size (repeat_size low high x) → y ≡ fitting_size (size m all)
unfolding size
repeat_known m low high kind p all e x y ex ey =
    ey
    ∙ ap (λ (u : Option ℕ). fitting_size (repeat_size low high u)) ex
    ∙ fitting_size-repeat_size low high (size m p)
    ∙ ap (λ (q : Pattern). fitting_size (size m q)) (sym e)

pub conditional_known : (m : Meaning) (p q r all : Pattern) → all ≡ conditional p q r → (is_empty q && is_empty r) ≡ false → (s t u x y : Option ℕ)
    → s ≡ fitting_size (size m p) → t ≡ fitting_size (size m q) → u ≡ fitting_size (size m r) → x ≡ fitting_size (plus_size s t) → y ≡ common_size x u → y ≡ fitting_size (size m all)
unfolding size
conditional_known m p q r all e more s t u x y es et eu ex ey =
    ey
    ∙ ap (λ (a : Option ℕ). common_size a u) (ex ∙ ap (λ (a : Option ℕ). fitting_size (plus_size a t)) es ∙ ap (λ (a : Option ℕ). fitting_size (plus_size (fitting_size (size m p)) a)) et ∙ fitting_size-plus_size (size m p) (size m q))
    ∙ ap (λ (a : Option ℕ). common_size (fitting_size (plus_size (size m p) (size m q))) a) eu
    ∙ common_size-fitting_size (plus_size (size m p) (size m q)) (size m r)
    ∙ ap (λ (b : Bool). fitting_size (cond b (size m p) (common_size (plus_size (size m p) (size m q)) (size m r)))) (sym more)
    ∙ ap (λ (a : Pattern). fitting_size (size m a)) (sym e)

-- the size, if there is one, is at most n
abbrev IsAtMost : Option ℕ → ℕ → Type 0
IsAtMost None n = Unit {0}
IsAtMost (Some m) n = m ≤ n

at_most_more : (s : Option ℕ) (a b : ℕ) → a ≤ b → IsAtMost s a → IsAtMost s b
at_most_more None a b le h = tt
at_most_more (Some m) a b le h = omega arith

at_most_either : (b : Bool) (s t : Option ℕ) (n : ℕ) → IsAtMost s n → IsAtMost t n → IsAtMost (cond b s t) n
at_most_either true s t n h k = h
at_most_either false s t n h k = k

at_most_plus : (s t : Option ℕ) (a b : ℕ) → IsAtMost s a → IsAtMost t b → IsAtMost (plus_size s t) (a + b)
at_most_plus None t a b h k = tt
at_most_plus (Some m) None a b h k = tt
at_most_plus (Some m) (Some n) a b h k = omega arith

at_most_common : (s t : Option ℕ) (n : ℕ) → IsAtMost s n → IsAtMost (common_size s t) n
at_most_common None t n h = tt
at_most_common (Some a) None n h = tt
at_most_common (Some a) (Some b) n h = at_most_either (a == b) (Some a) None n h tt

at_most_only_zero : (s : Option ℕ) (n : ℕ) → IsAtMost (only_zero s) n
at_most_only_zero None n = tt
at_most_only_zero (Some m) n = at_most_either (m == 0) (Some 0) None n (omega arith) tt

at_most_times : (k : ℕ) (s : Option ℕ) (n : ℕ) → IsAtMost s n → IsAtMost (times_size k s) (k * n)
at_most_times k None n h = at_most_either (k == 0) (Some 0) None (k * n) (omega arith) tt
at_most_times k (Some m) n h = mul-le-mul_left k h

at_most_repeat : (low : ℕ) (high : Option ℕ) (s : Option ℕ) (n : ℕ) → IsAtMost s n → IsAtMost (repeat_size low high s) (repeat_nodes low high n)
at_most_repeat low None s n h = at_most_only_zero s (repeat_nodes low None n)
at_most_repeat low (Some high) s n h =
    at_most_either (low == high) (times_size low s) (only_zero s) (repeat_nodes low (Some high) n)
    (at_most_more (times_size low s) (low * n) (repeat_nodes low (Some high) n) (omega arith) (at_most_times low s n h))
    (at_most_only_zero s (repeat_nodes low (Some high) n))

at_most_one : (m : Meaning) → IsAtMost (raw_byte_size m) 1
at_most_one Unicode = tt
at_most_one Bytes = omega arith
at_most_one AsciiText = tt

-- a pattern always consumes at most as many units as it has nodes
size-nodes : (m : Meaning) (p : Pattern) → IsAtMost (size m p) (nodes p)
unfolding size nodes
size-nodes m empty = omega arith
size-nodes m (character c) = omega arith
size-nodes m (member_of edges) = omega arith
size-nodes m (in_any_case edges) = omega arith
size-nodes m (raw_byte byte) = at_most_one m
size-nodes m (backreference folded number) = tt
size-nodes m (assertion a) = omega arith
size-nodes m (group_test number) = omega arith
size-nodes m keep_start = omega arith
size-nodes m continue_here = omega arith
size-nodes m (group index body) = at_most_more (size m body) (nodes body) (nodes body + 1) (omega arith) (size-nodes m body)
size-nodes m (repeat low high kind body) =
    at_most_more (repeat_size low high (size m body)) (repeat_nodes low high (nodes body)) (repeat_nodes low high (nodes body) + kind_nodes kind) (omega arith)
    (at_most_repeat low high (size m body) (nodes body) (size-nodes m body))
size-nodes m (look_ahead negated body) = omega arith
size-nodes m (look_behind negated body) = omega arith
size-nodes m (atomic body) = at_most_more (size m body) (nodes body) (nodes body + 1) (omega arith) (size-nodes m body)
size-nodes m (conditional condition first second) =
    let both = size-nodes m condition in
    let n = nodes condition + nodes first + nodes second + 1 in
    at_most_either (is_empty first && is_empty second) (size m condition) (common_size (plus_size (size m condition) (size m first)) (size m second)) n
    (at_most_more (size m condition) (nodes condition) n (omega arith) both)
    (at_most_common (plus_size (size m condition) (size m first)) (size m second) n
    (at_most_more (plus_size (size m condition) (size m first)) (nodes condition + nodes first) n (omega arith)
    (at_most_plus (size m condition) (size m first) (nodes condition) (nodes first) both (size-nodes m first))))
size-nodes m (followed part rest) = at_most_plus (size m part) (size m rest) (nodes part) (nodes rest) (size-nodes m part) (size-nodes m rest)
size-nodes m (or_else branch others) =
    at_most_common (size m branch) (size m others) (nodes branch + 1 + nodes others)
    (at_most_more (size m branch) (nodes branch) (nodes branch + 1 + nodes others) (omega arith) (size-nodes m branch))
size-nodes m (last_branch branch) = at_most_more (size m branch) (nodes branch) (nodes branch + 1) (omega arith) (size-nodes m branch)

fits_below : (s : Option ℕ) (n : ℕ) → IsAtMost s n → n < 2 ^ 64 → fitting_size s ≡ s
fits_below None n h small = refl
fits_below (Some m) n h small = fits m (omega arith)

-- a pattern of fewer than 2 ^ 64 nodes has no size that does not fit
pub exact_size : (m : Meaning) (p : Pattern) (o : Option ℕ) → o ≡ fitting_size (size m p) → nodes p < 2 ^ 64 → size m p ≡ o
exact_size m p o e small = sym (e ∙ fits_below (size m p) (nodes p) (size-nodes m p) small)
