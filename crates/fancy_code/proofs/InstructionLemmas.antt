-- Instructions with their sets, while both grow.
use Rattle.std.proofs.Common.{◌≡◌, ℕ, zero, suc, ◌<◌, ◌≤◌, Bool, true, false, ◌&&◌, List, [], ◌∷◌, ◌++◌, length, map, get_or, set, refl, sym, ap, ap₂, ◌∙◌, subst, arith}
use Rattle.std.specs.Prelude.{if◌then◌else◌}
use Rattle.std.proofs.lemmas.Bool.{and_parts, ltb-true, lt-ltb}
use Rattle.std.proofs.lemmas.List.{length-map, get_or_append_left, map-append, map-set, length-append}
use Rattle.fancy_tree.specs.declared.char_set.CharSet.{CharSet}
use Rattle.fancy_code.specs.declared.code.Code.{Code}
use Rattle.fancy_code.specs.declared.code.Instr.{Instr}
use Rattle.fancy_code.specs.declared.code.Instr.TheVariants as coded
use Rattle.fancy_code.specs.Code.{instrs_of}
use Rattle.fancy_code.specs.CodeLength.{code_len}
use Rattle.fancy_code.specs.Instructions.{Instruction, Member, edges_in, edges_at, with_set, with_sets, is_known, are_known}

-- an instruction has one place, whether its set stands in it or not
pub length-instrs_of : (c : Code) → length (instrs_of c) ≡ code_len c
length-instrs_of c = length-map c.instrs.items (with_set c.sets.items)

both : (a b : Bool) → a ≡ true → b ≡ true → (a && b) ≡ true
both true b e f = f
both false b e f = e

-- the sets of a longer list
edges_at-left : (sets more : List CharSet) (n : ℕ) → n < length sets → edges_at (sets ++ more) n ≡ edges_at sets n
edges_at-left sets more n h =
    let within : n < length (map edges_in sets) = omega (arith, h, length-map sets edges_in) in
    ap (λ (es : List (List ℕ)). get_or es n []) (map-append edges_in sets more) ∙ get_or_append_left (map edges_in sets) (map edges_in more) [] n within

with_set-left : (sets more : List CharSet) (j : Instr) → is_known (length sets) j ≡ true → with_set (sets ++ more) j ≡ with_set sets j
with_set-left sets more coded.Match k = refl
with_set-left sets more coded.Fail k = refl
with_set-left sets more (coded.Character c next) k = refl
with_set-left sets more (coded.Member n next) k = ap (λ (es : List ℕ). Member es next) (edges_at-left sets more n (ltb-true n (length sets) k))
with_set-left sets more (coded.RawByte byte next) k = refl
with_set-left sets more (coded.Assert a next) k = refl
with_set-left sets more (coded.Split a b) k = refl
with_set-left sets more (coded.Open group next) k = refl
with_set-left sets more (coded.Close group next) k = refl
with_set-left sets more (coded.Enter body) k = refl
with_set-left sets more (coded.Commit next) k = refl
with_set-left sets more (coded.Look behind body next) k = refl
with_set-left sets more (coded.Deny behind body next) k = refl
with_set-left sets more (coded.Test body other) k = refl
with_set-left sets more (coded.Back n next) k = refl
with_set-left sets more (coded.Recall folded number moved still) k = refl
with_set-left sets more (coded.Keep next) k = refl
with_set-left sets more (coded.Continue next) k = refl
with_set-left sets more (coded.Taken number next) k = refl

with_sets-left : (sets more : List CharSet) (code : List Instr) → are_known (length sets) code ≡ true → with_sets (sets ++ more) code ≡ with_sets sets code
with_sets-left sets more [] k = refl
with_sets-left sets more (j ∷ code) k =
    let parts = and_parts (is_known (length sets) j) (are_known (length sets) code) k in
    ap₂ (λ (i : Instruction) (is : List Instruction). i ∷ is) (with_set-left sets more j parts.0) (with_sets-left sets more code parts.1)

pub same_with_more : (sets all : List CharSet) (s : CharSet) (code : List Instr) → all ≡ sets ++ s ∷ [] → are_known (length sets) code ≡ true → with_sets all code ≡ with_sets sets code
same_with_more sets all s code e k = ap (λ (y : List CharSet). with_sets y code) e ∙ with_sets-left sets (s ∷ []) code k

-- what is known of few sets is known of more
known_of_more : (m n : ℕ) (j : Instr) → m ≤ n → is_known m j ≡ true → is_known n j ≡ true
known_of_more m n coded.Match le k = refl
known_of_more m n coded.Fail le k = refl
known_of_more m n (coded.Character c next) le k = refl
known_of_more m n (coded.Member number next) le k = lt-ltb number n (omega (arith, le, ltb-true number m k))
known_of_more m n (coded.RawByte byte next) le k = refl
known_of_more m n (coded.Assert a next) le k = refl
known_of_more m n (coded.Split a b) le k = refl
known_of_more m n (coded.Open group next) le k = refl
known_of_more m n (coded.Close group next) le k = refl
known_of_more m n (coded.Enter body) le k = refl
known_of_more m n (coded.Commit next) le k = refl
known_of_more m n (coded.Look behind body next) le k = refl
known_of_more m n (coded.Deny behind body next) le k = refl
known_of_more m n (coded.Test body other) le k = refl
known_of_more m n (coded.Back b next) le k = refl
known_of_more m n (coded.Recall folded number moved still) le k = refl
known_of_more m n (coded.Keep next) le k = refl
known_of_more m n (coded.Continue next) le k = refl
known_of_more m n (coded.Taken number next) le k = refl

all_known_of_more : (m n : ℕ) (code : List Instr) → m ≤ n → are_known m code ≡ true → are_known n code ≡ true
all_known_of_more m n [] le k = refl
all_known_of_more m n (j ∷ code) le k =
    let parts = and_parts (is_known m j) (are_known m code) k in
    both (is_known n j) (are_known n code) (known_of_more m n j le parts.0) (all_known_of_more m n code le parts.1)

-- one more set, which may not have been added
pub known_with_set : (ok : Bool) (sets all : List CharSet) (s : CharSet) (code : List Instr) → all ≡ (if ok then sets ++ s ∷ [] else sets) → are_known (length sets) code ≡ true → are_known (length all) code ≡ true
known_with_set true sets all s code e k = all_known_of_more (length sets) (length all) code (omega (arith, ap length e, length-append sets (s ∷ []))) k
known_with_set false sets all s code e k = subst (λ (y : List CharSet). are_known (length y) code ≡ true) (sym e) k

-- one more instruction
known_append : (n : ℕ) (code : List Instr) (j : Instr) → are_known n code ≡ true → is_known n j ≡ true → are_known n (code ++ j ∷ []) ≡ true
known_append n [] j k l = both (is_known n j) true l refl
known_append n (i ∷ code) j k l =
    let parts = and_parts (is_known n i) (are_known n code) k in
    both (is_known n i) (are_known n (code ++ j ∷ [])) parts.0 (known_append n code j parts.1 l)

pub known_put : (n : ℕ) (code all : List Instr) (j : Instr) → all ≡ code ++ j ∷ [] → are_known n code ≡ true → is_known n j ≡ true → are_known n all ≡ true
known_put n code all j e k l = ap (are_known n) e ∙ known_append n code j k l

-- the same where it may not have been added
pub known_pushed : (ok : Bool) (n : ℕ) (code all : List Instr) (j : Instr) → all ≡ (if ok then code ++ j ∷ [] else code) → are_known n code ≡ true → is_known n j ≡ true → are_known n all ≡ true
known_pushed true n code all j e k l = known_put n code all j e k l
known_pushed false n code all j e k l = ap (are_known n) e ∙ k

pub with_sets-put : (sets : List CharSet) (code all : List Instr) (j : Instr) → all ≡ code ++ j ∷ [] → with_sets sets all ≡ with_sets sets code ++ with_set sets j ∷ []
with_sets-put sets code all j e = ap (with_sets sets) e ∙ map-append (with_set sets) code (j ∷ [])

-- an instruction is written
known_set : (n : ℕ) (code : List Instr) (at : ℕ) (j : Instr) → are_known n code ≡ true → is_known n j ≡ true → are_known n (set code at j) ≡ true
known_set n [] at j k l = refl
known_set n (i ∷ code) zero j k l = both (is_known n j) (are_known n code) l (and_parts (is_known n i) (are_known n code) k).1
known_set n (i ∷ code) (suc at) j k l =
    let parts = and_parts (is_known n i) (are_known n code) k in
    both (is_known n i) (are_known n (set code at j)) parts.0 (known_set n code at j parts.1 l)

pub known_written : (n : ℕ) (code all : List Instr) (at : ℕ) (j : Instr) → all ≡ set code at j → are_known n code ≡ true → is_known n j ≡ true → are_known n all ≡ true
known_written n code all at j e k l = ap (are_known n) e ∙ known_set n code at j k l

pub with_sets-written : (sets : List CharSet) (code all : List Instr) (at : ℕ) (j : Instr) → all ≡ set code at j → with_sets sets all ≡ set (with_sets sets code) at (with_set sets j)
with_sets-written sets code all at j e = ap (with_sets sets) e ∙ map-set (with_set sets) code at j

known_at : (n : ℕ) (code : List Instr) (at : ℕ) (d : Instr) → at < length code → are_known n code ≡ true → is_known n (get_or code at d) ≡ true
known_at n [] at d h k = absurd (omega arith)
known_at n (i ∷ code) zero d h k = (and_parts (is_known n i) (are_known n code) k).0
known_at n (i ∷ code) (suc at) d h k = known_at n code at d (omega arith) (and_parts (is_known n i) (are_known n code) k).1

-- the set of an instruction that was read is there
pub set_is_there : (sets : List CharSet) (code : List Instr) (at : ℕ) (j : Instr) → at < length code → j ≡ get_or code at j → are_known (length sets) code ≡ true
    → (number next : ℕ) → j ≡ coded.Member number next → number < length sets
set_is_there sets code at j h e k number next is =
    ltb-true number (length sets)
    (subst (λ (i : Instr). is_known (length sets) i ≡ true) (sym e ∙ is) (known_at (length sets) code at j h k))
