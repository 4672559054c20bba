-- What one more instruction makes of easy code, and what the parts of an easy pattern are.
use Rattle.std.proofs.Common.{◌≡◌, ℕ, zero, suc, ◌<◌, ◌≤◌, Bool, true, false, ◌&&◌, List, [], ◌∷◌, ◌++◌, length, map, get_or, drop, drop-cons, All, IsTrue, Vec, Global, refl, sym, ap, ◌∙◌, subst, arith}
use Rattle.std.specs.Prelude.{slice_set}
use Rattle.std.proofs.lemmas.Bool.{and_parts}
use Rattle.std.proofs.lemmas.List.{length-map, get_or-map, drop_all}
use Rattle.std.proofs.lemmas.List.Elements.{All-cons}
use Rattle.fancy_tree.specs.declared.tree.Tree.{Tree}
use Rattle.fancy_tree.specs.declared.tree.Tree.TheVariants.{Concat, Alternation}
use Rattle.fancy_tree.specs.Pattern.{Pattern, in_sequence, in_choice, pattern_of}
use Rattle.fancy_tree.proofs.PatternLemmas.{pattern-Concat, pattern-Alternation}
use Rattle.fancy_code.specs.Instructions.{Instruction}
use Rattle.fancy_code.specs.Instructions as i
use Rattle.fancy_code.specs.Compile.{is_easy_instr, are_easy, StaysEasy, IsEasyInstr, AreEasy, split_of}
use Rattle.fancy_meaning.specs.Easy.{is_easy, all_easy}

true_is_false : false ≡ true → ⊥
true_is_false h = cc

both : (a b : Bool) → a ≡ true → b ≡ true → (a && b) ≡ true
both true b e f = f
both false b e f = e

-- code to which an easy instruction was put
pub easy_append : (xs ys : List Instruction) → are_easy xs ≡ true → are_easy ys ≡ true → are_easy (xs ++ ys) ≡ true
easy_append [] ys e f = f
easy_append (j ∷ xs) ys e f =
    let parts = and_parts (is_easy_instr j) (are_easy xs) e in
    both (is_easy_instr j) (are_easy (xs ++ ys)) parts.0 (easy_append xs ys parts.1 f)

pub easy_put : (c d : List Instruction) (j : Instruction) → d ≡ c ++ j ∷ [] → is_easy_instr j ≡ true → StaysEasy c d
easy_put c d j e f h = subst (λ (y : List Instruction). are_easy y ≡ true) (sym e) (easy_append c (j ∷ []) h (both (is_easy_instr j) true f refl))

-- code in which one was written
easy_set : (c : List Instruction) (at : ℕ) (j : Instruction) → is_easy_instr j ≡ true → StaysEasy c (slice_set c at j)
easy_set [] at j f h = refl
easy_set (k ∷ c) zero j f h = both (is_easy_instr j) (are_easy c) f (and_parts (is_easy_instr k) (are_easy c) h).1
easy_set (k ∷ c) (suc at) j f h =
    let parts = and_parts (is_easy_instr k) (are_easy c) h in
    both (is_easy_instr k) (are_easy (slice_set c at j)) parts.0 (easy_set c at j f parts.1)

pub easy_written : (c d : List Instruction) (at : ℕ) (j : Instruction) → d ≡ slice_set c at j → is_easy_instr j ≡ true → StaysEasy c d
easy_written c d at j e f h = subst (λ (y : List Instruction). are_easy y ≡ true) (sym e) (easy_set c at j f h)

pub easy_split : (greedy : Bool) (a b : ℕ) → is_easy_instr (split_of greedy a b) ≡ true
easy_split true a b = refl
easy_split false a b = refl

-- each instruction of easy code is easy
easy_one : (j : Instruction) → is_easy_instr j ≡ true → IsEasyInstr j
easy_one i.Match e = tt
easy_one i.Fail e = tt
easy_one (i.Character c next) e = tt
easy_one (i.Member s next) e = tt
easy_one (i.RawByte byte next) e = tt
easy_one (i.Assert a next) e = tt
easy_one (i.Split a b) e = tt
easy_one (i.Open index next) e = tt
easy_one (i.Close index next) e = tt
easy_one (i.Enter body) e = true_is_false e
easy_one (i.Commit next) e = true_is_false e
easy_one (i.Look behind body next) e = true_is_false e
easy_one (i.Deny behind body next) e = true_is_false e
easy_one (i.Test body other) e = true_is_false e
easy_one (i.Back n next) e = true_is_false e
easy_one (i.Recall folded number moved still) e = true_is_false e
easy_one (i.Keep next) e = true_is_false e
easy_one (i.Continue next) e = true_is_false e
easy_one (i.Taken number next) e = true_is_false e

pub easy_code : (code : List Instruction) → are_easy code ≡ true → AreEasy code
easy_code [] e q = tt
easy_code (j ∷ code) e zero = easy_one j (and_parts (is_easy_instr j) (are_easy code) e).0
easy_code (j ∷ code) e (suc q) = easy_code code (and_parts (is_easy_instr j) (are_easy code) e).1 q

-- the parts of an easy pattern are easy
pub easy-in_sequence : (ps : List Pattern) → is_easy (in_sequence ps) ≡ true → All (λ p. IsTrue (is_easy p)) ps
easy-in_sequence [] e = λ k d h. absurd (omega arith)
easy-in_sequence (p ∷ []) e = All-cons (λ x. IsTrue (is_easy x)) p [] e (λ k d h. absurd (omega arith))
easy-in_sequence (p ∷ q ∷ ps) e =
    let parts = and_parts (is_easy p) (is_easy (in_sequence (q ∷ ps))) e in
    All-cons (λ x. IsTrue (is_easy x)) p (q ∷ ps) parts.0 (easy-in_sequence (q ∷ ps) parts.1)

pub easy_at : (ts : List Tree) (j : ℕ) (t : Tree) → All (λ p. IsTrue (is_easy p)) (map pattern_of ts) → j < length ts → t ≡ get_or ts j t → is_easy (pattern_of t) ≡ true
easy_at ts j t all h e =
    let within : j < length (map pattern_of ts) = omega (arith, length-map ts pattern_of) in
    ap is_easy (ap pattern_of e ∙ sym (get_or-map pattern_of ts j t (pattern_of t) h)) ∙ all j (pattern_of t) within

and_true : (b : Bool) → b ≡ (b && true)
and_true true = refl
and_true false = refl

-- a sequence is easy where its parts are, and so is an alternative
easy_sequence : (ps : List Pattern) → is_easy (in_sequence ps) ≡ all_easy ps
easy_sequence [] = refl
easy_sequence (p ∷ []) = and_true (is_easy p)
easy_sequence (p ∷ q ∷ ps) = ap (λ b. is_easy p && b) (easy_sequence (q ∷ ps))

easy_choice : (ps : List Pattern) → is_easy (in_choice ps) ≡ all_easy ps
easy_choice [] = refl
easy_choice (p ∷ []) = and_true (is_easy p)
easy_choice (p ∷ q ∷ ps) = ap (λ b. is_easy p && b) (easy_choice (q ∷ ps))

pub easy-Concat : (parts : Vec Tree Global) → is_easy (pattern_of (Concat parts)) ≡ all_easy (map pattern_of parts.items)
easy-Concat parts = ap is_easy (pattern-Concat parts) ∙ easy_sequence (map pattern_of parts.items)

pub easy-Alternation : (branches : Vec Tree Global) → is_easy (pattern_of (Alternation branches)) ≡ all_easy (map pattern_of branches.items)
easy-Alternation branches = ap is_easy (pattern-Alternation branches) ∙ easy_choice (map pattern_of branches.items)

-- from the j-th tree on
pub easy_from : (ts : List Tree) (j : ℕ) (t : Tree) → j < length ts → t ≡ get_or ts j t →
    all_easy (map pattern_of (drop j ts)) ≡ (is_easy (pattern_of t) && all_easy (map pattern_of (drop (suc j) ts)))
easy_from ts j t h e =
    ap (λ (us : List Tree). all_easy (map pattern_of us)) (drop-cons ts j t h)
    ∙ ap (λ (u : Tree). is_easy (pattern_of u) && all_easy (map pattern_of (drop (suc j) ts))) (sym e)

pub easy_past : (ts : List Tree) (j : ℕ) → length ts ≤ j → all_easy (map pattern_of (drop j ts)) ≡ true
easy_past ts j h = ap (λ (us : List Tree). all_easy (map pattern_of us)) (drop_all j ts h)
