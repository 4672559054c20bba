-- Which code an automaton follows.
use Rattle.std.proofs.Common.{◌≡◌, ℕ, ◌+◌, ◌<◌, ◌≤◌, ◌∙◌, Bool, true, false, List, length, refl, sym, ap, subst, arith, true≢false}
use Rattle.fancy_code.specs.Instructions.{Instruction, Match, Fail, Character, Member, RawByte, Assert, Split, Open, Close, Enter, Commit, Look, Deny, Test, Back, Recall, Keep, Continue, Taken}
use Rattle.std.specs.Prelude.{nat_lt}
use Rattle.std.proofs.lemmas.Bool.{ltb-true, ltb-false}
use Rattle.fancy_code.specs.Run.{instr_at}
use Rattle.fancy_code.proofs.RunMore.{past_end}
use Rattle.fancy_states.specs.Futures.{ArePlain, EndsNoGroup, IsPlainInstr, is_plain_instr}

pub plain_by : (i : Instruction) → is_plain_instr i ≡ true → IsPlainInstr i
plain_by Match e = tt
plain_by Fail e = tt
plain_by (Character c next) e = tt
plain_by (Member edges next) e = tt
plain_by (RawByte byte next) e = true≢false (sym e)
plain_by (Assert a next) e = e
plain_by (Split a b) e = tt
plain_by (Open group next) e = tt
plain_by (Close group next) e = tt
plain_by (Enter body) e = true≢false (sym e)
plain_by (Commit next) e = true≢false (sym e)
plain_by (Look behind body next) e = true≢false (sym e)
plain_by (Deny behind body next) e = true≢false (sym e)
plain_by (Test body other) e = true≢false (sym e)
plain_by (Back n next) e = true≢false (sym e)
plain_by (Recall folded number moved still) e = true≢false (sym e)
plain_by (Keep next) e = true≢false (sym e)
plain_by (Continue next) e = true≢false (sym e)
plain_by (Taken number next) e = true≢false (sym e)

pub plain_is : (i : Instruction) → IsPlainInstr i → is_plain_instr i ≡ true
plain_is Match p = refl
plain_is Fail p = refl
plain_is (Character c next) p = refl
plain_is (Member edges next) p = refl
plain_is (RawByte byte next) p = absurd p
plain_is (Assert a next) p = p
plain_is (Split a b) p = refl
plain_is (Open group next) p = refl
plain_is (Close group next) p = refl
plain_is (Enter body) p = absurd p
plain_is (Commit next) p = absurd p
plain_is (Look behind body next) p = absurd p
plain_is (Deny behind body next) p = absurd p
plain_is (Test body other) p = absurd p
plain_is (Back n next) p = absurd p
plain_is (Recall folded number moved still) p = absurd p
plain_is (Keep next) p = absurd p
plain_is (Continue next) p = absurd p
plain_is (Taken number next) p = absurd p

-- the instructions below n are plain
abbrev pub PlainBelow : List Instruction → ℕ → Type 0
PlainBelow code n = (q : ℕ) → q < n → IsPlainInstr (instr_at code q)

pub plain_more : (code : List Instruction) (n : ℕ) → PlainBelow code n → is_plain_instr (instr_at code n) ≡ true → PlainBelow code (n + 1)
plain_more code n below e q lt = by (nat_lt q n) refl where
  by : (b : Bool) → nat_lt q n ≡ b → IsPlainInstr (instr_at code q)
  by true less = below q (ltb-true q n less)
  by false past =
      let same : n ≡ q = omega (arith, lt, ltb-false q n past) in
      subst (λ (k : ℕ). IsPlainInstr (instr_at code k)) same (plain_by (instr_at code n) e)

-- past the code nothing but failure is
pub plain_all : (code : List Instruction) (n : ℕ) → length code ≤ n → PlainBelow code n → ArePlain code
plain_all code n all below q = by (nat_lt q n) refl where
  by : (b : Bool) → nat_lt q n ≡ b → IsPlainInstr (instr_at code q)
  by true less = below q (ltb-true q n less)
  by false past = subst IsPlainInstr (sym (past_end code q (omega (arith, all, ltb-false q n past)))) tt

-- the instructions below n end no group
abbrev pub NoEndBelow : List Instruction → ℕ → Type 0
NoEndBelow code n = (q group next : ℕ) → q < n → instr_at code q ≡ Close group next → ⊥

pub no_end_more : (code : List Instruction) (n : ℕ) → NoEndBelow code n → ((group next : ℕ) → instr_at code n ≡ Close group next → ⊥) → NoEndBelow code (n + 1)
no_end_more code n below here q group next lt e = by (nat_lt q n) refl where
  by : (b : Bool) → nat_lt q n ≡ b → ⊥
  by true less = below q group next (ltb-true q n less) e
  by false past =
      let same : q ≡ n = omega (arith, lt, ltb-false q n past) in
      here group next (sym (ap (instr_at code) same) ∙ e)

pub no_end_all : (code : List Instruction) (n : ℕ) → length code ≤ n → NoEndBelow code n → EndsNoGroup code
no_end_all code n all below q group next e = by (nat_lt q n) refl where
  by : (b : Bool) → nat_lt q n ≡ b → ⊥
  by true less = below q group next (ltb-true q n less) e
  by false past = let fails = sym (past_end code q (omega (arith, all, ltb-false q n past))) ∙ e in cc
