-- How many instructions are marked.
use Rattle.std.proofs.Common.{◌≡◌, ℕ, zero, suc, ◌+◌, ◌<◌, ◌≤◌, Bool, true, false, not, List, [], ◌∷◌, refl, ap, ◌∙◌, arith, set, replicate, length, true≢false}
use Rattle.std.specs.Prelude.{slice_index_or}
use Rattle.fancy_states.specs.Ways.{marked}

pub marked_le : (marks : List Bool) → marked marks ≤ length marks
marked_le [] = omega arith
marked_le (true ∷ marks) = let h = marked_le marks in omega (arith, h)
marked_le (false ∷ marks) = let h = marked_le marks in omega (arith, h)

pub marked-replicate : (n : ℕ) → marked (replicate n false) ≡ 0
marked-replicate zero = refl
marked-replicate (suc n) = marked-replicate n

marked-set : (marks : List Bool) (n : ℕ) → n < length marks → slice_index_or marks n false ≡ false → marked (set marks n true) ≡ marked marks + 1
marked-set [] n lt e = absurd (omega (arith, lt))
marked-set (true ∷ marks) zero lt e = absurd (true≢false e)
marked-set (false ∷ marks) zero lt e = omega arith
marked-set (true ∷ marks) (suc n) lt e = let h = marked-set marks n (omega (arith, lt)) e in omega (arith, h)
marked-set (false ∷ marks) (suc n) lt e = marked-set marks n (omega (arith, lt)) e

not_true : (b : Bool) → true ≡ not b → b ≡ false
not_true true e = absurd (true≢false e)
not_true false e = refl

-- a mark that is new is one more
pub marked-new : (marks more : List Bool) (n : ℕ) → n < length marks → true ≡ not (slice_index_or marks n false) → more ≡ set marks n true → marked more ≡ marked marks + 1
marked-new marks more n lt new is = ap marked is ∙ marked-set marks n lt (not_true (slice_index_or marks n false) new)
