-- How many threads a row has.
use Rattle.std.proofs.Common.{◌≡◌, ℕ, suc, List, [], ◌∷◌, ◌++◌, length, refl, sym, ap, ◌∙◌, take, arith}
use Rattle.std.proofs.lemmas.List.{length-reverse, nil_from_length}
use Rattle.std.specs.Prelude.{reverse}
use Rattle.fancy_code.specs.declared.slot.Slot.{Slot}
use Rattle.fancy_runner.specs.declared.row.Waiting.{Waiting}
use Rattle.fancy_runner.specs.Rows.{row_threads}
use Rattle.fancy_code.specs.Thread.{Thread}

row_count : (ws : List Waiting) (slots : List Slot) → length (row_threads ws slots) ≡ length ws
row_count [] slots = refl
row_count (w ∷ ws) slots = ap (λ (n : ℕ). suc n) (row_count ws (take w.from slots))

-- as many threads wait as the row has entries
pub threads_count : (ws : List Waiting) (slots : List Slot) (ts : List Thread) → row_threads (reverse ws) slots ≡ ts → length ws ≡ length ts
threads_count ws slots ts e = sym (length-reverse ws) ∙ sym (row_count (reverse ws) slots) ∙ ap length e

-- one thread before none is the same turned
pub one_turned : (ts us : List Thread) → length ts ≡ 1 → length us ≡ 0 → ts ≡ reverse ts ++ us
one_turned [] us one none = absurd (omega (arith, one))
one_turned (t ∷ []) us one none = ap (λ (x : List Thread). t ∷ x) (sym (nil_from_length us none))
one_turned (t ∷ u ∷ ts) us one none = absurd (omega (arith, one))
