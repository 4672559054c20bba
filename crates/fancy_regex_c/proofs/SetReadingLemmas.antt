-- The patterns of a set, read one after another.
use Rattle.std.specs.Prelude.{◌⊎◌}
use Rattle.std.proofs.Common.{◌≡◌, ◌∙◌, ◌+◌, ℕ, zero, suc, List, [], ◌∷◌, ◌++◌, Some, length, slice_get, slice_index, refl, ap, arith, inl, inr}
use Rattle.std.proofs.lemmas.List.{length-append}
use Rattle.fancy_regex.specs.declared.Regex.{Regex}
use Rattle.fancy_regex_c.specs.declared.plain.Options.{Options}
use Rattle.fancy_regex_c.specs.SetReading.{start_of_text, text_at, IsRead, AreRead}

-- what stands in a list with one item more
one_more : {A : Type 0} (xs : List A) (x y : A) (k : ℕ) → slice_get (xs ++ (x ∷ [])) k ≡ Some y → (slice_get xs k ≡ Some y) ⊎ ((k ≡ length xs) × (x ≡ y))
one_more [] x y zero e = inr (refl, (cc))
one_more [] x y (suc k) e = absurd (cc)
one_more (z ∷ xs) x y zero e = inl e
one_more (z ∷ xs) x y (suc k) e =
    elim (one_more xs x y k e) [
      | inl found ↦ inl found
      | inr last ↦ inr (ap suc last.0, last.1)
    ]

pub read_more : (o : Options) (patterns ends : List ℕ) (n : ℕ) (members : List Regex) (r : Regex) → AreRead o patterns ends n members → IsRead o (text_at patterns ends n) r
    → AreRead o patterns ends (n + 1) (members ++ (r ∷ []))
read_more o patterns ends n members r before read = record {
  counted = length-append members (r ∷ []) ∙ ap (λ (m : ℕ). m + 1) before.counted;
  each = λ k s e.
      elim (one_more members r s k e) [
        | inl found ↦ before.each k s found
        | inr last ↦ (let there : k ≡ n = last.0 ∙ before.counted in rw (there, ← last.1) read)
      ];
}

-- the next pattern starts where this one ends
pub starts_next : (ends : List ℕ) (n : ℕ) → slice_index ends n ≡ start_of_text ends (n + 1)
starts_next ends n = let more : n + 1 ≡ suc n = omega arith in rw more refl
