-- Texts, as rows of characters by their numbers.
use Rattle.std.specs.Prelude.{ℕ, ◌==◌, Bool, List, codes}
use Rattle.std.specs.List.{list_any}
use Prim.Native.String.{String}

-- characters, by their numbers
abbrev pub Text : Type 0
Text = List ℕ

abbrev pub is_among : ℕ → List ℕ → Bool
is_among c cs = list_any (λ d. d == c) cs

infix 60 ◌∈◌
abbrev pub ◌∈◌ : ℕ → String → Bool
c ∈ s = is_among c (codes s)
