-- The pattern that a text spells, as a fact of the text.
use Rattle.std.specs.Prelude.{List, ℕ, chars}
use Rattle.std.specs.Coded.{Coded-set}
use mathlib.Core.HLevel.{Σ_prop_path}
use Rattle.std.proofs.Math.Logic.{∥∥₁_elim, ∥∥₁_prop}
use Rattle.fancy_tree.specs.Pattern.{Pattern}
use Rattle.fancy_syntax.specs.Dialect.{IsPattern}
use Rattle.fancy_syntax.proofs.ParseLemmas.{one_accepted}
use Rattle.fancy_search.specs.declared.options.Options.{Options}
use Rattle.fancy_search.specs.Options.{dialect_of}
use Rattle.fancy_search.specs.PatternCode.{coded_pattern}

-- a pattern that the text, by its bytes, spells under the options
abbrev pub Reading : Options → List ℕ → Type 0
Reading o text = (p : Pattern) × ∥ IsPattern (dialect_of o) (chars text) p ∥₁

-- there is one at most, since a text spells one pattern
pub one_reading : (o : Options) (text : List ℕ) → IsProp (Reading o text)
one_reading o text = λ a b. Σ_prop_path (λ p. ∥∥₁_prop)
    (∥∥₁_elim a.1 (Coded-set coded_pattern a.0 b.0)
    (λ x. ∥∥₁_elim b.1 (Coded-set coded_pattern a.0 b.0) (λ y. one_accepted x y)))
