-- A reading keeps the pattern that its text spells.
use Rattle.std.proofs.Common.{◌≡◌, ℕ, List, chars, sym, ap, subst}
use Rattle.fancy_tree.specs.Pattern.{Pattern}
use Rattle.fancy_syntax.specs.Dialect.{IsPattern}
use Rattle.fancy_search.specs.declared.options.Options.{Options}
use Rattle.fancy_search.specs.Options.{dialect_of}
use Rattle.fancy_search.specs.Readings.{Reading, one_reading}

pub spelled_in : (o : Options) {text bytes : List ℕ} {p : Pattern} → bytes ≡ text → IsPattern (dialect_of o) (chars text) p →
    IsPattern (dialect_of o) (chars bytes) p
spelled_in o {p = p} is h = subst (λ t. IsPattern (dialect_of o) (chars t) p) (sym is) h

pub read_as : (o : Options) {text bytes : List ℕ} {p : Pattern} (r : Reading o bytes) → bytes ≡ text →
    IsPattern (dialect_of o) (chars text) p → p ≡ r.0
read_as o {bytes = bytes} {p} r is h = ap (λ (x : Reading o bytes). x.0) (one_reading o bytes (p, ∣ spelled_in o is h ∣₁) r)
