-- Numbers of names that rise.
use Rattle.std.proofs.Common.{◌≡◌, ℕ, ◌+◌, ◌<◌, ◌≤◌, Bool, List, [], ◌∷◌, All, arith}
use Rattle.std.proofs.lemmas.List.Elements.{All-cons}
use Rattle.fancy_tree.specs.Pattern.{Pattern}
use Rattle.fancy_tree.specs.Text.{Text}
use Rattle.fancy_syntax.specs.Dialect.{Scope, DialectOptions, begin, Spells}
use Rattle.fancy_tree.specs.GroupNumbers.{Rising}
use Rattle.fancy_syntax.proofs.NameNumbers.{names_rise}

-- the numbers of the names that a text spells rise, however these are written
pub rising_names : (unnamed : Bool) (o : DialectOptions) (text : Text) (p : Pattern) (e : Scope) (groups : ℕ) (names : List (Text × ℕ)) → Spells (begin unnamed o) text p e → e.opened + 1 ≡ groups → names ≡ e.names → Rising 1 groups names
rising_names unnamed o text p e groups names spelled f g = rw (g, ← f) (names_rise unnamed o text p e spelled)

-- numbers that rise from lo on and below hi lie there
pub rising_within : (lo hi : ℕ) (names : List (Text × ℕ)) → Rising lo hi names → All (λ (g : Text × ℕ). (lo ≤ g.1) × (g.1 < hi)) names
rising_within lo hi [] h = λ k d below. absurd (omega (arith, below))
rising_within lo hi (g ∷ names) h =
    let rest : All (λ (x : Text × ℕ). (g.1 + 1 ≤ x.1) × (x.1 < hi)) names = rising_within (g.1 + 1) hi names h.2 in
    All-cons (λ (x : Text × ℕ). (lo ≤ x.1) × (x.1 < hi)) g names (h.0, h.1) (λ k d below. (omega (arith, (rest k d below).0, h.0), (rest k d below).1))
