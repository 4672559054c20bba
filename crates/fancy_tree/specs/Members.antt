-- What the operations on sets mean.
use Rattle.std.specs.Prelude.{ℕ, Bool, not, ◌&&◌, ◌||◌, List}
use Rattle.fancy_tree.specs.Sets.{has, differ}
use Rattle.fancy_tree.specs.SharedEdges.{listed}
use Rattle.fancy_tree.specs.declared.set.Set.{Set}
use Rattle.fancy_tree.specs.declared.operation.Operation.{Operation}
use Rattle.fancy_tree.specs.declared.operation.Operation.TheVariants.{Union, Intersection, Difference, SymmetricDifference}

-- which numbers are members
abbrev pub Members : Type 0
Members = ℕ → Bool

abbrev pub both : Members → Members → Members
both f g = λ c. f c || g c

abbrev pub edges_of : Set → List ℕ
edges_of s = listed s.edges

abbrev pub members : Set → Members
members s = has (edges_of s)

abbrev pub applied : Operation → Bool → Bool → Bool
applied Union a b = a || b
applied Intersection a b = a && b
applied Difference a b = a && not b
applied SymmetricDifference a b = differ a b
