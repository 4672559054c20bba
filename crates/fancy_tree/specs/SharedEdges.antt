-- The edges of a set, whether its copies share them or not.
use Rattle.std.specs.Prelude.{ℕ, List}
use Rattle.fancy_tree.specs.declared.edges.Edges.{Edges}
use Rattle.fancy_tree.specs.declared.edges.Edges.TheVariants.{Own, Shared}

abbrev pub listed : Edges → List ℕ
listed (Own edges) = edges.items
listed (Shared shared) = shared.value.edges.items
