-- The names of a pattern's groups.
use Rattle.std.specs.Prelude.{ℕ, List}
use Rattle.fancy_tree.specs.Text.{Text}
use Rattle.fancy_tree.specs.Names.{named_groups}
use Rattle.fancy_tree.specs.declared.name.Names.{Names}

-- the names, each with the number of its group, in the order of the groups' openings
abbrev pub names_of : Names → List (Text × ℕ)
names_of n = named_groups n.groups.items
