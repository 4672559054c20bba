-- The properties of Unicode by their names, and the characters that have one.
use Rattle.std.specs.Prelude.{ℕ, ◌&&◌, not, nat_lt, Bool, length, Option, None, if◌then◌else◌}
use Rattle.std.specs.List.{list_all}
use Rattle.std.specs.Char.{is_ascii}
use Rattle.ucd_sets.specs.Lookup.{by_name}
use Rattle.ucd_sets.specs.Loose.{normalize}
use Rattle.ucd_sets.specs.Sets.{in_set}
use Rattle.ucd_sets.specs.declared.set.Set.{Set as PropertySet}
use Rattle.fancy_tree.specs.declared.tree.Meaning.TheVariants.{Unicode}
use Rattle.fancy_tree.specs.Members.{Members}
use Rattle.fancy_tree.specs.Named.{in_universe}
use Rattle.fancy_tree.specs.Text.{Text, ◌∈◌}

abbrev pub is_property_character : ℕ → Bool
is_property_character c = is_ascii c && not (c ∈ "=:")

-- a name that can be one of a property
abbrev pub is_property_name : Text → Bool
is_property_name name = list_all is_property_character name && nat_lt 0 (length name)

-- the property with the name, if there is one
abbrev pub property_named : Text → Option PropertySet
property_named name = if is_property_name name then by_name (normalize name) else None

-- the characters that have the property
abbrev pub has_property : PropertySet → Members
has_property s = λ c. in_universe Unicode c && in_set s c
