-- With which bytes the items that a pattern may read begin.
use Rattle.std.specs.Prelude.{ℕ, Bool, true, false, ◌||◌, ◌==◌, List, [], ◌∷◌}
use Rattle.fancy_tree.specs.declared.tree.Meaning.{Meaning}
use Rattle.fancy_tree.specs.Pattern.{Pattern, empty, character, member_of, in_any_case, raw_byte, backreference, assertion, group_test, keep_start, continue_here, group, repeat, look_ahead, look_behind, atomic, conditional, followed, or_else, last_branch}
use Rattle.fancy_tree.specs.Sets.{has}
use Rattle.fancy_bytes.specs.Items.{first_of_items, only}

-- An item that the pattern may consume, the first one or a later one, may begin with this byte. A look-around consumes none.
abbrev pub item_starts : Meaning → Pattern → ℕ → Bool
item_starts m empty b = false
item_starts m (character c) b = first_of_items m (only c) b
item_starts m (member_of edges) b = first_of_items m (has edges) b
item_starts m (in_any_case edges) b = first_of_items m (has edges) b
item_starts m (raw_byte byte) b = b == byte
item_starts m (backreference folded number) b = true
item_starts m (assertion a) b = false
item_starts m (group_test number) b = false
item_starts m keep_start b = false
item_starts m continue_here b = false
item_starts m (group index body) b = item_starts m body b
item_starts m (repeat low high kind body) b = item_starts m body b
item_starts m (look_ahead negated body) b = false
item_starts m (look_behind negated body) b = false
item_starts m (atomic body) b = item_starts m body b
item_starts m (conditional condition first second) b = (item_starts m condition b || item_starts m first b) || item_starts m second b
item_starts m (followed part rest) b = item_starts m part b || item_starts m rest b
item_starts m (or_else branch others) b = item_starts m branch b || item_starts m others b
item_starts m (last_branch branch) b = item_starts m branch b

-- one of these patterns may
abbrev pub item_starts_in : Meaning → List Pattern → ℕ → Bool
item_starts_in m [] b = false
item_starts_in m (p ∷ ps) b = item_starts m p b || item_starts_in m ps b
