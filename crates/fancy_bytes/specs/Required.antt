-- Which bytes stand in every haystack that has a match.
use Rattle.std.specs.Prelude.{ℕ, Bool, false, not, ◌&&◌, ◌||◌, ◌==◌, nat_le, if◌then◌else◌}
use Rattle.fancy_tree.specs.declared.tree.Meaning.{Meaning}
use Rattle.fancy_tree.specs.Pattern.{Pattern, empty, character, member_of, in_any_case, raw_byte, backreference, assertion, group_test, keep_start, continue_here, group, repeat, look_ahead, look_behind, atomic, conditional, followed, or_else, last_branch}
use Rattle.fancy_tree.specs.Sizes.{is_empty}
use Rattle.fancy_bytes.specs.Items.{encoding, includes, one_member, is_in_one, is_in_all}

-- Every haystack in which the pattern holds somewhere has this byte. A literal in any case counts by what all its forms have, another set only where it has a single member.
abbrev pub required_bytes : Meaning → Pattern → ℕ → Bool
required_bytes m empty b = false
required_bytes m (character c) b = includes (encoding m c) b
required_bytes m (member_of edges) b = is_in_one m (one_member edges) b
required_bytes m (in_any_case edges) b = is_in_all m edges b
required_bytes m (raw_byte byte) b = b == byte
required_bytes m (backreference folded number) b = false
required_bytes m (assertion a) b = false
required_bytes m (group_test number) b = false
required_bytes m keep_start b = false
required_bytes m continue_here b = false
required_bytes m (group index body) b = required_bytes m body b
required_bytes m (repeat low high kind body) b = nat_le 1 low && required_bytes m body b
required_bytes m (look_ahead negated body) b = not negated && required_bytes m body b
required_bytes m (look_behind negated body) b = not negated && required_bytes m body b
required_bytes m (atomic body) b = required_bytes m body b
required_bytes m (conditional condition first second) b =
    if is_empty first && is_empty second
    then required_bytes m condition b
    else (required_bytes m condition b || required_bytes m first b) && required_bytes m second b
required_bytes m (followed part rest) b = required_bytes m part b || required_bytes m rest b
required_bytes m (or_else branch others) b = required_bytes m branch b && required_bytes m others b
required_bytes m (last_branch branch) b = required_bytes m branch b
