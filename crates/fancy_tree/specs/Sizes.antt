-- The size of a pattern in units (bytes in byte meaning, else characters), and the number of its nodes.
use Rattle.std.specs.Prelude.{ℕ, ◌+◌, ◌-◌, ◌*◌, Bool, true, false, ◌&&◌, Option, Some, None, if◌then◌else◌, ◌==◌, ◌^◌, nat_lt, is_some}
use Rattle.fancy_tree.specs.declared.tree.RepeatKind.{RepeatKind}
use Rattle.fancy_tree.specs.declared.tree.RepeatKind.TheVariants.{Greedy, Lazy, Possessive}
use Rattle.fancy_tree.specs.declared.tree.Meaning.{Meaning}
use Rattle.fancy_tree.specs.declared.tree.Meaning.TheVariants.{Unicode, Bytes, AsciiText}
use Rattle.fancy_tree.specs.Pattern.{Pattern, empty, character, member_of, in_any_case, raw_byte, backreference, assertion, group_test, keep_start, continue_here, group, repeat, look_ahead, look_behind, atomic, conditional, followed, or_else, last_branch}

abbrev pub plus_size : Option ℕ → Option ℕ → Option ℕ
plus_size None n = None
plus_size (Some m) None = None
plus_size (Some m) (Some n) = Some (m + n)

-- both sizes where they are one
abbrev pub common_size : Option ℕ → Option ℕ → Option ℕ
common_size None n = None
common_size (Some m) None = None
common_size (Some m) (Some n) = if m == n then Some m else None

-- n times the size, and 0 of it is 0 in every case
abbrev pub times_size : ℕ → Option ℕ → Option ℕ
times_size n None = if n == 0 then Some 0 else None
times_size n (Some m) = Some (n * m)

abbrev pub only_zero : Option ℕ → Option ℕ
only_zero None = None
only_zero (Some m) = if m == 0 then Some 0 else None

abbrev pub repeat_size : ℕ → Option ℕ → Option ℕ → Option ℕ
repeat_size low None size = only_zero size
repeat_size low (Some high) size = if low == high then times_size low size else only_zero size

-- the leaf of a sequence without parts
abbrev pub is_empty : Pattern → Bool
is_empty empty = true
is_empty _ = false

-- a byte is a unit only where items are bytes
abbrev pub raw_byte_size : Meaning → Option ℕ
raw_byte_size Unicode = None
raw_byte_size Bytes = Some 1
raw_byte_size AsciiText = None

-- how many units the pattern always consumes, where that is one number
unfoldable pub size : Meaning → Pattern → Option ℕ
size m empty = Some 0
size m (character c) = Some 1
size m (member_of edges) = Some 1
size m (in_any_case edges) = Some 1
size m (raw_byte byte) = raw_byte_size m
size m (backreference folded number) = None
size m (assertion a) = Some 0
size m (group_test number) = Some 0
size m keep_start = Some 0
size m continue_here = Some 0
size m (group index body) = size m body
size m (repeat low high kind body) = repeat_size low high (size m body)
size m (look_ahead negated body) = Some 0
size m (look_behind negated body) = Some 0
size m (atomic body) = size m body
size m (conditional condition first second) =
    if is_empty first && is_empty second
    then size m condition
    else common_size (plus_size (size m condition) (size m first)) (size m second)
size m (followed part rest) = plus_size (size m part) (size m rest)
size m (or_else branch others) = common_size (size m branch) (size m others)
size m (last_branch branch) = size m branch

-- the size where a `usize` holds it, and none where it is too large
abbrev pub fitting_size : Option ℕ → Option ℕ
fitting_size None = None
fitting_size (Some n) = if nat_lt n (2 ^ 64) then Some n else None

-- the pattern has a size that a `usize` holds
abbrev pub has_size : Meaning → Pattern → Bool
has_size m p = is_some (fitting_size (size m p))

-- a body of look-behind: it has a size, or is an alternative each of whose branches has one
abbrev pub has_sizes : Meaning → Pattern → Bool
has_sizes m (or_else branch others) = has_size m branch && has_sizes m others
has_sizes m (last_branch branch) = has_size m branch
has_sizes m p = has_size m p

-- each look-behind has a body of a size, or of branches that have one
unfoldable pub are_sized : Meaning → Pattern → Bool
are_sized m empty = true
are_sized m (character c) = true
are_sized m (member_of edges) = true
are_sized m (in_any_case edges) = true
are_sized m (raw_byte byte) = true
are_sized m (backreference folded number) = true
are_sized m (assertion a) = true
are_sized m (group_test number) = true
are_sized m keep_start = true
are_sized m continue_here = true
are_sized m (group index body) = are_sized m body
are_sized m (repeat low high kind body) = are_sized m body
are_sized m (look_ahead negated body) = are_sized m body
are_sized m (look_behind negated body) = has_sizes m body && are_sized m body
are_sized m (atomic body) = are_sized m body
are_sized m (conditional condition first second) = are_sized m condition && (are_sized m first && are_sized m second)
are_sized m (followed part rest) = are_sized m part && are_sized m rest
are_sized m (or_else branch others) = are_sized m branch && are_sized m others
are_sized m (last_branch branch) = are_sized m branch

abbrev pub kind_nodes : RepeatKind → ℕ
kind_nodes Greedy = 0
kind_nodes Lazy = 0
kind_nodes Possessive = 1

-- with counted repeats written out, for a body of n nodes
abbrev pub repeat_nodes : ℕ → Option ℕ → ℕ → ℕ
repeat_nodes low None n = 1 + low * n + n + 1
repeat_nodes low (Some high) n = 1 + low * n + (high - low) * (n + 1)

-- the nodes with counted repeats written out
unfoldable pub nodes : Pattern → ℕ
nodes empty = 1
nodes (character c) = 1
nodes (member_of edges) = 1
nodes (in_any_case edges) = 1
nodes (raw_byte byte) = 1
nodes (backreference folded number) = 1
nodes (assertion a) = 1
nodes (group_test number) = 1
nodes keep_start = 1
nodes continue_here = 1
nodes (group index body) = nodes body + 1
nodes (repeat low high kind body) = repeat_nodes low high (nodes body) + kind_nodes kind
nodes (look_ahead negated body) = nodes body + 1
nodes (look_behind negated body) = nodes body + 1
nodes (atomic body) = nodes body + 1
nodes (conditional condition first second) = nodes condition + nodes first + nodes second + 1
nodes (followed part rest) = nodes part + nodes rest
nodes (or_else branch others) = nodes branch + 1 + nodes others
nodes (last_branch branch) = nodes branch + 1
