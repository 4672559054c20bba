-- Which bytes a match can begin with.
use Rattle.std.specs.Prelude.{◌≡◌, ℕ, Bool, true, false, not, ◌&&◌, ◌||◌, ◌==◌, Option, Some, None, if◌then◌else◌}
use Rattle.fancy_tree.specs.declared.tree.Meaning.{Meaning}
use Rattle.fancy_tree.specs.Pattern.{Pattern, empty, character, member_of, in_any_case, raw_byte, backreference, assertion, group_test, keep_start, continue_here, group, repeat, look_ahead, look_behind, atomic, conditional, followed, or_else, last_branch}
use Rattle.fancy_tree.specs.Sets.{has}
use Rattle.fancy_tree.specs.Sizes.{is_empty}
use Rattle.fancy_bytes.specs.Items.{first_of_items, only}
use Rattle.fancy_bytes.specs.Sets.{ByteFlags, IsSetOf}

-- the bounds of a repeat allow no turn
abbrev pub has_no_turn : ℕ → Option ℕ → Bool
has_no_turn low None = false
has_no_turn low (Some high) = (low == 0) && (high == 0)

-- the pattern may hold and consume nothing
abbrev pub nullable : Pattern → Bool
nullable empty = true
nullable (character c) = false
nullable (member_of edges) = false
nullable (in_any_case edges) = false
nullable (raw_byte byte) = false
nullable (backreference folded number) = true
nullable (assertion a) = true
nullable (group_test number) = true
nullable keep_start = true
nullable continue_here = true
nullable (group index body) = nullable body
nullable (repeat low high kind body) = (low == 0) || nullable body
nullable (look_ahead negated body) = true
nullable (look_behind negated body) = true
nullable (atomic body) = nullable body
nullable (conditional condition first second) =
    if is_empty first && is_empty second
    then nullable condition
    else (nullable condition && nullable first) || nullable second
nullable (followed part rest) = nullable part && nullable rest
nullable (or_else branch others) = nullable branch || nullable others
nullable (last_branch branch) = nullable branch

-- What the pattern consumes may begin with this byte.
abbrev pub first_bytes : Meaning → Pattern → ℕ → Bool
first_bytes m empty b = false
first_bytes m (character c) b = first_of_items m (only c) b
first_bytes m (member_of edges) b = first_of_items m (has edges) b
first_bytes m (in_any_case edges) b = first_of_items m (has edges) b
first_bytes m (raw_byte byte) b = b == byte
first_bytes m (backreference folded number) b = true
first_bytes m (assertion a) b = false
first_bytes m (group_test number) b = false
first_bytes m keep_start b = false
first_bytes m continue_here b = false
first_bytes m (group index body) b = first_bytes m body b
first_bytes m (repeat low high kind body) b = not (has_no_turn low high) && first_bytes m body b
first_bytes m (look_ahead negated body) b = false
first_bytes m (look_behind negated body) b = false
first_bytes m (atomic body) b = first_bytes m body b
first_bytes m (conditional condition first second) b =
    if is_empty first && is_empty second
    then first_bytes m condition b
    else (first_bytes m condition b || (nullable condition && first_bytes m first b)) || first_bytes m second b
first_bytes m (followed part rest) b = first_bytes m part b || (nullable part && first_bytes m rest b)
first_bytes m (or_else branch others) b = first_bytes m branch b || first_bytes m others b
first_bytes m (last_branch branch) b = first_bytes m branch b

-- the pattern moves the match's start somewhere
abbrev pub has_keep_start : Pattern → Bool
has_keep_start empty = false
has_keep_start (character c) = false
has_keep_start (member_of edges) = false
has_keep_start (in_any_case edges) = false
has_keep_start (raw_byte byte) = false
has_keep_start (backreference folded number) = false
has_keep_start (assertion a) = false
has_keep_start (group_test number) = false
has_keep_start keep_start = true
has_keep_start continue_here = false
has_keep_start (group index body) = has_keep_start body
has_keep_start (repeat low high kind body) = has_keep_start body
has_keep_start (look_ahead negated body) = has_keep_start body
has_keep_start (look_behind negated body) = has_keep_start body
has_keep_start (atomic body) = has_keep_start body
has_keep_start (conditional condition first second) = has_keep_start condition || (has_keep_start first || has_keep_start second)
has_keep_start (followed part rest) = has_keep_start part || has_keep_start rest
has_keep_start (or_else branch others) = has_keep_start branch || has_keep_start others
has_keep_start (last_branch branch) = has_keep_start branch

-- each match starts at one of the first bytes
abbrev pub has_start_bytes : Pattern → Bool
has_start_bytes p = not (nullable p) && not (has_keep_start p)

-- the set of the bytes that each match starts at; none where a match may start anywhere
abbrev pub AreStartBytes : Meaning → Pattern → Option ByteFlags → Type 0
AreStartBytes m p None = has_start_bytes p ≡ false
AreStartBytes m p (Some set) = (has_start_bytes p ≡ true) × IsSetOf (first_bytes m p) set
