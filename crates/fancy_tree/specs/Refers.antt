-- A pattern whose references, and tests of groups, get the numbers of their groups.
use Rattle.std.specs.Prelude.{ℕ, List, slice_index_or}
use Rattle.fancy_tree.specs.Pattern.{Pattern, empty, character, member_of, in_any_case, raw_byte, backreference, assertion, group_test, keep_start, continue_here, group, repeat, look_ahead, look_behind, atomic, conditional, followed, or_else, last_branch}

-- the number with this index
abbrev pub number_in : List ℕ → ℕ → ℕ
number_in numbers index = slice_index_or numbers index 0

-- the pattern with this number in the place of each reference's own, and of each test's of a group
unfoldable pub refers_to : (ℕ → ℕ) → Pattern → Pattern
refers_to f empty = empty
refers_to f (character c) = character c
refers_to f (member_of edges) = member_of edges
refers_to f (in_any_case edges) = in_any_case edges
refers_to f (raw_byte byte) = raw_byte byte
refers_to f (backreference folded number) = backreference folded (f number)
refers_to f (assertion a) = assertion a
refers_to f (group_test number) = group_test (f number)
refers_to f keep_start = keep_start
refers_to f continue_here = continue_here
refers_to f (group index body) = group index (refers_to f body)
refers_to f (repeat low high kind body) = repeat low high kind (refers_to f body)
refers_to f (look_ahead negated body) = look_ahead negated (refers_to f body)
refers_to f (look_behind negated body) = look_behind negated (refers_to f body)
refers_to f (atomic body) = atomic (refers_to f body)
refers_to f (conditional condition first second) = conditional (refers_to f condition) (refers_to f first) (refers_to f second)
refers_to f (followed part rest) = followed (refers_to f part) (refers_to f rest)
refers_to f (or_else branch others) = or_else (refers_to f branch) (refers_to f others)
refers_to f (last_branch branch) = last_branch (refers_to f branch)
