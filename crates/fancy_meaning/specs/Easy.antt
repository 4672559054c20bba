-- Which patterns are easy.
use Rattle.std.specs.Prelude.{Bool, true, false, ◌&&◌, List, [], ◌∷◌}
use Rattle.fancy_tree.specs.declared.tree.RepeatKind.{RepeatKind}
use Rattle.fancy_tree.specs.declared.tree.RepeatKind.TheVariants.{Greedy, Lazy, Possessive}
use Rattle.fancy_tree.specs.Pattern.{Pattern, empty, character, member_of, in_any_case, raw_byte, backreference, assertion, group_test, keep_start, continue_here, group, repeat, look_ahead, look_behind, atomic, conditional, followed, or_else, last_branch}

-- a repeat of this kind can go back to another number of turns
abbrev pub goes_back : RepeatKind → Bool
goes_back Greedy = true
goes_back Lazy = true
goes_back Possessive = false

-- the kind of a repeat that can go back: greedy or lazy
abbrev pub kind_of : Bool → RepeatKind
kind_of true = Greedy
kind_of false = Lazy

-- the patterns whose code never reads what it has captured, and ends no way early
abbrev pub is_easy : Pattern → Bool
is_easy empty = true
is_easy (character c) = true
is_easy (member_of edges) = true
is_easy (in_any_case edges) = true
is_easy (raw_byte byte) = true
is_easy (backreference folded number) = false
is_easy (assertion a) = true
is_easy (group_test number) = false
is_easy keep_start = false
is_easy continue_here = false
is_easy (group index body) = is_easy body
is_easy (repeat low high kind body) = goes_back kind && is_easy body
is_easy (look_ahead negated body) = false
is_easy (look_behind negated body) = false
is_easy (atomic body) = false
is_easy (conditional condition first second) = false
is_easy (followed part rest) = is_easy part && is_easy rest
is_easy (or_else branch others) = is_easy branch && is_easy others
is_easy (last_branch branch) = is_easy branch

-- each of these patterns is easy
abbrev pub all_easy : List Pattern → Bool
all_easy [] = true
all_easy (p ∷ ps) = is_easy p && all_easy ps
