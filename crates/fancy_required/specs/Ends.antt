-- Patterns whose matches end at the end of the text.
use Rattle.std.specs.Prelude.{Bool, true, false}
use Rattle.fancy_tree.specs.declared.tree.Assertion.{Assertion}
use Rattle.fancy_tree.specs.declared.tree.Assertion.TheVariants.{TextStart, TextEnd, LineStart, LineEnd, LineStartCrlf, LineEndCrlf, LastLine, LastLineCrlf, WordBoundary, NotWordBoundary, WordStart, WordEnd, WordStartHalf, WordEndHalf}
use Rattle.fancy_tree.specs.Pattern.{Pattern, empty, character, member_of, in_any_case, raw_byte, backreference, assertion, group_test, keep_start, continue_here, group, repeat, look_ahead, look_behind, atomic, conditional, followed, or_else, last_branch}

-- it holds at the end of the text alone
abbrev pub is_text_end : Assertion → Bool
is_text_end TextStart = false
is_text_end TextEnd = true
is_text_end LineStart = false
is_text_end LineEnd = false
is_text_end LineStartCrlf = false
is_text_end LineEndCrlf = false
is_text_end LastLine = false
is_text_end LastLineCrlf = false
is_text_end WordBoundary = false
is_text_end NotWordBoundary = false
is_text_end WordStart = false
is_text_end WordEnd = false
is_text_end WordStartHalf = false
is_text_end WordEndHalf = false

-- The last part of the pattern holds at the end of the text alone.
abbrev pub ends_text : Pattern → Bool
ends_text empty = false
ends_text (character c) = false
ends_text (member_of edges) = false
ends_text (in_any_case edges) = false
ends_text (raw_byte byte) = false
ends_text (backreference folded number) = false
ends_text (assertion a) = is_text_end a
ends_text (group_test number) = false
ends_text keep_start = false
ends_text continue_here = false
ends_text (group index body) = ends_text body
ends_text (repeat low high kind body) = false
ends_text (look_ahead negated body) = false
ends_text (look_behind negated body) = false
ends_text (atomic body) = false
ends_text (conditional condition first second) = false
ends_text (followed part rest) = ends_text rest
ends_text (or_else branch others) = false
ends_text (last_branch branch) = false
