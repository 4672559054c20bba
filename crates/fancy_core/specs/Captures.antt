-- What captures hold.
use Rattle.std.specs.Prelude.{List, Option, option_map, drop}
use Rattle.fancy_tree.specs.Text.{Text}
use Rattle.fancy_input.specs.declared.span.Span.{Span}
use Rattle.fancy_core.specs.declared.captures.Captures.{Captures}
use Rattle.fancy_core.specs.declared.captures.views.SubCaptureMatches.{SubCaptureMatches}
use Rattle.fancy_core.specs.declared.regex.Regex.{Regex}
use Rattle.fancy_search.specs.Groups.{spans_held}
use Rattle.fancy_core.specs.CaptureNames.{span_named}

-- the spans of the groups, in order
abbrev pub spans_in : {S : Type 0} {g : _} → Captures S g → List (Option Span)
spans_in captures = spans_held captures.groups

-- the spans of the groups of captures, if there are any
abbrev pub spans_if : {S : Type 0} {g : _} → Option (Captures S g) → Option (List (Option Span))
spans_if captures = option_map (λ c. spans_in c) captures

-- the spans of the groups that an iterator over them has left
abbrev pub sub_captures_left : {S : Type 0} {g : _} → SubCaptureMatches S g → List (Option Span)
sub_captures_left s = drop s.next (spans_in s.captures.now)

-- the haystack that they were found in
abbrev pub searched_in : {S : Type 0} {g : _} → Captures S g → S
searched_in captures = captures.haystack

-- the regex that found them
abbrev pub found_by : {S : Type 0} {g : _} → Captures S g → Regex
found_by captures = captures.regex.now

-- the span of the last group in the pattern that has a name, if that took part
abbrev pub span_by_name : {S : Type 0} {g : _} → Captures S g → Text → Option Span
span_by_name captures name = span_named (found_by captures) (spans_in captures) name
