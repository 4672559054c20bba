-- The groups of a match, as spans of byte offsets. Group 0 is the match itself.
use Rattle.std.specs.Prelude.{◌≡◌, ◌≤◌, ◌==◌, ◌∷◌, ℕ, Bool, true, List, length, map, Option, Some, None, IfSome, if◌then◌else◌, IsTrue, slice_index_or, slice_range}
use Rattle.std.specs.List.{range_with_len}
use Rattle.fancy_input.specs.Places.{is_boundary}
use Rattle.fancy_input.specs.declared.span.Span.{Span}
use Rattle.fancy_meaning.specs.Context.{group_span}
use Rattle.fancy_meaning.specs.Search.{Answer, span_of}
use Rattle.fancy_search.specs.declared.groups.GroupSpans.{GroupSpans}

-- the span of one group, if it took part
abbrev pub span_of_group : Answer → ℕ → Option Span
span_of_group f number = if number == 0 then Some (span_of f) else group_span f.state number

-- the spans of the first n groups
abbrev pub spans_of : ℕ → Answer → List (Option Span)
spans_of n f = map (span_of_group f) (range_with_len 0 n)

-- the spans that are held
unfoldable pub spans_held : GroupSpans → List (Option Span)
spans_held groups = Some groups.whole ∷ groups.others.items

-- the span of a group among these; none past the last
abbrev pub span_at : List (Option Span) → ℕ → Option Span
span_at spans number = slice_index_or spans number None

-- a haystack can be cut at both ends, and for text no character is cut
pub record IsCut (text : Bool) (haystack : List ℕ) (start end : ℕ) : Type 0 where
  pub ordered : start ≤ end
  pub inside : end ≤ length haystack
  pub starts_cleanly : text ≡ true → IsTrue (is_boundary haystack start)
  pub ends_cleanly : text ≡ true → IsTrue (is_boundary haystack end)

-- each of these spans is one
abbrev pub AreCut : Bool → List ℕ → List (Option Span) → Type 0
AreCut text haystack spans = (number : ℕ) (span : Span) → span_at spans number ≡ Some span → IsCut text haystack span.start span.end

-- this is the part of a haystack that a span covers, where there is one
abbrev pub IsPart : List ℕ → Option Span → List ℕ → Type 0
IsPart haystack span part = IfSome span (λ s. part ≡ slice_range haystack s.start s.end)
