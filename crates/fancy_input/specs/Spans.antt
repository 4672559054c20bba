-- What a match says: the haystack that it stands in, and its two ends as byte offsets into it.
use Rattle.std.specs.Prelude.{ℕ, List}
use Rattle.fancy_input.specs.declared.matches.Match.{Match}
use Rattle.fancy_input.specs.declared.bytes.MatchBytes.{MatchBytes}
use Rattle.fancy_input.specs.declared.span.Span.{Span}

-- the span from one offset to another
abbrev pub from_to : ℕ → ℕ → Span
from_to start end = record { start = start; end = end }

-- start and end of a match in text
abbrev pub span_in : Match → Span
span_in m = from_to m.start m.end

-- the whole text that the match stands in
abbrev pub text_in : Match → List ℕ
text_in m = m.text.now

-- start and end of a match in bytes
abbrev pub span_in_bytes : MatchBytes → Span
span_in_bytes m = from_to m.start m.end

-- all the bytes that the match stands in
abbrev pub bytes_in : MatchBytes → List ℕ
bytes_in m = m.bytes.now
