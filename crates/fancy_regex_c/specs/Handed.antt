-- What a haystack is that was handed in.
use Rattle.std.specs.Prelude.{ℕ, Bool, List}
use Rattle.fancy_regex_c.specs.declared.handed.Handed.{Handed}

-- its bytes
abbrev pub handed_bytes : Handed → List ℕ
handed_bytes h = h.bytes.now

-- whether it is text
abbrev pub is_handed_text : Handed → Bool
is_handed_text h = h.is_text
