-- What a step of a template gives, as it is held.
use Rattle.std.specs.Prelude.{ℕ, List, encode_utf8}
use Rattle.fancy_template.specs.declared.expansion.Expanded.{Expanded}
use Rattle.fancy_template.specs.declared.expansion.Expanded.TheVariants.{Character, Text}

-- its bytes
abbrev pub bytes_of : Expanded → List ℕ
bytes_of (Character c) = encode_utf8 c
bytes_of (Text t) = t.now
