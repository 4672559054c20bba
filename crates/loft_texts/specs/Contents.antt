-- What a line or a file has.
use Rattle.std.specs.Prelude.{ℕ, List, Bool, true, false}
use Rattle.loft_texts.specs.declared.content.Content.{Content}
use Rattle.loft_texts.specs.declared.content.Content.TheVariants.{Text, Bytes}

-- its bytes
abbrev pub bytes_of : Content → List ℕ
bytes_of (Text text) = text.now
bytes_of (Bytes bytes) = bytes.now

-- whether it is text
abbrev pub is_text : Content → Bool
is_text (Text _) = true
is_text (Bytes _) = false
