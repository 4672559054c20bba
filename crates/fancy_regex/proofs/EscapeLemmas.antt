-- Lemmas on escapes.
use Rattle.std.proofs.Common.{ℕ, ◌≡◌, false, List, sym, chars, encode_utf8_all, IsUtf8}
use Rattle.std.proofs.lemmas.Str.{encodes-chars}
use Rattle.fancy_regex.specs.Escapes.{has_special, escaped_pattern}

-- without a character that means something a text stays as it is
pub plain_bytes : (text : List ℕ) → IsUtf8 text → has_special (chars text) ≡ false → text ≡ encode_utf8_all (escaped_pattern (chars text))
plain_bytes text u e = rw e (sym (encodes-chars text u))
