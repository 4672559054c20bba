-- Texts that are to stand for themselves in a pattern.
use Prim.Native.Char.{code}
use Rattle.std.specs.Prelude.{ℕ, ◌==◌, Bool, List, [], ◌∷◌, ◌++◌, chars, codes, encode_utf8_all, flat_map, if◌then◌else◌}
use Rattle.std.specs.List.{list_any}
use Rattle.fancy_tree.specs.Text.{Text, is_among}

-- the characters that make a text need escapes in a pattern
abbrev pub special : Text
special = codes "\\.+*?()|[]{}^$#"

unfoldable pub is_special : ℕ → Bool
is_special c = is_among c special

abbrev pub has_special : Text → Bool
has_special t = list_any is_special t

-- one character of such a text: LF, TAB and CR are written by letters
unfoldable pub escaped_character : ℕ → Text
escaped_character c =
    if c == code "\n" then codes "\\n"
    else if c == code "\t" then codes "\\t"
    else if c == code "\r" then codes "\\r"
    else if is_special c then codes "\\" ++ (c ∷ [])
    else c ∷ []

-- a text with none of them stays as it is, with its line feeds and tabs
abbrev pub escaped_pattern : Text → Text
escaped_pattern t = if has_special t then flat_map escaped_character t else t

-- the bytes of what stands for a text of these bytes
abbrev pub escape_of : List ℕ → List ℕ
escape_of text = encode_utf8_all (escaped_pattern (chars text))
