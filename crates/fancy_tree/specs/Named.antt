-- The sets that have a name, in each meaning.
use Rattle.std.specs.Prelude.{ℕ, Bool, true, false, ◌&&◌, List, [], ◌∷◌, if◌then◌else◌}
use Prim.Native.Char.{code}
use Rattle.unicode.specs.Rows.{in_ranges}
use Rattle.unicode.specs.Perl.{is_word_char, is_digit_char, is_space_char}
use Rattle.fancy_tree.specs.declared.tree.Meaning.{Meaning}
use Rattle.fancy_tree.specs.declared.tree.Meaning.TheVariants.{Unicode, Bytes, AsciiText}
use Rattle.fancy_tree.specs.declared.named.Named.{Named}
use Rattle.fancy_tree.specs.declared.named.Named.TheVariants.{Digit, Word, Space, Hexadecimal, Alphanumeric, Alphabetic, Ascii, Blank, Control, Graphic, Lowercase, Printable, Punctuation, AsciiSpace, Uppercase, AsciiWord, AsciiDigit}

-- the numbers that an item can consume
abbrev pub universe_ranges : Meaning → List (ℕ × ℕ)
universe_ranges Unicode = (0, 0xD7FF) ∷ (0xE000, 0x10_FFFF) ∷ []
universe_ranges Bytes = (0, 0xFF) ∷ []
universe_ranges AsciiText = (0, 0x7F) ∷ []

abbrev pub in_universe : Meaning → ℕ → Bool
in_universe m c = in_ranges (universe_ranges m) c

-- the ASCII members of a set with a name
abbrev pub ascii_ranges : Named → List (ℕ × ℕ)
ascii_ranges Digit = (code "0", code "9") ∷ []
ascii_ranges AsciiDigit = (code "0", code "9") ∷ []
ascii_ranges Word = (code "0", code "9") ∷ (code "A", code "Z") ∷ (code "_", code "_") ∷ (code "a", code "z") ∷ []
ascii_ranges Space = (code "\t", code "\r") ∷ (code " ", code " ") ∷ []
ascii_ranges Hexadecimal = (code "0", code "9") ∷ (code "A", code "F") ∷ (code "a", code "f") ∷ []
ascii_ranges Alphanumeric = (code "0", code "9") ∷ (code "A", code "Z") ∷ (code "a", code "z") ∷ []
ascii_ranges Alphabetic = (code "A", code "Z") ∷ (code "a", code "z") ∷ []
ascii_ranges Ascii = (0, 127) ∷ []
ascii_ranges Blank = (code "\t", code "\t") ∷ (code " ", code " ") ∷ []
ascii_ranges Control = (0, 31) ∷ (127, 127) ∷ []
ascii_ranges Graphic = (code "!", code "~") ∷ []
ascii_ranges Lowercase = (code "a", code "z") ∷ []
ascii_ranges Printable = (code " ", code "~") ∷ []
ascii_ranges Punctuation = (code "!", code "/") ∷ (code ":", code "@") ∷ (code "[", code "`") ∷ (code "{", code "~") ∷ []
ascii_ranges AsciiSpace = (code "\t", code "\r") ∷ (code " ", code " ") ∷ []
ascii_ranges Uppercase = (code "A", code "Z") ∷ []
ascii_ranges AsciiWord = (code "0", code "9") ∷ (code "A", code "Z") ∷ (code "_", code "_") ∷ (code "a", code "z") ∷ []

-- the set has other members in Unicode meaning than in the others
abbrev pub is_wide : Named → Bool
is_wide Digit = true
is_wide Word = true
is_wide Space = true
is_wide _ = false

abbrev pub in_wide : Named → ℕ → Bool
in_wide Digit = is_digit_char
in_wide Word = is_word_char
in_wide _ = is_space_char

abbrev pub is_unicode : Meaning → Bool
is_unicode Unicode = true
is_unicode _ = false

-- the members of a set with a name
abbrev pub in_named_set : Meaning → Named → ℕ → Bool
in_named_set m n c = if is_unicode m && is_wide n then in_universe Unicode c && in_wide n c else in_ranges (ascii_ranges n) c
