-- What is told of bytes.
use Rattle.std.specs.Prelude.{◌≡◌, ◌<◌, ℕ, Bool, true}
use Rattle.unicode.specs.Perl.{is_word_byte}
use Rattle.fancy_bytes.specs.Sets.{ByteFlags, member}

-- each is of ASCII, and a letter, a digit or `_`, or with `false` each is of ASCII and none of these
abbrev pub AreWords : ByteFlags → Bool → Type 0
AreWords bytes word = (b : ℕ) → b < 256 → member bytes b ≡ true → (b < 128) × (is_word_byte b ≡ word)
