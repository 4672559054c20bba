use Rattle.std.proofs.Common.{◌≡◌, ◌<◌, ℕ, true}
use Rattle.unicode.specs.Perl.{is_word_byte}
use Rattle.fancy_bytes.specs.Sets.{member}
use Rattle.fancy_prices.proofs.kinds.are_words.Given as goal

abbrev pub invariant-loop-byte : goal.invariant-loop-byte
invariant-loop-byte l = (b : ℕ) → b < l.byte → member l.bytes b ≡ true → is_word_byte b ≡ l.word
