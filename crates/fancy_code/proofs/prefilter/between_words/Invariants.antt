use Rattle.std.proofs.Common.{◌≡◌, ◌<◌, ℕ, true, false}
use Rattle.unicode.specs.Perl.{is_word_byte}
use Rattle.fancy_bytes.specs.Sets.{member}
use Rattle.fancy_code.proofs.prefilter.between_words.Given as goal

abbrev pub invariant-loop-code : goal.invariant-loop-code
invariant-loop-code l = (b : ℕ) → b < l.code → b < 256 → member l.others b ≡ false → is_word_byte b ≡ true
