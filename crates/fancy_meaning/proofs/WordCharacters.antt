-- Word characters, and the character that ends at a place.
use Rattle.std.proofs.Common.{◌≡◌, ◌<◌, ℕ, Bool, true, false, not, ◌&&◌, ◌||◌, ◌==◌, sym, refl, ap, ◌∙◌, arith}
use Rattle.std.specs.Bool.{beq}
use Rattle.std.specs.Char.{IsScalar, is_ascii_alphanumeric}
use Rattle.std.proofs.lemmas.Bool.Decides.{nat_tests}
use Rattle.unicode.specs.Rows.{in_ranges}
use Rattle.unicode.specs.Perl.{is_word_byte, is_word_char}
use Rattle.unicode.proofs.PerlLemmas.{is_word_char-ascii}
use Rattle.fancy_tree.specs.declared.tree.Meaning.{Meaning}
use Rattle.fancy_tree.specs.declared.tree.Meaning.TheVariants.{Unicode, Bytes, AsciiText}
use Rattle.fancy_tree.specs.declared.named.Named.TheVariants.{Word}
use Rattle.fancy_tree.specs.Named.{in_named_set, in_universe, ascii_ranges}
use Rattle.fancy_tree.specs.Sets.{differ}
use Rattle.fancy_input.specs.Places.{is_scalar}
use Rattle.fancy_input.proofs.CharacterLemmas.{is_scalar-scalar}

universe_is : (c : ℕ) → in_universe Unicode c ≡ is_scalar c
unfolding in_ranges
universe_is c = grind (arith, nat_tests)

pub unicode_word : (c : ℕ) → IsScalar c → is_word_char c ≡ in_named_set Unicode Word c
unicode_word c h = sym (ap (λ (b : Bool). b && is_word_char c) (universe_is c ∙ is_scalar-scalar c ∙ h))

pub ascii_word : (c : ℕ) → (is_ascii_alphanumeric c || (c == 95)) ≡ in_ranges (ascii_ranges Word) c
unfolding in_ranges
ascii_word c = grind (arith, nat_tests)

-- an ASCII byte is of a word in each meaning, or in none
pub word_byte : (m : Meaning) (c : ℕ) → c < 128 → in_named_set m Word c ≡ is_word_byte c
word_byte Unicode c low = sym (unicode_word c (grind (arith, nat_tests))) ∙ is_word_char-ascii c low
word_byte Bytes c low = sym (ascii_word c)
word_byte AsciiText c low = sym (ascii_word c)

pub not_same : (a b : Bool) → not (beq a b) ≡ differ a b
not_same true true = refl
not_same true false = refl
not_same false true = refl
not_same false false = refl

pub same : (a b : Bool) → beq a b ≡ not (differ a b)
same true true = refl
same true false = refl
same false true = refl
same false false = refl
