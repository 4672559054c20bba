-- Numbers in hexadecimal digits, as they are read.
use Rattle.std.proofs.Common.{◌≡◌, ℕ, ◌+◌, ◌*◌, min, nat_lt, Bool, true, false, [], ◌∷◌, Option, Some, None, cond, refl, ap, ◌∙◌, arith}
use Rattle.std.proofs.lemmas.Bool.Decides.{nat_tests}
use Rattle.std.specs.Char.{digit_value}
use Rattle.std.specs.Option.{option_map}
use Rattle.fancy_tree.specs.Text.{Text}
use Rattle.fancy_class.specs.EscapeGrammar.{hexadecimal, by_number}
use Rattle.fancy_class.specs.ClassViews.{capped_number}

abbrev capped : ℕ → ℕ
capped n = min n 0x11_0000

if_digit : (b : Bool) (u v : Option ℕ) → u ≡ option_map capped v → cond b u None ≡ option_map capped (cond b v None)
if_digit true u v h = h
if_digit false u v h = refl

-- a number may be capped before its other digits are read
capped_is : (t : Text) (n m : ℕ) → m ≡ capped n → capped_number m t ≡ option_map capped (hexadecimal n t)
capped_is [] n m h = ap Some h
capped_is (c ∷ t) n m h = if_digit (nat_lt (digit_value c) 16) _ _ (capped_is t (n * 16 + digit_value c) (min (m * 16 + digit_value c) 0x11_0000) (omega (arith, h)))

-- no number that is too large is a character
by_number_capped : (o : Option ℕ) (is_byte : Bool) (u : Text) → by_number (option_map capped o) is_byte u ≡ by_number o is_byte u
by_number_capped None is_byte u = refl
by_number_capped (Some n) is_byte u = go (nat_lt n 0x11_0000) refl
  where
    go : (b : Bool) → nat_lt n 0x11_0000 ≡ b → by_number (Some (capped n)) is_byte u ≡ by_number (Some n) is_byte u
    go true e = let same : capped n ≡ n = grind (arith, nat_tests) in ap (λ k. by_number (Some k) is_byte u) same
    go false e =
        let same : capped n ≡ 0x11_0000 = grind (arith, nat_tests) in
        let small : nat_lt n 0xD800 ≡ false = grind (arith, nat_tests) in
        let between : nat_lt 0xDFFF n ≡ true = grind (arith, nat_tests) in
        rw (same, small, between, e) refl

pub by_number_read : (t : Text) (is_byte : Bool) (u : Text) → by_number (capped_number 0 t) is_byte u ≡ by_number (hexadecimal 0 t) is_byte u
by_number_read t is_byte u = ap (λ o. by_number o is_byte u) (capped_is t 0 0 refl) ∙ by_number_capped (hexadecimal 0 t) is_byte u
