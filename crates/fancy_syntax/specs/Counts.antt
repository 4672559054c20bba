-- Rows of digits, and counts, at the start of a text.
use Rattle.std.specs.Prelude.{ℕ, ◌+◌, ◌-◌, ◌*◌, ◌||◌, ◌&&◌, Bool, true, false, [], ◌∷◌, drop, if◌then◌else◌}
use Prim.Native.Char.{code}
use Rattle.std.specs.Char.{is_ascii_digit}
use Rattle.fancy_tree.specs.Text.{Text}
use Rattle.fancy_class.specs.Words.{is_at}

abbrev pub is_at_digit : Text → Bool
is_at_digit [] = false
is_at_digit (c ∷ t) = is_ascii_digit c

-- what follows the row of digits that stands first
abbrev pub past_digits : Text → Text
past_digits [] = []
past_digits (c ∷ t) = if is_ascii_digit c then past_digits t else c ∷ t

-- Decimal digits after a number: the number that the row of digits which stands first is, where n was read before it.
unfoldable pub decimal_from : ℕ → Text → ℕ
decimal_from n [] = n
decimal_from n (c ∷ t) = if is_ascii_digit c then decimal_from (n * 10 + (c - code "0")) t else n

-- the number that the row of digits which stands first is, and 0 where there is none
abbrev pub decimal : Text → ℕ
decimal t = decimal_from 0 t

-- each character is a digit
abbrev pub are_digits : Text → Bool
are_digits [] = true
are_digits (c ∷ t) = is_ascii_digit c && are_digits t

-- after a brace: `n}`, `n,}`, `n,m}` or `,m}`
abbrev pub is_count : Text → Bool
is_count t =
    (is_at_digit t && is_at "}" (past_digits t))
    || (is_at "," (past_digits t) && (is_at "}" (past_digits (drop 1 (past_digits t)))
    && (is_at_digit t || is_at_digit (drop 1 (past_digits t)))))

-- a count begins here
abbrev pub begins_count : Text → Bool
begins_count t = is_at "{" t && is_count (drop 1 t)
