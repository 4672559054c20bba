-- What stands after a backslash: characters by a letter or a number, and sets by a letter or a name.
use Rattle.std.specs.Prelude.{ℕ, ◌+◌, ◌*◌, ◌==◌, ◌||◌, ◌&&◌, nat_lt, Bool, true, false, [], ◌∷◌, length, take, drop, Option, Some, None, if◌then◌else◌}
use Prim.Native.Char.{code}
use Rattle.std.specs.Option.{option_or}
use Rattle.std.specs.Char.{is_ascii_punctuation, is_ascii_alphabetic, digit_value}
use Rattle.fancy_tree.specs.Text.{Text, ◌∈◌}
use Rattle.fancy_class.specs.Words.{is_at, begins}
use Rattle.fancy_tree.specs.declared.named.Named.{Named}
use Rattle.fancy_tree.specs.declared.named.Named.TheVariants.{Digit, Word, Space, Hexadecimal}

-- the control characters that a backslash and a letter stand for
abbrev pub control_of : ℕ → Option ℕ
control_of d =
    if code "a" == d then Some 7  -- BEL
    else if code "e" == d then Some 27  -- ESC
    else if code "f" == d then Some 12  -- FF
    else if code "n" == d then Some (code "\n")
    else if code "r" == d then Some (code "\r")
    else if code "t" == d then Some (code "\t")
    else if code "v" == d then Some 11  -- VT
    else None

-- space and ASCII punctuation
abbrev pub is_mark : ℕ → Bool
is_mark c = (c == code " ") || is_ascii_punctuation c

-- the character that is meant by a letter or mark in a class
abbrev pub escape_meaning : ℕ → Option ℕ
escape_meaning c =
    if c == code "b" then Some 8  -- BS
    else option_or (control_of c) (if is_mark c then Some c else None)

-- the set that a letter names, and whether its complement is meant
abbrev pub set_letter : ℕ → Option (Named × Bool)
set_letter c =
    if c == code "d" then Some (Digit, false)
    else if c == code "D" then Some (Digit, true)
    else if c == code "w" then Some (Word, false)
    else if c == code "W" then Some (Word, true)
    else if c == code "s" then Some (Space, false)
    else if c == code "S" then Some (Space, true)
    else if c == code "h" then Some (Hexadecimal, false)
    else if c == code "H" then Some (Hexadecimal, true)
    else None

-- the set that an escape names here
abbrev pub set_here : Text → Option (Named × Bool)
set_here [] = None
set_here (c ∷ []) = None
set_here (c ∷ d ∷ t) = if c == code "\\" then set_letter d else None

-- how many letters the text begins with
abbrev pub letters : Text → ℕ
letters [] = 0
letters (c ∷ t) = if is_ascii_alphabetic c then 1 + letters t else 0

-- how many characters stand before the first closing brace, or in the text where it has none
abbrev pub before_brace : Text → ℕ
before_brace [] = 0
before_brace (c ∷ t) = if c == code "}" then 0 else 1 + before_brace t

-- a number that is a character's
abbrev pub is_character : ℕ → Bool
is_character n = nat_lt n 0xD800 || (nat_lt 0xDFFF n && nat_lt n 0x11_0000)

-- the number that hexadecimal digits write after others that write n, if each is a digit
abbrev pub hexadecimal : ℕ → Text → Option ℕ
hexadecimal n [] = Some n
hexadecimal n (c ∷ t) = if nat_lt (digit_value c) 16 then hexadecimal (n * 16 + digit_value c) t else None

-- a character by its number, and whether it was written as a byte
abbrev pub by_number : Option ℕ → Bool → Text → Option ((ℕ × Bool) × Text)
by_number (Some n) is_byte t = if is_character n then Some ((n, is_byte), t) else None
by_number None is_byte t = None

-- the character that so many digits at the start number, with what follows so many characters
abbrev pub number_in_digits : ℕ → ℕ → Bool → Text → Option ((ℕ × Bool) × Text)
number_in_digits digits past is_byte t = by_number (hexadecimal 0 (take digits t)) is_byte (drop past t)

-- so many digits, of which two write a byte
abbrev pub fixed_number : ℕ → Text → Option ((ℕ × Bool) × Text)
fixed_number count t = if nat_lt (length t) count then None else number_in_digits count count (count == 2) t

-- one to eight digits and a closing brace
abbrev pub braced_number : Text → Option ((ℕ × Bool) × Text)
braced_number t =
    if nat_lt 0 (before_brace t) && (nat_lt (before_brace t) 9 && nat_lt (before_brace t) (length t))
    then number_in_digits (before_brace t) (before_brace t + 1) false t
    else None

-- what follows the letter of a number escape: so many digits, or one to eight in braces
abbrev pub escape_number : ℕ → Text → Option ((ℕ × Bool) × Text)
escape_number count t = if is_at "{" t then braced_number (drop 1 t) else fixed_number count t

-- a number follows this letter
abbrev pub takes_number : ℕ → Bool
takes_number d = d ∈ "xuU"

-- how many digits that number has, where it stands in no braces
abbrev pub digits_after : ℕ → ℕ
digits_after d = if code "x" == d then 2 else if code "u" == d then 4 else 8

abbrev pub escape_at : Option ℕ → Text → Option ((ℕ × Bool) × Text)
escape_at (Some e) t = Some ((e, false), t)
escape_at None t = None

-- one character, or an escape that stands for one; and whether it was written as a byte
abbrev pub single_character : Text → Option ((ℕ × Bool) × Text)
single_character [] = None
single_character (c ∷ []) = if c ∈ "\\[" then None else Some ((c, false), [])
single_character (c ∷ d ∷ t) =
    if c == code "\\" then (if takes_number d then escape_number (digits_after d) t else escape_at (escape_meaning d) t)
    else if c == code "[" then None
    else Some ((c, false), d ∷ t)

-- an escape that names a property begins here
abbrev pub is_property : Text → Bool
is_property p = begins "\\p" p || begins "\\P" p

-- the name of a property: what stands in braces, or one character
abbrev pub property_name : Text → Option (Text × Text)
property_name [] = None
property_name (c ∷ t) =
    if c == code "{" then (if nat_lt (before_brace t) (length t) then Some (take (before_brace t) t, drop (before_brace t + 1) t) else None)
    else Some (c ∷ [], t)
