-- The places of a haystack, as byte offsets: what character starts or ends at one, where a match may begin and end, and the steps between them.
use Rattle.std.specs.Prelude.{ℕ, zero, suc, ◌+◌, ◌-◌, Bool, true, false, not, ◌&&◌, ◌||◌, ◌==◌, nat_le, nat_lt, nat_eq, List, [], ◌∷◌, length, drop, Option, Some, None, if◌then◌else◌, slice_index, chars, encode_utf8}
use Rattle.std.specs.List.{starts_with}
use Rattle.std.specs.Char.{len_utf8}
use Rattle.std.specs.Option.{option_or}

-- c is the number of a character: a Unicode scalar value
abbrev pub is_scalar : ℕ → Bool
is_scalar c = nat_lt c 0xD800 || (nat_le 0xE000 c && nat_le c 0x10_FFFF)

-- these bytes stand at i
unfoldable pub has_bytes_at : List ℕ → ℕ → List ℕ → Bool
has_bytes_at haystack i bs = starts_with nat_eq (drop i haystack) bs

-- The character whose UTF-8 starts at i. `chars` reads some number off any bytes, and the test keeps it only where its own encoding stands there; so overlong forms, surrogates and characters that are cut off are none.
unfoldable pub char_at : List ℕ → ℕ → Option ℕ
char_at haystack i =
    let c = slice_index (chars (drop i haystack)) 0 in
    if is_scalar c && has_bytes_at haystack i (encode_utf8 c) then Some c else None

abbrev pub if_wide : ℕ → Option ℕ → Option ℕ
if_wide n None = None
if_wide n (Some c) = if len_utf8 c == n then Some c else None

-- the character of n bytes whose UTF-8 ends at i
abbrev pub char_of_width_before : List ℕ → ℕ → ℕ → Option ℕ
char_of_width_before haystack n i = if nat_le n i then if_wide n (char_at haystack (i - n)) else None

-- the character whose UTF-8 ends at i
unfoldable pub char_before : List ℕ → ℕ → Option ℕ
char_before haystack i =
    option_or (char_of_width_before haystack 1 i) (option_or (char_of_width_before haystack 2 i)
    (option_or (char_of_width_before haystack 3 i) (char_of_width_before haystack 4 i)))

-- a byte that continues a character of UTF-8
abbrev pub is_continuation : ℕ → Bool
is_continuation b = nat_le 0x80 b && nat_lt b 0xC0

-- Where a match may begin and end: at the start, at or past the end, and where no continuation byte stands. For text these are its character boundaries.
abbrev pub is_boundary : List ℕ → ℕ → Bool
is_boundary haystack i = (i == 0) || (nat_le (length haystack) i || not (is_continuation (slice_index haystack i)))

-- the place before i: one byte back, and on over the bytes that continue a character
unfoldable pub prev_place : List ℕ → ℕ → ℕ
prev_place haystack zero = zero
prev_place haystack (suc i) = if is_continuation (slice_index haystack i) then prev_place haystack i else i

-- a character boundary as a haystack of this form has them: for text none past the end
abbrev pub is_place : Bool → List ℕ → ℕ → Bool
is_place text haystack i = is_boundary haystack i && (not text || nat_le i (length haystack))

-- how many bytes at the start continue a character
abbrev pub continuations : List ℕ → ℕ
continuations [] = zero
continuations (b ∷ bs) = if is_continuation b then suc (continuations bs) else zero

-- The place after i. For text it is where the next character starts, and one past the end where i is the end; for bytes it is the next byte.
abbrev pub next_place : Bool → List ℕ → ℕ → ℕ
next_place true haystack i = i + 1 + continuations (drop (i + 1) haystack)
next_place false haystack i = i + 1
