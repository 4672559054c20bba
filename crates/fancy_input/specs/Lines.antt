-- What ends the lines of a haystack.
use Prim.Native.Char.{code}
use Rattle.std.specs.Prelude.{ℕ, zero, suc, Bool, true, false, ◌&&◌, List, [], ◌∷◌, Option, Some, None, if◌then◌else◌, ◌==◌, slice_get}

abbrev pub is_line_feed : Option ℕ → Bool
is_line_feed None = false
is_line_feed (Some b) = b == code "\n"

abbrev pub byte_before : List ℕ → ℕ → Option ℕ
byte_before haystack zero = None
byte_before haystack (suc p) = slice_get haystack p

abbrev pub is_carriage_return : Option ℕ → Bool
is_carriage_return None = false
is_carriage_return (Some b) = b == code "\r"

-- a row of line feeds, perhaps empty
abbrev pub are_line_feeds : List ℕ → Bool
are_line_feeds [] = true
are_line_feeds (b ∷ rest) = (b == code "\n") && are_line_feeds rest

-- a row of line feeds, each perhaps with a carriage return before it, perhaps empty
abbrev pub are_line_ends : List ℕ → Bool
are_line_ends [] = true
are_line_ends (b ∷ []) = b == code "\n"
are_line_ends (b ∷ c ∷ rest) = if b == code "\n" then are_line_ends (c ∷ rest) else ((b == code "\r") && ((c == code "\n") && are_line_ends rest))
