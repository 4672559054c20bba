-- The text of a group once more, and under flag `i` what differs from it in case alone.
use Rattle.std.specs.Prelude.{ℕ, zero, suc, ◌+◌, ◌-◌, Bool, true, false, ◌==◌, List, [], ◌∷◌, length, drop, take, Option, Some, None, if◌then◌else◌}
use Rattle.std.specs.Char.{len_utf8}
use Rattle.std.specs.Str.{str_eq_ignore_ascii_case}
use Rattle.unicode.specs.CaseFolding.{simple_fold}
use Rattle.fancy_tree.specs.declared.tree.Meaning.{Meaning}
use Rattle.fancy_tree.specs.declared.tree.Meaning.TheVariants.{Unicode, Bytes, AsciiText}
use Rattle.fancy_input.specs.Places.{char_at, has_bytes_at}
use Rattle.fancy_input.specs.declared.span.Span.{Span}
use Rattle.fancy_meaning.specs.Context.{Context, State, group_span, past_item, past_byte, option_to}

-- the bytes of a span
unfoldable pub captured_text : Context → Span → List ℕ
captured_text x span = take (span.end - span.start) (drop span.start x.haystack)

-- the place after the bytes at p that equal these
unfoldable pub past_text : Context → List ℕ → ℕ → Option ℕ
past_text x text p = if has_bytes_at x.haystack p text then Some (p + length text) else None

-- the place after the bytes at p that equal these, ASCII letters in either case
unfoldable pub past_letters : Context → List ℕ → ℕ → Option ℕ
past_letters x text p = if str_eq_ignore_ascii_case (take (length text) (drop p x.haystack)) text then Some (p + length text) else None

-- the two characters have the same simple folding
abbrev pub shares_folding : ℕ → ℕ → Bool
shares_folding c d = simple_fold d == simple_fold c

-- a piece of a text: a well-formed character, or a byte at which none begins
pub data Piece : Type 0 where
  whole_character : ℕ → Piece
  other_byte : ℕ → Piece

-- the piece that begins with this byte, and with this character, if one begins there
abbrev pub piece_of : ℕ → Option ℕ → Piece
piece_of b None = other_byte b
piece_of b (Some c) = whole_character c

-- how many bytes of a piece follow its first one
abbrev pub bytes_after_first : Piece → ℕ
bytes_after_first (whole_character c) = len_utf8 c - 1
bytes_after_first (other_byte b) = 0

-- the pieces of a text, but for its first n bytes, which belong to the piece before them
unfoldable pub cut_after : List ℕ → ℕ → List Piece
cut_after [] n = []
cut_after (b ∷ bs) zero = let piece = piece_of b (char_at (b ∷ bs) 0) in piece ∷ cut_after bs (bytes_after_first piece)
cut_after (b ∷ bs) (suc n) = cut_after bs n

-- the text cut from the left into well-formed characters and single other bytes
abbrev pub cut : List ℕ → List Piece
cut text = cut_after text 0

-- the place after what matches a piece: a character is matched by one with the same simple folding, another byte by itself
abbrev pub past_piece : Context → Piece → ℕ → Option ℕ
past_piece x (whole_character c) p = past_item x (shares_folding c) p
past_piece x (other_byte b) p = past_byte x b p

-- the place after what matches these pieces, one after another
unfoldable pub past_pieces : Context → List Piece → ℕ → Option ℕ
past_pieces x [] p = Some p
past_pieces x (piece ∷ pieces) p = option_to (past_piece x piece p) None (λ r. past_pieces x pieces r)

-- the place after what matches a text, piece by piece
unfoldable pub past_characters : Context → List ℕ → ℕ → Option ℕ
past_characters x text p = past_pieces x (cut text) p

-- the place after what matches a text under flag `i`
abbrev pub past_folded : Context → Meaning → List ℕ → ℕ → Option ℕ
past_folded x Unicode text p = past_characters x text p
past_folded x Bytes text p = past_letters x text p
past_folded x AsciiText text p = past_letters x text p

-- the place after the text of a span once more; where it is folded, under flag `i`
abbrev pub past_span : Context → Bool → Option Span → ℕ → Option ℕ
past_span x folded None p = None
past_span x false (Some span) p = past_text x (captured_text x span) p
past_span x true (Some span) p = past_folded x x.meaning (captured_text x span) p

-- the place after a group's text; none where the group has taken no part
unfoldable pub past_backreference : Context → Bool → ℕ → State → Option ℕ
past_backreference x folded number s = past_span x folded (group_span s number) s.place
