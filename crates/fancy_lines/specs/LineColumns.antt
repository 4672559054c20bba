-- Where a byte of a text stands: which line, and how far into it.
use Prim.Native.Char.{code}
use Rattle.std.specs.List.{count_by}
use Rattle.std.specs.Prelude.{ℕ, zero, suc, ◌-◌, ◌≡◌, ◌≤◌, Bool, true, false, List, [], ◌∷◌, ◌++◌, length, get_or, take, drop, ◌==◌, leb, ltb, ◌||◌}

-- one more, or the same
abbrev pub one_more : Bool → ℕ → ℕ
one_more true n = suc n
one_more false n = n

-- how many line feeds there are
abbrev pub breaks : List ℕ → ℕ
breaks [] = zero
breaks (b ∷ rest) = one_more (b == code "\n") (breaks rest)

-- one further, or at the line's start
abbrev pub further : Bool → ℕ → ℕ
further true n = zero
further false n = suc n

-- how many bytes follow the last line feed, or n more where there is none
abbrev pub since_break : ℕ → List ℕ → ℕ
since_break n [] = n
since_break n (b ∷ rest) = since_break (further (b == code "\n") n) rest

-- with this start, or without
abbrev pub add_start : Bool → ℕ → List ℕ → List ℕ
add_start true p starts = p ∷ starts
add_start false p starts = starts

-- where lines start after the first one, in a text that begins at a place
abbrev pub starts_after : ℕ → List ℕ → List ℕ
starts_after at [] = []
starts_after at (b ∷ rest) = add_start (b == code "\n") (suc at) (starts_after (suc at) rest)

-- where a line starts, counted from 0, where the first one starts at d
abbrev pub start_at : ℕ → List ℕ → ℕ → ℕ
start_at d starts zero = d
start_at d starts (suc k) = get_or starts k 0

-- The offset is that of this column of this line, both counted from 0, columns in bytes.
pub record IsAt (text : List ℕ) (offset row place : ℕ) : Type 0 where
  pub inside : offset ≤ length text
  pub line : breaks (take offset text) ≡ row
  pub column : since_break 0 (take offset text) ≡ place

-- a byte that begins a character: none of 80 to BF
abbrev pub begins_character : ℕ → Bool
begins_character b = ltb b 128 || leb 192 b

-- how many characters begin in these bytes
abbrev pub characters : List ℕ → ℕ
characters bytes = count_by begins_character bytes

-- what stands before an offset in its line
abbrev pub line_before : List ℕ → ℕ → List ℕ
line_before text offset = take (since_break 0 (take offset text)) (drop (offset - since_break 0 (take offset text)) text)

-- The offset is that of this column of this line, both counted from 0, columns in characters.
pub record IsAtCharacter (text : List ℕ) (offset row place : ℕ) : Type 0 where
  pub inside : offset ≤ length text
  pub line : breaks (take offset text) ≡ row
  pub column : characters (line_before text offset) ≡ place

-- what is before the first line feed
abbrev pub unless_break : Bool → ℕ → List ℕ → List ℕ
unless_break true b rest = []
unless_break false b rest = b ∷ rest

abbrev pub until_break : List ℕ → List ℕ
until_break [] = []
until_break (b ∷ rest) = unless_break (b == code "\n") b (until_break rest)

-- what stands from an offset on in its line
abbrev pub line_after : List ℕ → ℕ → List ℕ
line_after text offset = until_break (drop offset text)

-- the line that an offset is in
abbrev pub line_of : List ℕ → ℕ → List ℕ
line_of text offset = line_before text offset ++ line_after text offset
