-- The parts of a text between spans, in byte offsets.
use Rattle.std.specs.Prelude.{ℕ, zero, suc, ◌≤◌, Bool, true, List, [], ◌∷◌, ◌++◌, take, length, slice_range, if◌then◌else◌}
use Rattle.fancy_input.specs.declared.span.Span.{Span}

-- The parts of t between the spans, from a place on: the part before the first span, and so on, and the rest after the last.
abbrev pub pieces : List ℕ → ℕ → List Span → List (List ℕ)
pieces t at [] = slice_range t at (length t) ∷ []
pieces t at (x ∷ xs) = slice_range t at x.start ∷ pieces t x.end xs

-- Nothing for no pieces, else the pieces between the first n - 1 spans: the last of n pieces is the rest.
abbrev pub first_pieces : ℕ → List ℕ → ℕ → List Span → List (List ℕ)
first_pieces zero t at xs = []
first_pieces (suc n) t at xs = pieces t at (take n xs)

-- the pieces with the given texts, in order, between them
abbrev pub interleaved : List (List ℕ) → List (List ℕ) → List ℕ
interleaved [] ts = []
interleaved (p ∷ ps) [] = p ++ interleaved ps []
interleaved (p ∷ ps) (a ∷ ts) = p ++ (a ++ interleaved ps ts)

-- the texts of the spans
abbrev pub texts : List ℕ → List Span → List (List ℕ)
texts t [] = []
texts t (x ∷ xs) = slice_range t x.start x.end ∷ texts t xs

-- what a replacement with a limit takes: all for 0, else the first so many
abbrev pub limited : {A : Type 0} → ℕ → List A → List A
limited zero xs = xs
limited (suc n) xs = take (suc n) xs

-- The spans lie one after another between two places. They may touch.
abbrev pub AreBetween : ℕ → ℕ → List Span → Type 0
AreBetween at last [] = at ≤ last
AreBetween at last (x ∷ xs) = (at ≤ x.start) × (x.start ≤ x.end) × AreBetween x.end last xs

-- How far a split has come: its text, where the last match ended, the spans that are left, and whether the rest was given.
pub record Progress : Type 0 where
  pub text : List ℕ
  pub last : ℕ
  pub spans : List Span
  pub ended : Bool

abbrev pub pieces_left : Progress → List (List ℕ)
pieces_left p = if p.ended then [] else pieces p.text p.last p.spans

-- the pieces that are left, n at most
abbrev pub first_pieces_left : ℕ → Progress → List (List ℕ)
first_pieces_left n p = if p.ended then [] else first_pieces n p.text p.last p.spans

-- the rest of the text, from the last end on
abbrev pub rest_of : Progress → List ℕ
rest_of p = slice_range p.text p.last (length p.text)

abbrev pub past_piece_before : Progress → List Span → Progress
past_piece_before p [] = record p { ended = true }
past_piece_before p (x ∷ xs) = record p { last = x.end; spans = xs }

-- After the next piece: the span that follows it is passed over; after the rest nothing comes.
abbrev pub past_piece : Progress → Progress
past_piece p = past_piece_before p p.spans
