-- What stands for an iterator over the pieces of a text.
use Rattle.std.specs.Prelude.{◌≡◌, ◌<◌, ◌-◌, ◌==◌, ◌||◌, ℕ, zero, suc, Bool, true, false, not, List, [], ◌∷◌, map, Option, Result}
use Rattle.std.specs.Borrow.{Bor}
use Rattle.fancy_input.specs.declared.span.Span.{Span}
use Rattle.fancy_tree.specs.declared.error.Error.{Error}
use Rattle.fancy_core.specs.declared.regex.Regex.{Regex}
use Rattle.fancy_core.specs.declared.split.Split.{Split}
use Rattle.fancy_core.specs.declared.split.limited.SplitN.{SplitN}
use Rattle.fancy_core.specs.Regexes.{program_in}
use Rattle.fancy_search.specs.MatchList.{span_of_item}
use Rattle.fancy_search.specs.Remaining.{turns_left, refused_next, allowed_next}
use Rattle.fancy_core.specs.NextAnswers.{ByAnswer}
use Rattle.fancy_core.specs.Replacing.{all_matches}
use Rattle.fancy_core.specs.Pieces.{Progress, pieces_left, first_pieces_left, past_piece, rest_of}
use Rattle.fancy_search.specs.Searchers.{left_of, standing_of}

-- the spans of the matches in a text
abbrev pub match_spans : Regex → List ℕ → List Span
match_spans regex t = map span_of_item (all_matches regex t)

-- how far a split has come that was just begun
abbrev pub at_start : Regex → List ℕ → Progress
at_start regex t = record { text = t; last = 0; spans = match_spans regex t; ended = false }

abbrev pub split_regex : Split → Regex
split_regex s = s.regex.now

-- the spans of the matches that are left
abbrev pub split_spans_left : Split → List Span
split_spans_left s = map span_of_item (left_of (program_in s.regex.now) s.searcher)

-- how far it has come
abbrev pub progress : Split → Progress
progress s = record { text = s.searcher.haystack.now; last = s.last; spans = split_spans_left s; ended = s.ended }

-- whether a search may still be made
abbrev pub searches : Split → Bool
searches s = not s.searcher.ended

-- none where it has ended, else one more than n
abbrev pub turns_unless : Bool → ℕ → ℕ
turns_unless true n = zero
turns_unless false n = suc n

-- how many items can still come: a piece before each match that is left, a refusal and the rest
abbrev pub pieces_bound : Split → ℕ
pieces_bound s = turns_unless s.ended (turns_left s.searcher.ended (left_of (program_in s.regex.now) s.searcher))

-- its next search may be refused by this error
abbrev pub split_refuses_next : Split → Error → Type 0
split_refuses_next s e = refused_next (program_in s.regex.now) true s.searcher.haystack.now s.searcher.request (standing_of s.searcher) e

-- its next searches keep within their limits, if it still searches
abbrev pub split_allows_next : Split → Type 0
split_allows_next s = allowed_next (program_in s.regex.now) true s.searcher.haystack.now s.searcher.request (standing_of s.searcher)

-- The end: no piece was left, and nothing changes.
pub record EndsPieces (s t : Split) : Type 0 where
  pub none : pieces_left (progress s) ≡ []
  pub stays : progress t ≡ progress s

-- This piece, the first of those that were left. It stands only where the searches that it rests on kept within their limits.
pub record GivesPiece (piece : List ℕ) (s t : Split) : Type 0 where
  pub first : pieces_left (progress s) ≡ piece ∷ pieces_left (progress t)
  pub moves : progress t ≡ past_piece (progress s)
  pub allowed : split_allows_next s

-- A refusal of the next search, which is the last one. No matches are left after it, and one piece: the rest from the last end on.
pub record RefusesPiece (error : Error) (s t : Split) : Type 0 where
  pub refused : split_refuses_next s error
  pub rest : pieces_left (progress t) ≡ rest_of (progress s) ∷ []
  pub moves : progress t ≡ record (progress s) { spans = [] }
  pub searched : searches s ≡ true
  pub last : searches t ≡ false

-- One call of `next`, from s to t.
pub record IsNextPiece (s : Split) (r : Option (Result (Bor (List ℕ)) Error)) (t : Split) : Type 0 where
  pub answers : ByAnswer r (EndsPieces s t) (λ x. GivesPiece x.now s t) (λ e. RefusesPiece e s t)
  pub same_regex : split_regex t ≡ split_regex s

-- the pieces without their limit
abbrev pub split_in : SplitN → Split
split_in s = s.split

-- how many items may still come
abbrev pub pieces_allowed : SplitN → ℕ
pieces_allowed s = s.limit

-- whether nothing more comes
abbrev pub has_ended_splitn : SplitN → Bool
has_ended_splitn s = (pieces_allowed s == 0) || (progress (split_in s)).ended

-- the pieces that are left of so many
abbrev pub first_left : SplitN → List (List ℕ)
first_left s = first_pieces_left (pieces_allowed s) (progress (split_in s))

-- The last piece that the limit allows: the rest, for which nothing is searched. The matches that were left are left still, and so
-- is the search that finds none.
pub record GivesRest (piece : List ℕ) (s t : Split) : Type 0 where
  pub unended : (progress s).ended ≡ false
  pub whole : piece ≡ rest_of (progress s)
  pub stays : progress t ≡ record (progress s) { ended = true }
  pub unsearched : searches t ≡ searches s

-- The end: no piece was left, and nothing changes but the limit.
pub record EndsOfFirst (s t : SplitN) : Type 0 where
  pub none : first_left s ≡ []
  pub ended : has_ended_splitn t ≡ true
  pub stays : progress (split_in t) ≡ progress (split_in s)
  pub unsearched : searches (split_in t) ≡ searches (split_in s)

-- This piece, the first of those that were left: the next of all pieces, or the rest, where no more may come.
pub record GivesOfFirst (piece : List ℕ) (s t : SplitN) : Type 0 where
  pub unended : has_ended_splitn s ≡ false
  pub first : first_left s ≡ piece ∷ first_left t
  pub next : 1 < pieces_allowed s → GivesPiece piece (split_in s) (split_in t)
  pub rest : pieces_allowed s ≡ 1 → GivesRest piece (split_in s) (split_in t)

-- A refusal as of all pieces, while more than one may come. The rest from the last end on is left.
pub record RefusesOfFirst (error : Error) (s t : SplitN) : Type 0 where
  pub unended : has_ended_splitn s ≡ false
  pub more : 1 < pieces_allowed s
  pub refused : RefusesPiece error (split_in s) (split_in t)
  pub rest : first_left t ≡ rest_of (progress (split_in s)) ∷ []

-- One call of `next`, from s to t. Whatever it answers uses one of the limit.
pub record IsNextOfFirst (s : SplitN) (r : Option (Result (Bor (List ℕ)) Error)) (t : SplitN) : Type 0 where
  pub answers : ByAnswer r (EndsOfFirst s t) (λ x. GivesOfFirst x.now s t) (λ e. RefusesOfFirst e s t)
  pub counts : pieces_allowed t ≡ pieces_allowed s - 1
  pub same_regex : split_regex (split_in t) ≡ split_regex (split_in s)
