-- Lemmas on the parts of a text.
use Rattle.std.proofs.Common.{arith, ℕ, zero, suc, ◌<◌, ◌≤◌, ◌≡◌, min, true, Option, None, Some, MatchOption, List, [], ◌∷◌, ◌++◌, length, map, take, slice_range, refl, sym, ◌∙◌, ap, drop, append-nil}
use Rattle.std.proofs.lemmas.List.{take_all, length-take}
use Rattle.std.proofs.lemmas.List.Folds.{drop_split}
use Rattle.std.proofs.Math.Seq.{drop-length}
use Rattle.fancy_input.specs.declared.span.Span.{Span}
use Rattle.fancy_search.specs.MatchList.{Scan, MatchItem, start_of, stop_of, span_of_item, next_after, chain, items_from, answer, matches, Sound, Lies}
use Rattle.fancy_core.specs.Pieces.{pieces, first_pieces, interleaved, texts, AreBetween}
use Rattle.fancy_search.proofs.MatchListLemmas.{LiesFrom, FollowsIf, answer_lies, next_after_follows}

rest_of : (t : List ℕ) (at : ℕ) → at ≤ length t → slice_range t at (length t) ≡ drop at t
rest_of t at h = sym (drop_split t at (length t) h ∙ (ap (λ (z : List ℕ). slice_range t at (length t) ++ z) (drop-length t) ∙ append-nil _))

-- from a place on, the pieces with the texts of the spans between them are the rest of the text
rejoin_from : (t : List ℕ) (at : ℕ) (xs : List Span) → AreBetween at (length t) xs → interleaved (pieces t at xs) (texts t xs) ≡ drop at t
rejoin_from t at [] h = append-nil _ ∙ rest_of t at h
rejoin_from t at (x ∷ xs) h =
    let r : interleaved (pieces t x.end xs) (texts t xs) ≡ drop x.end t = rejoin_from t x.end xs h.2 in
    rw r (ap (λ (z : List ℕ). slice_range t at x.start ++ z) (sym (drop_split t x.start x.end h.1)) ∙ sym (drop_split t at x.start h.0))

pub rejoin : (t : List ℕ) (xs : List Span) → AreBetween 0 (length t) xs → interleaved (pieces t 0 xs) (texts t xs) ≡ t
rejoin t xs h = rejoin_from t 0 xs h

-- there is one piece more than there are spans
length-pieces : (t : List ℕ) (at : ℕ) (xs : List Span) → length (pieces t at xs) ≡ suc (length xs)
length-pieces t at [] = refl
length-pieces t at (x ∷ xs) = ap suc (length-pieces t x.end xs)

pub length-first_pieces : (n : ℕ) (t : List ℕ) (at : ℕ) (xs : List Span) → length (first_pieces n t at xs) ≡ min n (suc (length xs))
length-first_pieces zero t at xs = omega arith
length-first_pieces (suc n) t at xs = omega (arith, length-pieces t at (take n xs), length-take n xs)

-- a limit that allows all of the pieces cuts none off
pub first_pieces_all : (n : ℕ) (t : List ℕ) (at : ℕ) (xs : List Span) → length xs < n → first_pieces n t at xs ≡ pieces t at xs
first_pieces_all zero t at xs h = absurd (omega arith)
first_pieces_all (suc n) t at xs h = ap (pieces t at) (take_all n xs (omega arith))

-- before the last that a limit allows they are the pieces
pub first_pieces_before : (n : ℕ) (t : List ℕ) (at : ℕ) (xs : List Span) → take n (first_pieces (suc n) t at xs) ≡ take n (pieces t at xs)
first_pieces_before zero t at xs = refl
first_pieces_before (suc n) t at [] = refl
first_pieces_before (suc n) t at (x ∷ xs) = ap (λ (z : List (List ℕ)). slice_range t at x.start ∷ z) (first_pieces_before n t x.end xs)

-- spans between two places end by the last, and so do the first n of them
between_ordered : (at last : ℕ) (xs : List Span) → AreBetween at last xs → at ≤ last
between_ordered at last [] h = h
between_ordered at last (x ∷ xs) h = omega (arith, h.0, h.1, between_ordered x.end last xs h.2)

pub between_first : (n at last : ℕ) (xs : List Span) → AreBetween at last xs → AreBetween at last (take n xs)
between_first zero at last xs h = between_ordered at last xs h
between_first (suc n) at last [] h = h
between_first (suc n) at last (x ∷ xs) h = (h.0, h.1, between_first n x.end last xs h.2)

-- an item, if there is one, that lies in the range and starts at or after a place
abbrev StartsFrom : Scan → ℕ → Option MatchItem → Type 0
StartsFrom k at o = MatchOption o Unit (λ i. Lies k i × (at ≤ start_of i))

starts_after : (k : Scan) (i : MatchItem) (o : Option MatchItem) → FollowsIf k i o → StartsFrom k (stop_of i) o
starts_after k i None f = tt
starts_after k i (Some j) f = (f.lies, f.after)

starts_first : (k : Scan) (s : ℕ) (o : Option MatchItem) → LiesFrom k s o → StartsFrom k s o
starts_first k s None l = tt
starts_first k s (Some i) l = (l.0, omega (arith, l.1, l.0.after))

chain_between : (n : ℕ) (k : Scan) (at : ℕ) (o : Option MatchItem) → Sound k → at ≤ k.last → StartsFrom k at o → AreBetween at k.last (map span_of_item (chain n k o))
chain_between n k at None h a l = a
chain_between zero k at (Some i) h a l = a
chain_between (suc n) k at (Some i) h a l = (l.1, l.0.ordered, chain_between n k (stop_of i) (next_after k i) h l.0.inside (starts_after k i _ (next_after_follows k i h l.0)))

-- the spans of the matches from a place on lie one after another between it and the last
pub matches_between : (k : Scan) (s : ℕ) → Sound k → s ≤ k.last → AreBetween s k.last (map span_of_item (matches k s))
unfolding items_from
matches_between k s h a = chain_between (suc k.last) k s (answer k s true) h a (starts_first k s _ (answer_lies k s true h))

pub whole_of : (t : List ℕ) → slice_range t 0 (length t) ≡ t
whole_of t = rest_of t 0 (omega arith)
