-- Lemmas on the steps of a split.
use Rattle.std.proofs.Common.{arith, ℕ, zero, suc, ◌+◌, ◌-◌, ◌<◌, ◌≤◌, ◌^◌, ◌≡◌, ◌==◌, Bool, true, false, max, List, [], ◌∷◌, length, take, slice_range, Option, None, Some, Result, refl, ap}
use Rattle.std.proofs.lemmas.Bool.Decides.{nat_tests}
use Rattle.std.specs.Prelude.{Ok, Err}
use Rattle.std.specs.Borrow.{Bor}
use Rattle.fancy_input.specs.declared.span.Span.{Span}
use Rattle.fancy_tree.specs.declared.error.Error.{Error}
use Rattle.fancy_input.specs.declared.input.Request.{Request}
use Rattle.fancy_input.specs.Requests.{whole}
use Rattle.fancy_search.specs.declared.program.Program.{Program}
use Rattle.fancy_core.specs.declared.split.Split.{Split}
use Rattle.fancy_core.specs.declared.split.limited.SplitN.{SplitN}
use Rattle.fancy_search.specs.Remaining.{scan, program_matches, items_left, turns_left}
use Rattle.fancy_core.specs.Pieces.{Progress, pieces, pieces_left, first_pieces_left, past_piece}
use Rattle.fancy_core.specs.Splits.{progress, has_ended_splitn, IsNextPiece, IsNextOfFirst}
use Rattle.fancy_search.proofs.MatchListLemmas.{matches_count}
use Rattle.fancy_search.proofs.ScanLemmas.{scan_sound}

-- at most as many items come from a whole text as a number holds
pub few_turns : (program : Program) (t bs : List ℕ) (r : Request) (ended continues skips_empty : Bool) → length t < 2 ^ 63 → bs ≡ t → r ≡ whole t → ended ≡ false → continues ≡ true → skips_empty ≡ false →
    suc (turns_left ended (items_left (scan program true bs r) (record { start = r.start; continues = continues; skips_empty = skips_empty; ended = ended }))) < 2 ^ 64
few_turns program t bs r ended continues skips_empty short same_bytes whole_request not_ended goes_on skips_none =
    let few : 0 + length (program_matches program true t (whole t)) ≤ max 0 (suc (length t)) = matches_count _ 0 (scan_sound program true t (whole t) (omega arith)) in
    rw (same_bytes, whole_request, not_ended, goes_on, skips_none) (omega arith)

sub-one_more : (n : ℕ) → suc (suc n) - 1 ≡ suc n
sub-one_more n = omega arith

-- something is left before the end
some_left : (t : List ℕ) (last : ℕ) (xs : List Span) (ended : Bool) → ended ≡ false → pieces_left (record { text = t; last = last; spans = xs; ended = ended }) ≡ [] → ⊥
some_left t last [] ended e g = let h : slice_range t last (length t) ∷ [] ≡ [] = rw e at g in cc
some_left t last (x ∷ xs) ended e g = let h : slice_range t last x.start ∷ pieces t x.end xs ≡ [] = rw e at g in cc

-- the first piece is the first of the first l pieces too, where the limit allows more than one
first_gives : (l : ℕ) (t : List ℕ) (last : ℕ) (xs : List Span) (ended : Bool) (q : Progress) (b : List ℕ) → 1 < l → ended ≡ false → q ≡ past_piece (record { text = t; last = last; spans = xs; ended = ended }) →
    pieces_left (record { text = t; last = last; spans = xs; ended = ended }) ≡ b ∷ pieces_left q →
    first_pieces_left l (record { text = t; last = last; spans = xs; ended = ended }) ≡ b ∷ first_pieces_left (l - 1) q
first_gives zero t last xs ended q b more e m g = absurd (omega arith)
first_gives (suc zero) t last xs ended q b more e m g = absurd (omega arith)
first_gives (suc (suc n)) t last [] ended q b more e m g =
    let h : slice_range t last (length t) ∷ [] ≡ b ∷ [] = rw (m, e) at g in
    rw (m, e) h
first_gives (suc (suc n)) t last (x ∷ xs) ended q b more e m g =
    let h : slice_range t last x.start ∷ pieces t x.end xs ≡ b ∷ pieces t x.end xs = rw (m, e) at g in
    let first : slice_range t last x.start ≡ b = cc in
    rw (m, e, sub-one_more n) (ap (λ (z : List ℕ). z ∷ pieces t x.end (take n xs)) first)

-- more may come where the limit allows it and the pieces go on
unended : (s : SplitN) → 1 < s.limit → s.split.ended ≡ false → has_ended_splitn s ≡ false
unended s more e =
    let some : (s.limit == 0) ≡ false = grind (arith, nat_tests) in
    rw (some, e) refl

-- with no match left the rest is the one piece, also where the limit allows more
rest_left : (l : ℕ) (t : List ℕ) (last : ℕ) (ended : Bool) (q : Progress) → 1 < l → ended ≡ false → q ≡ record { text = t; last = last; spans = []; ended = ended } → first_pieces_left (l - 1) q ≡ slice_range t last (length t) ∷ []
rest_left zero t last ended q more e m = absurd (omega arith)
rest_left (suc zero) t last ended q more e m = absurd (omega arith)
rest_left (suc (suc zero)) t last ended q more e m = rw (m, e) refl
rest_left (suc (suc (suc n))) t last ended q more e m = rw (m, e, sub-one_more (suc n)) refl

-- a step of the pieces is a step of the first pieces, where the limit allows more than one
pub next_of_first : (s : SplitN) (r : Option (Result (Bor (List ℕ)) Error)) (t : Split) → 1 < s.limit → s.split.ended ≡ false → IsNextPiece s.split r t →
    IsNextOfFirst s r (record { split = t; limit = s.limit - 1 })
next_of_first s None t more e h = absurd (some_left _ _ _ _ e h.answers.none)
next_of_first s (Some (Ok x)) t more e h = record {
  answers = record {
    unended = unended s more e;
    first = first_gives s.limit _ _ _ _ (progress t) x.now more e h.answers.moves h.answers.first;
    next = λ _. h.answers;
    rest = λ one. absurd (omega (arith, more, one));
  };
  counts = refl;
  same_regex = h.same_regex;
}
next_of_first s (Some (Err z)) t more e h = record {
  answers = record {
    unended = unended s more e;
    more = more;
    refused = h.answers;
    rest = rest_left s.limit _ _ s.split.ended (progress t) more e h.answers.moves;
  };
  counts = refl;
  same_regex = h.same_regex;
}
