-- Lemmas on where the search starts that refuses a replacement.
use Rattle.std.proofs.Common.{arith, ℕ, ◌≤◌, ◌≡◌, Bool, true, false, nat_eq, List, [], ◌∷◌, length, Option, None, Some, zero, suc, if◌then◌else◌, ap, subst}
use Rattle.std.specs.Cmp.Derive.{both_true}
use Rattle.fancy_tree.specs.declared.error.Error.{Error}
use Rattle.fancy_input.specs.declared.input.Request.{Request}
use Rattle.fancy_input.specs.Requests.{whole}
use Rattle.fancy_input.specs.Places.{next_place}
use Rattle.fancy_input.proofs.PlaceLemmas.{next_place_above}
use Rattle.fancy_core.specs.declared.regex.Regex.{Regex}
use Rattle.fancy_core.specs.Limited.{Refuses}
use Rattle.fancy_core.specs.ItemLimits.{up_to}
use Rattle.fancy_search.specs.Remaining.{Standing, PassesOver, refused_next, at_first, at_next, scan, upcoming, items_left}
use Rattle.fancy_search.specs.MatchList.{Scan, MatchItem, stop_of, is_empty_item, answer, unless_empty_at, items_from, Sound}
use Rattle.fancy_core.specs.Regexes.{program_in, query_in_turn}
use Rattle.fancy_core.specs.Replacing.{StartFrom, IsRefusedFrom}
use Rattle.fancy_search.proofs.RemainingLemmas.{nat_same, upcoming_if, skips}
use Rattle.fancy_search.proofs.MatchListLemmas.{LiesFrom, answer_lies}
use Rattle.fancy_search.proofs.ScanLemmas.{scan_sound}

start_up_to : (left : Option ℕ) (s : ℕ) (xs : List MatchItem) → StartFrom s xs → StartFrom s (up_to left xs)
start_up_to None s xs h = h
start_up_to (Some zero) s [] h = tt
start_up_to (Some zero) s (x ∷ xs) h = tt
start_up_to (Some (suc n)) s [] h = tt
start_up_to (Some (suc n)) s (x ∷ xs) h = h

items_start : (k : Scan) (s : ℕ) (o : Option MatchItem) → LiesFrom k s o → StartFrom s (items_from k o)
unfolding items_from
items_start k s None l = tt
items_start k s (Some i) l = let a = l.0.after in let b = l.1 in omega (arith, a, b)

lies_earlier : (k : Scan) (s t : ℕ) (o : Option MatchItem) → s ≤ t → LiesFrom k t o → LiesFrom k s o
lies_earlier k s t None h l = tt
lies_earlier k s t (Some i) h l = let b = l.1 in (l.0, omega (arith, h, b))

lies_unless_at : (k : Scan) (s : ℕ) (i : MatchItem) (b : Bool) → Sound k → LiesFrom k s (Some i) → LiesFrom k s (if b then answer k (k.advance s) false else Some i)
lies_unless_at k s i true h l = let a = h.advances s in lies_earlier k s (k.advance s) _ (omega (arith, a)) (answer_lies k (k.advance s) false h)
lies_unless_at k s i false h l = l

lies_unless : (k : Scan) (s : ℕ) (o : Option MatchItem) → Sound k → LiesFrom k s o → LiesFrom k s (unless_empty_at k s o)
lies_unless k s None h l = tt
lies_unless k s (Some i) h l = lies_unless_at k s i _ h l

upcoming_lies : (k : Scan) (s : ℕ) (c b : Bool) → Sound k → LiesFrom k s (upcoming_if b k s c)
upcoming_lies k s c true h = lies_unless k s _ h (answer_lies k s c h)
upcoming_lies k s c false h = answer_lies k s c h

-- what is left of an iteration starts where that stands, or later
left_start : (k : Scan) (st : Standing) → st.ended ≡ false → Sound k → StartFrom st.start (items_left k st)
left_start k st going h = rw going (items_start k st.start (upcoming k st) (upcoming_lies k st.start st.continues st.skips_empty h))

-- and at the next place or later, where an empty match is passed over
passed_start : (k : Scan) (st : Standing) (i : MatchItem) → st.ended ≡ false → Sound k → PassesOver k st i → StartFrom (k.advance st.start) (items_left k st)
passed_start k st i going h p =
    let u : upcoming_if true k st.start st.continues ≡ answer k (k.advance st.start) false = skips k st.start st.continues i p.found (both_true {s = is_empty_item i} {t = nat_eq (stop_of i) st.start} p.empty (rw p.there (nat_same st.start))) in
    rw (going, p.skips, u) (items_start k (k.advance st.start) _ (answer_lies k (k.advance st.start) false h))

-- the next search of an iteration over a text is the search for what it has left
pub search_refused : (regex : Regex) (t : List ℕ) (r : Request) (st : Standing) (from : ℕ) (left : Option ℕ) (e : Error) → r ≡ record (whole t) { start = r.start } → st.start ≡ r.start → st.ended ≡ false → from ≤ r.start →
    refused_next (program_in regex) true t r st e → IsRefusedFrom regex t from (up_to left (items_left (scan (program_in regex) true t r) st)) e
search_refused regex t r st from left e of_text here going later (at_first x) =
    let range : r.range_end ≡ length t = ap (λ (q : Request). q.range_end) of_text in
    let k = scan (program_in regex) true t r in
    record {
      start = st.start;
      on = st.continues;
      after = omega (arith, later, here);
      before = start_up_to left st.start _ (left_start k st going (scan_sound (program_in regex) true t r (omega (arith, range))));
      refused = subst (λ (q : Request). Refuses regex (query_in_turn regex t (record q { start = st.start }) st.continues) e) of_text x;
    }
search_refused regex t r st from left e of_text here going later (at_next i passes x) =
    let range : r.range_end ≡ length t = ap (λ (q : Request). q.range_end) of_text in
    let k = scan (program_in regex) true t r in
    let s = next_place true t st.start in
    let above = next_place_above true t st.start in
    record {
      start = s;
      on = false;
      after = omega (arith, later, here, above);
      before = start_up_to left s _ (passed_start k st i going (scan_sound (program_in regex) true t r (omega (arith, range))) passes);
      refused = subst (λ (q : Request). Refuses regex (query_in_turn regex t (record q { start = s }) false) e) of_text x;
    }
