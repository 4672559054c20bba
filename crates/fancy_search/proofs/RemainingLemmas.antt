-- Lemmas on what an iteration has left.
use Rattle.std.proofs.Common.{arith, ℕ, ◌≡◌, Bool, true, false, ◌&&◌, nat_eq, [], ◌∷◌, Option, None, Some, MatchOption, if◌then◌else◌, refl, sym, subst}
use Rattle.std.proofs.lemmas.Grind.{common_steps}
use Rattle.fancy_search.specs.MatchList.{Scan, MatchItem, stop_of, is_empty_item, answer, unless_empty_at, start_unless_empty_at, next_after, search_start_after, items_from, end_from, Sound, Lies}
use Rattle.fancy_search.specs.Remaining.{Standing, standing_after, upcoming, search_start, items_left, items_end}
use Rattle.fancy_search.proofs.MatchListLemmas.{LiesFrom, answer_lies, items_after, items_none, end_after, end_none}

pub nat_same : (n : ℕ) → nat_eq n n ≡ true
nat_same n = grind (arith, common_steps)

-- the next item and where its search starts, by what makes up where an iteration stands
abbrev pub upcoming_if : Bool → Scan → ℕ → Bool → Option MatchItem
upcoming_if b k s c = if b then unless_empty_at k s (answer k s c) else answer k s c

abbrev pub start_if : Bool → Scan → ℕ → Bool → ℕ
start_if b k s c = if b then start_unless_empty_at k s (answer k s c) else s

-- after an item the next one is what stands after it
standing_next : (k : Scan) (i : MatchItem) (empty : Bool) → is_empty_item i ≡ empty → upcoming k (standing_after k i) ≡ next_after k i
unfolding next_after
standing_next k i true h = rw h refl
standing_next k i false h = rw h refl

standing_start : (k : Scan) (i : MatchItem) (empty : Bool) → is_empty_item i ≡ empty → search_start k (standing_after k i) ≡ search_start_after k i
unfolding search_start_after
standing_start k i true h = rw h refl
standing_start k i false h = rw h refl

-- a skipped answer gives way to the next
pub skips : (k : Scan) (s : ℕ) (c : Bool) (i : MatchItem) → answer k s c ≡ Some i → (is_empty_item i && nat_eq (stop_of i) s) ≡ true → upcoming_if true k s c ≡ answer k (k.advance s) false
skips k s c i e h = rw (e, h) refl

pub moves : (k : Scan) (s : ℕ) (c : Bool) (i : MatchItem) → answer k s c ≡ Some i → (is_empty_item i && nat_eq (stop_of i) s) ≡ true → start_if true k s c ≡ k.advance s
moves k s c i e h = rw (e, h) refl

-- where none is passed over, the next item is the next answer
pub unskipped : (k : Scan) (s : ℕ) (c b : Bool) → b ≡ false → upcoming_if b k s c ≡ answer k s c
unskipped k s c b e = rw e refl

pub keeps : (k : Scan) (s : ℕ) (c b : Bool) (i : MatchItem) → answer k s c ≡ Some i → (b && (is_empty_item i && nat_eq (stop_of i) s)) ≡ false → upcoming_if b k s c ≡ Some i
keeps k s c true i e h = rw (e, h) refl
keeps k s c false i e h = e

pub keeps_none : (k : Scan) (s : ℕ) (c b : Bool) → answer k s c ≡ None → upcoming_if b k s c ≡ None
keeps_none k s c true e = rw e refl
keeps_none k s c false e = e

-- where nothing is passed over, the search stays where it is
pub stays : (k : Scan) (s : ℕ) (c b : Bool) (i : MatchItem) → answer k s c ≡ Some i → (b && (is_empty_item i && nat_eq (stop_of i) s)) ≡ false → start_if b k s c ≡ s
stays k s c true i e h = rw (e, h) refl
stays k s c false i e h = refl

pub stays_none : (k : Scan) (s : ℕ) (c b : Bool) → answer k s c ≡ None → start_if b k s c ≡ s
stays_none k s c true e = rw e refl
stays_none k s c false e = refl

-- what the search of the next item answers, and where it starts
pub ruleset next_searched = (skips, keeps, keeps_none, stays, stays_none)

abbrev LiesIf : Scan → Option MatchItem → Type 0
LiesIf k o = MatchOption o Unit (λ i. Lies k i)

lies_from : (k : Scan) (s : ℕ) (o : Option MatchItem) → LiesFrom k s o → LiesIf k o
lies_from k s None l = tt
lies_from k s (Some i) l = l.0

lies_unless_at : (k : Scan) (e : ℕ) (i : MatchItem) (b : Bool) → Sound k → Lies k i → LiesIf k (if b then answer k (k.advance e) false else Some i)
lies_unless_at k e i true h l = lies_from k _ _ (answer_lies k (k.advance e) false h)
lies_unless_at k e i false h l = l

lies_unless : (k : Scan) (e : ℕ) (o : Option MatchItem) → Sound k → LiesIf k o → LiesIf k (unless_empty_at k e o)
lies_unless k e None h l = tt
lies_unless k e (Some i) h l = lies_unless_at k e i _ h l

upcoming_lies : (k : Scan) (s : ℕ) (c b : Bool) → Sound k → LiesIf k (upcoming_if b k s c)
upcoming_lies k s c true h = lies_unless k s _ h (lies_from k s _ (answer_lies k s c h))
upcoming_lies k s c false h = lies_from k s _ (answer_lies k s c h)

lies_some : (k : Scan) (o : Option MatchItem) (i : MatchItem) → o ≡ Some i → LiesIf k o → Lies k i
lies_some k None i e l = cc
lies_some k (Some j) i e l = let q : j ≡ i = cc in subst (λ (z : MatchItem). Lies k z) q l

-- the list before an item is the item and the list after it
pub next_left : (k : Scan) (st : Standing) (i : MatchItem) → Sound k → st.ended ≡ false → upcoming k st ≡ Some i → items_left k st ≡ i ∷ items_left k (standing_after k i)
next_left k st i h going e =
    let l = lies_some k _ i e (upcoming_lies k st.start st.continues st.skips_empty h) in
    rw (going, e, standing_next k i (is_empty_item i) refl) (items_after k i h l)

-- and both end in one place
pub next_end : (k : Scan) (st : Standing) (i : MatchItem) → Sound k → st.ended ≡ false → upcoming k st ≡ Some i → items_end k (standing_after k i) ≡ items_end k st
next_end k st i h going e =
    let l = lies_some k _ i e (upcoming_lies k st.start st.continues st.skips_empty h) in
    rw (going, e, standing_next k i (is_empty_item i) refl, standing_start k i (is_empty_item i) refl) (sym (end_after k (search_start k st) i h l))

pub none_left : (k : Scan) (s : ℕ) (c b : Bool) → upcoming_if b k s c ≡ None → items_from k (upcoming_if b k s c) ≡ []
none_left k s c b e = rw e (items_none k)

pub none_end : (k : Scan) (s : ℕ) (c b : Bool) → upcoming_if b k s c ≡ None → end_from k (start_if b k s c) (upcoming_if b k s c) ≡ start_if b k s c
none_end k s c b e = rw e (end_none k _)
