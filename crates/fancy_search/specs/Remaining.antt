-- What an iteration over the matches of a program has left.
use Rattle.std.specs.Prelude.{ℕ, zero, suc, ◌&&◌, not, length, ⊤, ◌≡◌, Bool, true, false, nat_eq, if◌then◌else◌, List, [], ◌∷◌, Option, Some, None, Result, MatchOption, MatchResult}
use Rattle.fancy_input.specs.declared.span.Span.{Span}
use Rattle.fancy_tree.specs.declared.error.Error.{Error}
use Rattle.fancy_input.specs.declared.input.Request.{Request}
use Rattle.fancy_input.specs.Places.{next_place}
use Rattle.fancy_meaning.specs.Search.{Query, search}
use Rattle.fancy_search.specs.declared.program.Program.{Program}
use Rattle.fancy_search.specs.Programs.{asked_of}
use Rattle.fancy_search.specs.SearchCounts.{RefusesQuery, AllowsQuery}
use Rattle.fancy_search.specs.MatchList.{Scan, MatchItem, stop_of, is_empty_item, answer, unless_empty_at, start_unless_empty_at, items_from, end_from, matches, last_start}

-- The iteration of a query: it is asked again from each start, with `\G` on or off, and off everywhere where the query has it off. `text` says that the haystack is text.
abbrev pub iteration : Bool → Query → Scan
iteration text q = record {
  find = λ s c. search (record q { request = record q.request { start = s }; continues = q.continues && c });
  advance = next_place text q.haystack;
  floor = q.request.range_start;
  last = q.request.range_end;
}

-- the iteration of a request
abbrev pub scan : Program → Bool → List ℕ → Request → Scan
scan program text haystack r = iteration text (asked_of program haystack r true)

-- the matches that a request has one after another
abbrev pub program_matches : Program → Bool → List ℕ → Request → List MatchItem
program_matches program text haystack r = matches (scan program text haystack r) r.start

-- where the search starts that finds none, at the end of these
abbrev pub program_last_start : Program → Bool → List ℕ → Request → ℕ
program_last_start program text haystack r = last_start (scan program text haystack r) r.start

-- where the search after a match starts: at its end, and after an empty one at the next place
abbrev pub next_start : Bool → List ℕ → Span → ℕ
next_start text haystack span = if nat_eq span.start span.end then next_place text haystack span.end else span.end

-- Where an iteration stands: where its next search starts, whether `\G` is on there, whether an empty match at that start is passed over, and whether the list has ended.
pub record Standing : Type 0 where
  pub start : ℕ
  pub continues : Bool
  pub skips_empty : Bool
  pub ended : Bool

-- before the first match, from a start
abbrev pub standing_at : ℕ → Standing
standing_at s = record { start = s; continues = true; skips_empty = false; ended = false }

-- After an item: after an empty one at the next place, with `\G` off where that was searched from its own end; after another at its end, where an empty match is passed over.
abbrev pub standing_after : Scan → MatchItem → Standing
standing_after k i = record {
  start = if is_empty_item i then k.advance (stop_of i) else stop_of i;
  continues = not (is_empty_item i && nat_eq i.from (stop_of i));
  skips_empty = not (is_empty_item i);
  ended = false;
}

-- the next item
abbrev pub upcoming : Scan → Standing → Option MatchItem
upcoming k st =
    if st.skips_empty
    then unless_empty_at k st.start (answer k st.start st.continues)
    else answer k st.start st.continues

-- where the search of the next item starts
abbrev pub search_start : Scan → Standing → ℕ
search_start k st = if st.skips_empty then start_unless_empty_at k st.start (answer k st.start st.continues) else st.start

-- the items that are left
abbrev pub items_left : Scan → Standing → List MatchItem
items_left k st = if st.ended then [] else items_from k (upcoming k st)

-- where the search starts that finds none, at the end of the items that are left; a list that has ended stays where it is
abbrev pub items_end : Scan → Standing → ℕ
items_end k st = if st.ended then st.start else end_from k (search_start k st) (upcoming k st)

-- the search from s, with `\G` on or off, may be refused by this error
abbrev pub refuses_at : Program → List ℕ → Request → ℕ → Bool → Error → Type 0
refuses_at program haystack r s c e = RefusesQuery program (asked_of program haystack (record r { start = s }) c) e

-- and keeps within its limit of returns
abbrev pub allows_at : Program → List ℕ → Request → ℕ → Bool → Type 0
allows_at program haystack r s c = AllowsQuery program (asked_of program haystack (record r { start = s }) c)

-- an empty match stands where the next search starts, and is passed over
pub record PassesOver (k : Scan) (st : Standing) (i : MatchItem) : Type 0 where
  pub skips : st.skips_empty ≡ true
  pub found : answer k st.start st.continues ≡ Some i
  pub empty : is_empty_item i ≡ true
  pub there : stop_of i ≡ st.start

-- The next search may be refused by this error: that from where the iteration stands, or that from the next place, where the empty match is passed over.
pub data RefusesNext (refuses : ℕ → Bool → Error → Type 0) (k : Scan) (st : Standing) (e : Error) : Type 0 where
  at_first : refuses st.start st.continues e → RefusesNext refuses k st e
  at_next : (i : MatchItem) → PassesOver k st i → refuses (k.advance st.start) false e → RefusesNext refuses k st e

-- The searches for the next item keep within their limits: that from where the iteration stands, and that from the next place, where the empty match is passed over.
pub record AllowsNext (allows : ℕ → Bool → Type 0) (k : Scan) (st : Standing) : Type 0 where
  pub first : allows st.start st.continues
  pub next : (i : MatchItem) → PassesOver k st i → allows (k.advance st.start) false

-- the same, unless the list has ended, which searches nothing any more
abbrev pub AllowsStep : (ℕ → Bool → Type 0) → Scan → Standing → Type 0
AllowsStep allows k st = st.ended ≡ false → AllowsNext allows k st

-- the next search of an iteration of a request may be refused by this error
abbrev pub refused_next : Program → Bool → List ℕ → Request → Standing → Error → Type 0
refused_next program text haystack r st e = RefusesNext (refuses_at program haystack r) (scan program text haystack r) st e

-- its next searches keep within their limits
abbrev pub allowed_next : Program → Bool → List ℕ → Request → Standing → Type 0
allowed_next program text haystack r st = AllowsStep (allows_at program haystack r) (scan program text haystack r) st

-- While one more may be taken of these items, the next one is searched for, the first from where the iteration stands: all these searches keep within their limits.
abbrev pub AllowsUpTo : (ℕ → Bool → Type 0) → Scan → Option ℕ → Standing → List MatchItem → Type 0
AllowsUpTo allows k (Some zero) st is = Unit {0}
AllowsUpTo allows k (Some (suc n)) st [] = AllowsStep allows k st
AllowsUpTo allows k (Some (suc n)) st (i ∷ is) = AllowsStep allows k st × AllowsUpTo allows k (Some n) (standing_after k i) is
AllowsUpTo allows k None st [] = AllowsStep allows k st
AllowsUpTo allows k None st (i ∷ is) = AllowsStep allows k st × AllowsUpTo allows k None (standing_after k i) is

-- One step of an iterator of results over the list `rest`: the first of them, or a refusal of its next search, after which it has ended.
abbrev pub GivesFirst : {S A B : Type 0} → (S → Error → Type 0) → (A → B) → (S → List B) → S → Option (Result A Error) → S → Type 0
GivesFirst refuses view rest s r t = MatchOption r ((rest s ≡ []) × (rest t ≡ [])) (λ item. MatchResult item (λ x. rest s ≡ view x ∷ rest t) (λ e. refuses s e × (rest t ≡ [])))

-- how many items can still come: those that are left and one refusal
abbrev pub turns_left : {A : Type 0} → Bool → List A → ℕ
turns_left true items = zero
turns_left false items = suc (length items)

-- after a refusal, and where nothing is left, the list has ended
abbrev pub EndsUnlessOk : {A E : Type 0} → Option (Result A E) → Bool → Type 0
EndsUnlessOk r ended = MatchOption r (ended ≡ true) (λ item. MatchResult item (λ x. ended ≡ false) (λ e. ended ≡ true))

-- P, where the item is a refusal
abbrev pub IfRefusal : {A E : Type 0} → Option (Result A E) → Type 0 → Type 0
IfRefusal r P = MatchOption r ⊤ (λ item. MatchResult item (λ x. ⊤) (λ e. P))

-- P of the value, where there is one
abbrev pub IfItem : {A E : Type 0} → Option (Result A E) → (A → Type 0) → Type 0
IfItem r P = MatchOption r ⊤ (λ item. MatchResult item P (λ e. ⊤))

-- P, where the step is no refusal
abbrev pub UnlessRefusal : {A E : Type 0} → Option (Result A E) → Type 0 → Type 0
UnlessRefusal r P = MatchOption r P (λ item. MatchResult item (λ x. P) (λ e. ⊤))
