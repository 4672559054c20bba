-- Lemmas on one step of an iteration, over a haystack of any type.
use Rattle.std.proofs.Common.{ℕ, ◌≡◌, Bool, true, false, not, ◌&&◌, nat_eq, List, ◌∷◌, Option, Some, refl, sym, ◌∙◌, ap, subst}
use Rattle.std.proofs.lemmas.Option.{same_Some}
use Rattle.std.specs.Cmp.Derive.{both_true}
use Rattle.fancy_input.specs.declared.input.Request.{Request}
use Rattle.fancy_input.specs.Places.{next_place}
use Rattle.fancy_search.specs.declared.cache.Cache.{Cache}
use Rattle.fancy_input.specs.Spans.{from_to}
use Rattle.fancy_search.specs.declared.program.Program.{Program}
use Rattle.fancy_search.specs.declared.searcher.FoundItem.{FoundItem}
use Rattle.fancy_search.specs.MatchList.{Scan, MatchItem, start_of, stop_of, is_empty_item, answer, Sound}
use Rattle.fancy_tree.specs.declared.error.Error.{Error}
use Rattle.fancy_search.specs.Remaining.{Standing, standing_after, PassesOver, RefusesNext, AllowsNext, refuses_at, refused_next, allows_at, at_first, at_next, scan, upcoming, next_start, items_left, items_end}
use Rattle.fancy_search.specs.FoundItems.{item_in}
use Rattle.fancy_search.proofs.RemainingLemmas.{nat_same, upcoming_if, start_if, skips, moves, next_left, next_end}

scan_moved : (p : Program) (t : Bool) (bs : List ℕ) (r q : Request) (s : ℕ) → q ≡ record r { start = s } → scan p t bs q ≡ scan p t bs r
scan_moved p t bs r q s e = ap (scan p t bs) e

-- an empty match that is passed over
pub passes : {H : Type 0} (tx : H → Bool) (by : H → List ℕ) (p : Program) (h g : H) (r q : Request) (b c d : Bool) (i : MatchItem) (begin end : ℕ) → g ≡ h → answer (scan p (tx h) (by h) r) r.start c ≡ Some i → b ≡ true → begin ≡ start_of i → end ≡ stop_of i → begin ≡ end → end ≡ r.start → q ≡ record r { start = next_place (tx h) (by h) end } → d ≡ false → answer (scan p (tx g) (by g) q) q.start d ≡ upcoming_if b (scan p (tx h) (by h) r) r.start c
passes tx by p h g r q b c d i begin end eg ea eb es ef en ee eq ed =
    let k = scan p (tx h) (by h) r in
    let starts : start_of i ≡ r.start = sym es ∙ (en ∙ ee) in
    let stops : stop_of i ≡ r.start = sym ef ∙ ee in
    let skipped : upcoming_if true k r.start c ≡ answer k (k.advance r.start) false = skips k r.start c i ea (both_true {s = nat_eq (start_of i) (stop_of i)} {t = nat_eq (stop_of i) r.start} (rw (starts, stops) (nat_same r.start)) (rw stops (nat_same r.start))) in
    rw (eb, eg, eq, ed, skipped, ee) refl

-- an item that was found is passed over
passes_over : (k : Scan) (st : Standing) (i : MatchItem) (begin end : ℕ) → answer k st.start st.continues ≡ Some i → st.skips_empty ≡ true → begin ≡ start_of i → end ≡ stop_of i → begin ≡ end → end ≡ st.start → PassesOver k st i
passes_over k st i begin end found on es ef en ee =
    let starts : start_of i ≡ st.start = sym es ∙ (en ∙ ee) in
    let stops : stop_of i ≡ st.start = sym ef ∙ ee in
    record { skips = on; found = found; empty = rw (starts, stops) (nat_same st.start); there = stops }

-- and the search after it is refused
pub refuses_passed : {H : Type 0} (tx : H → Bool) (by : H → List ℕ) (p : Program) (h g : H) (r q : Request) (b c d ended : Bool) (i : MatchItem) (begin end : ℕ) → g ≡ h → answer (scan p (tx h) (by h) r) r.start c ≡ Some i → b ≡ true → begin ≡ start_of i → end ≡ stop_of i → begin ≡ end → end ≡ r.start → q ≡ record r { start = next_place (tx h) (by h) end } → d ≡ false
    → (e : Error) → refuses_at p (by g) q q.start d e → refused_next p (tx h) (by h) r (record { start = r.start; continues = c; skips_empty = b; ended = ended }) e
refuses_passed tx by p h g r q b c d ended i begin end eg ea eb es ef en ee eq ed e x =
    at_next i (passes_over (scan p (tx h) (by h) r) (record { start = r.start; continues = c; skips_empty = b; ended = ended }) i begin end ea eb es ef en ee) (rw (eg, eq, ed, ee) at x)

-- or keeps within its limit
pub allows_passed : {H : Type 0} (tx : H → Bool) (by : H → List ℕ) (p : Program) (h g : H) (r q : Request) (st : Standing) (d : Bool) (end : ℕ) → g ≡ h → end ≡ r.start → st.start ≡ r.start → q ≡ record r { start = next_place (tx h) (by h) end } → d ≡ false
    → allows_at p (by h) r st.start st.continues → allows_at p (by g) q q.start d → AllowsNext (allows_at p (by h) r) (scan p (tx h) (by h) r) st
allows_passed tx by p h g r q st d end eg ee et eq ed first next = record { first = first; next = λ j passes. rw et (rw (eg, eq, ed, ee) at next) }

-- and where the search after it starts
pub passes_start : {H : Type 0} (tx : H → Bool) (by : H → List ℕ) (p : Program) (h g : H) (r q : Request) (a b c d : Bool) (i : MatchItem) (begin end : ℕ) → g ≡ h → answer (scan p (tx h) (by h) r) r.start c ≡ Some i → b ≡ true → begin ≡ start_of i → end ≡ stop_of i → begin ≡ end → end ≡ r.start → q ≡ record r { start = next_place (tx h) (by h) end } → a ≡ false → start_if a (scan p (tx g) (by g) q) q.start d ≡ start_if b (scan p (tx h) (by h) r) r.start c
passes_start tx by p h g r q a b c d i begin end eg ea eb es ef en ee eq off =
    let k = scan p (tx h) (by h) r in
    let starts : start_of i ≡ r.start = sym es ∙ (en ∙ ee) in
    let stops : stop_of i ≡ r.start = sym ef ∙ ee in
    let moved : start_if true k r.start c ≡ k.advance r.start = moves k r.start c i ea (both_true {s = nat_eq (start_of i) (stop_of i)} {t = nat_eq (stop_of i) r.start} (rw (starts, stops) (nat_same r.start)) (rw stops (nat_same r.start))) in
    rw (eb, off, eq, moved, ee) refl

-- where none is passed over, a refusal of the next item is one of the next search
pub refuses_first : (refuses : ℕ → Bool → Error → Type 0) (k : Scan) (st : Standing) (e : Error) → st.skips_empty ≡ false → RefusesNext refuses k st e → refuses st.start st.continues e
refuses_first refuses k st e off (at_first x) = x
refuses_first refuses k st e off (at_next i over x) = let no : false ≡ true = sym off ∙ over.skips in absurd (cc)

-- where this item is found, and not passed over, none is
pub not_passed : (k : Scan) (st : Standing) (i j : MatchItem) → answer k st.start st.continues ≡ Some i → (st.skips_empty && (is_empty_item i && nat_eq (stop_of i) st.start)) ≡ false → PassesOver k st j → ⊥
not_passed k st i j e h over =
    let same : i ≡ j = same_Some i j (sym e ∙ over.found) in
    let on : (st.skips_empty && (is_empty_item j && nat_eq (stop_of j) st.start)) ≡ true = rw (over.skips, over.empty, over.there) (nat_same st.start) in
    let off : (st.skips_empty && (is_empty_item j && nat_eq (stop_of j) st.start)) ≡ false = subst (λ (x : MatchItem). (st.skips_empty && (is_empty_item x && nat_eq (stop_of x) st.start)) ≡ false) same h in
    let no : true ≡ false = sym on ∙ off in absurd (cc)

-- where an iteration stands, by its parts
abbrev pub the_standing : ℕ → Bool → Bool → Bool → Standing
the_standing s c b o = record { start = s; continues = c; skips_empty = b; ended = o }

same_standing : (a b : ℕ) (c d e f x y : Bool) → a ≡ b → c ≡ d → e ≡ f → x ≡ y → the_standing a c e x ≡ the_standing b d f y
same_standing a b c d e f x y p q r s = rw (p, q, r, s) refl

-- where an iteration stands once it has gone on after an item
pub stands_after : {H : Type 0} (tx : H → Bool) (by : H → List ℕ) (p : Program) (h h_between : H) (r r_after : Request) (o_after d a : Bool) (cache : Cache) (o : Option MatchItem) (l : FoundItem) → h_between ≡ h → o_after ≡ false → r_after.start ≡ next_start (tx h_between) (by h_between) (from_to l.found.start l.found.end) → d ≡ not (nat_eq l.found.start l.found.end && nat_eq l.from l.found.end) → a ≡ not (nat_eq l.found.start l.found.end)
    → the_standing r_after.start d a o_after ≡ standing_after (scan p (tx h) (by h) r) (item_in cache o l)
stands_after tx by p h h_between r r_after o_after d a cache o l same_between open_after es ed ea =
    let q : r_after.start ≡ next_start (tx h) (by h) (from_to l.found.start l.found.end) = subst (λ (x : _). r_after.start ≡ next_start (tx x) (by x) (from_to l.found.start l.found.end)) same_between es in
    same_standing _ _ _ _ _ _ _ _ q ed ea open_after

-- the searches of an iteration are the same from each start
pub scan_after : {H : Type 0} (tx : H → Bool) (by : H → List ℕ) (p : Program) (h h_after : H) (r r_after : Request) → h_after ≡ h → r_after ≡ record r { start = r_after.start } → scan p (tx h_after) (by h_after) r_after ≡ scan p (tx h) (by h) r
scan_after tx by p h h_after r r_after same moved = ap (λ (x : _). scan p (tx x) (by x) r_after) same ∙ scan_moved p (tx h) (by h) r r_after r_after.start moved

-- An item is given: it is the first of those that are left, and the list's end stays where it is.
pub record Gives (k k_after : Scan) (st st_after : Standing) (i : MatchItem) : Type 0 where
  pub items : items_left k st ≡ i ∷ items_left k_after st_after
  pub end : items_end k_after st_after ≡ items_end k st

pub gives : (k k_after : Scan) (st st_after : Standing) (i : MatchItem) → Sound k → st.ended ≡ false → Some i ≡ upcoming k st → k_after ≡ k → st_after ≡ standing_after k i → Gives k k_after st st_after i
gives k k_after st st_after i sound going found same stands = rw (same, stands) (record {
  items = next_left k st i sound going (sym found);
  end = next_end k st i sound going (sym found);
})
