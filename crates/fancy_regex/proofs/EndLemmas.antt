-- Lemmas on the search at the end of a list of matches.
use Rattle.std.proofs.Common.{arith, ℕ, zero, suc, ◌≡◌, Bool, true, false, not, ◌&&◌, nat_eq, max, Option, None, Some, MatchOption, option_map, if◌then◌else◌, refl}
use Rattle.fancy_meaning.specs.Search.{Answer}
use Rattle.fancy_search.specs.MatchList.{Scan, MatchItem, stop_of, is_empty_item, item_of, answer, unless_empty_at, start_unless_empty_at, next_after, search_start_after, chain_end, end_from, last_start, Sound, FindsNone}
use Rattle.fancy_search.proofs.MatchListLemmas.{LiesFrom, answer_lies, next_after_follows, Within, within_after}

-- where that is none, the search from s finds none
abbrev NoneAt : Scan → ℕ → Option MatchItem → Type 0
NoneAt k s o = MatchOption o (FindsNone k s) (λ i. Unit)

found_at : (k : Scan) (s : ℕ) (c : Bool) (o : Option Answer) → k.find s c ≡ o → NoneAt k s (option_map (item_of (max s k.floor) c) o)
found_at k s c None e = record { continues = c; none = e }
found_at k s c (Some x) e = tt

answer_at : (k : Scan) (s : ℕ) (c : Bool) → NoneAt k s (answer k s c)
unfolding answer
answer_at k s c = found_at k s c (k.find s c) refl

passed_at : (k : Scan) (e : ℕ) (i : MatchItem) (b : Bool) → NoneAt k (if b then k.advance e else e) (if b then answer k (k.advance e) false else Some i)
passed_at k e i true = answer_at k (k.advance e) false
passed_at k e i false = tt

unless_at : (k : Scan) (e : ℕ) (o : Option MatchItem) → NoneAt k e o → NoneAt k (start_unless_empty_at k e o) (unless_empty_at k e o)
unless_at k e None h = h
unless_at k e (Some i) h = passed_at k e i (is_empty_item i && nat_eq (stop_of i) e)

after_if : (k : Scan) (e : ℕ) (c b : Bool) → NoneAt k (if b then k.advance e else start_unless_empty_at k e (answer k e true)) (if b then answer k (k.advance e) c else unless_empty_at k e (answer k e true))
after_if k e c true = answer_at k (k.advance e) c
after_if k e c false = unless_at k e (answer k e true) (answer_at k e true)

after_at : (k : Scan) (i : MatchItem) → NoneAt k (search_start_after k i) (next_after k i)
unfolding next_after search_start_after
after_at k i = after_if k (stop_of i) (not (nat_eq i.from (stop_of i))) (is_empty_item i)

chain_end_finds_none : (n : ℕ) (k : Scan) (s : ℕ) (o : Option MatchItem) → Sound k → Within n k o → NoneAt k s o → FindsNone k (chain_end n k s o)
chain_end_finds_none n k s None h w e = e
chain_end_finds_none zero k s (Some i) h w e = absurd (omega (arith, w.0.after, w.0.ordered, w.0.inside, w.1))
chain_end_finds_none (suc n) k s (Some i) h w e = chain_end_finds_none n k (search_start_after k i) (next_after k i) h (within_after n k i _ w.1 (next_after_follows k i h w.0)) (after_at k i)

first_within : (k : Scan) (s : ℕ) (o : Option MatchItem) → LiesFrom k s o → Within (suc k.last) k o
first_within k s None l = tt
first_within k s (Some i) l = (l.0, omega arith)

-- the search at the end of the list of matches finds none
pub last_start_finds_none : (k : Scan) (s : ℕ) → Sound k → FindsNone k (last_start k s)
unfolding end_from
last_start_finds_none k s h = chain_end_finds_none (suc k.last) k s (answer k s true) h (first_within k s _ (answer_lies k s true h)) (answer_at k s true)
