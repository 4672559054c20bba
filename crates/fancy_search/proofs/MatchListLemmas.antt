-- Lemmas on the list of matches.
use Rattle.std.proofs.Common.{arith, ℕ, zero, suc, ◌+◌, ◌<◌, ◌≤◌, ◌≡◌, Bool, true, false, not, ◌&&◌, nat_eq, max, [], ◌∷◌, length, Option, None, Some, MatchOption, option_map, if◌then◌else◌, refl, ap}
use Rattle.std.proofs.lemmas.Grind.{common_steps}
use Rattle.fancy_meaning.specs.Search.{Answer}
use Rattle.fancy_search.specs.MatchList.{Scan, MatchItem, start_of, stop_of, is_empty_item, item_of, answer, unless_empty_at, next_after, search_start_after, chain, items_from, matches, chain_end, end_from, Sound, Lies, RiseAfter, InOrder}

-- an answer, if there is one, lies after its start
abbrev pub LiesFrom : Scan → ℕ → Option MatchItem → Type 0
LiesFrom k s o = MatchOption o Unit (λ i. Lies k i × (s ≤ i.from))

answer_at : (k : Scan) (s : ℕ) (c : Bool) → Sound k → (o : Option Answer) → k.find s c ≡ o → LiesFrom k s (option_map (item_of (max s k.floor) c) o)
answer_at k s c h None e = tt
answer_at k s c h (Some x) e = (h.found s c x e, grind (arith, common_steps))

pub answer_lies : (k : Scan) (s : ℕ) (c : Bool) → Sound k → LiesFrom k s (answer k s c)
unfolding answer
answer_lies k s c h = answer_at k s c h (k.find s c) refl

-- what stands after an item begins at or after its end, was searched from a later place and ends later
pub record Follows (k : Scan) (i j : MatchItem) : Type 0 where
  pub lies : Lies k j
  pub later : i.from < j.from
  pub after : (stop_of i) ≤ (start_of j)
  pub ends : (stop_of i) < (stop_of j)

abbrev pub FollowsIf : Scan → MatchItem → Option MatchItem → Type 0
FollowsIf k i o = MatchOption o Unit (λ j. Follows k i j)

from_later : (k : Scan) (i : MatchItem) (s : ℕ) (o : Option MatchItem) → Lies k i → (stop_of i) < s → LiesFrom k s o → FollowsIf k i o
from_later k i s None l p h = tt
from_later k i s (Some j) l p h = let g = h.0 in let a = l.after in let b = l.ordered in record { lies = h.0; later = omega (arith, h.1); after = omega (arith, h.1, g.after); ends = omega (arith, h.1, g.after, g.ordered) }

at_skip : (k : Scan) (i j : MatchItem) (b : Bool) → Sound k → Lies k i → is_empty_item i ≡ false → Lies k j → (stop_of i) ≤ j.from → (is_empty_item j && nat_eq (stop_of j) (stop_of i)) ≡ b → FollowsIf k i (if b then answer k (k.advance (stop_of i)) false else Some j)
at_skip k i j true h l n m p e = from_later k i (k.advance (stop_of i)) _ l (h.advances (stop_of i)) (answer_lies k (k.advance (stop_of i)) false h)
at_skip k i j false h l n m p e = record { lies = m; later = grind (arith, common_steps); after = grind (arith, common_steps); ends = grind (arith, common_steps) }

at_next : (k : Scan) (i : MatchItem) (o : Option MatchItem) → Sound k → Lies k i → is_empty_item i ≡ false → LiesFrom k (stop_of i) o → FollowsIf k i (unless_empty_at k (stop_of i) o)
at_next k i None h l n m = tt
at_next k i (Some j) h l n m = at_skip k i j _ h l n m.0 m.1 refl

at_after : (k : Scan) (i : MatchItem) (b : Bool) → Sound k → Lies k i → is_empty_item i ≡ b → FollowsIf k i (if b then answer k (k.advance (stop_of i)) (not (nat_eq i.from (stop_of i))) else unless_empty_at k (stop_of i) (answer k (stop_of i) true))
at_after k i true h l e = from_later k i (k.advance (stop_of i)) _ l (h.advances (stop_of i)) (answer_lies k (k.advance (stop_of i)) (not (nat_eq i.from (stop_of i))) h)
at_after k i false h l e = at_next k i _ h l e (answer_lies k (stop_of i) true h)

pub next_after_follows : (k : Scan) (i : MatchItem) → Sound k → Lies k i → FollowsIf k i (next_after k i)
unfolding next_after
next_after_follows k i h l = at_after k i (is_empty_item i) h l refl

-- an item, if there is one, that lies in the range, n places or fewer from its end
abbrev pub Within : ℕ → Scan → Option MatchItem → Type 0
Within n k o = MatchOption o Unit (λ i. Lies k i × (k.last < n + i.from))

pub within_after : (n : ℕ) (k : Scan) (i : MatchItem) (o : Option MatchItem) → k.last < suc n + i.from → FollowsIf k i o → Within n k o
within_after n k i None p f = tt
within_after n k i (Some j) p f = (f.lies, omega (arith, f.later))

-- any two numbers that suffice give one chain
pub chain_enough : (n m : ℕ) (k : Scan) (o : Option MatchItem) → Sound k → Within n k o → Within m k o → chain n k o ≡ chain m k o
chain_enough n m k None h p q = refl
chain_enough zero m k (Some i) h p q = absurd (omega (arith, p.0.after, p.0.ordered, p.0.inside, p.1))
chain_enough (suc n) zero k (Some i) h p q = absurd (omega (arith, q.0.after, q.0.ordered, q.0.inside, q.1))
chain_enough (suc n) (suc m) k (Some i) h p q =
    let f = next_after_follows k i h p.0 in
    ap (λ xs. i ∷ xs) (chain_enough n m k (next_after k i) h (within_after n k i _ p.1 f) (within_after m k i _ q.1 f))

more_within : (k : Scan) (o : Option MatchItem) → Within k.last k o → Within (suc k.last) k o
more_within k None w = tt
more_within k (Some i) w = (w.0, omega (arith, w.1))

-- the list is the item and the list that follows it
pub items_after : (k : Scan) (i : MatchItem) → Sound k → Lies k i → items_from k (Some i) ≡ i ∷ items_from k (next_after k i)
unfolding items_from
items_after k i h l =
    let w = within_after k.last k i _ (omega arith) (next_after_follows k i h l) in
    ap (λ xs. i ∷ xs) (chain_enough k.last (suc k.last) k (next_after k i) h w (more_within k (next_after k i) w))

pub items_none : (k : Scan) → items_from k None ≡ []
unfolding items_from
items_none k = refl

-- any two numbers that suffice give one end
chain_end_enough : (n m : ℕ) (k : Scan) (s : ℕ) (o : Option MatchItem) → Sound k → Within n k o → Within m k o → chain_end n k s o ≡ chain_end m k s o
chain_end_enough n m k s None h p q = refl
chain_end_enough zero m k s (Some i) h p q = absurd (omega (arith, p.0.after, p.0.ordered, p.0.inside, p.1))
chain_end_enough (suc n) zero k s (Some i) h p q = absurd (omega (arith, q.0.after, q.0.ordered, q.0.inside, q.1))
chain_end_enough (suc n) (suc m) k s (Some i) h p q =
    let f = next_after_follows k i h p.0 in
    chain_end_enough n m k (search_start_after k i) (next_after k i) h (within_after n k i _ p.1 f) (within_after m k i _ q.1 f)

-- the list ends where the list after its first item ends
pub end_after : (k : Scan) (s : ℕ) (i : MatchItem) → Sound k → Lies k i → end_from k s (Some i) ≡ end_from k (search_start_after k i) (next_after k i)
unfolding end_from
end_after k s i h l =
    let w = within_after k.last k i _ (omega arith) (next_after_follows k i h l) in
    chain_end_enough k.last (suc k.last) k (search_start_after k i) (next_after k i) h w (more_within k (next_after k i) w)

pub end_none : (k : Scan) (s : ℕ) → end_from k s None ≡ s
unfolding end_from
end_none k s = refl

-- Ends strictly increase, and each start is at or after the end before it
chain_order : (n : ℕ) (k : Scan) (i : MatchItem) (o : Option MatchItem) → Sound k → FollowsIf k i o → RiseAfter i (chain n k o)
chain_order n k i None h f = tt
chain_order zero k i (Some j) h f = tt
chain_order (suc n) k i (Some j) h f = (f.after, f.ends, chain_order n k j (next_after k j) h (next_after_follows k j h f.lies))

chain_in_order : (n : ℕ) (k : Scan) (o : Option MatchItem) → Sound k → MatchOption o Unit (λ i. Lies k i) → InOrder (chain n k o)
chain_in_order n k None h f = tt
chain_in_order zero k (Some i) h f = tt
chain_in_order (suc n) k (Some i) h l = chain_order n k i (next_after k i) h (next_after_follows k i h l)

first_lies : (k : Scan) (s : ℕ) (o : Option MatchItem) → LiesFrom k s o → MatchOption o Unit (λ i. Lies k i)
first_lies k s None l = tt
first_lies k s (Some i) l = l.0

pub matches_in_order : (k : Scan) (s : ℕ) → Sound k → InOrder (matches k s)
unfolding items_from
matches_in_order k s h = chain_in_order (suc k.last) k (answer k s true) h (first_lies k s _ (answer_lies k s true h))

count_after : (k : Scan) (i : MatchItem) (o : Option MatchItem) → FollowsIf k i o → LiesFrom k (suc i.from) o
count_after k i None f = tt
count_after k i (Some j) f = (f.lies, omega (arith, f.later))

le_max : (s x : ℕ) → s ≤ max s x
le_max s x = grind (arith, common_steps)

-- There are at most as many as there are places from the start to the last one
chain_count : (n : ℕ) (k : Scan) (s : ℕ) (o : Option MatchItem) → Sound k → LiesFrom k s o → s + length (chain n k o) ≤ max s (suc k.last)
chain_count n k s None h l = omega (arith, le_max s (suc k.last))
chain_count zero k s (Some i) h l = omega (arith, le_max s (suc k.last))
chain_count (suc n) k s (Some i) h l =
    let r : suc i.from + length (chain n k (next_after k i)) ≤ max (suc i.from) (suc k.last) = chain_count n k (suc i.from) (next_after k i) h (count_after k i _ (next_after_follows k i h l.0)) in
    let a : i.from ≤ (start_of i) = l.0.after in let b : (start_of i) ≤ (stop_of i) = l.0.ordered in let c : (stop_of i) ≤ k.last = l.0.inside in let d : s ≤ i.from = l.1 in
    omega arith

answer_from : (k : Scan) (s : ℕ) (c : Bool) → Sound k → (o : Option Answer) → k.find s c ≡ o → LiesFrom k (max s k.floor) (option_map (item_of (max s k.floor) c) o)
answer_from k s c h None e = tt
answer_from k s c h (Some x) e = (h.found s c x e, omega arith)

pub matches_count : (k : Scan) (s : ℕ) → Sound k → max s k.floor + length (matches k s) ≤ max (max s k.floor) (suc k.last)
unfolding items_from answer
matches_count k s h = chain_count (suc k.last) k (max s k.floor) (answer k s true) h (answer_from k s true h (k.find s true) refl)

-- there are at most n
chain_length : (n : ℕ) (k : Scan) (o : Option MatchItem) → length (chain n k o) ≤ n
chain_length n k None = omega arith
chain_length zero k (Some i) = omega arith
chain_length (suc n) k (Some i) = let rest : length (chain n k (next_after k i)) ≤ n = chain_length n k (next_after k i) in omega (arith, rest)

-- an item and those after it are at most as many as there are places up to the last
pub few_items : (k : Scan) (o : Option MatchItem) → length (items_from k o) ≤ suc k.last
unfolding items_from
few_items k o = chain_length (suc k.last) k o
