-- An attempt at one position, and a search unrolled by its first attempt.
use Rattle.std.proofs.Common.{◌≡◌, ℕ, suc, ◌+◌, ◌≤◌, Bool, true, false, Option, Some, None, refl, ap, sym, ◌∙◌, subst, arith}
use Rattle.std.specs.Prelude.{option_map}
use Rattle.std.specs.Option.{option_or}
use Rattle.fancy_input.specs.declared.input.Request.{Request}
use Rattle.fancy_input.specs.Requests.{effective_start, positions}
use Rattle.fancy_meaning.specs.Context.{State}
use Rattle.fancy_meaning.specs.Search.{Query, Answer, answer_at, answer_from, attempt, search}

unroll_suc : (q : Query) (m p : ℕ)
    → answer_from q (suc m) p ≡ option_or (option_map (λ s. record { position = p; state = s }) (answer_at q p)) (answer_from q m (p + 1))
unfolding answer_from
unroll_suc q m p = refl

module _ (q : Query) (n m p : ℕ) (e : n ≡ suc m) where
  unroll : answer_from q n p ≡ option_or (option_map (λ s. record { position = p; state = s }) (answer_at q p)) (answer_from q m (p + 1))
  unroll = subst (λ (k : ℕ). answer_from q k p ≡ option_or (option_map (λ s. record { position = p; state = s }) (answer_at q p)) (answer_from q m (p + 1))) (sym e) (unroll_suc q m p)

  pub search_hit : (s : State) → answer_at q p ≡ Some s → answer_from q n p ≡ Some (record { position = p; state = s })
  search_hit s h =
      unroll ∙ ap (λ (o : Option State). option_or (option_map (λ s. record { position = p; state = s }) o) (answer_from q m (p + 1))) h

  pub search_miss : answer_at q p ≡ None → answer_from q n p ≡ answer_from q m (p + 1)
  search_miss h =
      unroll ∙ ap (λ (o : Option State). option_or (option_map (λ s. record { position = p; state = s }) o) (answer_from q m (p + 1))) h

-- and of no position nothing is found
pub search_over : (q : Query) (n p : ℕ) → n ≡ 0 → answer_from q n p ≡ None
unfolding answer_from
search_over q n p e = ap (λ (k : ℕ). answer_from q k p) e

abbrev pub taken_at : ℕ → State → Answer
taken_at p s = record { position = p; state = s }

some_parts : (p : ℕ) (o : Option State) (a : Answer) → option_map (taken_at p) o ≡ Some a → (o ≡ Some a.state) × (a.position ≡ p)
some_parts p None a e = cc
some_parts p (Some s) a e = (ap (option_map (λ (b : Answer). b.state)) e, ap (λ (o : Option Answer). position_or o) (sym e)) where
  position_or : Option Answer → ℕ
  position_or None = p
  position_or (Some b) = b.position

-- what an attempt finds is the answer at its position
pub attempt_some : (q : Query) (p : ℕ) (a : Answer) → attempt q p ≡ Some a → (answer_at q p ≡ Some a.state) × (a.position ≡ p)
attempt_some q p a e = some_parts p (answer_at q p) a e

none_parts : (p : ℕ) (o : Option State) → option_map (taken_at p) o ≡ None → o ≡ None
none_parts p None e = refl
none_parts p (Some s) e = cc

pub attempt_none : (q : Query) (p : ℕ) → attempt q p ≡ None → answer_at q p ≡ None
attempt_none q p e = none_parts p (answer_at q p) e

first_of : (o r : Option Answer) (a : Answer) → o ≡ Some a → option_or o r ≡ Some a
first_of o r a e = ap (λ (x : Option Answer). option_or x r) e

rest_of : (o r : Option Answer) → o ≡ None → option_or o r ≡ r
rest_of o r e = ap (λ (x : Option Answer). option_or x r) e

unrolled_suc : (q : Query) (m p : ℕ) → answer_from q (suc m) p ≡ option_or (attempt q p) (answer_from q m (p + 1))
unfolding answer_from
unrolled_suc q m p = refl

-- the first attempt of a search over n positions
module _ (q : Query) (n m p : ℕ) (e : n ≡ suc m) where
  unrolled : answer_from q n p ≡ option_or (attempt q p) (answer_from q m (p + 1))
  unrolled = subst (λ (k : ℕ). answer_from q k p ≡ option_or (attempt q p) (answer_from q m (p + 1))) (sym e) (unrolled_suc q m p)

  pub found_here : (a : Answer) → attempt q p ≡ Some a → answer_from q n p ≡ Some a
  found_here a h = unrolled ∙ first_of (attempt q p) (answer_from q m (p + 1)) a h

  pub found_later : attempt q p ≡ None → answer_from q n p ≡ answer_from q m (p + 1)
  found_later h = unrolled ∙ rest_of (attempt q p) (answer_from q m (p + 1)) h

or_none : (o : Option Answer) → option_or o None ≡ o
or_none None = refl
or_none (Some a) = refl

-- a search of one position is the attempt there
pub one_position : (q : Query) (n p : ℕ) → n ≡ 1 → answer_from q n p ≡ attempt q p
one_position q n p e =
    unrolled q n 0 p e ∙ ap (option_or (attempt q p)) (search_over q 0 (p + 1) refl) ∙ or_none (attempt q p)

-- the request that is anchored at a position of this one
abbrev pub anchored_at : Request → ℕ → Request
anchored_at r p = record r { start = p; anchored = true }

-- what is asked of it, with `\G` on or off
abbrev pub anchored_query : Query → ℕ → Bool → Query
anchored_query q p on = record q { request = anchored_at q.request p; continues = on }

-- the search that is anchored at a position is the attempt there
pub anchored_search : (q : Query) (p : ℕ) (on : Bool) → effective_start q.request ≤ p → p ≤ q.request.range_end
    → search (anchored_query q p on) ≡ attempt (anchored_query q p on) p
anchored_search q p on from to =
    let start : effective_start (anchored_at q.request p) ≡ p = omega (arith, from) in
    let one : positions (anchored_at q.request p) ≡ 1 = omega (arith, from, to) in
    ap (answer_from (anchored_query q p on) (positions (anchored_at q.request p))) start ∙ one_position (anchored_query q p on) _ p one
