-- The tokens that a set cuts a text into.
use Rattle.std.proofs.Common.{◌≡◌, ◌⊎◌, ℕ, zero, suc, ◌+◌, ◌-◌, ◌<◌, ◌≤◌, ◌==◌, ◌&&◌, Bool, true, false, List, [], ◌∷◌, ◌++◌, Option, Some, None, nat_lt, slice_get, slice_range, drop, length, inl, inr, refl, sym, ap, subst, ◌∙◌, append_assoc, arith, if◌then◌else◌}
use Rattle.std.specs.Option.{option_and_then}
use Rattle.std.proofs.lemmas.Bool.Decides.{leb_tells, nat_tests}
use Rattle.std.proofs.lemmas.List.{append_cancel_right}
use Rattle.std.proofs.lemmas.List.Folds.{drop_split}
use Rattle.std.proofs.lemmas.Option.{slice_get_past}
use Rattle.fancy_meaning.specs.Search.{Answer, answer_at}
use Rattle.fancy_core.specs.declared.regex.Regex.{Regex}
use Rattle.fancy_regex.specs.SetMembers.{SetQuery, asked, has_answer_at}
use Rattle.fancy_regex.specs.Tokens.{TokenItem, placed_at, found_by_member, token_if_starts, candidate_at, candidates_at, longest_token, token_at, token_chain, tokens_from, end_of_tokens, IsTokenAt, AreTokensFrom, texts_of_tokens, CutsIntoTokens}
use Rattle.fancy_regex.proofs.TokenPickLemmas.{IsPicked, IsPickedIfAny, picked_is, picked_some, picked_none}

-- what is offered starts at the place, ends after it, and is what was found
pub record IsOffered (p k : ℕ) (a : Answer) (t : TokenItem) : Type 0 where
  pub pattern : t.pattern ≡ k
  pub start : t.start ≡ p
  pub end : t.end ≡ a.state.place
  pub kept : a.state.kept ≡ p
  pub filled : p < a.state.place

offered_if : (p k : ℕ) (a : Answer) (t : TokenItem) (b : Bool) → ((a.state.kept == p) && nat_lt p a.state.place) ≡ b
    → (if b then Some (record { pattern = k; start = p; end = a.state.place }) else None) ≡ Some t → IsOffered p k a t
offered_if p k a t false e is = absurd (cc)
offered_if p k a t true e is =
    let same : record { pattern = k; start = p; end = a.state.place } ≡ t = cc in
    subst (IsOffered p k a) same (record {
      pattern = refl;
      start = refl;
      end = refl;
      kept = grind (arith, nat_tests);
      filled = grind (arith, nat_tests);
    })

pub offered_is : (p k : ℕ) (a : Answer) (t : TokenItem) → token_if_starts p k a ≡ Some t → IsOffered p k a t
offered_is p k a t is = offered_if p k a t _ refl is

pub offered_where : (p k : ℕ) (a : Answer) → a.state.kept ≡ p → p < a.state.place → token_if_starts p k a ≡ Some (record { pattern = k; start = p; end = a.state.place })
offered_where p k a kept filled =
    let starts : (a.state.kept == p) ≡ true = grind (arith, nat_tests) in
    let ends : nat_lt p a.state.place ≡ true = grind (arith, nat_tests) in
    rw (starts, ends) refl

module _ (q : SetQuery) (p : ℕ) where
  -- what a member offers it found
  pub candidate_is : (k : ℕ) (t : TokenItem) → candidate_at q p k ≡ Some t → (a : Answer) × (found_by_member q p k ≡ Some a) × IsOffered p k a t
  candidate_is k t is = by (found_by_member q p k) refl where
    by : (o : Option Answer) → found_by_member q p k ≡ o → (a : Answer) × (found_by_member q p k ≡ Some a) × IsOffered p k a t
    by None e = let no : None ≡ Some t = ap (option_and_then (token_if_starts p k)) (sym e) ∙ is in absurd (cc)
    by (Some a) e = (a, e, offered_is p k a t (ap (option_and_then (token_if_starts p k)) (sym e) ∙ is))

  pub not_found : (k : ℕ) → found_by_member q p k ≡ None → candidate_at q p k ≡ None
  not_found k e = ap (option_and_then (token_if_starts p k)) e

  pub found_offers : (k : ℕ) (a : Answer) → found_by_member q p k ≡ Some a → candidate_at q p k ≡ token_if_starts p k a
  found_offers k a e = ap (option_and_then (token_if_starts p k)) e

  -- a member without an accepted outcome there finds nothing
  pub fails_there : (k : ℕ) → has_answer_at (placed_at q p) p k ≡ false → found_by_member q p k ≡ None
  fails_there k none = by (slice_get q.members k) refl where
    here : (r : Regex) → slice_get q.members k ≡ Some r → (o : _) → answer_at (asked (placed_at q p) r) p ≡ o → found_by_member q p k ≡ None
    here r e None is = rw (e, is) refl
    here r e (Some s) is = let some : has_answer_at (placed_at q p) p k ≡ true = rw (e, is) refl in absurd (let no : true ≡ false = sym some ∙ none in cc)

    by : (o : Option Regex) → slice_get q.members k ≡ o → found_by_member q p k ≡ None
    by None e = rw e refl
    by (Some r) e = here r e (answer_at (asked (placed_at q p) r) p) refl

  past_members : (k : ℕ) → length q.members ≤ k → candidate_at q p k ≡ None
  past_members k past = not_found k (let none : slice_get q.members k ≡ None = slice_get_past q.members k past in rw none refl)

  -- the test of the place
  before_end : token_at q p ≡ None ⊎ (p < q.request.range_end)
  unfolding token_at
  before_end =
      elim (leb_tells (suc p) q.request.range_end) [
        | inl inside ↦ inr inside.1
        | inr past ↦ (let test : nat_lt p q.request.range_end ≡ false = past.0 in inl (rw test refl))
      ]

  pub token_is_inside : (t : TokenItem) → token_at q p ≡ Some t → p < q.request.range_end
  token_is_inside t is =
      elim before_end [
        | inl none ↦ absurd (let no : Some t ≡ None = sym is ∙ none in cc)
        | inr inside ↦ inside
      ]

  inside_token : p < q.request.range_end → token_at q p ≡ longest_token (candidates_at q p)
  unfolding token_at
  inside_token inside = let test : nat_lt p q.request.range_end ≡ true = grind (arith, nat_tests) in rw test refl

  pub token_given : (t : TokenItem) → p < q.request.range_end → IsPicked (candidate_at q p) 0 (length q.members - 0) t → token_at q p ≡ Some t
  token_given t inside one = inside_token inside ∙ picked_some (candidate_at q p) 0 (length q.members - 0) t one

  pub no_token : ((k : ℕ) → k < length q.members → candidate_at q p k ≡ None) → token_at q p ≡ None
  no_token none =
      elim before_end [
        | inl e ↦ e
        | inr inside ↦ inside_token inside ∙ picked_none (candidate_at q p) 0 (length q.members - 0) (λ j from below. none j (omega (arith, below)))
      ]

  token_picked : (t : TokenItem) → token_at q p ≡ Some t → IsPicked (candidate_at q p) 0 (length q.members - 0) t
  token_picked t is =
      let same : longest_token (candidates_at q p) ≡ Some t = sym (inside_token (token_is_inside t is)) ∙ is in
      subst (IsPickedIfAny (candidate_at q p) 0 (length q.members - 0)) same (picked_is (candidate_at q p) 0 (length q.members - 0))

  pub is_token_at : (t : TokenItem) → token_at q p ≡ Some t → IsTokenAt q p t
  is_token_at t is =
      let one = token_picked t is in
      let c = candidate_is one.index t one.offered in
      let at : t.pattern ≡ one.index = c.2.pattern in
      record {
        offered = subst (λ k. candidate_at q p k ≡ Some t) (sym at) one.offered;
        longest = λ k u offers.
            elim (leb_tells (length q.members) k) [
              | inl past ↦ absurd (let no : Some u ≡ None = sym offers ∙ past_members k past.1 in cc)
              | inr inside ↦ (let lt = inside.1 in one.longest k u (omega arith) (omega (arith, lt)) offers)
            ];
        first = λ k u offers lt. one.first k u (omega arith) (omega (arith, lt, at)) offers;
      }

  pub token_moves : (t : TokenItem) → token_at q p ≡ Some t → (t.start ≡ p) × (p < t.end)
  token_moves t is =
      let one = token_picked t is in
      let c = candidate_is one.index t one.offered in
      let ends = c.2.end in
      let filled = c.2.filled in
      (c.2.start, omega (arith, ends, filled))

-- where the list goes on
module _ (q : SetQuery) where
  chain_on : (n m p : ℕ) (o : Option TokenItem) → token_at q p ≡ o → q.request.range_end ≤ n + p → q.request.range_end ≤ m + p → token_chain n q o ≡ token_chain m q o
  chain_on zero zero p o e long longer = refl
  chain_on zero (suc m) p None e long longer = refl
  chain_on zero (suc m) p (Some t) e long longer = let inside = token_is_inside q p t e in absurd (omega (arith, inside, long))
  chain_on (suc n) zero p None e long longer = refl
  chain_on (suc n) zero p (Some t) e long longer = let inside = token_is_inside q p t e in absurd (omega (arith, inside, longer))
  chain_on (suc n) (suc m) p None e long longer = refl
  chain_on (suc n) (suc m) p (Some t) e long longer =
      let moves = (token_moves q p t e).1 in
      ap (λ ts. t ∷ ts) (chain_on n m t.end (token_at q t.end) refl (omega (arith, moves, long)) (omega (arith, moves, longer)))

  chain_none : (n : ℕ) → token_chain n q None ≡ []
  chain_none zero = refl
  chain_none (suc n) = refl

  pub nothing_left : (p : ℕ) → token_at q p ≡ None → tokens_from q p ≡ []
  unfolding tokens_from
  nothing_left p e = ap (token_chain q.request.range_end q) e ∙ chain_none q.request.range_end

  pub first_and_rest : (p : ℕ) (t : TokenItem) → token_at q p ≡ Some t → tokens_from q p ≡ t ∷ tokens_from q t.end
  unfolding tokens_from
  first_and_rest p t is = ap (token_chain q.request.range_end q) is ∙ go q.request.range_end refl where
    go : (n : ℕ) → q.request.range_end ≡ n → token_chain n q (Some t) ≡ t ∷ token_chain q.request.range_end q (token_at q t.end)
    go zero e = let inside = token_is_inside q p t is in absurd (omega (arith, inside, e))
    go (suc n) e =
        let moves = (token_moves q p t is).1 in
        ap (λ ts. t ∷ ts) (chain_on n q.request.range_end t.end (token_at q t.end) refl (omega (arith, moves, e)) (omega arith))

slice_join : (h : List ℕ) (a b c : ℕ) → a ≤ b → b ≤ c → slice_range h a b ++ slice_range h b c ≡ slice_range h a c
slice_join h a b c ab bc =
    append_cancel_right (slice_range h a b ++ slice_range h b c) (slice_range h a c) (drop c h)
    (append_assoc (slice_range h a b) (slice_range h b c) (drop c h)
    ∙ ap (λ (x : List ℕ). slice_range h a b ++ x) (sym (drop_split h b c bc))
    ∙ sym (drop_split h a b ab)
    ∙ drop_split h a c (omega (arith, ab, bc)))

no_slice : (h : List ℕ) (p : ℕ) → [] ≡ slice_range h p p
no_slice h p = let none : p - p ≡ 0 = omega arith in rw none refl

-- the list cuts the text
module _ (q : SetQuery) where
  chain_each : (n p : ℕ) (o : Option TokenItem) → token_at q p ≡ o → AreTokensFrom q p (token_chain n q o)
  chain_each zero p None e = tt
  chain_each zero p (Some t) e = tt
  chain_each (suc n) p None e = tt
  chain_each (suc n) p (Some t) e =
      let moves = token_moves q p t e in
      (moves.0, moves.1, is_token_at q p t e, chain_each n t.end (token_at q t.end) refl)

  chain_goes_on : (n p : ℕ) (o : Option TokenItem) → token_at q p ≡ o → p ≤ end_of_tokens p (token_chain n q o)
  chain_goes_on zero p None e = omega arith
  chain_goes_on zero p (Some t) e = omega arith
  chain_goes_on (suc n) p None e = omega arith
  chain_goes_on (suc n) p (Some t) e = let moves = (token_moves q p t e).1 in let rest = chain_goes_on n t.end (token_at q t.end) refl in omega (arith, moves, rest)

  chain_joined : (n p : ℕ) (o : Option TokenItem) → token_at q p ≡ o → texts_of_tokens q.haystack (token_chain n q o) ≡ slice_range q.haystack p (end_of_tokens p (token_chain n q o))
  chain_joined zero p None e = no_slice q.haystack p
  chain_joined zero p (Some t) e = no_slice q.haystack p
  chain_joined (suc n) p None e = no_slice q.haystack p
  chain_joined (suc n) p (Some t) e =
      let moves = token_moves q p t e in
      let lt = moves.1 in
      let rest = chain_joined n t.end (token_at q t.end) refl in
      ap (λ (x : ℕ). slice_range q.haystack x t.end ++ texts_of_tokens q.haystack (token_chain n q (token_at q t.end))) moves.0
      ∙ ap (λ (x : List ℕ). slice_range q.haystack p t.end ++ x) rest
      ∙ slice_join q.haystack p t.end _ (omega (arith, lt)) (chain_goes_on n t.end (token_at q t.end) refl)

  chain_ends : (n p : ℕ) (o : Option TokenItem) → token_at q p ≡ o → q.request.range_end ≤ n + p → token_at q (end_of_tokens p (token_chain n q o)) ≡ None
  chain_ends zero p None e long = e
  chain_ends zero p (Some t) e long = let inside = token_is_inside q p t e in absurd (omega (arith, inside, long))
  chain_ends (suc n) p None e long = e
  chain_ends (suc n) p (Some t) e long = let moves = (token_moves q p t e).1 in chain_ends n t.end (token_at q t.end) refl (omega (arith, moves, long))

  pub cuts_into_tokens : (p : ℕ) → CutsIntoTokens q p
  unfolding tokens_from
  cuts_into_tokens p = record {
    each = chain_each q.request.range_end p (token_at q p) refl;
    goes_on = chain_goes_on q.request.range_end p (token_at q p) refl;
    joined = chain_joined q.request.range_end p (token_at q p) refl;
    ends = chain_ends q.request.range_end p (token_at q p) refl (omega arith);
  }
