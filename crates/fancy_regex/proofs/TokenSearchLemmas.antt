-- The longest match at a place, as the members are gone through.
use Rattle.std.proofs.Common.{◌≡◌, ℕ, ◌+◌, ◌<◌, ◌≤◌, false, true, List, Option, Some, None, slice_get, slice_index, take, length, inl, inr, refl, sym, ap, subst, ◌∙◌, arith, true≢false}
use Rattle.std.proofs.lemmas.Bool.Decides.{leb_tells}
use Rattle.std.proofs.lemmas.List.{get_or-take}
use Rattle.std.proofs.lemmas.Option.{same_Some}
use Rattle.fancy_meaning.specs.Search.{Answer}
use Rattle.fancy_core.specs.Limited.{AllowsAt}
use Rattle.fancy_core.specs.declared.regex.Regex.{Regex}
use Rattle.fancy_core.specs.RegexStarts.{EndsByOneItem, regex_may_start}
use Rattle.fancy_regex.specs.declared.tokens.token.Token.{Token}
use Rattle.fancy_regex.specs.Candidates.{IsPassed, by_byte, by_later, NoStarterBetween}
use Rattle.fancy_regex.specs.SetMembers.{SetQuery, asked}
use Rattle.fancy_regex.specs.TokenLists.{token_pattern}
use Rattle.fancy_regex.specs.Tokens.{TokenItem, placed_at, found_by_member, candidate_at, token_at, KeepLimits, KeepsLimitAt}
use Rattle.fancy_regex.specs.LongestMatches.{IsTokenTo, IsLongest, IsLongestIfAny, IsTokenGiven}
use Rattle.fancy_regex.proofs.TokenGivenLemmas.{found_as_attempted}
use Rattle.fancy_regex.proofs.TokenLemmas.{candidate_is, not_found, fails_there, token_given, no_token}
use Rattle.fancy_regex.proofs.SetCandidateLemmas.{none_starts}

module _ {S : Type 0} {g : _} (q : SetQuery) (haystack : S) (p : ℕ) where
  -- what members offer that were gone through ends by the longest so far
  so_far : (n end : ℕ) (o : Option (Token S g)) → IsLongestIfAny q haystack p n end o → (k : ℕ) (u : TokenItem) → k < n → candidate_at q p k ≡ Some u → u.end ≤ end
  so_far n end None is k u below offers = absurd (let no : Some u ≡ None = sym offers ∙ is.1 k below in cc)
  so_far n end (Some t) is k u below offers = is.longest k u below offers

  pub goes_forth : (n end : ℕ) (o : Option (Token S g)) → IsLongestIfAny q haystack p n end o → p ≤ end
  goes_forth n end None is = let same = is.0 in omega (arith, same)
  goes_forth n end (Some t) is = let moves = is.token.moves in omega (arith, moves)

  -- members that offer nothing longer change nothing
  pub passed_to : (n m end : ℕ) (o : Option (Token S g)) → n ≤ m → ((k : ℕ) (u : TokenItem) → n ≤ k → k < m → candidate_at q p k ≡ Some u → u.end ≤ end)
      → IsLongestIfAny q haystack p n end o → IsLongestIfAny q haystack p m end o
  passed_to n m end None le short is = (is.0, λ k below. by k below (candidate_at q p k) refl) where
    by : (k : ℕ) → k < m → (x : Option TokenItem) → candidate_at q p k ≡ x → candidate_at q p k ≡ None
    by k below None e = e
    by k below (Some u) e =
        elim (leb_tells n k) [
          | inl later ↦ (
              let most = short k u later.1 below e in
              let offered = (candidate_is q p k u e).2 in
              let ends = offered.end in
              let filled = offered.filled in
              let same = is.0 in
              absurd (omega (arith, most, ends, filled, same)))
          | inr before ↦ is.1 k before.1
        ]
  passed_to n m end (Some t) le short is = record {
    inside = let inside = is.inside in omega (arith, inside, le);
    token = is.token;
    longest = λ k u below offers.
        elim (leb_tells n k) [
          | inl later ↦ short k u later.1 below offers
          | inr before ↦ is.longest k u before.1 offers
        ];
    first = is.first;
  }

  -- a member that finds nothing that starts there and ends further on
  pub passed_short : (n end : ℕ) (o : Option (Token S g)) → ((a : Answer) → found_by_member q p n ≡ Some a → a.state.kept ≡ p → a.state.place ≤ end)
      → IsLongestIfAny q haystack p n end o → IsLongestIfAny q haystack p (n + 1) end o
  passed_short n end o short is =
      passed_to n (n + 1) end o (omega arith)
      (λ k u from below offers.
      let same : n ≡ k = omega (arith, from, below) in
      let c = candidate_is q p n u (subst (λ x. candidate_at q p x ≡ Some u) (sym same) offers) in
      let most = short c.0 c.1 c.2.kept in
      let ends = c.2.end in
      omega (arith, most, ends))
      is

  -- a member of one item, where a match was found that starts with an ASCII byte
  pub passed_one : (searched : List ℕ) → searched ≡ take q.request.range_end q.haystack → (n end : ℕ) (o : Option (Token S g)) (r : Regex) → slice_get q.members n ≡ Some r → EndsByOneItem r
      → q.request.range_end ≤ length q.haystack → p < q.request.range_end → slice_index searched p < 128 → p < end → IsLongestIfAny q haystack p n end o → IsLongestIfAny q haystack p (n + 1) end o
  passed_one searched there n end o r member one inside within low past is =
      let taken : slice_index (take q.request.range_end q.haystack) p < 128 = subst (λ (s : List ℕ). slice_index s p < 128) there low in
      let same = get_or-take q.request.range_end q.haystack p 0 within in
      passed_short n end o
      (λ a found kept.
      let most = one.ends q.haystack (placed_at q p).request true p a inside within (omega (arith, taken, same)) (sym (found_as_attempted q p n r member) ∙ found) in
      omega (arith, most, past))
      is

  -- a member whose match is longer than the longest so far
  pub taken_longer : (n old end : ℕ) (o : Option (Token S g)) (t : Token S g) → token_pattern t ≡ n → old < end → IsTokenTo q haystack p end t
      → IsLongestIfAny q haystack p n old o → IsLongest q haystack p (n + 1) end t
  taken_longer n old end o t is_of longer token is = record {
    inside = omega (arith, is_of);
    token = token;
    longest = λ k u below offers.
        elim (leb_tells n k) [
          | inl here ↦ (
              let le = here.1 in
              let same : token_pattern t ≡ k = omega (arith, le, below, is_of) in
              let offered : candidate_at q p k ≡ Some (record { pattern = token_pattern t; start = p; end = end }) = subst (λ x. candidate_at q p x ≡ Some (record { pattern = token_pattern t; start = p; end = end })) same token.offered in
              let ends = ap (λ (v : TokenItem). v.end) (same_Some _ u (sym offered ∙ offers)) in
              omega (arith, ends))
          | inr before ↦ (let most = so_far n old o is k u before.1 offers in omega (arith, most, longer))
        ];
    first = λ k u below offers. let most = so_far n old o is k u (omega (arith, below, is_of)) offers in omega (arith, most, longer);
  }

  -- when all were gone through
  pub all_gone : (end : ℕ) (t : Token S g) → p < q.request.range_end → IsLongest q haystack p (length q.members) end t → IsTokenGiven q haystack p t
  all_gone end t inside is = record {
    end = end;
    moves = is.token.moves;
    span = is.token.span;
    is = token_given q p _ inside (record {
      index = token_pattern t;
      from = omega arith;
      inside = let within = is.inside in omega (arith, within);
      offered = is.token.offered;
      longest = λ j u from below offers. is.longest j u (omega (arith, below)) offers;
      first = λ j u from below offers. is.first j u below offers;
    });
    item = is.token.item;
    within = is.token.within;
  }

  pub none_gone : (end : ℕ) (o : Option (Token S g)) → o ≡ None → IsLongestIfAny q haystack p (length q.members) end o → token_at q p ≡ None
  none_gone end o e all = no_token q p (subst (λ x. IsLongestIfAny q haystack p (length q.members) end x) e all).1

  -- members that are not asked there
  pub passed_over : (searched : List ℕ) → searched ≡ take q.request.range_end q.haystack → ((k : ℕ) → slice_index q.haystack k < 256) → q.request.range_end ≤ length q.haystack → p ≤ q.request.range_end
      → (n m end : ℕ) (o : Option (Token S g)) → n ≤ m → NoStarterBetween q.members searched p n m → IsLongestIfAny q haystack p n end o → IsLongestIfAny q haystack p m end o
  passed_over searched there bytes inside ends n m end o le none is =
      passed_to n m end o le
      (λ k u from below offers.
      let fails = none_starts (placed_at q p) p searched there bytes inside ends n m none k from below in
      let no : candidate_at q p k ≡ None = not_found q p k (fails_there q p k fails) in
      absurd (let e : Some u ≡ None = sym offers ∙ no in cc))
      is

module _ (q : SetQuery) (p : ℕ) where
  pub limits_more : (n : ℕ) → KeepLimits q p n → KeepsLimitAt q p n → KeepLimits q p (n + 1)
  limits_more n keep allowed k r below is may =
      elim (leb_tells n k) [
        | inl here ↦ (
            let le = here.1 in
            let same : n ≡ k = omega (arith, le, below) in
            allowed r (subst (λ x. slice_get q.members x ≡ Some r) (sym same) is))
        | inr before ↦ keep k r before.1 is may
      ]

  -- an easy member keeps within its limit
  pub limits_of_one : (n : ℕ) (r : Regex) → slice_get q.members n ≡ Some r → EndsByOneItem r → KeepLimits q p n → KeepLimits q p (n + 1)
  limits_of_one n r member one keep = limits_more n keep (λ other is hard. absurd (true≢false (sym (subst (λ (x : Regex). EndsByOneItem x) (same_Some r other (sym member ∙ is)) one).easy ∙ hard)))

  pub limits_over : (searched : List ℕ) → searched ≡ take q.request.range_end q.haystack → (n m : ℕ) → NoStarterBetween q.members searched p n m → KeepLimits q p n → KeepLimits q p m
  limits_over searched there n m none keep k r below is may =
      elim (leb_tells n k) [
        | inl later ↦ by (none k r later.1 below is)
        | inr before ↦ keep k r before.1 is may
      ]
    where
      by : IsPassed r searched p → AllowsAt r (asked (placed_at q p) r) p
      by (by_byte fails) = absurd (
          let out : regex_may_start r (slice_get (take q.request.range_end q.haystack) p) ≡ false = subst (λ (s : List ℕ). regex_may_start r (slice_get s p) ≡ false) there fails in
          true≢false (sym may ∙ out))
      by (by_later place byte stands holds) = λ hard. absurd (true≢false (sym holds.easy ∙ hard))
