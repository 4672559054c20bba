-- What the longest match at a place says of the token there.
use Rattle.std.proofs.Common.{◌≡◌, ℕ, zero, suc, ◌<◌, ◌≤◌, Bool, true, false, List, [], ◌∷◌, Option, Some, None, is_some, option_map, if◌then◌else◌, slice_get, refl, sym, ap, subst, ◌∙◌, arith}
use Rattle.std.specs.Option.{option_and_then}
use Rattle.fancy_tree.specs.declared.error.Error.{Error}
use Rattle.fancy_tree.specs.declared.error.Error.TheVariants.{Memory}
use Rattle.std.proofs.lemmas.Option.{same_Some}
use Rattle.fancy_input.specs.declared.span.Span.{Span}
use Rattle.fancy_input.specs.Spans.{from_to}
use Rattle.fancy_code.specs.declared.found.Found.{Found}
use Rattle.fancy_code.specs.Queries.{answer_with}
use Rattle.fancy_meaning.specs.Search.{Answer, answer_at, attempt, span_of}
use Rattle.fancy_search.specs.declared.cache.Cache.{Cache}
use Rattle.fancy_search.specs.Cached.{found_at}
use Rattle.fancy_search.specs.Groups.{span_at, spans_of}
use Rattle.fancy_core.specs.Captures.{spans_in, searched_in, found_by}
use Rattle.fancy_core.specs.declared.regex.Regex.{Regex}
use Rattle.fancy_core.specs.Limited.{AllowsAt}
use Rattle.fancy_core.specs.Regexes.{group_count_in}
use Rattle.fancy_regex.specs.declared.tokens.token.Token.{Token}
use Rattle.fancy_regex.specs.LongestMatches.{EndsBy, IsTokenTo}
use Rattle.fancy_regex.specs.SetMembers.{SetQuery, asked, IsMemberItem}
use Rattle.fancy_regex.specs.Tokens.{placed_at, found_by_member, token_at, tokens_from, KeepLimits, KeepsLimitAt}
use Rattle.fancy_regex.specs.TokenLists.{IsRefusedByMember, token_pattern, token_captures}
use Rattle.fancy_regex.proofs.SetLemmas.{some_group}
use Rattle.fancy_regex.proofs.SetCandidateLemmas.{answers_start}
use Rattle.fancy_regex.proofs.TokenLemmas.{first_and_rest, found_offers, offered_where}

-- group 0 of what was found
zero_group : (n : ℕ) (a : Answer) → 1 ≤ n → span_at (spans_of n a) 0 ≡ Some (span_of a)
zero_group zero a h = absurd (omega (arith, h))
zero_group (suc n) a h = refl

pub whole_span : (r : Regex) (a : Answer) (spans : List (Option Span)) (p : ℕ) → spans ≡ spans_of (group_count_in r) a → a.state.kept ≡ p → span_at spans 0 ≡ Some (from_to p a.state.place)
whole_span r a spans p groups starts =
    ap (λ (x : List (Option Span)). span_at x 0) groups
    ∙ zero_group (group_count_in r) a (some_group r)
    ∙ ap (λ (x : ℕ). Some (from_to x a.state.place)) starts

attempted : {A B : Type 0} (f : A → B) (b : B) (o : Option A) → Some b ≡ option_map f o → is_some o ≡ true
attempted f b None e = absurd (cc)
attempted f b (Some x) e = refl

module _ (q : SetQuery) (p : ℕ) where
  pub found_by_that : (k : ℕ) (r : Regex) (a : Answer) → slice_get q.members k ≡ Some r → found_by_member q p k ≡ Some a → Some a ≡ attempt (asked (placed_at q p) r) p
  found_by_that k r a is finds = sym finds ∙ ap (option_and_then (λ (x : Regex). attempt (asked (placed_at q p) x) p)) is

  pub found_as_attempted : (k : ℕ) (r : Regex) → slice_get q.members k ≡ Some r → found_by_member q p k ≡ attempt (asked (placed_at q p) r) p
  found_as_attempted k r is = ap (option_and_then (λ (x : Regex). attempt (asked (placed_at q p) x) p)) is

  pub limit_kept : (k : ℕ) (r : Regex) → slice_get q.members k ≡ Some r → AllowsAt r (asked (placed_at q p) r) p → KeepsLimitAt q p k
  limit_kept k r is allowed other here =
      let e : Some r ≡ Some other = sym is ∙ here in
      let same : r ≡ other = cc in
      subst (λ (x : Regex). AllowsAt x (asked (placed_at q p) x) p) same allowed

  pub item_of_found : (k : ℕ) (r regex : Regex) (a : Answer) (spans : List (Option Span)) → slice_get q.members k ≡ Some r → found_by_member q p k ≡ Some a → regex ≡ r
      → spans ≡ spans_of (group_count_in r) a → KeepsLimitAt q p k → IsMemberItem (placed_at q p) p k regex spans
  item_of_found k r regex a spans is finds same groups allowed = rw (same, groups) (record {
    is = ∣ is ∣₁;
    groups = ap (option_map (spans_of (group_count_in r))) (found_by_that k r a is finds);
    allowed = allowed r is;
  })

  pub out_of_memory_at : (k : ℕ) (r : Regex) (e : Error) (a : Answer) → slice_get q.members k ≡ Some r → found_by_member q p k ≡ Some a → e ≡ Memory → KeepLimits q p k → IsRefusedByMember q p e
  out_of_memory_at k r e a is finds same keep = rw same (record {
    index = k;
    refuses = record { member = r; is = is; starts = answers_start (placed_at q p) p r (attempted _ a (answer_at (asked (placed_at q p) r) p) (found_by_that k r a is finds)); refuses = tt };
    limits = keep;
  })

  -- what a member found is its token, if it starts there and is not empty
  pub token_of_found : {S : Type 0} {g : _} (haystack : S) (k : ℕ) (r : Regex) (f : Found) (cache : Cache) (t : Token S g) → slice_get q.members k ≡ Some r
      → found_by_member q p k ≡ Some (found_at f cache) → f.start ≡ p → p < f.end → KeepsLimitAt q p k
      → token_pattern t ≡ k → found_by (token_captures t) ≡ r → spans_in (token_captures t) ≡ spans_of (group_count_in r) (found_at f cache) → searched_in (token_captures t) ≡ haystack
      → IsTokenTo q haystack p f.end t
  token_of_found haystack k r f cache t is finds starts filled allowed is_of regex spans within = record {
    moves = filled;
    span = whole_span r (found_at f cache) _ p spans starts;
    offered = rw is_of (found_offers q p k (found_at f cache) finds ∙ offered_where p k (found_at f cache) starts filled);
    item = rw is_of (item_of_found k r _ (found_at f cache) _ is finds regex spans allowed);
    within = within;
  }

  -- what it found starts there and ends further on in no case
  pub found_by_end : (k end : ℕ) (groups : List (Option Span)) (found : Option Found) → EndsBy p end found → answer_with groups found ≡ found_by_member q p k
      → (a : Answer) → found_by_member q p k ≡ Some a → a.state.kept ≡ p → a.state.place ≤ end
  found_by_end k end groups None by same a is kept = absurd (let no : None ≡ Some a = same ∙ is in cc)
  found_by_end k end groups (Some f) by same a is kept =
      let one = same_Some _ a (same ∙ is) in
      let start = ap (λ (x : Answer). x.state.kept) one in
      let ends = ap (λ (x : Answer). x.state.place) one in
      let most = by f refl (start ∙ kept) in
      omega (arith, most, ends)

-- what is left of a list that has not ended, where there is a token
pub goes_on_with : (q : SetQuery) (p pattern end other : ℕ) (ended : Bool) → ended ≡ false → token_at q p ≡ Some (record { pattern = pattern; start = p; end = end }) → other ≡ end
    → (if ended then [] else tokens_from q p) ≡ record { pattern = pattern; start = p; end = other } ∷ (if ended then [] else tokens_from q other)
goes_on_with q p pattern end other ended on is same = rw (on, same) (first_and_rest q p _ is)

pub end_is : (span : Option Span) (p end other : ℕ) → span ≡ Some (from_to p end) → option_map (λ (s : Span). s.end) span ≡ Some other → other ≡ end
end_is span p end other is e = let same : Some end ≡ Some other = ap (option_map (λ (s : Span). s.end)) (sym is) ∙ e in cc
