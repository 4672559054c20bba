-- The tokens of a text, one after another.
use Rattle.std.proofs.Common.{◌≡◌, ◌∙◌, ◌<◌, ◌+◌, ℕ, suc, Bool, false, List, [], ◌∷◌, ◌++◌, length, map, drop, set, get_or, refl, sym, ap, arith, append_assoc, drop-cons}
use Rattle.std.proofs.lemmas.List.{length-append, map-append, set_at}
use Rattle.std.specs.Prelude.{if◌then◌else◌}
use Rattle.fancy_regex.specs.declared.RegexSet.{RegexSet}
use Rattle.fancy_regex.specs.declared.Request.{Request as Asked}
use Rattle.fancy_regex.specs.declared.Tokens.{Tokens}
use Rattle.fancy_regex.specs.Sets.{members_of}
use Rattle.fancy_regex.specs.SetMembers.{SetQuery}
use Rattle.fancy_regex.specs.TokenLists.{token_set, token_haystack, token_request, token_query, token_place, has_ended_tokens, tokens_left}
use Rattle.fancy_regex.specs.Tokens.{TokenItem, tokens_from}
use Rattle.fancy_regex_c.specs.declared.handed.Handed.{Handed}
use Rattle.fancy_regex_c.specs.declared.plain.Member.{Member}
use Rattle.fancy_regex_c.specs.declared.plain.Request.{Request}
use Rattle.fancy_regex_c.specs.Handed.{handed_bytes}
use Rattle.fancy_regex_c.specs.TokenGiving.{token_of, GivesTokens}

chosen : (ended : Bool) (asked q : SetQuery) (place p : ℕ) → ended ≡ false → asked ≡ q → place ≡ p → (if ended then [] else tokens_from asked place) ≡ tokens_from q p
chosen ended asked q place p unended same there = rw (unended, same, there) refl

-- what a list that goes on has left
pub left_is : {g : _} (t : Tokens Handed g) (q : SetQuery) (p : ℕ) → has_ended_tokens t ≡ false → token_query handed_bytes t ≡ q → token_place t ≡ p → tokens_left handed_bytes t ≡ tokens_from q p
left_is t q p unended asked place = chosen (has_ended_tokens t) (token_query handed_bytes t) q (token_place t) p unended asked place

-- what a set is asked
abbrev query_of : RegexSet → Handed → Asked → SetQuery
query_of set haystack request = record { members = members_of set; haystack = handed_bytes haystack; request = request }

same_query : (s t : RegexSet) (h k : Handed) (r u : Asked) → s ≡ t → h ≡ k → r ≡ u → query_of s h r ≡ query_of t k u
same_query s t h k r u e f d = rw (e, f, d) refl

-- a list asks the same from one call to the next
pub asks_same : {g : _} (s t : Tokens Handed g) → token_set t ≡ token_set s → token_haystack t ≡ token_haystack s → token_request t ≡ token_request s
    → token_query handed_bytes t ≡ token_query handed_bytes s
asks_same s t e f d = same_query (token_set t) (token_set s) (token_haystack t) (token_haystack s) (token_request t) (token_request s) e f d

pub length_more : (given : List Member) (m : Member) (index : ℕ) → length given ≡ index → length (given ++ (m ∷ [])) ≡ index + 1
length_more given m index long = length-append given (m ∷ []) ∙ ap (λ (n : ℕ). n + 1) long

module _ (q : SetQuery) (old : List Member) (before : Request) where
  pub gives_none : GivesTokens q [] old old before before 0
  gives_none = record { first = refl; moved = refl; put = refl; counted = refl }

  pub gives_token : (given now : List Member) (at next : Request) (written index : ℕ) (m : Member) → GivesTokens q given old now before at written → length given ≡ index → index < length old
      → tokens_from q at.start ≡ token_of m ∷ tokens_from q next.start → next ≡ record at { start = next.start }
      → GivesTokens q (given ++ (m ∷ [])) old (set now index m) before next (index + 1)
  gives_token given now at next written index m g long room e moved =
      let d = get_or old index m in
      let rest = drop (suc index) old in
      let there : now ≡ given ++ (d ∷ rest) = g.put ∙ (ap (λ (n : ℕ). given ++ drop n old) long ∙ ap (λ (z : List Member). given ++ z) (drop-cons old index m room)) in
      let more : length (given ++ (m ∷ [])) ≡ index + 1 = length_more given m index long in
      let next_one : suc index ≡ index + 1 = omega arith in
      record {
        first = g.first ∙ (ap (λ (z : List TokenItem). map token_of given ++ z) e ∙ (sym (append_assoc (map token_of given) (token_of m ∷ []) (tokens_from q next.start)) ∙ ap (λ (z : List TokenItem). z ++ tokens_from q next.start) (sym (map-append token_of given (m ∷ [])))));
        moved = moved ∙ ap (λ (r : Request). record r { start = next.start }) g.moved;
        put = ap (λ (z : List Member). set z index m) there ∙ (set_at given d rest m index long ∙ (sym (append_assoc given (m ∷ []) rest) ∙ ap (λ (n : ℕ). (given ++ (m ∷ [])) ++ drop n old) (next_one ∙ sym more)));
        counted = sym more;
      }
