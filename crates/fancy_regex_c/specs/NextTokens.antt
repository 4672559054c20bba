-- What `next_token` answers.
use Rattle.std.specs.Prelude.{◌≡◌, ◌≤◌, ◌<◌, ◌-◌, ◌⊎◌, ℕ, List, map, take, drop, length, vec_items, nat_eq, if◌then◌else◌}
use Rattle.fancy_regex.specs.declared.RegexSet.{RegexSet}
use Rattle.fancy_regex.specs.SetMembers.{SetQuery}
use Rattle.fancy_regex.specs.Tokens.{TokenItem, tokens_from}
use Rattle.fancy_regex_c.specs.declared.plain.Member.{Member}
use Rattle.fancy_regex_c.specs.declared.plain.Request.{Request}
use Rattle.fancy_regex_c.specs.declared.under_way.TokenList.{TokenList}
use Rattle.fancy_regex_c.specs.Asked.{asked_of_set, says_text, IsPlaceInSet}
use Rattle.fancy_regex_c.specs.Courses.{Course, ahead, WantsMore, HasEnded, Follows, FindsMore, TellsNext}
use Rattle.fancy_regex_c.specs.TokenGiving.{token_of, RefusesTokenAt}
use Rattle.fancy_regex_c.specs.UnderWay.{owned_bytes, is_owned_text}

-- what a list asks of the members
abbrev pub list_query : TokenList → SetQuery
list_query l = asked_of_set l.set.value (owned_bytes l.haystack) l.request

-- how far it has come
abbrev pub token_course : TokenList → Course TokenItem
token_course l = record {
  ready = map token_of (take (l.progress.ready - l.progress.given) (drop l.progress.given (vec_items l.tokens)));
  further = tokens_from (list_query l) l.request.start;
  at_end = l.request.end ≤ l.request.start;
  refuses = RefusesTokenAt (list_query l) l.request.start;
  no_place = IsPlaceInSet l.set.value (is_owned_text l.haystack) (owned_bytes l.haystack) l.request → ⊥;
  progress = l.progress;
}

-- the list is of this set, these bytes and this request, of which it has moved the start on
pub record IsTokenListOf (set : RegexSet) (bytes : List ℕ) (r : Request) (l : TokenList) : Type 0 where
  pub of_set : l.set.value ≡ set
  pub of_bytes : owned_bytes l.haystack ≡ bytes
  pub of_text : is_owned_text l.haystack ≡ says_text r
  pub of_request : l.request ≡ record r { start = l.request.start }
  pub room : 0 < l.progress.room
  pub found : l.progress.given < l.progress.ready → l.progress.ready ≤ length (vec_items l.tokens)
  pub follows : HasEnded l.progress ⊎ Follows (token_course l)

-- it is such a list, and has given nothing
pub record IsNewTokenListOf (set : RegexSet) (bytes : List ℕ) (r : Request) (l : TokenList) : Type 0 where
  pub list : IsTokenListOf set bytes r l
  pub all : ahead (token_course l) ≡ tokens_from (asked_of_set set bytes r) r.start
  pub unended : HasEnded l.progress → ⊥

-- the list l, which had no token ready, becomes m, with the next ones
pub record FindsTokens (l m : TokenList) : Type 0 where
  pub same_set : m.set.value ≡ l.set.value
  pub same_haystack : m.haystack ≡ l.haystack
  pub moved : m.request ≡ record l.request { start = m.request.start }
  pub found : m.progress.ready ≤ length (vec_items m.tokens)
  pub finds : FindsMore (token_course l) (token_course m)

-- so does it where it wants more; else it stays as it is
pub data ReadiesTokens (l m : TokenList) : Type 0 where
  has_some : (WantsMore l.progress → ⊥) → m ≡ l → ReadiesTokens l m
  finds : WantsMore l.progress → FindsTokens l m → ReadiesTokens l m

-- the token that is written
abbrev pub IsToken : Member → TokenItem → Type 0
IsToken m item = item ≡ token_of m

-- UNMATCHED has the place of the list written, as an empty token, and no other refusal writes one
abbrev pub token_kept : TokenList → Member → ℕ → Member
token_kept l old answer = if nat_eq answer 12 then record { pattern = 0; start = l.request.start; end = l.request.start } else old

-- `next_token`, which makes l the list m, of the same set, bytes and request; a list that has ended gives no more
pub record MovesTokenList (set : RegexSet) (bytes : List ℕ) (r : Request) (l m : TokenList) (old new : Member) (answer : ℕ) : Type 0 where
  pub stays : IsTokenListOf set bytes r m
  pub tells : TellsNext (token_course l) (token_course m) (IsToken new) (λ answer. new ≡ token_kept m old answer) answer
  pub ended : HasEnded l.progress → answer ≡ 1

-- so is it, whatever it is a list of
abbrev pub IsNextToken : TokenList → TokenList → Member → Member → ℕ → Type 0
IsNextToken l m old new answer = (set : RegexSet) (bytes : List ℕ) (r : Request) → IsTokenListOf set bytes r l → MovesTokenList set bytes r l m old new answer
