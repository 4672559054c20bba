-- A list of tokens that finds more of them, and gives them.
use Rattle.std.proofs.Common.{◌≡◌, ◌∙◌, ◌<◌, ◌≤◌, ◌+◌, ◌-◌, ◌⊎◌, ℕ, zero, suc, Bool, List, [], ◌∷◌, ◌++◌, Some, length, map, take, drop, vec_items, slice_get, refl, sym, ap, subst, arith, inl, inr}
use Rattle.std.proofs.lemmas.Bool.Decides.{eqb_tells}
use Rattle.std.proofs.lemmas.List.{length-append, take_at}
use Rattle.fancy_regex.specs.declared.Error.{Error}
use Rattle.fancy_regex.specs.declared.RegexSet.{RegexSet}
use Rattle.fancy_regex.specs.SetMembers.{SetQuery}
use Rattle.fancy_regex.specs.Tokens.{TokenItem, tokens_from}
use Rattle.fancy_regex.proofs.TokenStartLemmas.{started_at, tokens_at_start, refused_at_start}
use Rattle.fancy_regex_c.specs.declared.plain.Member.{Member}
use Rattle.fancy_regex_c.specs.declared.plain.Request.{Request}
use Rattle.fancy_regex_c.specs.declared.under_way.Progress.{Progress}
use Rattle.fancy_regex_c.specs.declared.under_way.TokenList.{TokenList}
use Rattle.fancy_regex_c.specs.Asked.{asked_of_set, says_text, IsPlaceInSet}
use Rattle.fancy_regex_c.specs.Courses.{ahead, WantsMore, HasEnded, Follows, goes_on, is_at_end, has_no_place}
use Rattle.fancy_regex_c.specs.Courses as Next
use Rattle.fancy_regex_c.specs.NextTokens.{list_query, token_course, token_kept, IsTokenListOf, FindsTokens, ReadiesTokens, IsNewTokenListOf, MovesTokenList, has_some, finds}
use Rattle.fancy_regex_c.specs.TokenGiving.{token_of, RefusesTokenAt, GivesTokens, EndsTokensWith, is_full, is_ended, is_refused, TellsTokensIn, is_given, is_no_place}
use Rattle.fancy_regex_c.specs.UnderWay.{owned_bytes, is_owned_text}
use Rattle.fancy_regex_c.proofs.CourseLemmas.{refusal_is, IsReady, stays_ready, found_ready, follows_on, follows_some, unended, tells_given, tells_end, tells_memory}

-- the same of a haystack with the same text and bytes
pub same_tokens : (set : RegexSet) (text u : Bool) (bytes v : List ℕ) (before after : Request) (old new : List Member) (written last : ℕ) → text ≡ u → bytes ≡ v
    → TellsTokensIn (asked_of_set set bytes before) (IsPlaceInSet set text bytes before) before after old new written last
    → TellsTokensIn (asked_of_set set v before) (IsPlaceInSet set u v before) before after old new written last
same_tokens set text u bytes v before after old new written last e f tells = rw (e, f) at tells

-- what the list l becomes where it has found more
module _ (l m : TokenList) (e : m ≡ record l { request = m.request; tokens = m.tokens; progress = m.progress }) (old : List Member) (written last : ℕ)
    (wide : 0 < l.progress.room → 0 < length old) (none : m.progress.given ≡ 0) (room : 0 < l.progress.room → 0 < m.progress.room) (ready : m.progress.ready ≡ written)
    (is : m.progress.last ≡ last) (other : last ≡ 4 → ⊥) where
  abbrev found_list : TokenList
  found_list = record l { request = m.request; tokens = m.tokens; progress = m.progress }

  abbrev asked : SetQuery
  asked = list_query l

  abbrev found_tokens : List TokenItem
  found_tokens = map token_of (take (m.progress.ready - m.progress.given) (drop m.progress.given (vec_items m.tokens)))

  module _ (moved : m.request ≡ record l.request { start = m.request.start }) where
    query_moved : list_query found_list ≡ started_at asked m.request.start
    query_moved = ap (λ (r : Request). asked_of_set l.set.value (owned_bytes l.haystack) r) moved

    refusal : (why : Error) → RefusesTokenAt asked m.request.start why → RefusesTokenAt (list_query found_list) m.request.start why
    refusal why refuses =
        subst (λ (q : SetQuery). RefusesTokenAt q m.request.start why) (sym query_moved) (record { inside = refuses.inside; why = refused_at_start asked m.request.start m.request.start why refuses.why })

    follows_given : (given : List Member) → EndsTokensWith asked given old m.request last → Follows (token_course found_list)
    follows_given given (is_full nil long) = goes_on (is ∙ nil)
    follows_given given (is_ended one past) = is_at_end (is ∙ one) (let end : m.request.end ≡ l.request.end = ap (λ (r : Request). r.end) moved in omega (arith, past, end))
    follows_given given (is_refused (why, answer, refuses)) = Next.is_refused (why, is ∙ answer, refusal why refuses) (λ four. other (sym is ∙ four))

    left : tokens_from asked m.request.start ≡ tokens_from (list_query found_list) m.request.start
    left = sym (ap (λ (q : SetQuery). tokens_from q m.request.start) query_moved ∙ tokens_at_start asked m.request.start m.request.start)

  some_given : (given : List Member) → EndsTokensWith asked given old m.request last → last ≡ 0 → 0 < length old → 0 < length given
  some_given given (is_full nil long) more some = omega (arith, long, some)
  some_given given (is_ended one past) more some = absurd (omega (arith, one, more))
  some_given given (is_refused (why, answer, refuses)) more some = let far = refusal_is why in absurd (omega (arith, far, answer, more))

  -- the tokens that were put are ready
  found_is : (given : List Member) → m.progress.ready ≡ length given → vec_items m.tokens ≡ given ++ drop (length given) old → found_tokens ≡ map token_of given
  found_is given counted put =
      let many : m.progress.ready - m.progress.given ≡ length given = omega (arith, none, counted) in
      ap (λ (k : ℕ). map token_of (take (m.progress.ready - m.progress.given) (drop k (vec_items m.tokens)))) none
      ∙ (ap (λ (k : ℕ). map token_of (take k (vec_items m.tokens))) many
      ∙ (ap (λ (z : List Member). map token_of (take (length given) z)) put ∙ ap (map token_of) (take_at given (drop (length given) old) (length given) refl)))

  given_finds : (given : List Member) → GivesTokens asked given old (vec_items m.tokens) l.request m.request written → EndsTokensWith asked given old m.request last → FindsTokens l found_list
  given_finds given g ends =
      let counted : m.progress.ready ≡ length given = ready ∙ g.counted in
      let whole : length (vec_items m.tokens) ≡ length given + length (drop (length given) old) = ap length g.put ∙ length-append given (drop (length given) old) in
      record {
        same_set = refl;
        same_haystack = refl;
        moved = g.moved;
        found = omega (arith, counted, whole);
        finds = record {
          none_given = none;
          room = room;
          some = λ some more. (let any = some_given given ends (sym is ∙ more) (wide some) in omega (arith, any, counted));
          same = g.first ∙ (ap (λ (z : List TokenItem). z ++ tokens_from asked m.request.start) (sym (found_is given counted g.put)) ∙ ap (λ (z : List TokenItem). found_tokens ++ z) (left g.moved));
          follows = follows_given g.moved given ends;
        };
      }

  nothing_finds : last ≡ 3 → (IsPlaceInSet l.set.value (is_owned_text l.haystack) (owned_bytes l.haystack) l.request → ⊥) → written ≡ 0 → m.request ≡ l.request → FindsTokens l found_list
  nothing_finds three outside nothing stays =
      let nil : m.progress.ready ≡ 0 = ready ∙ nothing in
      let no_tokens : found_tokens ≡ [] = (let many : m.progress.ready - m.progress.given ≡ 0 = omega (arith, nil) in ap (λ (k : ℕ). map token_of (take k (drop m.progress.given (vec_items m.tokens)))) many) in
      record {
        same_set = refl;
        same_haystack = refl;
        moved = stays ∙ ap (λ (r : Request). record l.request { start = r.start }) (sym stays);
        found = omega (arith, nil);
        finds = record {
          none_given = none;
          room = room;
          some = λ some more. absurd (omega (arith, is, three, more));
          same = ap (λ (r : Request). tokens_from (asked_of_set l.set.value (owned_bytes l.haystack) r) r.start) (sym stays) ∙ ap (λ (z : List TokenItem). z ++ tokens_from (list_query found_list) m.request.start) (sym no_tokens);
          follows = has_no_place (is ∙ three) (subst (λ (r : Request). IsPlaceInSet l.set.value (is_owned_text l.haystack) (owned_bytes l.haystack) r → ⊥) (sym stays) outside);
        };
      }

  pub finds_tokens : TellsTokensIn asked (IsPlaceInSet l.set.value (is_owned_text l.haystack) (owned_bytes l.haystack) l.request) l.request m.request old (vec_items m.tokens) written last → FindsTokens l m
  finds_tokens (is_given place given g ends) = subst (λ (x : TokenList). FindsTokens l x) (sym e) (given_finds given g ends)
  finds_tokens (is_no_place three outside nothing kept stays) = subst (λ (x : TokenList). FindsTokens l x) (sym e) (nothing_finds three outside nothing stays)

-- where none is ready
pub no_tokens_ready : (l : TokenList) → l.progress.ready ≤ l.progress.given → (token_course l).ready ≡ []
no_tokens_ready l none = let nothing : l.progress.ready - l.progress.given ≡ 0 = omega (arith, none) in rw nothing refl

-- a list that has a token ready, if there is one
pub token_list_ready : (set : RegexSet) (bytes : List ℕ) (r : Request) (l m : TokenList) → IsTokenListOf set bytes r l → ReadiesTokens l m
    → IsTokenListOf set bytes r m × IsReady (token_course l) (token_course m)
token_list_ready set bytes r l m is (has_some some same) =
    subst (λ (x : TokenList). IsTokenListOf set bytes r x × IsReady (token_course l) (token_course x)) (sym same) (is, stays_ready (token_course l) some is.follows)
token_list_ready set bytes r l m is (finds wants f) = (
  record {
    of_set = f.same_set ∙ is.of_set;
    of_bytes = ap owned_bytes f.same_haystack ∙ is.of_bytes;
    of_text = ap is_owned_text f.same_haystack ∙ is.of_text;
    of_request = f.moved ∙ ap (λ (q : Request). record q { start = m.request.start }) is.of_request;
    room = f.finds.room is.room;
    found = λ _. f.found;
    follows = inr f.finds.follows;
  },
  found_ready (token_course l) (token_course m) is.room (no_tokens_ready l wants.given) wants f.finds,
)

drop_some : {A : Type 0} (xs : List A) (n : ℕ) (x : A) → slice_get xs n ≡ Some x → drop n xs ≡ x ∷ drop (suc n) xs
drop_some [] zero x e = absurd (cc)
drop_some [] (suc n) x e = absurd (cc)
drop_some (y ∷ xs) zero x e = let same : y ≡ x = cc in rw same refl
drop_some (y ∷ xs) (suc n) x e = drop_some xs n x e

-- what a call makes of a list d that has a token ready, if there is one
module _ (set : RegexSet) (bytes : List ℕ) (r : Request) (l d : TokenList) (is : IsTokenListOf set bytes r l) (readies : ReadiesTokens l d) (p : Progress) (old new : Member)
    (ready : p.ready ≡ d.progress.ready) (room : p.room ≡ d.progress.room) where
  abbrev moved_list : TokenList
  moved_list = record d { progress = p }

  there : IsTokenListOf set bytes r d
  there = (token_list_ready set bytes r l d is readies).0

  is_ready : IsReady (token_course l) (token_course d)
  is_ready = (token_list_ready set bytes r l d is readies).1

  stays : (p.given < p.ready → p.ready ≤ length (vec_items d.tokens)) → HasEnded p ⊎ Follows (token_course moved_list) → IsTokenListOf set bytes r moved_list
  stays found follows = record {
    of_set = there.of_set;
    of_bytes = there.of_bytes;
    of_text = there.of_text;
    of_request = there.of_request;
    room = (let some = there.room in omega (arith, some, room));
    found = found;
    follows = follows;
  }

  pub moves_token : d.progress.given < d.progress.ready → p.given ≡ d.progress.given + 1 → p.last ≡ d.progress.last → slice_get (vec_items d.tokens) d.progress.given ≡ Some new
      → MovesTokenList set bytes r l moved_list old new 0
  moves_token some given last found =
      let items = vec_items d.tokens in
      let one : d.progress.ready - d.progress.given ≡ suc (p.ready - p.given) = omega (arith, some, given, ready) in
      let next : suc d.progress.given ≡ p.given = omega (arith, given) in
      let first : (token_course d).ready ≡ token_of new ∷ (token_course moved_list).ready = rw (one, drop_some items d.progress.given new found, next) refl in
      let follows = follows_some (token_course l) (token_course d) is_ready (λ (x : TokenItem). x ≡ token_of new) (λ n. new ≡ token_kept moved_list old n) p (token_course moved_list).ready some in
      let long = there.found some in
      record {
        stays = stays (λ more. omega (arith, long, ready)) (inr (follows_on (token_course d) p (token_course moved_list).ready last follows));
        tells = tells_given (token_course l) (token_course d) is_ready (λ (x : TokenItem). x ≡ token_of new) (λ n. new ≡ token_kept moved_list old n) p (token_course moved_list).ready (token_of new) some first last refl;
        ended = λ ended. absurd (unended (token_course l) (token_course d) is_ready (λ (x : TokenItem). x ≡ token_of new) (λ n. new ≡ token_kept moved_list old n) p (token_course moved_list).ready some ended);
      }

  pub ends_tokens : d.progress.ready ≤ d.progress.given → p.given ≡ d.progress.given → p.last ≡ 1 → new ≡ token_kept d old d.progress.last → MovesTokenList set bytes r l moved_list old new d.progress.last
  ends_tokens none given last keeps =
      let all : (token_course d).ready ≡ (token_course moved_list).ready = rw (ready, given) refl in
      let ended : HasEnded p = record { given = omega (arith, none, given, ready); told = last } in
      record {
        stays = stays (λ more. absurd (omega (arith, more, none, given, ready))) (inl ended);
        tells = tells_end (token_course l) (token_course d) is_ready (λ (x : TokenItem). x ≡ token_of new) (λ n. new ≡ token_kept moved_list old n) p (token_course moved_list).ready none all ended keeps;
        ended = λ before. (is_ready.ends before).told;
      }

-- where memory was refused
pub keeps_tokens : (set : RegexSet) (bytes : List ℕ) (r : Request) (l m : TokenList) (old : Member) → IsTokenListOf set bytes r l → WantsMore l.progress → m ≡ record l { tokens = m.tokens }
    → MovesTokenList set bytes r l m old old 4
keeps_tokens set bytes r l m old is wants e = subst (λ (x : TokenList). MovesTokenList set bytes r l x old old 4) (sym e) (record {
  stays = record {
    of_set = is.of_set;
    of_bytes = is.of_bytes;
    of_text = is.of_text;
    of_request = is.of_request;
    room = is.room;
    found = λ more. (let none = wants.given in absurd (omega (arith, more, none)));
    follows = elim is.follows [ inl ended ↦ inl ended | inr follows ↦ inr (follows_on (token_course l) l.progress (token_course (record l { tokens = m.tokens })).ready refl follows) ];
  };
  tells = tells_memory (token_course l) (token_course (record l { tokens = m.tokens })) (λ (x : TokenItem). x ≡ token_of old) (λ n. old ≡ token_kept l old n) wants
      (ap (λ (z : List TokenItem). z ++ (token_course l).further) (no_tokens_ready l wants.given ∙ sym (no_tokens_ready (record l { tokens = m.tokens }) wants.given))) refl refl;
  ended = λ ended. (let told = ended.told in let more = wants.goes_on in absurd (omega (arith, told, more)));
})

-- what is kept of the token that is handed in, where none is written
pub kept_token : (l : TokenList) (old : Member) (answer : ℕ) → (answer ≡ 12 → ⊥) → old ≡ token_kept l old answer
kept_token l old answer other = elim (eqb_tells answer 12) [ inl unmatched ↦ absurd (other unmatched.1) | inr is ↦ rw is.0 refl ]

same_left : (s t : RegexSet) (x y : List ℕ) (q r : Request) → s ≡ t → x ≡ y → q ≡ r → tokens_from (asked_of_set s x q) q.start ≡ tokens_from (asked_of_set t y r) r.start
same_left s t x y q r e f d = rw (e, f, d) refl

-- a list that is begun
pub new_tokens : (set : RegexSet) (bytes : List ℕ) (r : Request) (l : TokenList) → l.set.value ≡ set → owned_bytes l.haystack ≡ bytes → is_owned_text l.haystack ≡ says_text r → l.request ≡ r
    → l.progress ≡ record { ready = 0; given = 0; room = 8; last = 0 } → IsNewTokenListOf set bytes r l
new_tokens set bytes r l of_set of_bytes of_text of_request begins =
    let ready = ap (λ (p : Progress). p.ready) begins in
    let given = ap (λ (p : Progress). p.given) begins in
    let room = ap (λ (p : Progress). p.room) begins in
    let last = ap (λ (p : Progress). p.last) begins in
    record {
      list = record {
        of_set = of_set;
        of_bytes = of_bytes;
        of_text = of_text;
        of_request = of_request ∙ ap (λ (q : Request). record r { start = q.start }) (sym of_request);
        room = omega (arith, room);
        found = λ some. absurd (omega (arith, some, ready, given));
        follows = inr (goes_on last);
      };
      all = ap (λ (z : List TokenItem). z ++ (token_course l).further) (no_tokens_ready l (omega (arith, ready, given))) ∙ same_left l.set.value set (owned_bytes l.haystack) bytes l.request r of_set of_bytes of_request;
      unended = λ ended. (let told = ended.told in absurd (omega (arith, told, last)));
    }
