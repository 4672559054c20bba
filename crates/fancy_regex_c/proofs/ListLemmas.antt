-- The matches of a list, one after another.
use Rattle.std.proofs.Common.{◌≡◌, ◌∙◌, ◌<◌, ◌+◌, ◌^◌, ◌⊎◌, ℕ, suc, Bool, false, List, [], ◌∷◌, ◌++◌, length, drop, set, get_or, refl, sym, ap, subst, arith, append_assoc, drop-cons, inl, inr}
use Rattle.std.proofs.lemmas.Bool.Decides.{eqb_tells}
use Rattle.std.proofs.lemmas.List.{length-append, set_at}
use Rattle.fancy_regex.specs.declared.Error.{Error}
use Rattle.fancy_regex.specs.declared.Matches.{Matches}
use Rattle.fancy_regex.specs.declared.Onward.{Onward}
use Rattle.fancy_regex.specs.declared.Regex.{Regex}
use Rattle.fancy_regex.specs.declared.Request.{Request as Asked}
use Rattle.fancy_regex.specs.Iterations.{regex_in, haystack_of, next_request, has_ended, onward_of, left_in, refuses_next, allows_next, StaysAsked}
use Rattle.fancy_regex.specs.MatchList.{MatchItem}
use Rattle.fancy_regex.specs.Regexes.{program_in, group_count_in}
use Rattle.fancy_regex.specs.Remaining.{scan, items_left, refused_next, allowed_next}
use Rattle.fancy_regex.proofs.OnwardLemmas.{none_onward_past}
use Rattle.fancy_regex_c.specs.declared.handed.Handed.{Handed}
use Rattle.fancy_regex_c.specs.declared.plain.Request.{Request}
use Rattle.fancy_regex_c.specs.declared.plain.Span.{Span}
use Rattle.fancy_regex_c.specs.Asked.{asked, onward_from, says_text, IsAsSaid}
use Rattle.fancy_regex_c.specs.Handed.{handed_bytes, is_handed_text}
use Rattle.fancy_regex_c.specs.Lists.{Listing, listed, spans_told, rows_told, AsksTheSame, GivesItem, GivesItems, Leaves, goes_on, ends, TellsSpansIn, TellsSpans, TellsRowsIn, TellsRows, is_read}

module _ {A : Type 0} (list : Listing A) where
  -- one more is given
  pub gives_last : (items : List A) (x : A) (r s t : Request) → GivesItems list items r s → GivesItem list x s t → GivesItems list (items ++ (x ∷ [])) r t
  gives_last [] x r s t e gives = (t, subst (λ (q : Request). GivesItem list x q t) (sym e) gives, refl)
  gives_last (i ∷ items) x r s t (next, first, rest) gives = (next, first, gives_last items x next s t rest gives)

  -- those that are given come first, and then those that are ahead
  pub given_order : (items : List A) (r s : Request) → GivesItems list items r s → list.ahead r ≡ items ++ list.ahead s
  given_order [] r s e = ap list.ahead e
  given_order (i ∷ items) r s (next, first, rest) = first.first ∙ ap (λ (z : List A). i ∷ z) (given_order items next s rest)

  pub given_same : (items : List A) (r s : Request) → GivesItems list items r s → AsksTheSame r s
  given_same [] r s e = subst (λ (q : Request). AsksTheSame q s) (sym e) refl
  given_same (i ∷ items) r s (next, first, rest) = given_same items next s rest ∙ ap (λ (q : Request). record q { start = s.start; standing = s.standing }) first.same

-- The list is of this regex and this haystack, and goes on from this request.
pub record StandsAt {g : _} (m : Matches Handed g) (regex : Regex) (h : Handed) (at : Request) : Type 0 where
  pub of_regex : regex_in m ≡ regex
  pub of_haystack : haystack_of m ≡ h
  pub of_request : next_request m ≡ asked at
  pub onward : onward_of m ≡ onward_from at.standing
  pub unended : has_ended m ≡ false

-- what is told of the matches that are left, by all that they hang on
abbrev told_left : {A : Type 0} → (Regex → List MatchItem → List A) → Regex → Handed → Asked → Onward → Bool → List A
told_left tell regex h r o ended =
    tell regex (items_left (scan (program_in regex) (is_handed_text h) (handed_bytes h) r) (record { start = r.start; continues = o.continues; skips_empty = o.skips_empty; ended = ended }))

same_told : {A : Type 0} (tell : Regex → List MatchItem → List A) (s t : Regex) (h k : Handed) (r u : Asked) (o p : Onward) (b c : Bool)
    → s ≡ t → h ≡ k → r ≡ u → o ≡ p → b ≡ c → told_left tell s h r o b ≡ told_left tell t k u p c
same_told tell s t h k r u o p b c e f d w x = rw (e, f, d, w, x) refl

abbrev refused_by : Error → Regex → Handed → Asked → Onward → Bool → Type 0
refused_by e regex h r o ended =
    refused_next (program_in regex) (is_handed_text h) (handed_bytes h) r (record { start = r.start; continues = o.continues; skips_empty = o.skips_empty; ended = ended }) e

same_refused : (e : Error) (s t : Regex) (h k : Handed) (r u : Asked) (o p : Onward) (b c : Bool)
    → s ≡ t → h ≡ k → r ≡ u → o ≡ p → b ≡ c → refused_by e s h r o b → refused_by e t k u p c
same_refused e s t h k r u o p b c a f d w x q = rw (← a, ← f, ← d, ← w, ← x) q

abbrev allowed_by : Regex → Handed → Asked → Onward → Bool → Type 0
allowed_by regex h r o ended =
    allowed_next (program_in regex) (is_handed_text h) (handed_bytes h) r (record { start = r.start; continues = o.continues; skips_empty = o.skips_empty; ended = ended })

same_allowed : (s t : Regex) (h k : Handed) (r u : Asked) (o p : Onward) (b c : Bool)
    → s ≡ t → h ≡ k → r ≡ u → o ≡ p → b ≡ c → allowed_by s h r o b → allowed_by t k u p c
same_allowed s t h k r u o p b c a f d w x q = rw (← a, ← f, ← d, ← w, ← x) q

module _ {A : Type 0} {g : _} (tell : Regex → List MatchItem → List A) (m : Matches Handed g) (regex : Regex) (h : Handed) (at : Request) (s : StandsAt m regex h at) where
  abbrev ahead_of : Listing A
  ahead_of = listed (tell regex) regex (is_handed_text h) (handed_bytes h)

  -- what is left is what is ahead
  pub left_is_ahead : tell (regex_in m) (left_in is_handed_text handed_bytes m) ≡ ahead_of.ahead at
  left_is_ahead =
      same_told tell (regex_in m) regex (haystack_of m) h (next_request m) (asked at) (onward_of m) (onward_from at.standing) (has_ended m) false s.of_regex s.of_haystack s.of_request s.onward s.unended

  pub refused_ahead : (e : Error) → refuses_next is_handed_text handed_bytes m e → ahead_of.refuses at e
  refused_ahead e refused =
      same_refused e (regex_in m) regex (haystack_of m) h (next_request m) (asked at) (onward_of m) (onward_from at.standing) (has_ended m) false s.of_regex s.of_haystack s.of_request s.onward s.unended refused

  pub allowed_ahead : allows_next is_handed_text handed_bytes m → ahead_of.allows at
  allowed_ahead allowed =
      same_allowed (regex_in m) regex (haystack_of m) h (next_request m) (asked at) (onward_of m) (onward_from at.standing) (has_ended m) false s.of_regex s.of_haystack s.of_request s.onward s.unended allowed

  pub none_left_ahead : left_in is_handed_text handed_bytes m ≡ [] → tell (regex_in m) [] ≡ [] → ahead_of.ahead at ≡ []
  none_left_ahead none nothing = sym left_is_ahead ∙ (ap (tell (regex_in m)) none ∙ nothing)

-- the end of what a list searches is within a haystack
pub end_is_short : {g : _} (m : Matches Handed g) (regex : Regex) (h : Handed) (at : Request) → StandsAt m regex h at → at.end < 2 ^ 63
end_is_short m regex h at s =
    let short = m.searcher.short in
    let inside = m.searcher.inside in
    let range : (next_request m).range_end ≡ at.end = ap (λ (r : Asked). r.range_end) s.of_request in
    omega (arith, short, inside, range)

-- where a call leaves the request whose list has come to `at`
module _ {A : Type 0} (tell : List MatchItem → List A) (regex : Regex) (text : Bool) (bytes : List ℕ) (at after : Request) (answer : ℕ) (nothing : tell [] ≡ [])
    (short : (answer ≡ 3 → ⊥) → at.end < 2 ^ 63) (left : (answer ≡ 0) ⊎ (answer ≡ 3) → after ≡ at) (moved : after ≡ record at { start = after.start })
    (past : (answer ≡ 0 → ⊥) → (answer ≡ 3 → ⊥) → after.start ≡ 18446744073709551615) where
  -- past the last place nothing is ahead
  none_ahead : at.end < 2 ^ 63 → after.start ≡ 18446744073709551615 → (listed tell regex text bytes).ahead after ≡ []
  none_ahead near far =
      let end : after.end ≡ at.end = ap (λ (r : Request). r.end) moved in
      let past_end : after.end < after.start = omega (arith, near, end, far) in
      ap tell (none_onward_past regex text bytes (asked after) (onward_from after.standing) past_end) ∙ nothing

  pub leaves : Leaves (listed tell regex text bytes) at after answer
  leaves =
      elim (eqb_tells answer 0) [
        | inl done ↦ goes_on (inl done.1) (left (inl done.1))
        | inr other ↦ elim (eqb_tells answer 3) [
          | inl no_place ↦ goes_on (inr no_place.1) (left (inr no_place.1))
          | inr ended ↦ ends other.1 ended.1 (moved ∙ ap (λ (n : ℕ). record at { start = after.start; standing = n }) (sym (ap (λ (r : Request). r.standing) moved)))
              (none_ahead (short ended.1) (past other.1 ended.1))
        ]
      ]

-- the list after a call of it, which goes on from another request
module _ {g : _} (m t : Matches Handed g) (regex : Regex) (h : Handed) (at next : Request) (s : StandsAt m regex h at) (same : StaysAsked m t) (unended : has_ended t ≡ false)
    (start : ℕ) (from : start ≡ (next_request t).start) (moved : next ≡ record at { start = start; standing = next.standing }) (onward : onward_from next.standing ≡ onward_of t) where
  pub asks_next : AsksTheSame at next
  asks_next = moved ∙ ap (λ (n : ℕ). record at { start = n; standing = next.standing }) (sym (ap (λ (r : Request). r.start) moved))

  pub stands_next : StandsAt t regex h next
  stands_next = record {
    of_regex = same.same_regex ∙ s.of_regex;
    of_haystack = same.same_text ∙ s.of_haystack;
    of_request = same.same_request ∙ (ap (λ (q : Asked). record q { start = (next_request t).start }) s.of_request
        ∙ (ap (λ (n : ℕ). asked (record at { start = n; standing = next.standing })) (sym from) ∙ ap asked (sym moved)));
    onward = sym onward;
    unended = unended;
  }

  -- and what it gave
  pub gives_next : {A : Type 0} (tell : Regex → List MatchItem → List A) (x : A)
      → tell (regex_in m) (left_in is_handed_text handed_bytes m) ≡ x ∷ tell (regex_in t) (left_in is_handed_text handed_bytes t) → allows_next is_handed_text handed_bytes m
      → GivesItem (listed (tell regex) regex (is_handed_text h) (handed_bytes h)) x at next
  gives_next {A} tell x first allowed = record {
    allowed = allowed_ahead tell m regex h at s allowed;
    first = sym (left_is_ahead tell m regex h at s) ∙ (first ∙ ap (λ (z : List A). x ∷ z) (left_is_ahead tell t regex h next stands_next));
    same = asks_next;
  }

-- How far a list is given: these are in the buffer, so many, and it has come to this request by them.
pub record Goes {A : Type 0} (list : Listing A) (before at : Request) (old now : List A) (count : ℕ) : Type 0 where
  pub given : List A
  pub gives : GivesItems list given before at
  pub counted : length given ≡ count
  pub put : now ≡ given ++ drop count old

pub goes_more : {A : Type 0} (list : Listing A) (before at next : Request) (old now : List A) (count : ℕ) (x : A) → GivesItem list x at next → count < length old
    → Goes list before at old now count → Goes list before next old (set now count x) (count + 1)
goes_more {A} list before at next old now count x gives room g =
    let d = get_or old count x in
    let more : suc count ≡ count + 1 = omega arith in
    let there : now ≡ g.given ++ (d ∷ drop (suc count) old) = g.put ∙ ap (λ (z : List A). g.given ++ z) (drop-cons old count x room) in
    record {
      given = g.given ++ (x ∷ []);
      gives = gives_last list g.given x before at next g.gives gives;
      counted = length-append g.given (x ∷ []) ∙ ap (λ (n : ℕ). n + 1) g.counted;
      put = ap (λ (z : List A). set z count x) there ∙ (set_at g.given d (drop (suc count) old) x count g.counted ∙ (sym (append_assoc g.given (x ∷ []) (drop (suc count) old)) ∙ ap (λ (n : ℕ). (g.given ++ (x ∷ [])) ++ drop n old) more));
    }

-- what is told where the bytes are what the request says
module _ (regex : Regex) (bytes : List ℕ) (before at after : Request) (old new : List Span) (written answer : ℕ) (said : IsAsSaid bytes before)
    (short : (answer ≡ 3 → ⊥) → at.end < 2 ^ 63) (left : (answer ≡ 0) ⊎ (answer ≡ 3) → after ≡ at) (moved : after ≡ record at { start = after.start })
    (past : (answer ≡ 0 → ⊥) → (answer ≡ 3 → ⊥) → after.start ≡ 18446744073709551615) where
  pub tells_spans : TellsSpansIn regex (says_text before) bytes before at old new written answer → TellsSpans regex bytes before after old new written answer
  tells_spans tells = is_read said at tells (leaves spans_told regex (says_text before) bytes at after answer refl short left moved past)

  pub tells_rows : TellsRowsIn regex (says_text before) bytes before at old new written answer → TellsRows regex bytes before after old new written answer
  tells_rows tells = is_read said at tells (leaves (rows_told (group_count_in regex)) regex (says_text before) bytes at after answer refl short left moved past)
