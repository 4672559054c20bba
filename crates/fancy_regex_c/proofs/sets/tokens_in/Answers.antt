use Rattle.std.proofs.Common.{◌≡◌, ◌∙◌, ◌<◌, ◌≤◌, ◌∷◌, [], ◌++◌, List, refl, sym, ap, arith, inl, inr}
use Rattle.std.proofs.Math.Nat.{max-zero}
use Rattle.fancy_regex.specs.declared.Request.{Request as Asked}
use Rattle.fancy_regex.specs.Requests.{effective_start}
use Rattle.fancy_regex.specs.SetMembers.{SetQuery}
use Rattle.fancy_regex.specs.TokenLists.{token_query, token_pattern, token_place, tokens_left}
use Rattle.fancy_regex.specs.Tokens.{TokenItem, tokens_from}
use Rattle.fancy_regex_c.specs.declared.plain.Member.{Member}
use Rattle.fancy_regex_c.specs.Handed.{handed_bytes}
use Rattle.fancy_regex_c.specs.Asked.{asked_of_set}
use Rattle.fancy_regex_c.specs.TokenGiving.{token_of, is_given, is_full, is_ended, is_refused}
use Rattle.fancy_regex_c.proofs.TokenLemmas.{asks_same, left_is, length_more, gives_none, gives_token}
use Rattle.fancy_regex_c.proofs.sets.tokens_in.Goals as goal

pub loop-index-init : goal.loop-index-init
loop-index-init c =
    let e = c.tokens-list.ensures in
    record {
      asked = rw (e.of_set, e.of_haystack, e.of_request, c.in-Ok.ensures.haystack, c.in-Ok.ensures.request) refl;
      unended = e.goes_on;
      place = e.begins ∙ (ap (λ (r : Asked). effective_start r) c.in-Ok.ensures.request ∙ max-zero c.args.request.now.start);
      given = ([], refl, gives_none (asked_of_set c.args.set.now (handed_bytes c.args.haystack) c.args.request.now) c.args.tokens.now c.args.request.now);
    }

pub loop-index-preserved : goal.loop-index-preserved
loop-index-preserved c =
    let q = asked_of_set c.args.set.now (handed_bytes c.args.haystack) c.args.request.now in
    let s = c.loop-index.list in
    let t = c.next.new.self in
    let inv = c.loop-index.invariant in
    let steps = rw c.in-Some-Ok.field-0-is at c.in-Some-Ok.ensures.steps in
    let gives = steps.answers in
    let m : Member = record { pattern = c.pattern.result; start = c.place-start.result; end = c.place.result } in
    let asked : token_query handed_bytes t ≡ q = asks_same s t steps.same_set steps.same_haystack steps.same_request ∙ inv.asked in
    let place : token_place t ≡ c.place-request.result = sym c.place-request.ensures in
    let item : record { pattern = token_pattern c.in-Some-Ok.token; start = token_place s; end = token_place t } ≡ token_of m = rw (c.pattern.ensures, c.place-start.ensures, c.place.ensures) refl in
    let before : tokens_left handed_bytes s ≡ tokens_from q c.loop-index.request.start = left_is s q c.loop-index.request.start inv.unended inv.asked inv.place in
    let after : tokens_left handed_bytes t ≡ tokens_from q c.place-request.result = left_is t q c.place-request.result gives.goes_on asked place in
    let first : tokens_from q c.loop-index.request.start ≡ token_of m ∷ tokens_from q c.place-request.result =
    sym before ∙ (gives.first ∙ (ap (λ (x : TokenItem). x ∷ tokens_left handed_bytes t) item ∙ ap (λ (xs : List TokenItem). token_of m ∷ xs) after)) in
    record {
      asked = asked;
      unended = gives.goes_on;
      place = place;
      given = (
        inv.given.0 ++ (m ∷ []),
        length_more inv.given.0 m c.loop-index.index inv.given.1,
        gives_token q c.args.tokens.now c.args.request.now inv.given.0 c.loop-index.tokens c.loop-index.request
            (record c.loop-index.request { start = c.place-request.result }) c.loop-index.written c.loop-index.index m inv.given.2 inv.given.1 c.loop-index-test.true first refl,
      );
    }

pub returns-in-Some-Err : goal.returns-in-Some-Err
returns-in-Some-Err c =
    let q = asked_of_set c.args.set.now (handed_bytes c.args.haystack) c.args.request.now in
    let inv = c.loop-index.invariant in
    let steps = rw c.in-Some-Err.field-0-is at c.in-Some-Err.ensures.steps in
    let refuses = steps.answers in
    let s = c.loop-index.list in
    let at = inv.place in
    let range : (token_query handed_bytes s).request.range_end ≡ q.request.range_end = ap (λ (x : SetQuery). x.request.range_end) inv.asked in
    let bound : token_place s < (token_query handed_bytes s).request.range_end = refuses.inside in
    let inside : c.loop-index.request.start < q.request.range_end = omega (arith, bound, range, at) in
    let why = rw (inv.asked, inv.place) at refuses.why in
    is_given c.in-Ok.ensures.place inv.given.0 inv.given.2 (is_refused (c.in-Some-Err.error, c.answer_of.ensures.value, record { inside = inside; why = why }))

pub returns-in-None : goal.returns-in-None
returns-in-None c =
    let inv = c.loop-index.invariant in
    let unended = inv.unended in
    let q = asked_of_set c.args.set.now (handed_bytes c.args.haystack) c.args.request.now in
    let s = c.loop-index.list in
    let at = inv.place in
    let range : (token_query handed_bytes s).request.range_end ≡ q.request.range_end = ap (λ (x : SetQuery). x.request.range_end) inv.asked in
    let ends = c.in-None.ensures.steps.answers in
    is_given c.in-Ok.ensures.place inv.given.0 inv.given.2 (is_ended refl (elim ends.why [
      | inl ended ↦ absurd (cc)
      | inr past ↦ (let bound : (token_query handed_bytes s).request.range_end ≤ token_place s = past in omega (arith, bound, range, at))
    ]))

pub returns : goal.returns
returns c =
    let inv = c.loop-index.invariant in
    let past = c.loop-index-test.false in
    let within = c.loop-index.auto.index-end in
    let long = inv.given.1 in
    is_given c.in-Ok.ensures.place inv.given.0 inv.given.2 (is_full refl (omega (arith, past, within, long)))
