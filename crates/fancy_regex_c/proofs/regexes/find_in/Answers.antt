use Rattle.std.proofs.Common.{◌≡◌, ◌∙◌, ℕ, List, refl, sym, ap, subst}
use Rattle.fancy_regex.specs.declared.Request.{Request}
use Rattle.fancy_regex.specs.Inputs.{haystack_in, request_in}
use Rattle.fancy_regex.specs.Limited.{Allows}
use Rattle.fancy_regex.specs.Regexes.{query}
use Rattle.fancy_regex.specs.Search.{Query}
use Rattle.fancy_regex.specs.Searches.{first_match}
use Rattle.fancy_regex_c.specs.Answers.{is_done, is_none}
use Rattle.fancy_regex_c.specs.Handed.{handed_bytes}
use Rattle.fancy_regex_c.specs.Searches.{asked_of}
use Rattle.fancy_regex_c.proofs.regexes.find_in.Goals as goal

pub returns-in-Ok-Some-clause-answer : goal.returns-in-Ok-Some-clause-answer
returns-in-Ok-Some-clause-answer c =
    let regex = c.args.regex.now in
    let hay = c.args.haystack.now in
    let e : query regex (handed_bytes (haystack_in c.in-Ok.input)) (request_in c.in-Ok.input) ≡ asked_of regex hay c.args.request =
    ap (λ (b : List ℕ). query regex b (request_in c.in-Ok.input)) c.in-Ok.ensures.bytes ∙ ap (λ (r : Request). query regex hay r) c.in-Ok.ensures.request in
    let allowed : Allows regex (asked_of regex hay c.args.request) = subst (λ (q : Query). Allows regex q) e c.in-Ok-Some.ensures.allowed in
    let told = sym (rw c.in-Ok-Some.field-0-is at c.in-Ok-Some.ensures.found ∙ ap first_match e) in
    is_done refl c.in-Ok.ensures.said c.in-Ok.ensures.place (allowed, rw (c.start.ensures, c.end.ensures) told)

pub returns-in-Ok-None-clause-answer : goal.returns-in-Ok-None-clause-answer
returns-in-Ok-None-clause-answer c =
    let regex = c.args.regex.now in
    let hay = c.args.haystack.now in
    let e : query regex (handed_bytes (haystack_in c.in-Ok.input)) (request_in c.in-Ok.input) ≡ asked_of regex hay c.args.request =
    ap (λ (b : List ℕ). query regex b (request_in c.in-Ok.input)) c.in-Ok.ensures.bytes ∙ ap (λ (r : Request). query regex hay r) c.in-Ok.ensures.request in
    let allowed : Allows regex (asked_of regex hay c.args.request) = subst (λ (q : Query). Allows regex q) e c.in-Ok-None.ensures.allowed in
    is_none refl c.in-Ok.ensures.said c.in-Ok.ensures.place (allowed, sym (rw c.in-Ok-None.field-0-is at c.in-Ok-None.ensures.found ∙ ap first_match e))
