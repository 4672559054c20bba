use Rattle.std.proofs.Common.{ℕ, List, inr, sym, ap, ◌∙◌, refl}
use Rattle.std.specs.Borrow.{Bor}
use Rattle.fancy_core.proofs.RefusedFromLemmas.{search_refused}
use Rattle.fancy_core.proofs.ReplaceLemmas.{one_taken}
use Rattle.fancy_core.proofs.AllowedLemmas.{allows_reached, allows_ended, allows_further, allows_moved}
use Rattle.fancy_core.specs.Rewriting.{next_of, rewriting_regex, rewriting_text}
use Rattle.fancy_core.specs.Regexes.{program_in}
use Rattle.fancy_search.proofs.HeldLemmas.{held_item}
use Rattle.fancy_search.specs.Searchers.{standing_of, left_of}
use Rattle.fancy_core.proofs.rewriting.Rewriting.next_match.Goals as goal

pub returns-in_ok-push_str-in-Some-Ok-clause-steps : goal.returns-in_ok-push_str-in-Some-Ok-clause-steps
returns-in_ok-push_str-in-Some-Ok-clause-steps c =
    rw c.one_fewer-self.ensures
    (one_taken c.args.self.now.left _ _ _ (sym c.is_reached.ensures ∙ c.if-is_reached.false) (rw c.in-Some-Ok.field-0-is at c.in-Some-Ok.ensures.steps))

pub returns-in_ok-push_str-in-Some-Ok-clause-held : goal.returns-in_ok-push_str-in-Some-Ok-clause-held
returns-in_ok-push_str-in-Some-Ok-clause-held c asks =
    held_item c.next_item.new.cache (next_of c.args.self.now) c.in-Some-Ok.item (rw c.in-Some-Ok.field-0-is at (c.in-Some-Ok.ensures.groups_held asks))

pub returns-in-Some-Err-clause-refused : goal.returns-in-Some-Err-clause-refused
returns-in-Some-Err-clause-refused c =
    let steps = rw c.in-Some-Err.field-0-is at c.in-Some-Err.ensures.steps in
    let going = c.in-Some-Err.ensures.open in
    let before = c.args.self.now in
    inr (sym c.is_reached.ensures ∙ c.if-is_reached.false, search_refused (rewriting_regex before) (rewriting_text before) before.searcher.request (standing_of before.searcher) before.last before.left c.in-Some-Err.error before.of_text refl going (before.before going) steps.0)

pub returns-then-is_reached-clause-allowed : goal.returns-then-is_reached-clause-allowed
returns-then-is_reached-clause-allowed c = allows_reached _ _ c.args.self.now.left _ _ (sym c.is_reached.ensures ∙ c.if-is_reached.true)

pub returns-in-None-clause-allowed : goal.returns-in-None-clause-allowed
returns-in-None-clause-allowed c = allows_ended _ _ c.args.self.now.left _ _ c.in-None.ensures.steps.0 c.in-None.ensures.allowed

pub returns-in_ok-push_str-in-Some-Ok-clause-allowed : goal.returns-in_ok-push_str-in-Some-Ok-clause-allowed
returns-in_ok-push_str-in-Some-Ok-clause-allowed c later =
    let before = c.args.self.now in
    let after = c.next_item.new.self in
    let steps = rw c.in-Some-Ok.field-0-is at c.in-Some-Ok.ensures.steps in
    let stands = rw c.in-Some-Ok.field-0-is at c.in-Some-Ok.ensures.goes_on in
    let allowed = rw c.in-Some-Ok.field-0-is at c.in-Some-Ok.ensures.allowed in
    allows_further _ _ before.left (standing_of before.searcher) (standing_of after) _ _ (left_of (program_in before.regex.now) after) (sym c.is_reached.ensures ∙ c.if-is_reached.false) steps stands allowed
    (allows_moved (program_in before.regex.now) (rewriting_text before) after.haystack.now before.searcher.request after.request _ _ _ (ap (λ (h : Bor (List ℕ)). h.now) c.next_item.ensures.haystack) c.next_item.ensures.request (rw c.one_fewer-self.ensures at later))
