use Rattle.std.proofs.Common.{rules, false, List, ℕ, ◌≡◌, [], ◌∷◌, ◌++◌, string_bytes, slice_range, None, refl, inl, sym, ◌∙◌, ap}
use Rattle.std.specs.Prelude.{◌⊎◌}
use Rattle.std.proofs.lemmas.Result.{err_from_is_err_and}
use Rattle.fancy_tree.specs.declared.error.Error.TheVariants.{Memory}
use Rattle.fancy_search.specs.FoundItems.{item_in}
use Rattle.fancy_search.specs.MatchList.{MatchItem, start_of}
use Rattle.fancy_core.specs.ItemLimits.{is_reached}
use Rattle.fancy_core.specs.Replacing.{IsRefusedFrom}
use Rattle.fancy_core.specs.Rewriting.{next_of, rewriting_regex, rewriting_text, todo_of}
use Rattle.fancy_search.proofs.ResultLemmas.{if_ok, if_err}
use Rattle.fancy_core.proofs.ReplaceLemmas.{filling, Goes, goes_first, goes_on, goes_over, goes_last, goes_found, goes_stopped, fills_stopped, refused_same, one_done, none_is, borrowed_is, same_fills}
use Rattle.fancy_core.proofs.AllowedLemmas.{of_answer}
use Rattle.fancy_core.proofs.regex.Regex.fill.Goals as goal

pub matches-init : goal.matches-init
matches-init c = record {
  regex = c.new-rewriting.ensures.regex;
  text = c.new-rewriting.ensures.text;
  allowed = c.new-rewriting.ensures.allowed;
  goes = goes_first (filling c.args.self.now c.args.text.now c.args.limit) _ _ _ _ _ _ c.new-rewriting.ensures.todo c.new-rewriting.ensures.out c.new-rewriting.ensures.last c.new-rewriting.ensures.found c.new-rewriting.ensures.left;
}

pub matches-preserved : goal.matches-preserved
matches-preserved c =
    let item = c.in-Some.field-0 in
    let before = c.matches.rewriting in
    let match = c.next_match.new.self in
    let after = c.push.new.self in
    let stays = c.in_ok-push.ensures.stays in
    let steps = rw c.in-Some.is at c.in_ok-next_match.ensures.steps in
    let written = rw c.in-Some.is at c.in_ok-next_match.ensures.written in
    let last = rw c.in-Some.is at c.in_ok-next_match.ensures.last in
    let found = rw c.in-Some.is at c.in_ok-next_match.ensures.found in
    let left = rw c.in-Some.is at c.in_ok-next_match.ensures.left in
    let todo : todo_of before ≡ item_in match.cache (next_of before) item ∷ todo_of after = steps ∙ ap (λ (z : List MatchItem). item_in match.cache (next_of before) item ∷ z) (sym stays.todo) in
    let part : string_bytes match.out ≡ string_bytes before.out ++ slice_range c.args.text.now before.last (start_of (item_in match.cache (next_of before) item)) = written ∙ ap (λ (z : List ℕ). string_bytes before.out ++ slice_range z before.last item.found.start) c.matches.invariant.text in
    let more : string_bytes after.out ≡ (string_bytes before.out ++ slice_range c.args.text.now before.last (start_of (item_in match.cache (next_of before) item))) ++ c.args.fixed.now = c.in_ok-push.ensures.ok ∙ ap (λ (z : List ℕ). z ++ c.args.fixed.now) part in
    record {
      regex = stays.regex ∙ (c.in_ok-next_match.ensures.regex ∙ c.matches.invariant.regex);
      text = stays.text ∙ (c.in_ok-next_match.ensures.text ∙ c.matches.invariant.text);
      allowed = λ later. c.matches.invariant.allowed ((rw c.in-Some.is at c.in_ok-next_match.ensures.allowed) (stays.allowed later));
      goes = goes_on (filling c.args.self.now c.args.text.now c.args.limit) _ _ _ _ _ _ _ _ _ _ _ (item_in match.cache (next_of before) item) _ _ _ c.args.fixed.now todo refl (refl, refl) more (stays.last ∙ last) (stays.found ∙ found) (stays.left ∙ left) c.matches.invariant.goes;
    }

pub matches-smaller : goal.matches-smaller
matches-smaller c = one_done _ _ _ (rw c.in-Some.is at c.in_ok-next_match.ensures.steps ∙ ap (λ (z : List MatchItem). item_in c.next_match.new.self.cache (next_of c.matches.rewriting) c.in-Some.field-0 ∷ z) (sym c.in_ok-push.ensures.stays.todo))

pub returns : goal.returns
returns c =
    let none = none_is c.in_ok-next_match.field-0 c.in_default.not-Some in
    let text : rewriting_text c.next_match.new.self ≡ c.args.text.now = c.in_ok-next_match.ensures.text ∙ c.matches.invariant.text in
    let goes : Goes (filling c.args.self.now c.args.text.now c.args.limit) c.args.fixed.now c.args.fixed.now (string_bytes c.next_match.new.self.out) c.next_match.new.self.last c.next_match.new.self.found c.matches.rewriting.left [] = goes_over (filling c.args.self.now c.args.text.now c.args.limit) _ _ _ _ _ _ _ _ _ _ (rw none at c.in_ok-next_match.ensures.steps) (ap string_bytes (rw none at c.in_ok-next_match.ensures.written)) (rw none at c.in_ok-next_match.ensures.last) (rw none at c.in_ok-next_match.ensures.found) c.matches.invariant.goes in
    record {
      borrowed = borrowed_is c.finish.result _ _ _ c.finish.ensures.borrowed (goes_found (filling c.args.self.now c.args.text.now c.args.limit) _ _ _ _ _ _ goes);
      kept = search rules;
      text = if_ok _ _ (λ _ w. same_fills _ _ _ _ _ _ (goes_last (filling c.args.self.now c.args.text.now c.args.limit) _ _ _ _ _ _ _ refl (rw text at w) goes)) c.finish.result c.finish.ensures.value;
      allowed = of_answer _ (c.matches.invariant.allowed (rw none at c.in_ok-next_match.ensures.allowed)) c.finish.result;
      refused = if_err _ _ (λ e w. fills_stopped _ _ _ _ _ e (goes_stopped (filling c.args.self.now c.args.text.now c.args.limit) _ _ _ _ _ _ _ e refl (inl w) goes)) c.finish.result c.finish.ensures.refused;
    }

pub returns-in_err-next_match-clause-refused : goal.returns-in_err-next_match-clause-refused
returns-in_err-next_match-clause-refused c =
    let q = err_from_is_err_and c.from_residual.result c.from_residual.ensures.1 in
    let before = c.matches.rewriting in
    let refused : (q.0 ≡ Memory) ⊎ ((is_reached before.left ≡ false) × IsRefusedFrom c.args.self.now c.args.text.now before.last (todo_of before) q.0) = refused_same (rewriting_regex before) c.args.self.now (rewriting_text before) c.args.text.now before.last before.left (todo_of before) q.0 c.matches.invariant.regex c.matches.invariant.text (rw q.2 c.in_err-next_match.ensures.refused) in
    rw q.1 (fills_stopped c.args.fixed.now c.args.fixed.now c.args.self.now c.args.text.now c.args.limit q.0 (goes_stopped (filling c.args.self.now c.args.text.now c.args.limit) c.args.fixed.now c.args.fixed.now (string_bytes before.out) before.last before.found before.left (todo_of before) q.0 refl refused c.matches.invariant.goes))

pub returns-in_err-push-clause-refused : goal.returns-in_err-push-clause-refused
returns-in_err-push-clause-refused c =
    let q = err_from_is_err_and c.from_residual-in_err-push.result c.from_residual-in_err-push.ensures.1 in
    let before = c.matches.rewriting in
    rw q.1 (fills_stopped c.args.fixed.now c.args.fixed.now c.args.self.now c.args.text.now c.args.limit q.0 (goes_stopped (filling c.args.self.now c.args.text.now c.args.limit) c.args.fixed.now c.args.fixed.now (string_bytes before.out) before.last before.found before.left (todo_of before) q.0 refl (inl (rw q.2 c.in_err-push.ensures.refused)) c.matches.invariant.goes))
