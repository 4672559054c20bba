use Rattle.std.proofs.Common.{rules, false, List, ℕ, ◌≡◌, [], ◌∷◌, ◌++◌, string_bytes, slice_range, None, refl, inl, sym, subst, ◌∙◌, ap}
use Rattle.std.specs.Prelude.{◌⊎◌}
use Rattle.std.proofs.lemmas.Result.{err_from_is_err_and}
use Rattle.fancy_tree.specs.declared.error.Error.TheVariants.{Memory}
use Rattle.fancy_search.specs.FoundItems.{item_in}
use Rattle.fancy_search.specs.MatchList.{MatchItem, start_of}
use Rattle.fancy_core.specs.ItemLimits.{is_reached}
use Rattle.fancy_core.specs.Replacing.{replacing, IsRefusedFrom, IsRefusedBetweenCalls, seen_of}
use Rattle.fancy_core.specs.Rewriting.{next_of, rewriting_regex, rewriting_text, todo_of}
use Rattle.fancy_search.proofs.ResultLemmas.{if_ok, if_err}
use Rattle.fancy_core.proofs.ReplaceLemmas.{Goes, goes_first, goes_on, goes_over, goes_last, goes_found, goes_refused, goes_stopped, refused_same, or_both, one_done, none_is, borrowed_is, seen_same}
use Rattle.fancy_core.proofs.regex.Regex.rewrite.Goals as goal

pub matches-init : goal.matches-init
matches-init g c = record {
  callable = c.requires.callable;
  regex = c.new-rewriting.ensures.regex;
  text = c.new-rewriting.ensures.text;
  asks = c.new-rewriting.ensures.asks;
  allowed = c.new-rewriting.ensures.allowed;
  goes = goes_first (replacing (λ _. None) g.R.Replacer.appends g.R.Replacer.refuses c.args.self.now c.args.text.now c.args.limit) _ _ _ _ _ _ c.new-rewriting.ensures.todo c.new-rewriting.ensures.out c.new-rewriting.ensures.last c.new-rewriting.ensures.found c.new-rewriting.ensures.left;
}

pub matches-preserved : goal.matches-preserved
matches-preserved g c =
    let item = c.in-Some.item in
    let before = c.matches.rewriting in
    let match = c.next_match.new.self in
    let after = c.push_answer.new.self in
    let stays = c.in_ok-push_answer.ensures.stays in
    let ok = c.in_ok-push_answer.ensures.ok in
    let held = rw c.in-Some.is at (c.in_ok-item.ensures.held c.matches.invariant.asks) in
    let steps = rw c.in-Some.is at c.in_ok-item.ensures.steps ∙ ap (λ (i : MatchItem). i ∷ todo_of match) held in
    let written = rw c.in-Some.is at c.in_ok-item.ensures.written in
    let last = rw c.in-Some.is at c.in_ok-item.ensures.last in
    let found = rw c.in-Some.is at c.in_ok-item.ensures.found in
    let left = rw c.in-Some.is at c.in_ok-item.ensures.left in
    let regex : rewriting_regex match ≡ c.args.self.now = c.in_ok-item.ensures.regex ∙ c.matches.invariant.regex in
    let text : rewriting_text match ≡ c.args.text.now = c.in_ok-item.ensures.text ∙ c.matches.invariant.text in
    let todo : todo_of before ≡ item_in match.cache None item ∷ todo_of after = steps ∙ ap (λ (z : List MatchItem). item_in match.cache None item ∷ z) (sym stays.todo) in
    let part : string_bytes match.out ≡ string_bytes before.out ++ slice_range c.args.text.now before.last (start_of (item_in match.cache None item)) = written ∙ ap (λ (z : List ℕ). string_bytes before.out ++ slice_range z before.last item.found.start) c.matches.invariant.text in
    let more : string_bytes after.out ≡ (string_bytes before.out ++ slice_range c.args.text.now before.last (start_of (item_in match.cache None item))) ++ ok.0 = ok.1 ∙ ap (λ (z : List ℕ). z ++ ok.0) part in
    record {
      callable = c.in_ok-push_answer.ensures.again;
      regex = stays.regex ∙ regex;
      text = stays.text ∙ text;
      asks = stays.asks ∙ c.in_ok-item.ensures.asks ∙ c.matches.invariant.asks;
      allowed = λ later. c.matches.invariant.allowed ((rw c.in-Some.is at c.in_ok-item.ensures.allowed) (stays.allowed later));
      goes = goes_on (replacing (λ _. None) g.R.Replacer.appends g.R.Replacer.refuses c.args.self.now c.args.text.now c.args.limit) _ _ _ _ _ _ _ _ _ _ _ (item_in match.cache None item) _ _ _ ok.0 todo (seen_same _ _ _ _ (item_in match.cache None item) regex text) ok.2 more (stays.last ∙ last) (stays.found ∙ found) (stays.left ∙ left) c.matches.invariant.goes;
    }

pub matches-smaller : goal.matches-smaller
matches-smaller g c = one_done _ _ _ (rw c.in-Some.is at c.in_ok-item.ensures.steps ∙ ap (λ (z : List MatchItem). item_in c.next_match.new.self.cache (next_of c.matches.rewriting) c.in-Some.item ∷ z) (sym c.in_ok-push_answer.ensures.stays.todo))

pub returns : goal.returns
returns g c =
    let none = none_is c.in_ok-item.field-0 c.in_default.not-Some in
    let text : rewriting_text c.next_match.new.self ≡ c.args.text.now = c.in_ok-item.ensures.text ∙ c.matches.invariant.text in
    let k = replacing (λ _. None) g.R.Replacer.appends g.R.Replacer.refuses c.args.self.now c.args.text.now c.args.limit in
    let goes : Goes k c.args.replacer.now c.matches.replacer (string_bytes c.next_match.new.self.out) c.next_match.new.self.last c.next_match.new.self.found c.matches.rewriting.left [] = goes_over k _ _ _ _ _ _ _ _ _ _ (rw none at c.in_ok-item.ensures.steps) (ap string_bytes (rw none at c.in_ok-item.ensures.written)) (rw none at c.in_ok-item.ensures.last) (rw none at c.in_ok-item.ensures.found) c.matches.invariant.goes in
    record {
      borrowed = borrowed_is c.finish.result _ _ _ c.finish.ensures.borrowed (goes_found k _ _ _ _ _ _ goes);
      kept = search rules;
      text = if_ok _ _ (λ _ w. (goes_last k _ _ _ _ _ _ _ refl (rw text at w) goes, c.matches.invariant.allowed (rw none at c.in_ok-item.ensures.allowed))) c.finish.result c.finish.ensures.value;
      refused = if_err _ _ (λ e w. inl (goes_stopped k _ _ _ _ _ _ _ e refl (inl w) goes)) c.finish.result c.finish.ensures.refused;
      again = search rules;
    }

pub returns-in_err-item-clause-refused : goal.returns-in_err-item-clause-refused
returns-in_err-item-clause-refused g c =
    let q = err_from_is_err_and c.from_residual.result c.from_residual.ensures.1 in
    let before = c.matches.rewriting in
    let refused : (q.0 ≡ Memory) ⊎ ((is_reached before.left ≡ false) × IsRefusedFrom c.args.self.now c.args.text.now before.last (todo_of before) q.0) = refused_same (rewriting_regex before) c.args.self.now (rewriting_text before) c.args.text.now before.last before.left (todo_of before) q.0 c.matches.invariant.regex c.matches.invariant.text (rw q.2 c.in_err-item.ensures.refused) in
    rw q.1 (inl (goes_stopped (replacing (λ _. None) g.R.Replacer.appends g.R.Replacer.refuses c.args.self.now c.args.text.now c.args.limit) c.args.replacer.now c.matches.replacer (string_bytes before.out) before.last before.found before.left (todo_of before) q.0 refl refused c.matches.invariant.goes))

pub returns-in_err-push_answer-clause-refused : goal.returns-in_err-push_answer-clause-refused
returns-in_err-push_answer-clause-refused g c =
    let q = err_from_is_err_and c.from_residual-in_err-push_answer.result c.from_residual-in_err-push_answer.ensures.1 in
    let before = c.matches.rewriting in
    let match = c.next_match.new.self in
    let item = item_in match.cache None c.in-Some.item in
    let regex : rewriting_regex match ≡ c.args.self.now = c.in_ok-item.ensures.regex ∙ c.matches.invariant.regex in
    let text : rewriting_text match ≡ c.args.text.now = c.in_ok-item.ensures.text ∙ c.matches.invariant.text in
    let seen = seen_same (rewriting_regex match) c.args.self.now (rewriting_text match) c.args.text.now item regex text in
    let k = replacing (λ _. None) g.R.Replacer.appends g.R.Replacer.refuses c.args.self.now c.args.text.now c.args.limit in
    let last = c.push_answer.new.replacer in
    rw q.1 (or_both ((q.0 ≡ Memory) × (last ≡ c.matches.replacer)) _ _ _
    (λ w. subst (λ (z : _). IsRefusedBetweenCalls k c.args.replacer.now z q.0) (sym w.1) (goes_stopped k c.args.replacer.now c.matches.replacer (string_bytes before.out) before.last before.found before.left (todo_of before) q.0 refl (inl w.0) c.matches.invariant.goes))
    (λ r. goes_refused k c.args.replacer.now c.matches.replacer last (string_bytes before.out) before.last before.found before.left item (todo_of before) (todo_of match) (seen_of (rewriting_regex match) (rewriting_text match) item) q.0 refl (rw c.in-Some.is at c.in_ok-item.ensures.steps ∙ ap (λ (i : MatchItem). i ∷ todo_of match) (rw c.in-Some.is at (c.in_ok-item.ensures.held c.matches.invariant.asks))) seen r c.matches.invariant.goes)
    (rw q.2 c.in_err-push_answer.ensures.refused))
