-- A set of one pattern finds what the pattern finds.
use Rattle.std.proofs.Common.{◌≡◌, ℕ, zero, suc, ◌+◌, Bool, true, false, ◌||◌, List, Option, Some, None, find, option_map, is_some, cond, refl, sym, ap, ◌∙◌}
use Rattle.std.specs.List.{range_with_len}
use Rattle.std.specs.Option.{option_or}
use Rattle.fancy_input.specs.declared.input.Request.{Request}
use Rattle.fancy_input.specs.Requests.{effective_start, positions}
use Rattle.fancy_meaning.specs.Context.{State}
use Rattle.fancy_meaning.specs.Search.{Answer, answer_at, answer_from, attempt, search}
use Rattle.fancy_meaning.proofs.SearchLemmas.{found_from}
use Rattle.fancy_core.specs.declared.regex.Regex.{Regex}
use Rattle.fancy_core.specs.Regexes.{query}
use Rattle.fancy_search.specs.Groups.{spans_of}
use Rattle.fancy_regex.specs.SetMembers.{asked_alone, any_answer_at, set_position}
use Rattle.fancy_regex.specs.Laws.{FindsAsOne}

or_false : (b : Bool) → (b || false) ≡ b
or_false true = refl
or_false false = refl

abbrev place_of : Answer → ℕ
place_of f = f.position

-- the first position of those from p on, and the later ones
one_more : (p : ℕ) (o : Option State) (rest : Option ℕ) (later : Option Answer) → rest ≡ option_map place_of later
    → cond (is_some o) (Some p) rest ≡ option_map place_of (option_or (option_map (λ s. record { position = p; state = s }) o) later)
one_more p None rest later e = e
one_more p (Some s) rest later e = refl

module _ (r : Regex) (haystack : List ℕ) (request : Request) where
  one_member : (p : ℕ) → any_answer_at (asked_alone r haystack request) p ≡ is_some (answer_at (query r haystack request) p)
  one_member p = or_false (is_some (answer_at (query r haystack request) p))

  stands_from : (n p : ℕ) → find (any_answer_at (asked_alone r haystack request)) (range_with_len p n) ≡ option_map place_of (answer_from (query r haystack request) n p)
  unfolding answer_from
  stands_from zero p = refl
  stands_from (suc n) p =
      ap (λ b. cond b (Some p) (find (any_answer_at (asked_alone r haystack request)) (range_with_len (p + 1) n))) (one_member p)
      ∙ one_more p (answer_at (query r haystack request) p) _ _ (stands_from n (p + 1))

  stands_as_one : set_position (asked_alone r haystack request) ≡ option_map place_of (search (query r haystack request))
  stands_as_one = stands_from (positions request) (effective_start request)

  -- the attempt where the set stands is the search
  attempt_there : (p : ℕ) (o : Option Answer) → search (query r haystack request) ≡ o → Some p ≡ option_map place_of o → attempt (query r haystack request) p ≡ o
  attempt_there p None found e = absurd (cc)
  attempt_there p (Some f) found e =
      let at : p ≡ f.position = cc in
      let is = (found_from (query r haystack request) (positions request) (effective_start request) f found).is in
      rw at (rw is refl)

  there : (p : ℕ) → set_position (asked_alone r haystack request) ≡ Some p → attempt (query r haystack request) p ≡ search (query r haystack request)
  there p e = attempt_there p (search (query r haystack request)) refl (sym e ∙ stands_as_one)

  one_answers : (p : ℕ) (o : Option State) → answer_at (query r haystack request) p ≡ o → Some p ≡ option_map place_of (search (query r haystack request)) → is_some o ≡ true
  one_answers p (Some s) is e = refl
  one_answers p None is e = absurd (fails (search (query r haystack request)) e (sym (attempt_there p (search (query r haystack request)) refl e) ∙ ap (option_map (λ s. record { position = p; state = s })) is))
    where
      fails : (o : Option Answer) → Some p ≡ option_map place_of o → o ≡ None → ⊥
      fails None e none = cc
      fails (Some f) e none = cc

  pub finds_as_one : FindsAsOne r haystack request
  finds_as_one = record {
    stands = stands_as_one;
    members = λ p e. (let is = one_answers p (answer_at (query r haystack request) p) refl (sym e ∙ stands_as_one) in rw is refl);
    groups = λ p e. ap (option_map (spans_of (query r haystack request).sought.groups)) (there p e);
  }
