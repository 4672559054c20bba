-- What a replacement by a template or by a text as it is makes of a text.
use Rattle.std.proofs.Common.{◌≡◌, ◌∙◌, ℕ, List, [], ◌∷◌, Option, None, Some, Result, Ok, Err, IfOk, IfErr, map, refl, ap, inl, inr}
use Rattle.std.specs.Cow.{cow_str_bytes}
use Rattle.std.specs.Prelude.{MatchOption}
use Rattle.std.specs.declared.borrow.CowStr.{CowStr}
use Rattle.fancy_regex.specs.declared.Error.{Error}
use Rattle.fancy_regex.specs.declared.Error.TheVariants.{Memory}
use Rattle.fancy_regex.specs.declared.Regex.{Regex}
use Rattle.fancy_regex.specs.GroupTexts.{Seen, expansion_of}
use Rattle.fancy_regex.specs.MatchList.{MatchItem}
use Rattle.fancy_regex.specs.Replacing.{Replacing, Answers, Expands, with_template, with_text, first_matches, fixed_of, seen_of, replaced, text_with_each, IsReplaced, ReplacesBy, FailsBy, AllowsReplacing, IsRefusedReplacing, IsRefusedAfterSome}
use Rattle.fancy_regex_c.specs.Replacements.{unless_fixed, given_by}

module _ {R : Type 0} (bytes : R → List ℕ) (regex : Regex) (text : List ℕ) where
  -- the answers of a template are its expansions, one after another
  expanded : (first last : R) (items : List MatchItem) (answers : List (List ℕ))
      → Answers (λ s seen answer next. (next ≡ s) × Expands (bytes s) seen answer) first (map (seen_of regex text) items) answers last
      → answers ≡ map (λ i. expansion_of (bytes first) (seen_of regex text i)) items
  expanded first last [] [] h = refl
  expanded first last [] (a ∷ answers) h = absurd h
  expanded first last (i ∷ items) [] h = absurd h
  expanded first last (i ∷ items) (a ∷ answers) (next, (same, gave), after) =
      let rest : answers ≡ map (λ i. expansion_of (bytes next) (seen_of regex text i)) items = expanded next last items answers after in
      rw (gave.value, rest, same) refl

  given : (fixed : Option (List ℕ)) (first last : R) (items : List MatchItem) (answers : List (List ℕ))
      → MatchOption fixed (Answers (λ s seen answer next. (next ≡ s) × Expands (bytes s) seen answer) first (map (seen_of regex text) items) answers last)
      (λ x. (answers ≡ map (λ _. x) items) × (last ≡ first))
      → answers ≡ map (λ i. unless_fixed fixed (expansion_of (bytes first) (seen_of regex text i))) items
  given None first last items answers h = expanded first last items answers h
  given (Some x) first last items answers h = h.0

  pub template_gives : (limit : ℕ) (first last : R) (out : List ℕ) → IsReplaced (with_template bytes regex text limit) first last out
      → out ≡ replaced text (first_matches regex text limit) (map (λ i. given_by (bytes first) (seen_of regex text i)) (first_matches regex text limit))
  template_gives limit first last out h =
      h.joined ∙ ap (replaced text (first_matches regex text limit)) (given (fixed_of (bytes first)) first last (first_matches regex text limit) h.answers h.given)

  pub text_gives : (limit : ℕ) (first last : R) (out : List ℕ) → IsReplaced (with_text bytes regex text limit) first last out
      → out ≡ text_with_each text (first_matches regex text limit) (bytes first)
  text_gives limit first last out h = h.joined ∙ ap (replaced text (first_matches regex text limit)) h.given.0

-- want of memory may refuse it before its first match
after_none : (regex : Regex) (text : List ℕ) (limit : ℕ) (e : Error) → e ≡ Memory → IsRefusedAfterSome regex text limit e
after_none regex text limit e h = ([], record { later = first_matches regex text limit; order = refl; refused = inl h })

-- a replacement whose calls refuse for want of memory alone is refused after some of its matches
pub refused_after : {R : Type 0} (k : Replacing R) → ((s : R) (seen : Seen) (e : Error) (next : R) → k.refuses s seen e next → e ≡ Memory)
    → (first last : R) (e : Error) → IsRefusedReplacing k first last e → IsRefusedAfterSome k.regex k.text k.limit e
refused_after k memory first last e (inl between) = (between.done, between.after)
refused_after k memory first last e (inr call) = after_none k.regex k.text k.limit e (memory call.state _ e last call.refused)

-- what the library answers, by a template and by a text as it is
module _ {R Z : Type 0} (bytes : R → List ℕ) (regex : Regex) (text : List ℕ) (limit : ℕ) (first : R) where
  pub by_template : (result : Result (CowStr Z) Error) → ReplacesBy (with_template bytes regex text limit) first result
      → IfOk result (λ t. cow_str_bytes t ≡ replaced text (first_matches regex text limit) (map (λ i. given_by (bytes first) (seen_of regex text i)) (first_matches regex text limit)))
  by_template (Ok t) h = template_gives bytes regex text limit first h.0 (cow_str_bytes t) h.1
  by_template (Err e) h = tt

  pub by_text : (result : Result (CowStr Z) Error) → ReplacesBy (with_text bytes regex text limit) first result
      → IfOk result (λ t. cow_str_bytes t ≡ text_with_each text (first_matches regex text limit) (bytes first))
  by_text (Ok t) h = text_gives bytes regex text limit first h.0 (cow_str_bytes t) h.1
  by_text (Err e) h = tt

  pub template_allows : (result : Result (CowStr Z) Error) → ReplacesBy (with_template bytes regex text limit) first result → IfOk result (λ _. AllowsReplacing regex text limit)
  template_allows (Ok t) h = h.2
  template_allows (Err e) h = tt

  pub text_allows : (result : Result (CowStr Z) Error) → ReplacesBy (with_text bytes regex text limit) first result → IfOk result (λ _. AllowsReplacing regex text limit)
  text_allows (Ok t) h = h.2
  text_allows (Err e) h = tt

  pub template_refused : (result : Result (CowStr Z) Error) → FailsBy (with_template bytes regex text limit) first result → IfErr result (λ e. IsRefusedAfterSome regex text limit e)
  template_refused (Ok t) h = tt
  template_refused (Err e) h = refused_after (with_template bytes regex text limit) (λ s seen why next w. w.1) first h.0 e h.1

  pub text_refused : (result : Result (CowStr Z) Error) → FailsBy (with_text bytes regex text limit) first result → IfErr result (λ e. IsRefusedAfterSome regex text limit e)
  text_refused (Ok t) h = tt
  text_refused (Err e) h = refused_after (with_text bytes regex text limit) (λ s seen why next w. w.1) first h.0 e h.1
