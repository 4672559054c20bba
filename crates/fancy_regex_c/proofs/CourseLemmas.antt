-- A list under way that is asked for its next item.
use Rattle.std.proofs.Common.{◌≡◌, ◌∙◌, ◌<◌, ◌≤◌, ◌⊎◌, ℕ, List, [], ◌∷◌, ◌++◌, refl, sym, ap, arith, inl, inr}
use Rattle.fancy_regex.specs.declared.Error.{Error}
use Rattle.fancy_regex.specs.declared.Error.TheVariants.{Memory, ParseError, CompileError, RuntimeError}
use Rattle.fancy_regex.specs.declared.RuntimeError.TheVariants.{BacktrackLimitExceeded, StackOverflow, StepLimitExceeded, Unmatched}
use Rattle.fancy_regex_c.specs.declared.under_way.Progress.{Progress}
use Rattle.fancy_regex_c.specs.Answers.{answer_for}
use Rattle.fancy_regex_c.specs.Courses.{Course, ahead, WantsMore, HasEnded, Follows, goes_on, is_at_end, is_refused, has_no_place, FindsMore, TellsNext}
use Rattle.fancy_regex_c.specs.Courses as Next

-- no refusal is answered with DONE, NONE or NO_PLACE
pub refusal_is : (e : Error) → 3 < answer_for e
refusal_is Memory = omega arith
refusal_is (ParseError place kind) = omega arith
refusal_is (CompileError why) = omega arith
refusal_is (RuntimeError BacktrackLimitExceeded) = omega arith
refusal_is (RuntimeError StackOverflow) = omega arith
refusal_is (RuntimeError StepLimitExceeded) = omega arith
refusal_is (RuntimeError (Unmatched place)) = omega arith

-- The list has an item ready, if there is one, and nothing of what was ahead is lost.
pub record IsReady {A : Type 0} (c d : Course A) : Type 0 where
  pub same : ahead c ≡ ahead d
  pub why : HasEnded c.progress ⊎ Follows d
  pub ends : HasEnded c.progress → HasEnded d.progress
  pub some : d.progress.ready ≤ d.progress.given → d.progress.last ≡ 0 → ⊥

pub stays_ready : {A : Type 0} (c : Course A) → (WantsMore c.progress → ⊥) → HasEnded c.progress ⊎ Follows c → IsReady c c
stays_ready c some why = record { same = refl; why = why; ends = λ h. h; some = λ none e. some (record { given = none; goes_on = e }) }

pub found_ready : {A : Type 0} (c d : Course A) → 0 < c.progress.room → c.ready ≡ [] → WantsMore c.progress → FindsMore c d → IsReady c d
found_ready {A} c d room none wants finds =
    let more = wants.goes_on in
    record {
      same = ap (λ (z : List A). z ++ c.further) none ∙ finds.same;
      why = inr finds.follows;
      ends = λ ended. (let told = ended.told in absurd (omega (arith, told, more)));
      some = λ all e. (let some = finds.some room e in let given = finds.none_given in absurd (omega (arith, some, given, all)));
    }

-- what follows is the same after an item
pub follows_on : {A : Type 0} (d : Course A) (p : Progress) (rest : List A) → p.last ≡ d.progress.last → Follows d → Follows (record d { ready = rest; progress = p })
follows_on d p rest same (goes_on e) = goes_on (same ∙ e)
follows_on d p rest same (is_at_end e past) = is_at_end (same ∙ e) past
follows_on d p rest same (is_refused (e, is, refuses) other) = is_refused (e, same ∙ is, refuses) (λ four. other (sym same ∙ four))
follows_on d p rest same (has_no_place e outside) = has_no_place (same ∙ e) outside

-- nothing but the end is told by NONE
at_its_end : {A : Type 0} (d : Course A) → d.progress.last ≡ 1 → Follows d → d.at_end
at_its_end d one (goes_on e) = absurd (omega (arith, one, e))
at_its_end d one (is_at_end e past) = past
at_its_end d one (is_refused (e, is, refuses) other) = let far = refusal_is e in absurd (omega (arith, one, is, far))
at_its_end d one (has_no_place e outside) = absurd (omega (arith, one, e))

module _ {A : Type 0} (c d : Course A) (is : IsReady c d) (written : A → Type 0) (kept : ℕ → Type 0) (p : Progress) (rest : List A) where
  -- a list that has items ready has not ended
  pub unended : d.progress.given < d.progress.ready → HasEnded c.progress → ⊥
  unended some ended = let none = (is.ends ended).given in absurd (omega (arith, some, none))

  pub follows_some : d.progress.given < d.progress.ready → Follows d
  follows_some some = elim is.why [ inl ended ↦ absurd (unended some ended) | inr follows ↦ follows ]

  pub tells_given : (x : A) → d.progress.given < d.progress.ready → d.ready ≡ x ∷ rest → p.last ≡ d.progress.last → written x
      → TellsNext c (record d { ready = rest; progress = p }) written kept 0
  tells_given x some first same writes =
      Next.is_given refl x (is.same ∙ ap (λ (z : List A). z ++ d.further) first) writes (λ ended. at_its_end d (sym same ∙ ended.told) (follows_some some))

  pub ended_now : d.progress.ready ≤ d.progress.given → p.ready ≡ d.progress.ready → p.given ≡ d.progress.given → p.last ≡ 1 → HasEnded p
  ended_now none ready given told = record { given = omega (arith, none, ready, given); told = told }

  pub tells_end : d.progress.ready ≤ d.progress.given → d.ready ≡ rest → HasEnded p → kept d.progress.last
      → TellsNext c (record d { ready = rest; progress = p }) written kept d.progress.last
  tells_end none all ended keeps = by_why is.why
    where
      order : ahead c ≡ rest ++ d.further
      order = is.same ∙ ap (λ (z : List A). z ++ d.further) all

      by_why : HasEnded c.progress ⊎ Follows d → TellsNext c (record d { ready = rest; progress = p }) written kept d.progress.last
      by_why (inl before) = Next.is_ended (is.ends before).told (inr before) order ended keeps
      by_why (inr (goes_on e)) = absurd (is.some none e)
      by_why (inr (is_at_end e past)) = Next.is_ended e (inl past) order ended keeps
      by_why (inr (is_refused refused other)) = Next.is_refused refused other order ended keeps
      by_why (inr (has_no_place e outside)) = Next.is_no_place e outside order ended keeps

-- where memory was refused nothing is lost
pub tells_memory : {A : Type 0} (c d : Course A) (written : A → Type 0) (kept : ℕ → Type 0) → WantsMore c.progress → ahead c ≡ ahead d → d.progress ≡ c.progress → kept 4
    → TellsNext c d written kept 4
tells_memory c d written kept wants order same keeps =
    Next.is_no_memory refl order (λ ended. (let told = ended.told in let more = wants.goes_on in let last = ap (λ (p : Progress). p.last) same in absurd (omega (arith, told, more, last)))) keeps
