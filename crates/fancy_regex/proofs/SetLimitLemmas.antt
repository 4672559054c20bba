-- What each member of a set leaves of the limits of work, and what of it the whole search leaves.
use Rattle.std.proofs.Common.{◌≡◌, ◌<◌, ◌≤◌, ℕ, true, List, Result, Ok, Err, Option, Some, None, refl, sym, ◌∙◌, ap, subst, arith, slice_get}
use Rattle.std.specs.Prelude.{IsErrAnd}
use Rattle.std.proofs.lemmas.Option.{slice_get_within, get_or_from_slice_get}
use Rattle.std.specs.Option.{ForSome}
use Rattle.fancy_tree.specs.declared.error.Error.{Error}
use Rattle.fancy_input.specs.declared.input.Request.{Request}
use Rattle.fancy_input.specs.declared.work.Work.{Work}
use Rattle.fancy_input.specs.Work.{steps_of, units_of, work_of, IsSpent, IsWithin}
use Rattle.fancy_core.specs.declared.regex.Regex.{Regex}
use Rattle.fancy_core.specs.Regexes.{easy_in, step_limit_in}
use Rattle.fancy_search.specs.SearchCounts.{IsOutOfSteps}
use Rattle.fancy_regex.specs.SetCounts.{most_steps_of_all}
use Rattle.fancy_regex.specs.SetLimits.{AllowAllSteps, CountNoUnits, HeedLimits, IsSpentForOne, ShareLimit}
use Rattle.fancy_regex.specs.declared.set.trials.Trials.{Trials}
use Rattle.fancy_regex.proofs.SetCountLemmas.{easy_at}

-- the limit that all members have is that of each
limit_at : (most : ℕ) (members : List Regex) (k : ℕ) (r : Regex) → ShareLimit most members → slice_get members k ≡ Some r → step_limit_in r ≡ Some most
limit_at most members k r all is =
    subst (λ (m : Regex). step_limit_in m ≡ Some most) (get_or_from_slice_get members k r r is) (all k r (slice_get_within members k r is))

-- so is what they allow
allowed_at : (members : List Regex) (request : Request) (k : ℕ) (r : Regex) → AllowAllSteps members request → slice_get members k ≡ Some r
    → ForSome (step_limit_in r) (λ most. most_steps_of_all members request < most)
allowed_at members request k r all is =
    subst (λ (m : Regex). ForSome (step_limit_in m) (λ most. most_steps_of_all members request < most)) (get_or_from_slice_get members k r r is) (all k r (slice_get_within members k r is))

-- where an attempt of a member heeds its limit, it heeds the one that all have
pub heeds_of_member : (members : List Regex) (k : ℕ) (r : Regex) (old new : Trials) → slice_get members k ≡ Some r
    → (IsWithin (step_limit_in r) old.cache.work → IsWithin (step_limit_in r) new.cache.work) → HeedLimits members old new
heeds_of_member members k r old new is heeds most all before =
    let limit = limit_at most members k r all is in
    subst (λ (l : Option ℕ). IsWithin l new.cache.work) limit (heeds (subst (λ (l : Option ℕ). IsWithin l old.cache.work) (sym limit) before))

-- where an attempt of an easy member counts no units, none are counted where all members are easy
pub no_units_of_member : (members : List Regex) (k : ℕ) (r : Regex) (old new : Trials) → slice_get members k ≡ Some r
    → (easy_in r ≡ true → units_of new.cache.work ≡ units_of old.cache.work) → CountNoUnits members old new
no_units_of_member members k r old new is none easy = none (easy_at members k r easy is)

abbrev error_in : {A : Type 0} → Error → Result A Error → Error
error_in d (Ok x) = d
error_in d (Err e) = e

-- a refusal that is passed on stays what it was
pub out_as : {A B : Type 0} (e : Error) → IsOutOfSteps {A = A} (Err e) → IsOutOfSteps {A = B} (Err e)
out_as e out = ap (λ x. Err x) (ap (error_in e) out)

-- a limit that is spent stays so where as much was done
spent_as : (limit : Option ℕ) (done counted : Work) → work_of counted ≡ work_of done → IsSpent limit done → IsSpent limit counted
spent_as None done counted same spent = spent
spent_as (Some most) done counted same spent = omega (arith, same, spent)

pub spent_for_one_as : (members : List Regex) (done counted : Work) → work_of counted ≡ work_of done → IsSpentForOne members done → IsSpentForOne members counted
spent_for_one_as members done counted same one = record { index = one.index; member = one.member; is = one.is; spent = spent_as (step_limit_in one.member) done counted same one.spent }

left_of_limit : (limit : Option ℕ) (most_steps : ℕ) (w : Work) → ForSome limit (λ most. most_steps < most) → work_of w ≤ most_steps → IsSpent limit w → ⊥
left_of_limit None most_steps w past within spent = spent
left_of_limit (Some most) most_steps w past within spent = absurd (omega (arith, past most refl, within, spent))

-- no limit is spent that allows more steps than all members take, where they count no units
pub none_spent : (members : List Regex) (request : Request) (w : Work) → AllowAllSteps members request → steps_of w ≤ most_steps_of_all members request → units_of w ≡ 0
    → IsSpentForOne members w → ⊥
none_spent members request w allows steps units one =
    left_of_limit (step_limit_in one.member) (most_steps_of_all members request) w (allowed_at members request one.index one.member allows one.is) (omega (arith, steps, units)) one.spent

-- the refusal that a `?` returns is that of the call
pub passed_on : {A B : Type 0} (r : Result A Error) (e : Error) → IsErrAnd r (λ (x : Error). x ≡ e) → IsOutOfSteps r → (a : Result B Error) → a ≡ Err e → IsOutOfSteps a
passed_on (Ok x) e h out a was = absurd h
passed_on (Err x) e h out a was = was ∙ ap (λ y. Err y) (sym h ∙ ap (error_in x) out)
