-- What a search answers and counts, from its parts.
use Rattle.std.proofs.Common.{◌≡◌, ◌+◌, ◌<◌, ◌≤◌, ℕ, Bool, Option, Result, Ok, Err, arith, ap, refl, ◌∙◌}
use Rattle.std.specs.Prelude.{IsErrAnd}
use Rattle.fancy_input.specs.declared.refusal.SearchRefusal.{SearchRefusal}
use Rattle.fancy_input.specs.declared.refusal.SearchRefusal.TheVariants.{Returns, Choices, Steps}
use Rattle.fancy_input.specs.declared.work.Work.{Work}
use Rattle.fancy_input.specs.Work.{returns_of, AddsReturns, IsSpent, IsWithin}
use Rattle.fancy_code.specs.declared.found.Found.{Found}
use Rattle.fancy_meaning.specs.declared.options.SearchOptions.{SearchOptions}
use Rattle.fancy_code.specs.Queries.{answer_with}
use Rattle.fancy_meaning.specs.Search.{Answer}
use Rattle.fancy_machine.specs.declared.search.Cache.{Cache}
use Rattle.fancy_machine.specs.Asked.{Answers, HeedsLimit, found_by, found_if, groups_held}
use Rattle.fancy_machine.specs.Parts.{HeedsLimits, KeepsCounts}
use Rattle.fancy_machine.proofs.RefusalLemmas.{passed_on}

-- nothing was done
pub keeps_none : {work : Work} → KeepsCounts work work
keeps_none = record { steps = omega arith; returns = omega arith; units = omega arith; paired = λ pairs. pairs }

-- what was done, and what was done then
pub keeps_on : {before between after : Work} → KeepsCounts before between → KeepsCounts between after → KeepsCounts before after
keeps_on a b = record {
  steps = omega (arith, a.steps, b.steps);
  returns = omega (arith, a.returns, b.returns);
  units = omega (arith, a.units, b.units);
  paired = λ pairs. b.paired (a.paired pairs);
}

-- returns were counted
pub keeps_returns : {before after : Work} (count : ℕ) → AddsReturns count before after → KeepsCounts before after
keeps_returns count adds = record { steps = adds.steps; returns = adds.returns; units = omega (arith, adds.units); paired = adds.paired }

-- nothing was done, and it was not refused
pub limits_none : {B : Type 0} {limit : ℕ} {most : Option ℕ} {x : B} {work : Work} → returns_of work ≤ limit → HeedsLimits limit most (Ok x) work work
limits_none room = record { stopped = λ e. absurd (cc); fits = room; within = λ is. is; limited = λ e. absurd (cc) }

-- what was done alone heeds them
pub limits_of : {A : Type 0} {limit : ℕ} {most : Option ℕ} {q : Result A SearchRefusal} {before after : Work} → (q ≡ Err Returns → returns_of after ≡ limit) → returns_of after ≤ limit
    → (IsWithin most before → IsWithin most after) → (q ≡ Err Steps → IsSpent most after) → HeedsLimits limit most q before after
limits_of stopped fits within limited = record { stopped = stopped; fits = fits; within = within; limited = limited }

-- the last of two parts was not refused, and so are both
pub limits_ok : {A B : Type 0} {limit : ℕ} {most : Option ℕ} {x : B} {r : Result A SearchRefusal} {before between after : Work} → (IsWithin most before → IsWithin most between)
    → HeedsLimits limit most r between after → HeedsLimits limit most (Ok x) before after
limits_ok within l = record { stopped = λ e. absurd (cc); fits = l.fits; within = λ is. l.within (within is); limited = λ e. absurd (cc) }

-- the last of two parts was refused, and so are both
pub limits_err : {A B : Type 0} {limit : ℕ} {most : Option ℕ} {q : Result A SearchRefusal} {before between after : Work} (r : Result B SearchRefusal) (e : SearchRefusal) → IsErrAnd r (λ (x : SearchRefusal). x ≡ e)
    → (IsWithin most before → IsWithin most between) → q ≡ Err e → HeedsLimits limit most q between after → HeedsLimits limit most r before after
limits_err r e h within same l = record {
  stopped = λ is. l.stopped (same ∙ ap Err (passed_on r e Returns h is));
  fits = l.fits;
  within = λ is. l.within (within is);
  limited = λ is. l.limited (same ∙ ap Err (passed_on r e Steps h is));
}

-- it was not refused
pub answers_ok : {options : SearchOptions} {limit : ℕ} {found : Option Answer} {returns choices : ℕ} {f : Option Found} {old new : Cache} {before after : Work}
    → answer_with (groups_held new) f ≡ found → returns_of after ≡ returns_of before + returns → HeedsLimit options.stack_limit old new → KeepsCounts before after
    → HeedsLimits limit options.step_limit (Ok f) before after → Answers options limit found returns choices (Ok f) old new before after
answers_ok answer count heeds counts limits = record {
  answer = answer;
  count = count;
  bounded = omega (arith, count);
  refused = λ e. absurd (cc);
  crowded = λ e. absurd (cc);
  heeds = heeds;
  counts = counts;
  limits = limits;
}

-- it was refused for e
pub answers_err : {options : SearchOptions} {limit : ℕ} {found : Option Answer} {returns choices : ℕ} {old new : Cache} {before after : Work} (r : Result (Option Found) SearchRefusal) (e : SearchRefusal)
    → IsErrAnd r (λ (x : SearchRefusal). x ≡ e) → returns_of after ≤ returns_of before + returns → (e ≡ Returns → limit < returns_of before + returns) → (e ≡ Choices → options.stack_limit < choices)
    → HeedsLimit options.stack_limit old new → KeepsCounts before after → HeedsLimits limit options.step_limit r before after → Answers options limit found returns choices r old new before after
answers_err (Ok f) e h bounded refused crowded heeds counts limits = absurd h
answers_err (Err x) e h bounded refused crowded heeds counts limits = record {
  answer = tt;
  count = tt;
  bounded = bounded;
  refused = λ is. refused (passed_on (Err x) e Returns h is);
  crowded = λ is. crowded (passed_on (Err x) e Choices h is);
  heeds = heeds;
  counts = counts;
  limits = limits;
}

-- it says whether something was found, or was refused
pub answers_by : {options : SearchOptions} {limit : ℕ} {found : Option Answer} {returns choices : ℕ} {old new : Cache} {before after : Work} (p : ℕ) (r : Result Bool SearchRefusal)
    → ((b : Bool) → r ≡ Ok b → (answer_with (groups_held new) (found_if p new b) ≡ found) × (returns_of after ≡ returns_of before + returns))
    → returns_of after ≤ returns_of before + returns → (r ≡ Err Returns → limit < returns_of before + returns) → (r ≡ Err Choices → options.stack_limit < choices)
    → HeedsLimit options.stack_limit old new → KeepsCounts before after → HeedsLimits limit options.step_limit r before after
    → Answers options limit found returns choices (found_by p new r) old new before after
answers_by p (Ok b) ok bounded refused crowded heeds counts l =
    answers_ok (ok b refl).0 (ok b refl).1 heeds counts (record { stopped = λ e. absurd (cc); fits = l.fits; within = l.within; limited = λ e. absurd (cc) })
answers_by p (Err x) ok bounded refused crowded heeds counts l = record {
  answer = tt;
  count = tt;
  bounded = bounded;
  refused = λ is. refused (cc);
  crowded = λ is. crowded (cc);
  heeds = heeds;
  counts = counts;
  limits = record { stopped = λ is. l.stopped (cc); fits = l.fits; within = l.within; limited = λ is. l.limited (cc) };
}
