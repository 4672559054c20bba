-- Ways of a choice that are left out.
use Rattle.std.proofs.Common.{◌≡◌, ℕ, Bool, false, List, [], ◌∷◌, Option, Some, None, refl, ap, ◌∙◌, arith, true≢false}
use Rattle.std.specs.Option.{option_or}
use Rattle.fancy_code.specs.Choices.{has_stop, stops}
use Rattle.fancy_meaning.specs.Context.{Context, State}
use Rattle.fancy_meaning.specs.Events.{Event, return}
use Rattle.fancy_code.specs.Instructions.{Instruction, Split}
use Rattle.fancy_code.specs.Run.{Raw, Note, Stop, choice_opened, returned, fetched, erase, instr_at}
use Rattle.fancy_code.specs.Thread.{events_of, first_accepted, Known, thread_run, Thread}
use Rattle.fancy_runner.specs.Runner.{Parted, Went}
use Rattle.fancy_runner.proofs.RunnerLemmas.{first_or}
use Rattle.fancy_runner.proofs.RunnerSteps.{parted}
use Rattle.fancy_runner.proofs.SweepLemmas.{or_nothing}

-- where no way stops there is no outcome
none_accepted_in : (ok : State → Bool) (w : List Raw) → has_stop w ≡ false → first_accepted ok (erase w) ≡ None
none_accepted_in ok [] h = refl
none_accepted_in ok (Note choice_opened ∷ w) h = none_accepted_in ok w h
none_accepted_in ok (Note returned ∷ w) h = none_accepted_in ok w h
none_accepted_in ok (Note fetched ∷ w) h = none_accepted_in ok w h
none_accepted_in ok (Stop q s v ∷ w) h = absurd (true≢false h)

none_accepted : (ok : State → Bool) (o : Option (List Raw)) → stops o ≡ false → first_accepted ok (events_of o) ≡ None
none_accepted ok None h = refl
none_accepted ok (Some w) h = none_accepted_in ok w h

module _ (x : Context) (limit : ℕ) (code : List Instruction) (deep kept : ℕ) (t : Thread) (known : Known x limit code deep kept t) (a c : ℕ) (is : instr_at code t.at ≡ Split a c) where
  both : Parted x limit code deep kept t (record t { at = a }) (record t { at = c })
  both = parted x limit code deep kept t known a c (record t { at = a }) (record t { at = c }) is refl refl refl refl refl refl refl

  abbrev first_events : List Event
  first_events = events_of (thread_run x limit code deep kept (record t { at = a }))

  abbrev second_events : List Event
  second_events = events_of (thread_run x limit code deep kept (record t { at = c }))

  either_way : (ok : State → Bool) → first_accepted ok (events_of (thread_run x limit code deep kept t)) ≡ option_or (first_accepted ok first_events) (first_accepted ok second_events)
  either_way ok = ap (first_accepted ok) both.2 ∙ first_or ok first_events (return ∷ second_events)

  -- the first way is gone alone
  pub first_alone : stops (thread_run x limit code deep kept (record t { at = c })) ≡ false → Went x limit code deep kept t (record t { at = a })
  first_alone none = (
    both.0,
    λ ok. either_way ok ∙ ap (option_or (first_accepted ok first_events)) (none_accepted ok (thread_run x limit code deep kept (record t { at = c })) none)
        ∙ or_nothing (first_accepted ok first_events),
    omega (arith, both.3),
  )

  -- the second way is gone alone
  pub second_alone : stops (thread_run x limit code deep kept (record t { at = a })) ≡ false → Went x limit code deep kept t (record t { at = c })
  second_alone none = (
    both.1,
    λ ok. either_way ok
        ∙ ap (λ (o : Option State). option_or o (first_accepted ok second_events)) (none_accepted ok (thread_run x limit code deep kept (record t { at = a })) none),
    omega (arith, both.3),
  )
