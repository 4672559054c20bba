-- What the parts of an attempt do, what they count, and why they are refused.
use Rattle.std.specs.Prelude.{◌≡◌, ◌≢◌, ℕ, ◌+◌, ◌-◌, ◌≤◌, Option, Result, Err, IfOk, IfErr}
use Rattle.fancy_input.specs.declared.refusal.SearchRefusal.{SearchRefusal}
use Rattle.fancy_input.specs.declared.refusal.SearchRefusal.TheVariants.{Memory, Returns, Choices, Steps}
use Rattle.fancy_input.specs.declared.work.Work.{Work}
use Rattle.fancy_input.specs.Work.{steps_of, returns_of, units_of, stepped_within, IsWithin, IsSpent, HasWorkLeft, AddsUnits}
use Rattle.fancy_code.specs.declared.code.Instr.{Instr}
use Rattle.fancy_code.specs.declared.step.Next.{Next}
use Rattle.fancy_meaning.specs.Context.{State}
use Rattle.fancy_splits.specs.declared.splits.ToldSplit.{ToldSplit}
use Rattle.fancy_splits.specs.Splits.{IsNoted}
use Rattle.fancy_machine.specs.declared.attempt.Attempt.{Attempt}
use Rattle.fancy_machine.specs.declared.runs.LastRun.{LastRun}
use Rattle.fancy_machine.specs.declared.seen.Seen.{Seen}
use Rattle.fancy_trail.specs.Frames.{Held}
use Rattle.fancy_machine.specs.Attempt.{KnowsSeen, StepsTo, FollowsInstr, IsFull, IsFullFor, Advances, TakesAtLeast, IsOverfull, BackTakes}
use Rattle.fancy_machine.specs.Runs.{KnowsRun}
use Rattle.fancy_machine.specs.Units.{CountsOn}

-- The instruction j is followed. As many branches may be saved as before.
pub record Follows (a : Attempt) (j : Instr) (next : Next) (old new : Held) : Type 0 where
  pub stepped : FollowsInstr a j next old new
  pub most : new.most ≡ old.most

-- The same for an instruction that is refused where memory runs out, or where it would save a branch too many.
pub record FollowsIfOk (a : Attempt) (j : Instr) (result : Result Next SearchRefusal) (old new : Held) : Type 0 where
  pub stepped : IfOk result (λ next. FollowsInstr a j next old new)
  pub refused : result ≢ Err Returns
  pub unlimited : result ≢ Err Steps
  pub crowded : result ≡ Err Choices → IsFullFor a j old
  pub most : new.most ≡ old.most

-- The same for an instruction that is refused where memory runs out, and for nothing else.
pub record FollowsInMemory (a : Attempt) (j : Instr) (result : Result Next SearchRefusal) (old new : Held) : Type 0 where
  pub stepped : IfOk result (λ next. FollowsInstr a j next old new)
  pub refused : IfErr result (λ why. why ≡ Memory)
  pub most : new.most ≡ old.most

-- The same for the instruction that comes next, whichever it is. It may be refused for its units too.
pub record FollowsNext (a : Attempt) (result : Result Next SearchRefusal) (old new : Held) : Type 0 where
  pub stepped : IfOk result (λ next. StepsTo a next old new)
  pub refused : result ≢ Err Returns
  pub crowded : result ≡ Err Choices → IsFull a old
  pub most : new.most ≡ old.most

-- The loop is the one that is noted for the instruction which comes next. What is remembered of the run that was read last is true.
pub record StandsAt (a : Attempt) (l : ToldSplit) (h : Held) (r : LastRun) : Type 0 where
  pub noted : IsNoted a.splits.now h.now.at l
  pub known : KnowsRun a.splits.now a.haystack.now r

-- The limit of steps is heeded: no more is done than it allows, and all of that where the answer is that refusal.
pub record HeedsSteps {A : Type 0} (most : Option ℕ) (result : Result A SearchRefusal) (before after : Work) : Type 0 where
  pub within : IsWithin most before → IsWithin most after
  pub limited : result ≡ Err Steps → IsSpent most after

-- Units are counted, and nothing else. The limit of steps is heeded, and nothing else is a cause to refuse.
pub record GoesOver {A : Type 0} (most : Option ℕ) (result : Result A SearchRefusal) (before after : Work) : Type 0 where
  pub adds : AddsUnits before after
  pub within : IsWithin most before → IsWithin most after
  pub refused : IfErr result (λ why. why ≡ Steps)
  pub limited : result ≡ Err Steps → IsSpent most after

-- A step is counted, with the units that it goes over, and no return. Where the limit leaves room for the step it is heeded.
pub record TakesStep {A : Type 0} (most : Option ℕ) (result : Result A SearchRefusal) (before after : Work) : Type 0 where
  pub work : AddsUnits (stepped_within before) after
  pub returns : returns_of after ≡ returns_of before
  pub within : HasWorkLeft most before → IsWithin most after
  pub limited : result ≡ Err Steps → IsSpent most after

-- The limit of returns is heeded: none is taken past it, and where the answer is that refusal all are taken that it allows. So is that of steps.
pub record HeedsLimits {A : Type 0} (limit : ℕ) (most : Option ℕ) (result : Result A SearchRefusal) (before after : Work) : Type 0 where
  pub stopped : result ≡ Err Returns → returns_of after ≡ limit
  pub fits : returns_of after ≤ limit
  pub within : IsWithin most before → IsWithin most after
  pub limited : result ≡ Err Steps → IsSpent most after

-- no more returns were taken than the limit allows, and what was found out of the haystack before is true
pub record IsReady (a : Attempt) (limit : ℕ) (s : Seen) (work : Work) : Type 0 where
  pub room : returns_of work ≤ limit
  pub seen : KnowsSeen a s

-- Going on heeds both limits, where that of steps leaves room for a step.
pub record CountsGoing {A : Type 0} (limit : ℕ) (most : Option ℕ) (result : Result A SearchRefusal) (before after : Work) : Type 0 where
  pub counts : CountsOn before after
  pub stopped : result ≡ Err Returns → returns_of after ≡ limit
  pub fits : returns_of after ≤ limit
  pub within : HasWorkLeft most before → IsWithin most after
  pub limited : result ≡ Err Steps → IsSpent most after

-- Going on led from the trail `old` to `new`, where the best outcome was `best` before and is `now` after it. No attempt takes fewer returns in all
-- than were taken, or than one past their limit where that is why it is refused. It is refused for a choice only where the attempt has too many.
pub record WentOn (a : Attempt) (limit : ℕ) (result : Result Next SearchRefusal) (old : Held) (best : Option State) (new : Held) (now : Option State) (before after : Work) : Type 0 where
  pub advanced : IfOk result (λ next. Advances a next (returns_of after - returns_of before) old best new now)
  pub bounded : TakesAtLeast a (returns_of before) (returns_of after) old best
  pub refused : result ≡ Err Returns → TakesAtLeast a (returns_of before) (limit + 1) old best
  pub crowded : result ≡ Err Choices → IsOverfull a old best
  pub most : new.most ≡ old.most

-- The same of going back, which takes branches that were saved, and is refused for no choice.
pub record TakesBranches {A : Type 0} (a : Attempt) (limit : ℕ) (result : Result A SearchRefusal) (old new : Held) (before after : Work) : Type 0 where
  pub bounded : BackTakes a (returns_of before) (returns_of after) old
  pub refused : result ≡ Err Returns → BackTakes a (returns_of before) (limit + 1) old
  pub saved : result ≢ Err Choices
  pub most : new.most ≡ old.most

-- No count falls, and each return keeps its step.
pub record KeepsCounts (before after : Work) : Type 0 where
  pub steps : steps_of before ≤ steps_of after
  pub returns : returns_of before ≤ returns_of after
  pub units : units_of before ≤ units_of after
  pub paired : returns_of before ≤ steps_of before → returns_of after ≤ steps_of after
