-- What a limit of work bounds in a set: all that its members do together.
use Rattle.std.specs.Prelude.{◌≡◌, ◌≤◌, ◌<◌, ℕ, All, List, Some, slice_get}
use Rattle.std.specs.Option.{ForSome}
use Rattle.fancy_input.specs.declared.input.Request.{Request}
use Rattle.fancy_input.specs.declared.work.Work.{Work}
use Rattle.fancy_input.specs.Work.{units_of, work_of, IsSpent}
use Rattle.fancy_core.specs.declared.regex.Regex.{Regex}
use Rattle.fancy_core.specs.Regexes.{step_limit_in}
use Rattle.fancy_regex.specs.SetCounts.{AreAllEasy, most_steps_of_all}
use Rattle.fancy_regex.specs.declared.set.trials.Trials.{Trials}

-- each member has this limit of work
abbrev pub ShareLimit : ℕ → List Regex → Type 0
ShareLimit most members = All (λ r. step_limit_in r ≡ Some most) members

-- one of the members has a limit of work, and all is done that it allows
pub record IsSpentForOne (members : List Regex) (w : Work) : Type 0 where
  pub index : ℕ
  pub member : Regex
  pub is : slice_get members index ≡ Some member
  pub spent : IsSpent (step_limit_in member) w

-- Each limit of work that a member has is past the steps that searches with each of the members alone take at most, added up.
abbrev pub AllowAllSteps : List Regex → Request → Type 0
AllowAllSteps members request = All (λ r. ForSome (step_limit_in r) (λ most. most_steps_of_all members request < most)) members

-- where all members have this limit, no more is done than it allows, with what was done before
abbrev pub HeedLimits : List Regex → Trials → Trials → Type 0
HeedLimits members old new = (most : ℕ) → ShareLimit most members → work_of old.cache.work ≤ most → work_of new.cache.work ≤ most

-- where all members are easy, no units are counted
abbrev pub CountNoUnits : List Regex → Trials → Trials → Type 0
CountNoUnits members old new = AreAllEasy members → units_of new.cache.work ≡ units_of old.cache.work

-- what was counted stays counted
abbrev pub KeepsWork : Trials → Trials → Type 0
KeepsWork old new = work_of old.cache.work ≤ work_of new.cache.work
