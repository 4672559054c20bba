-- The units that one step goes over: they count as work, beside the step.
use Rattle.std.specs.Prelude.{◌≡◌, ℕ, ◌+◌, ◌-◌, ◌^◌, ◌<◌, ◌≤◌, Option, Some, None}
use Rattle.fancy_input.specs.declared.span.Span.{Span}
use Rattle.fancy_input.specs.declared.work.Work.{Work}
use Rattle.fancy_input.specs.Work.{steps_of, returns_of, units_of}
use Rattle.fancy_code.specs.Code.{instrs_of}
use Rattle.fancy_meaning.specs.Context.{State, group_span}
use Rattle.fancy_code.specs.Instructions.{Instruction, Match, Fail, Character, Member, RawByte, Assert, Split, Open, Close, Enter, Commit, Look, Deny, Test, Back, Recall, Keep, Continue, Taken}
use Rattle.fancy_code.specs.Run.{instr_at}
use Rattle.fancy_trail.specs.Frames.{Spot}
use Rattle.fancy_machine.specs.declared.attempt.Attempt.{Attempt}

-- how many bytes the text of a span has, 0 where there is none
abbrev pub text_len : Option Span → ℕ
text_len None = 0
text_len (Some x) = x.end - x.start

-- What an instruction goes over: the units that it goes back, or the bytes of the text that it compares.
abbrev pub units_in : State → Instruction → ℕ
units_in s (Back units next) = units
units_in s (Recall folded group moved still) = text_len (group_span s group)
units_in s Match = 0
units_in s Fail = 0
units_in s (Character c next) = 0
units_in s (Member set next) = 0
units_in s (RawByte byte next) = 0
units_in s (Assert a next) = 0
units_in s (Split a b) = 0
units_in s (Open group next) = 0
units_in s (Close group next) = 0
units_in s (Enter body) = 0
units_in s (Commit next) = 0
units_in s (Look behind body next) = 0
units_in s (Deny behind body next) = 0
units_in s (Test body other) = 0
units_in s (Keep next) = 0
units_in s (Continue next) = 0
units_in s (Taken group next) = 0

-- the same for the instruction that comes next
abbrev pub units_ahead : Attempt → Spot → ℕ
units_ahead a x = units_in x.state (instr_at (instrs_of a.code.now) x.at)

-- No count is lower than before. Where returns were no more than steps they still are, and there is a step for one return more.
pub record CountsOn (before after : Work) : Type 0 where
  pub steps : steps_of before ≤ steps_of after
  pub returns : returns_of before ≤ returns_of after
  pub units : units_of before ≤ units_of after
  pub paired : returns_of before ≤ steps_of before → returns_of after ≤ steps_of after
  pub ahead : returns_of before ≤ steps_of before → returns_of after < 2 ^ 64 - 1 → returns_of after < steps_of after

-- No count is lower than before. Where there was a step for one return more, no return is without its step.
pub record CountsBack (before after : Work) : Type 0 where
  pub steps : steps_of before ≤ steps_of after
  pub returns : returns_of before ≤ returns_of after
  pub units : units_of before ≤ units_of after
  pub paired : returns_of before ≤ steps_of before → (returns_of before < 2 ^ 64 - 1 → returns_of before < steps_of before) → returns_of after ≤ steps_of after

-- so many units were counted, where a usize holds their number at all
abbrev pub CountsUnits : ℕ → Work → Work → Type 0
CountsUnits units before after = units_of before + units < 2 ^ 64 → units_of after ≡ units_of before + units
