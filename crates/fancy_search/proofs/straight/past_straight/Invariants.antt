use Rattle.std.proofs.Common.{◌≡◌, ◌-◌, ◌<◌}
use Rattle.fancy_code.specs.Code.{instrs_of}
use Rattle.fancy_code.specs.CodeLength.{code_len}
use Rattle.fancy_meaning.specs.Context.{Context}
use Rattle.fancy_states.specs.Counts.{AddsSteps}
use Rattle.fancy_search.specs.Straight.{IsRead, past_all}
use Rattle.fancy_search.proofs.straight.past_straight.Given as goal

abbrev pub invariant-parts : goal.invariant-parts
invariant-parts l = record {
  read : (x : Context) → IsRead x l.haystack l.code.meaning l.suppressed
      → past_all x l.code.start (code_len l.code - 2) (instrs_of l.code) l.fn.place ≡ past_all x l.at l.left (instrs_of l.code) l.past;
  some : l.left < code_len l.code - 1;
  counts : AddsSteps (code_len l.code - 1 - l.left) l.fn.work l.work;
}

abbrev pub decreases-parts : goal.decreases-parts
decreases-parts l = l.left
