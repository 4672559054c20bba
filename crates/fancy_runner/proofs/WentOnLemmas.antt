-- Pairs that the thread goes on to alone.
use Rattle.std.proofs.Common.{ℕ, ◌∙◌, Bool, List, Option, Some, None, arith}
use Rattle.fancy_code.specs.declared.attempt.Attempt.{Attempt}
use Rattle.fancy_input.specs.declared.work.Work.{Work}
use Rattle.fancy_input.specs.Work.{HasWorkLeft, RunsWithin}
use Rattle.fancy_input.proofs.WorkLemmas.{OneStep, runs_all, runs_on}
use Rattle.fancy_input.specs.LastLines.{KnowsLastLines}
use Rattle.fancy_runner.specs.declared.notes.Notes.{Notes}
use Rattle.fancy_runner.specs.declared.pair.Pair.{Pair}
use Rattle.fancy_runner.specs.Runs.{WentOn, Worked}

-- it goes on, and then again
pub went_then : {a : Attempt} {p q r : Pair} {first middle last : List Bool} {before between after : Work} → WentOn a p q first middle before between
    → WentOn a q r middle last between after → WentOn a p r first last before after
went_then {a} {p} {q} {r} {first} {middle} {last} {before} {between} {after} w v = record {
  running = λ low kept deep goal slots saved begins h. v.running low kept deep goal slots saved begins (w.running low kept deep goal slots saved begins h);
  forth = omega (arith, w.forth, v.forth);
  high = λ h. v.high (w.high h);
  room = v.room ∙ w.room;
  spent = omega (arith, w.spent, v.spent);
  steps = omega (arith, w.steps, v.steps);
  counted = λ few. omega (arith, few, v.steps, w.forth, v.forth, v.counted few, w.counted (omega (arith, few, v.steps)));
  returns = v.returns ∙ w.returns;
  heeds = runs_on a.step_limit before between after w.heeds v.heeds;
}

-- one step is within a limit that is not spent
pub runs_one : (limit : Option ℕ) (before after : Work) → HasWorkLeft limit before → OneStep before after → RunsWithin limit before after
runs_one None before after left one = runs_all None 1 before after tt one.units (omega (arith, one.one))
runs_one (Some most) before after left one = runs_all (Some most) 1 before after (omega (arith, left)) one.units (omega (arith, one.one))

-- what was done with the marks alone
pub worked_went : {a : Attempt} {p q : Pair} {notes : Notes} {table : List Bool} {before after : Work} → KnowsLastLines a.haystack.now notes.last_lines
    → WentOn a p q notes.table table before after → Worked a notes (record notes { table = table }) before after
worked_went {a} {p} {q} {notes} {table} {before} {after} known w = record {
  room = w.room;
  last_lines = known;
  steps = w.steps;
  returns = omega (arith, w.returns);
  paired = omega (arith, w.returns);
  heeds = w.heeds;
}
