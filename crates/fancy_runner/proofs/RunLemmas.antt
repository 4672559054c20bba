-- Runs one after the other.
use Rattle.std.proofs.Common.{◌≡◌, ℕ, ◌∙◌, ◌+◌, ◌-◌, ◌≤◌, refl, sym, subst, arith}
use Rattle.std.specs.Prelude.{Result, Ok, Err}
use Rattle.fancy_input.specs.LastLines.{KnowsLastLines}
use Rattle.fancy_code.specs.declared.attempt.Attempt.{Attempt}
use Rattle.fancy_input.specs.declared.work.Work.{Work}
use Rattle.fancy_input.specs.Work.{steps_of, returns_of, went_back_within}
use Rattle.fancy_input.proofs.WorkLemmas.{one_return, runs_on, runs_back, runs_from_start}
use Rattle.fancy_runner.specs.declared.notes.Notes.{Notes}
use Rattle.fancy_runner.specs.declared.refusal.RunnerRefusal.{RunnerRefusal}
use Rattle.fancy_runner.specs.declared.refusal.RunnerRefusal.TheVariants.{Steps}
use Rattle.fancy_runner.specs.Attempt.{owed_in}
use Rattle.fancy_runner.specs.Runs.{IsReady, Worked, Ran}

pub ready_on : {a : Attempt} {old new : Notes} {before after : Work} → IsReady a old → Worked a old new before after → IsReady a new
ready_on ready w = record { inside = ready.inside; easy = ready.easy; room = omega (arith, ready.room, w.room); small = omega (arith, ready.small, w.room); last_lines = w.last_lines }

-- nothing was done
pub worked_none : {a : Attempt} {notes : Notes} {work : Work} → KnowsLastLines a.haystack.now notes.last_lines → Worked a notes notes work work
worked_none {a} {notes} {work} known =
    record { room = refl; last_lines = known; steps = omega arith; returns = omega arith; paired = omega arith; heeds = runs_from_start a.step_limit work }

-- what was done, and what was done then
pub worked_on : {a : Attempt} {first middle last : Notes} {before between after : Work} → Worked a first middle before between → Worked a middle last between after
    → Worked a first last before after
worked_on {a} {first} {middle} {last} {before} {between} {after} w v = record {
  room = v.room ∙ w.room;
  last_lines = v.last_lines;
  steps = omega (arith, w.steps, v.steps);
  returns = omega (arith, w.returns, v.returns);
  paired = omega (arith, w.steps, v.steps, w.returns, v.returns, w.paired, v.paired);
  heeds = runs_on a.step_limit before between after w.heeds v.heeds;
}

pub ran_ok : {T : Type 0} {x : T} {due : ℕ} {a : Attempt} {old new : Notes} {before after : Work} → Worked a old new before after
    → steps_of after + owed_in a new.table ≤ steps_of before + (due + owed_in a old.table) → Ran a due (Ok x) old new before after
ran_ok w paid = record { worked = w; paid = paid; limited = λ e. absurd (cc) }

-- the last of two was refused, and so are both
pub ran_err : {T U : Type 0} {r : Result T RunnerRefusal} {q : Result U RunnerRefusal} {due later : ℕ} {a : Attempt} {first middle last : Notes} {before between after : Work}
    → Worked a first middle before between → Ran a later r middle last between after → (q ≡ Err Steps → r ≡ Err Steps)
    → steps_of after + owed_in a last.table ≤ steps_of before + (due + owed_in a first.table) → Ran a due q first last before after
ran_err w ran same paid = record { worked = worked_on w ran.worked; paid = paid; limited = λ e. ran.limited (same e) }

-- the counts are the same
pub worked_same : {a : Attempt} {old new : Notes} {before after same : Work} → same ≡ after → Worked a old new before after → Worked a old new before same
worked_same {a} {old} {new} {before} e w = subst (λ (x : Work). Worked a old new before x) (sym e) w

-- a return is no work
pub worked_back : {a : Attempt} {old new : Notes} {before between after : Work} → Worked a old new before between → after ≡ went_back_within between
    → returns_of after - returns_of before ≤ steps_of after - steps_of before → Worked a old new before after
worked_back {a} {old} {new} {before} {between} {after} w is paired =
    let one = one_return between after is in
    record {
      room = w.room;
      last_lines = w.last_lines;
      steps = omega (arith, w.steps, one.steps);
      returns = omega (arith, w.returns, one.more);
      paired = paired;
      heeds = runs_on a.step_limit before between after w.heeds (runs_back a.step_limit between after is);
    }

-- what was done up to some notes and counts that are the same as those after
pub worked_now : {a : Attempt} {first middle last : Notes} {before between after end : Work} → last ≡ middle → end ≡ after → Worked a first first before between
    → Worked a first middle between after → Worked a last last before end
worked_now {a} {first} {middle} {last} {before} {between} {after} {end} same is w v =
    let all = worked_same is (worked_on w v) in
    subst (λ (n : Notes). Worked a n n before end) (sym same)
    (record { room = refl; last_lines = all.last_lines; steps = all.steps; returns = all.returns; paired = all.paired; heeds = all.heeds })
