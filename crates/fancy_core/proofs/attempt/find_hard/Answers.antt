use Rattle.fancy_core.specs.Regexes.{step_limit_in}
use Rattle.fancy_core.proofs.AttemptWorkLemmas.{added_within, added_spent}
use Rattle.fancy_core.proofs.attempt.find_hard.Goals as goal

pub returns-clause-limit : goal.returns-clause-limit
returns-clause-limit c within =
    let same = c.attempt_hard-found.ensures.counted in
    added_within (step_limit_in c.args.regex.now) c.args.regex.now.program.limited c.args.cache.now.work c.after-counts.result c.attempt_hard-found.new.work c.add_attempt.new.self
    (record { begun_steps = c.after-counts.ensures.steps; begun_units = c.after-counts.ensures.units; steps = rw same at c.add_attempt.ensures.steps; units = rw same at c.add_attempt.ensures.units })
    c.attempt_hard-found.ensures.units c.attempt_hard-found.ensures.counts.within within

pub returns-clause-limited : goal.returns-clause-limited
returns-clause-limited c out =
    let same = c.attempt_hard-found.ensures.counted in
    added_spent (step_limit_in c.args.regex.now) c.args.regex.now.program.limited c.args.cache.now.work c.after-counts.result c.attempt_hard-found.new.work c.add_attempt.new.self
    (record { begun_steps = c.after-counts.ensures.steps; begun_units = c.after-counts.ensures.units; steps = rw same at c.add_attempt.ensures.steps; units = rw same at c.add_attempt.ensures.units })
    (c.attempt_hard-found.ensures.counts.limited out)

pub returns-clause-grows : goal.returns-clause-grows
returns-clause-grows c = rw c.attempt_hard-found.ensures.counted at c.add_attempt.ensures.grows
