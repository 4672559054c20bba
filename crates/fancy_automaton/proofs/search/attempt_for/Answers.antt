use Rattle.std.proofs.Common.{None}
use Rattle.fancy_code.specs.declared.attempt.Attempt.{Attempt}
use Rattle.fancy_automaton.proofs.SteadyLemmas.{steady}
use Rattle.fancy_automaton.proofs.search.attempt_for.Goals as goal

pub returns-clause-followed : goal.returns-clause-followed
returns-clause-followed c =
    let a : Attempt = record { code = c.args.code; haystack = c.args.haystack; base = c.effective_start-first.result; last = c.args.request.range_end; on_boundaries = c.args.options.on_boundaries; suppressed = c.suppressed_ends.result; step_limit = None } in
    record { inside = c.requires.inside; plain = c.requires.plain; steady = steady a c.requires.inside c.requires.reads }
