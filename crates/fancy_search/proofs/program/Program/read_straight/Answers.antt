use Rattle.std.proofs.Common.{◌+◌, ◌-◌, ◌*◌, ◌≤◌, ◌∙◌, Some, true, ap, arith, refl, sym}
use Rattle.std.proofs.Math.Nat.{mul-le-mul_left}
use Rattle.fancy_code.specs.CodeLength.{code_len}
use Rattle.fancy_input.specs.Requests.{effective_start}
use Rattle.fancy_input.proofs.WorkLemmas.{runs_all}
use Rattle.fancy_meaning.specs.Reading.{suppressed_ends}
use Rattle.fancy_meaning.specs.declared.options.SearchOptions.{SearchOptions}
use Rattle.fancy_search.specs.Programs.{asked_of, program_step_limit}
use Rattle.fancy_search.specs.declared.straight.StraightEnd.TheVariants.{AtMatch}
use Rattle.fancy_search.specs.SearchCounts.{step_bound}
use Rattle.fancy_search.proofs.KeptTablesLemmas.{begins_at}
use Rattle.fancy_search.proofs.StraightLemmas.{no_loop, some_code, straight_at}
use Rattle.fancy_search.proofs.program.Program.read_straight.Goals as goal

pub past_straight-past-requires : goal.past_straight-past-requires
past_straight-past-requires c = some_code c.args.self.now

pub returns-clause-answer : goal.returns-clause-answer
returns-clause-answer c =
    let asked = c.args.asked.now in
    let q = asked_of c.args.self.now asked.haystack.now asked.request.now asked.continues in
    let here = straight_at c.args.self.now asked.haystack.now asked.request.now asked.continues c.args.position c.past_straight-past.result asked.inside c.requires.tries.to (sym c.args.self.now.decided ∙ c.if-not-self.false)
    AtMatch (c.args.self.now.direct AtMatch (c.in-Some.is ∙ ap Some (c.is_match.ensures c.if-not-is_match.false))) (λ item round. absurd (no_loop item round))
    c.suppressed_ends-suppressed.result (c.suppressed_ends-suppressed.ensures ∙ ap (λ (o : SearchOptions). suppressed_ends o.overrides asked.request.now) c.args.self.now.handed) c.past_straight-past.ensures.read in
    c.match_to.ensures asked.request.now asked.continues refl ∙ sym here

pub returns-clause-within : goal.returns-clause-within
returns-clause-within c =
    let request = c.args.asked.now.request.now in
    let here = record request { start = c.args.position; anchored = true } in
    let length = code_len c.args.self.now.code in
    let least : length * 1 ≤ length * (request.range_end + 1 - effective_start here) = mul-le-mul_left length (omega (arith, begins_at request c.args.position c.requires.tries.from c.requires.tries.to, c.requires.tries.to)) in
    let adds = c.past_straight-past.ensures.counts in
    (runs_all (program_step_limit c.args.self.now) (step_bound c.args.self.now here) c.args.work.now c.past_straight-past.new.work (rw c.anchored_at.ensures at (c.if-not-allows_all_steps.ensures refl)) adds.units (omega (arith, least, adds.bounded))).within
