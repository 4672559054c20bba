use Rattle.std.proofs.Common.{◌+◌, ◌-◌, arith, inr}
use Rattle.fancy_input.specs.Requests.{effective_start}
use Rattle.fancy_input.specs.Work.{steps_of}
use Rattle.fancy_states.proofs.RememberedLemmas.{remembers, recalls}
use Rattle.fancy_search.specs.Programs.{program_length, program_options}
use Rattle.fancy_search.proofs.LaterLemmas.{part_paid, part_untried}
use Rattle.fancy_search.proofs.SearchedLemmas.{nowhere}
use Rattle.fancy_search.proofs.program.Program.learn.Goals as goal

pub find-requires-clause-all : goal.find-requires-clause-all
find-requires-clause-all c = recalls c.args.steps.now.cells c.args.self.now.code c.requires.kept.true_of

pub returns-then-is_err-clause-kept : goal.returns-then-is_err-clause-kept
returns-then-is_err-clause-kept c = record { true_of = remembers c.find.new.cells c.args.self.now.code c.find.ensures.all; within = c.find.ensures.kept }

pub returns-then-steps-reached-clause-kept : goal.returns-then-steps-reached-clause-kept
returns-then-steps-reached-clause-kept c = record { true_of = remembers c.find.new.cells c.args.self.now.code c.find.ensures.all; within = c.find.ensures.kept }

pub returns-clause-kept : goal.returns-clause-kept
returns-clause-kept c = record {
  true_of = rw c.lead_on-2.ensures.cells (remembers c.find.new.cells c.args.self.now.code c.find.ensures.all);
  within = rw c.lead_on-2.ensures.cells c.find.ensures.kept;
}

pub returns-then-is_err-clause-bounded : goal.returns-then-is_err-clause-bounded
returns-then-is_err-clause-bounded c =
    let first = effective_start c.args.request in
    let paid = rw (c.len.ensures, c.saturating_sub-places.ensures, c.effective_start-first.ensures) at (c.places_left.ensures (omega (arith, c.min-left.ensures, c.if-left-eq0.false))) in
    inr (part_paid (program_length c.args.self.now) (c.min-2.result + 1 - first) c.places_left.result (c.args.request.range_end + 1 - first) c.args.attempts.steps (steps_of c.args.work.now) (steps_of c.find.new.work)
    (omega (arith, c.min-2.ensures, c.min-left.ensures, c.saturating_add.ensures, c.effective_start-first.ensures, c.if-left-eq0.false)) c.find.ensures.bounded paid)

pub returns-then-steps-reached-clause-bounded : goal.returns-then-steps-reached-clause-bounded
returns-then-steps-reached-clause-bounded c =
    let first = effective_start c.args.request in
    let paid = rw (c.len.ensures, c.saturating_sub-places.ensures, c.effective_start-first.ensures) at (c.places_left.ensures (omega (arith, c.min-left.ensures, c.if-left-eq0.false))) in
    inr (part_paid (program_length c.args.self.now) (c.min-2.result + 1 - first) c.places_left.result (c.args.request.range_end + 1 - first) c.args.attempts.steps (steps_of c.args.work.now) (steps_of c.find.new.work)
    (omega (arith, c.min-2.ensures, c.min-left.ensures, c.saturating_add.ensures, c.effective_start-first.ensures, c.if-left-eq0.false)) c.find.ensures.bounded paid)

pub returns-then-is_err-clause-idle : goal.returns-then-is_err-clause-idle
returns-then-is_err-clause-idle c on none =
    let part = record c.args.request { range_end = c.min-2.result } in
    let untried = part_untried c.args.self.now c.args.haystack.now c.args.request c.min-2.result (program_options c.args.self.now).seek on (omega (arith, c.min-2.ensures, c.min.ensures)) none in
    nowhere c.args.self.now c.args.haystack.now part on _ _ (λ k. omega (arith, c.type_inv.haystack k)) untried c.find.ensures.idle

pub returns-then-steps-reached-clause-idle : goal.returns-then-steps-reached-clause-idle
returns-then-steps-reached-clause-idle c on none =
    let part = record c.args.request { range_end = c.min-2.result } in
    let untried = part_untried c.args.self.now c.args.haystack.now c.args.request c.min-2.result (program_options c.args.self.now).seek on (omega (arith, c.min-2.ensures, c.min.ensures)) none in
    nowhere c.args.self.now c.args.haystack.now part on _ _ (λ k. omega (arith, c.type_inv.haystack k)) untried c.find.ensures.idle
