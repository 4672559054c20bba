use Rattle.std.proofs.Common.{◌∙◌, sym, ap}
use Rattle.fancy_prefilter.specs.Prefilters.{branches_in}
use Rattle.fancy_runner.specs.Attempt.{AreBranchesIn}
use Rattle.fancy_runner.proofs.BranchLemmas.{lead_known, lead_same, lead_none}
use Rattle.fancy_runner.proofs.start.follow_start.Goals as goal

pub follow_branches-requires-clause-branches : goal.follow_branches-requires-clause-branches
follow_branches-requires-clause-branches c = c.args.attempt.now.code.now.branches_paid c.in-Words.branches (ap branches_in c.in-Words.is)

pub returns-in_ok-end-in_default-clause-left : goal.returns-in_ok-end-in_default-clause-left
returns-in_ok-end-in_default-clause-left c branches kept deep known failed =
    c.in_ok-end-in_default.ensures.left kept deep known (c.forget_behind.ensures.failed deep failed)

pub returns-in_ok-end-in-Words-clause-left : goal.returns-in_ok-end-in-Words-clause-left
returns-in_ok-end-in-Words-clause-left c branches kept deep known failed =
    let are : AreBranchesIn c.args.attempt.now c.in-Words.branches = rw c.in-Words.is at branches in
    c.in_ok-end-in-Words.ensures.left are kept deep (lead_known c.args.attempt.now c.in-Words.branches c.args.place kept deep are known (sym c.passes_test.ensures.passes ∙ c.if-not-passes_test.false)) (c.forget_behind.ensures.failed deep failed)

pub returns-in_ok-end-in-Words-clause-answer : goal.returns-in_ok-end-in-Words-clause-answer
returns-in_ok-end-in-Words-clause-answer c bytes branches kept deep known failed =
    let are : AreBranchesIn c.args.attempt.now c.in-Words.branches = rw c.in-Words.is at branches in
    let passes = sym c.passes_test.ensures.passes ∙ c.if-not-passes_test.false in
    c.in_ok-end-in-Words.ensures.answer bytes are kept deep (lead_known c.args.attempt.now c.in-Words.branches c.args.place kept deep are known passes) (c.forget_behind.ensures.failed deep failed)
    ∙ lead_same c.args.attempt.now c.in-Words.branches c.args.place kept deep are known passes

pub returns-then-not-passes_test-clause-answer : goal.returns-then-not-passes_test-clause-answer
returns-then-not-passes_test-clause-answer c bytes branches kept deep known failed =
    let are : AreBranchesIn c.args.attempt.now c.in-Words.branches = rw c.in-Words.is at branches in
    lead_none c.args.attempt.now c.in-Words.branches c.args.place kept deep are known (sym c.passes_test.ensures.passes ∙ c.if-not-passes_test.true)

pub forget_behind-requires : goal.forget_behind-requires
forget_behind-requires c = record { row = record { low = c.requires.ready.low; high = c.requires.ready.high; room = c.requires.ready.ready.room; small = c.requires.ready.ready.small } }
