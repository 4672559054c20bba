use Rattle.std.proofs.Common.{◌∙◌, refl, sym}
use Rattle.std.proofs.lemmas.Option.{slice_get_read}
use Rattle.fancy_regex.proofs.CandidateLemmas.{one_passed, one_taken, only_taken, hold_all}
use Rattle.fancy_regex.proofs.set.candidates.Groups.of_starters.Goals as goal
use Rattle.fancy_regex.proofs.set.candidates.Groups.of_starters.Goals.{then-may_start_before, else-may_start_before}

pub loop-index-preserved : goal.loop-index-preserved
loop-index-preserved c =
    let members = c.args.members.now in
    let width = c.args.width in
    let index = c.loop-index.index in
    let member = c.index-members-index.result in
    let here = slice_get_read members _ index member refl c.loop-index-test.true c.index-members-index.is in
    elim c.if-may_start_before.branch [
      | then-may_start_before w ↦ (
          let starts = sym c.may_start_before.ensures ∙ w.if-may_start_before.true in
          rw w.groups-is (record {
            all = one_taken width members c.args.next index member here c.loop-index.groups w.with-groups.result w.with-groups.ensures c.loop-index.invariant.all;
            only = only_taken width members c.args.next index member here c.loop-index.groups w.with-groups.result w.with-groups.ensures starts c.loop-index.invariant.only;
          }))
      | else-may_start_before w ↦ (
          let fails = sym c.may_start_before.ensures ∙ w.if-may_start_before.false in
          rw w.groups-is (record {
            all = one_passed width members c.args.next index member here c.loop-index.groups fails c.loop-index.invariant.all;
            only = c.loop-index.invariant.only;
          }))
    ]

pub returns-clause-all : goal.returns-clause-all
returns-clause-all c = hold_all c.args.width c.args.members.now c.args.next c.loop-index.index c.loop-index.groups c.loop-index-test.false c.loop-index.invariant.all
