use Rattle.std.proofs.Common.{refl}
use Rattle.std.proofs.lemmas.Option.{slice_get_read}
use Rattle.fancy_regex.proofs.CandidateLemmas.{one_left_out, one_held, all_held}
use Rattle.fancy_regex.proofs.set.candidates.Groups.of_holders.Goals as goal
use Rattle.fancy_regex.proofs.set.candidates.Groups.of_holders.Goals.{then-may_hold, else-may_hold}

pub loop-index-preserved : goal.loop-index-preserved
loop-index-preserved c =
    let members = c.args.members.now in
    let index = c.loop-index.index in
    let member = c.index-members-index.result in
    let here = slice_get_read members _ index member refl c.loop-index-test.true c.index-members-index.is in
    elim c.if-may_hold.branch [
      | then-may_hold w ↦ rw w.groups-is (one_held c.args.width members c.args.place c.args.byte index member here c.loop-index.groups w.with-groups.result w.with-groups.ensures c.loop-index.invariant)
      | else-may_hold w ↦ rw w.groups-is (one_left_out c.args.width members c.args.place c.args.byte index member here c.loop-index.groups (c.may_hold.ensures w.if-may_hold.false) c.loop-index.invariant)
    ]

pub returns : goal.returns
returns c = all_held c.args.width c.args.members.now c.args.place c.args.byte c.loop-index.index c.loop-index.groups c.loop-index-test.false c.loop-index.invariant
