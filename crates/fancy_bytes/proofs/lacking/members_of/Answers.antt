use Rattle.std.proofs.Common.{ℕ, List, ap, sym, ◌∙◌}
use Rattle.fancy_bytes.specs.Items.{includes}
use Rattle.fancy_bytes.proofs.LackLemmas.{listed_one, passed_one}
use Rattle.fancy_bytes.proofs.lacking.members_of.Goals as goal
use Rattle.fancy_bytes.proofs.lacking.members_of.Goals.{then-contains+in_ok-push, else-contains}

pub loop-code-preserved : goal.loop-code-preserved
loop-code-preserved c b =
    elim c.if-contains.branch [
      | then-contains+in_ok-push w ↦
          rw w.bytes-is
          (ap (λ (xs : List ℕ). includes xs b) w.in_ok-push.ensures.items
          ∙ listed_one c.args.set.now c.loop-code.bytes.items c.loop-code.code b (c.loop-code.invariant b) (sym w.if-contains.ensures))
      | else-contains w ↦
          rw w.bytes-is (passed_one c.args.set.now c.loop-code.bytes.items c.loop-code.code b (c.loop-code.invariant b) (sym w.if-contains.ensures))
    ]
