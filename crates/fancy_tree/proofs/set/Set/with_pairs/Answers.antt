use Rattle.std.proofs.Common.{ap, sym, ◌∙◌, refl, take_all}
use Rattle.fancy_tree.specs.Members.{members}
use Rattle.unicode.specs.Rows.{in_ranges}
use Rattle.fancy_tree.specs.Widening.{in_pairs}
use Rattle.fancy_tree.proofs.EdgesLemmas.{pair_kept, pair_dropped, in_ranges-nil}
use Rattle.fancy_tree.proofs.SetLemmas.{same_set, others_in}
use Rattle.fancy_tree.proofs.set.Set.with_pairs.Goals.{then-contains+in_ok-push, else-contains}
use Rattle.fancy_tree.proofs.set.Set.with_pairs.Goals as goal

pub loop-pair-init : goal.loop-pair-init
loop-pair-init c = λ x. ap (λ l. in_ranges l x) c.new-others.ensures.items ∙ in_ranges-nil x

pub loop-pair-preserved : goal.loop-pair-preserved
loop-pair-preserved c =
    let p = members c.args.self.now in
    elim c.if-contains.branch [
      | then-contains+in_ok-push w ↦ rw w.others-is (pair_kept p c.args.pairs.now c.loop-pair.others.items _ c.loop-pair.pair-index _ c.loop-pair-test.true refl (sym c.contains.ensures ∙ w.if-contains.true) w.in_ok-push.ensures.items c.loop-pair.invariant)
      | else-contains w ↦ rw w.others-is (pair_dropped p c.args.pairs.now c.loop-pair.others.items c.loop-pair.pair-index _ c.loop-pair-test.true refl (sym c.contains.ensures ∙ w.if-contains.false) c.loop-pair.invariant)
    ]

pub returns : goal.returns
returns c =
    let p = members c.args.self.now in
    let all = take_all _ _ c.loop-pair-test.false in
    same_set c.combine.result
    (λ x. others_in (p x) p c.deref.result.now c.args.pairs.now x _
    (ap (λ l. in_ranges l x) c.deref.ensures.value ∙ (c.loop-pair.invariant x ∙ ap (λ l. in_pairs l p x) all)) (c.in_ok-others.ensures x)) c.combine.ensures
