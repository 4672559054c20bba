use Rattle.std.proofs.Common.{◌∙◌, ℕ, Some, inl, inr, sym, ap, subst, arith}
use Rattle.std.proofs.lemmas.Bool.{cases_eq}
use Rattle.fancy_tree.specs.Sets.{has}
use Rattle.fancy_code.specs.Instructions.{edges_in}
use Rattle.fancy_prices.specs.Facts.{IsOfKind}
use Rattle.fancy_prices.proofs.free.is_each_member.Goals as goal
use Rattle.fancy_prices.proofs.free.is_each_member.Goals.{else-may_be-via-then-may_be+else-not-contains, else-may_be-via-else-may_be}

pub loop-byte-preserved : goal.loop-byte-preserved
loop-byte-preserved c b low lt of =
    elim (cases_eq b c.loop-byte.byte) [
      | inl same ↦ elim c.else-may_be.branch [
        | else-may_be-via-then-may_be+else-not-contains w ↦ ap (has (edges_in c.args.set.now)) same ∙ sym w.contains.ensures ∙ w.if-not-contains.false
        | else-may_be-via-else-may_be w ↦ absurd (c.may_be.ensures w.if-may_be.false (subst (λ (k : ℕ). IsOfKind c.args.kind (Some k)) same of))
      ]
      | inr other ↦ c.loop-byte.invariant b low (omega (arith, lt, other)) of
    ]
