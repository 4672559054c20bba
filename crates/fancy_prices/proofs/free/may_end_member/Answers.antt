use Rattle.std.proofs.Common.{◌≡◌, ℕ, List, Some, false, inl, inr, sym, subst, arith, true≢false, ◌∙◌}
use Rattle.std.proofs.lemmas.Bool.{cases_lt}
use Rattle.fancy_tree.specs.Sets.{has}
use Rattle.fancy_prices.specs.Facts.{IsOfKind}
use Rattle.fancy_prices.specs.Prices.{last_byte}
use Rattle.fancy_prices.proofs.BehindLemmas.{high_last, low_last}
use Rattle.fancy_prices.proofs.free.may_end_member.Goals as goal
use Rattle.fancy_prices.proofs.free.may_end_member.Goals.{else-is_wide-via-then-is_wide+else-not-is_ascii, else-is_wide-via-else-is_wide}

pub returns : goal.returns
returns c fails d passes meaning of =
    elim (cases_lt d 128) [
      | inl low ↦
          let same = subst (λ (b : ℕ). IsOfKind c.args.kind (Some b)) (low_last meaning d low) of in
          c.loop-byte.invariant d low (omega (arith, low, c.loop-byte-test.false)) passes same
      | inr high ↦ elim c.else-is_wide.branch [
        | else-is_wide-via-then-is_wide+else-not-is_ascii w ↦ true≢false (sym passes ∙ subst (λ (e : List ℕ). has e d ≡ false) w.edges.ensures (w.is_ascii.ensures w.if-not-is_ascii.false d high))
        | else-is_wide-via-else-is_wide w ↦ c.is_wide.ensures w.if-is_wide.false (last_byte meaning d) (high_last meaning d high) of
      ]
    ]
