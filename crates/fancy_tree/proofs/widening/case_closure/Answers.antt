use Rattle.std.proofs.Common.{inl, inr}
use Rattle.fancy_tree.proofs.SetLemmas.{same_set, with_ascii_pairs, with_fold_pairs}
use Rattle.fancy_tree.specs.Members.{members}
use Rattle.fancy_tree.proofs.widening.case_closure.Goals as goal

pub returns-in-Unicode : goal.returns-in-Unicode
returns-in-Unicode c = rw c.in-Unicode.is (same_set c.with_pairs.result (λ x. with_fold_pairs _ (members c.args.set.now) x c.fold_pairs.ensures.table) c.with_pairs.ensures)

pub returns-in-Bytes : goal.returns-in-Bytes
returns-in-Bytes c =
    elim c.in-Bytes.is [
      | inl bytes ↦ rw bytes (same_set c.with_pairs-in-Bytes.result (with_ascii_pairs (members c.args.set.now)) c.with_pairs-in-Bytes.ensures)
      | inr ascii ↦ rw ascii (same_set c.with_pairs-in-Bytes.result (with_ascii_pairs (members c.args.set.now)) c.with_pairs-in-Bytes.ensures)
    ]
