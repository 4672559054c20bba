use Rattle.std.proofs.Common.{rules, of_calls, ◌≡◌, ℕ, ◌+◌, leb, subst, arith, ◌∙◌}
use Rattle.std.proofs.lemmas.List.Sorted.{IsPartitionedBy-leb}
use Rattle.std.proofs.lemmas.Fn.{always_returns_same}
use Rattle.fancy_lines.proofs.LineLemmas.{Splits, breaks_are, splits_at, rises_by_number}
use Rattle.fancy_lines.specs.LineColumns.{starts_after}
use Rattle.fancy_lines.proofs.index.LineIndex.starts_up_to.Goals as goal

pub returns-clause-value : goal.returns-clause-value
returns-clause-value c =
    let index = c.args.self.now in
    let offset = c.args.offset in
    let same : c.as_slice.result.now ≡ starts_after 0 index.text.now = c.as_slice.ensures.value ∙ index.whole in
    let point = c.partition_point.ensures.partitioned (λ s. leb s offset) (always_returns_same _ _ _ (λ a r f k. search (rules, of_calls)))
    (IsPartitionedBy-leb (λ (y : ℕ). y) c.as_slice.result.now offset (rises_by_number index.text.now c.as_slice.result.now same)) in
    breaks_are 0 offset c.partition_point.result index.text.now c.requires
    (subst (λ l. Splits l c.partition_point.result (0 + offset)) same
    (splits_at c.as_slice.result.now c.partition_point.result offset (0 + offset) (omega arith) c.partition_point.ensures.bound point))
