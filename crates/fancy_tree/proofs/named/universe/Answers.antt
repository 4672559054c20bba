use Rattle.std.proofs.Common.{refl}
use Rattle.fancy_tree.proofs.SetLemmas.{same_set, ranges_within}
use Rattle.fancy_tree.proofs.named.universe.Goals as goal

pub returns-in-Unicode : goal.returns-in-Unicode
returns-in-Unicode c = rw c.in-Unicode.is (same_set c.from_ranges.result (λ x. ranges_within _ x refl) c.from_ranges.ensures)

pub returns-in-Bytes : goal.returns-in-Bytes
returns-in-Bytes c = rw c.in-Bytes.is (same_set c.from_ranges-in-Bytes.result (λ x. ranges_within _ x refl) c.from_ranges-in-Bytes.ensures)

pub returns-in-AsciiText : goal.returns-in-AsciiText
returns-in-AsciiText c = rw c.in-AsciiText.is (same_set c.from_ranges-in-AsciiText.result (λ x. ranges_within _ x refl) c.from_ranges-in-AsciiText.ensures)
