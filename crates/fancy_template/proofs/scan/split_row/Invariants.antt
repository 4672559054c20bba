use Rattle.std.proofs.Common.{length}
use denote.Text.{Utf8}
use denote.Shadow.{shadow}
use Rattle.fancy_template.specs.Expanders.{test_of}
use Rattle.fancy_template.proofs.RowLemmas.{Passed}
use Rattle.fancy_template.proofs.scan.split_row.Given as goal

abbrev pub invariant-loop-c : goal.invariant-loop-c
invariant-loop-c l = shadow (Utf8 l.rest) × Passed (test_of l.kind) l.text l.rest

abbrev pub decreases-loop-c : goal.decreases-loop-c
decreases-loop-c l = length l.rest
