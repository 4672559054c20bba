use Rattle.std.proofs.Common.{ℕ}
use Rattle.fancy_explain.specs.Explained.{WritesText}
use Rattle.fancy_explain.proofs.writing.write_blanks.Given as goal

abbrev pub invariant-loop : goal.invariant-loop
invariant-loop g l = WritesText g.W.Writer.contents l.fn.writer l.writer
