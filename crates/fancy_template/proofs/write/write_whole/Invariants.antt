use Rattle.std.proofs.Common.{length, ◌-◌, ◌≤◌, take}
use Rattle.std.specs.Io.KnownBytes.{Appends}
use Rattle.fancy_template.proofs.WriteLemmas.{IsBegun}
use Rattle.fancy_template.proofs.write.write_whole.Given as goal

abbrev pub invariant-loop-at : goal.invariant-loop-at
invariant-loop-at g l = record {
  within : l.at ≤ length l.text;
  taken : Appends (g.W.Writer.contents l.fn.writer) (g.W.Writer.contents l.writer) (take l.at l.text);
  begun : IsBegun g.W.Writer.answers l.fn.writer l.text l.writer l.at;
}

abbrev pub decreases-loop-at : goal.decreases-loop-at
decreases-loop-at g l = length l.text - l.at
