use Rattle.std.proofs.Common.{◌≡◌, length}
use Rattle.fancy_code.specs.Choices.{AreBeginnings}
use Rattle.fancy_code.specs.Code.{instrs_of}
use Rattle.fancy_code.proofs.choosing.beginnings_of.Given as goal

abbrev pub invariant-loop-at : goal.invariant-loop-at
invariant-loop-at l = record {
  count : length l.all.items ≡ l.at;
  begin : AreBeginnings l.all.items (instrs_of l.code) l.code.meaning;
}
