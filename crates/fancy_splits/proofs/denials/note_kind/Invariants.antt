use Rattle.std.proofs.Common.{◌≡◌, true, length}
use Rattle.fancy_code.specs.Code.{instrs_of}
use Rattle.fancy_splits.specs.Denials.{AreSights}
use Rattle.fancy_splits.proofs.denials.note_kind.Given as goal

abbrev pub invariant-loop-byte : goal.invariant-loop-byte
invariant-loop-byte l = record {
  size : length l.sights ≡ 256;
  each : AreSights (instrs_of l.code) l.code.meaning true l.body l.sights;
}
