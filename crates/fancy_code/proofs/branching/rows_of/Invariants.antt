use Rattle.std.proofs.Common.{◌≡◌, ℕ, true, length}
use Rattle.std.specs.Prelude.{Some, slice_get, slice_index}
use Rattle.std.specs.Global.{Vec}
use Rattle.fancy_bytes.specs.Sets.{ByteFlags}
use Rattle.fancy_code.specs.Code.{instrs_of}
use Rattle.fancy_code.specs.Foretold.{Foretold}
use Rattle.fancy_code.proofs.branching.rows_of.Given as goal

abbrev pub invariant-loop-number : goal.invariant-loop-number
invariant-loop-number l = record {
  count : length l.rows.items ≡ l.number;
  each : (number : ℕ) (row : Vec ByteFlags) → slice_get l.rows.items number ≡ Some row
      → Foretold (instrs_of l.code) l.code.meaning row.items 0 true (slice_index l.heads number);
}
