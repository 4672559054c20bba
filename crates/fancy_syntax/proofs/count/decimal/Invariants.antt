use Rattle.std.proofs.Common.{◌≡◌, ◌<◌, ◌-◌, ◌^◌, min, drop}
use Rattle.fancy_syntax.specs.Counts.{decimal_from, decimal}
use Rattle.fancy_syntax.proofs.count.decimal.Given as goal

abbrev pub invariant-loop-c : goal.invariant-loop-c
invariant-loop-c l = record {
  value : min (decimal l.text) (2 ^ 64 - 1) ≡ min (decimal_from l.number (drop l.c-index l.text)) (2 ^ 64 - 1);
  fits : l.number < 2 ^ 64;
}
