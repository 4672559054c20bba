use Rattle.std.proofs.Common.{◌≡◌, take, sum_by, min, ◌^◌, ◌-◌}
use Rattle.std.specs.Char.{len_utf8}
use Rattle.fancy_syntax.proofs.parser.bytes_of.Given as goal

abbrev pub invariant-loop-c : goal.invariant-loop-c
invariant-loop-c l = l.bytes ≡ min (sum_by len_utf8 (take l.c-index l.characters)) (2 ^ 64 - 1)
