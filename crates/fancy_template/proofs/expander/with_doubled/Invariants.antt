use Rattle.std.proofs.Common.{string_bytes, ◌≡◌, encode_utf8_all, flat_map}
use Rattle.fancy_template.specs.Marks.{doubled_mark}
use Rattle.fancy_template.proofs.expander.with_doubled.Given as goal

abbrev pub invariant-loop-c : goal.invariant-loop-c
invariant-loop-c l = string_bytes l.doubled ≡ encode_utf8_all (flat_map (doubled_mark l.mark) l.yielded)
