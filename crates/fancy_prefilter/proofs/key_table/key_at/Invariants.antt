use Rattle.std.proofs.Common.{◌≡◌, ◌+◌, ◌-◌, ◌<◌}
use Rattle.fancy_prefilter.specs.Keys.{key_at, key_from, keys}
use Rattle.fancy_prefilter.proofs.key_table.key_at.Given as goal

abbrev pub invariant-loop-i : goal.invariant-loop-i
invariant-loop-i l = record {
  small : l.seed < keys;
  key : key_from l.seed (l.width - l.i) l.haystack (l.place + l.i) ≡ key_at l.width l.haystack l.place;
}
