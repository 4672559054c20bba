use Rattle.std.proofs.Common.{ℕ, ◌≤◌, ◌<◌}
use Rattle.fancy_prefilter.specs.Keys.{keys}
use Rattle.fancy_prefilter.specs.KeyTables.{NoneMayStand}
use Rattle.fancy_prefilter.specs.LastKeys.{AreLast}
use Rattle.fancy_prefilter.proofs.key_table.KeyTable.next_by_last_keys.Given as goal

abbrev pub invariant-loop-place : goal.invariant-loop-place
invariant-loop-place l = record {
  are : AreLast l.last.one l.last.two l.last.three l.haystack l.place;
  one : l.last.one < keys;
  two : l.last.two < keys;
  three : l.last.three < keys;
  none : (k : ℕ) → l.from ≤ k → k < l.place → NoneMayStand l.self l.haystack l.end k;
}
