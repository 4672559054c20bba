use Rattle.std.proofs.Common.{◌≡◌, ℕ, ◌+◌, ◌≤◌, ◌<◌}
use Rattle.fancy_prefilter.specs.Keys.{keys, key_at}
use Rattle.fancy_prefilter.specs.KeyTables.{NoneMayStand}
use Rattle.fancy_prefilter.proofs.key_table.KeyTable.next_by_last_two.Given as goal

abbrev pub invariant-loop-place : goal.invariant-loop-place
invariant-loop-place l = record {
  last : l.one ≡ key_at 1 l.haystack (l.place + 1);
  last_two : l.two ≡ key_at 2 l.haystack l.place;
  one : l.one < keys;
  two : l.two < keys;
  none : (k : ℕ) → l.from ≤ k → k < l.place → NoneMayStand l.self l.haystack l.end k;
}
