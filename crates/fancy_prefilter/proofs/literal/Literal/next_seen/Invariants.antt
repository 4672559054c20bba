use Rattle.std.proofs.Common.{◌≤◌}
use Rattle.fancy_bytes.specs.Openings.{NoneStandsBefore}
use Rattle.fancy_prefilter.proofs.literal.Literal.next_seen.Given as goal

abbrev pub invariant-places : goal.invariant-places
invariant-places l = record {
  passed : l.from ≤ l.place;
  within : l.place ≤ l.end;
  none : NoneStandsBefore l.haystack l.end l.self l.from l.place;
}
