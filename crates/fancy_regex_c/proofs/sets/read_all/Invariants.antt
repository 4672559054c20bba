use Rattle.std.proofs.Common.{◌≡◌}
use Rattle.fancy_regex_c.specs.SetReading.{start_of_text, AreRead}
use Rattle.fancy_regex_c.proofs.sets.read_all.Given as goal

abbrev pub invariant-loop-index : goal.invariant-loop-index
invariant-loop-index l = record {
  start : l.start ≡ start_of_text l.ends l.index;
  read : AreRead l.options l.patterns l.ends l.index l.members.items;
}
