use Rattle.std.proofs.Common.{take}
use Rattle.fancy_regex.specs.Builders.{options_of}
use Rattle.fancy_regex.specs.Sets.{bytes_of_each, AreReadings}
use Rattle.fancy_regex.proofs.set.RegexSet.new_with_options.Given as goal

abbrev pub invariant-loop-pattern : goal.invariant-loop-pattern
invariant-loop-pattern l = AreReadings (options_of l.options) (take l.pattern-index (bytes_of_each l.patterns)) l.members.items
