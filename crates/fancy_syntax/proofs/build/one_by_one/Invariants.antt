use Rattle.std.proofs.Common.{◌≡◌, map, take}
use Rattle.fancy_tree.specs.Pattern.{pattern_of, character}
use Rattle.fancy_syntax.proofs.build.one_by_one.Given as goal

abbrev pub invariant-loop-byte : goal.invariant-loop-byte
invariant-loop-byte l = map pattern_of l.parts.items ≡ map character (take l.byte-index l.bytes)
