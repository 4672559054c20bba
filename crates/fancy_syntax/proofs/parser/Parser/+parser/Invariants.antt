use Rattle.std.proofs.Common.{◌+◌, ◌*◌, ◌≤◌, length, map}
use Rattle.fancy_syntax.specs.Views.{place, text_left}
use Rattle.fancy_tree.specs.Pattern.{pattern_of}
use Rattle.fancy_syntax.specs.Grammar.{PartsReading, BranchesReading}
use Rattle.fancy_syntax.proofs.ParserLemmas.{GoesOn}
use Rattle.fancy_syntax.proofs.parser.Parser.+parser.Given as goal

abbrev pub decreases-alternatives : goal.decreases-alternatives
decreases-alternatives l = 4 * l.room + 3

abbrev pub decreases-sequence : goal.decreases-sequence
decreases-sequence l = 4 * l.room + 2

abbrev pub decreases-item : goal.decreases-item
decreases-item l = 4 * l.room + 1

abbrev pub decreases-head : goal.decreases-head
decreases-head l = 4 * l.room

abbrev pub invariant-alternatives-loop-found : goal.invariant-alternatives-loop-found
invariant-alternatives-loop-found l = record {
  goes_on : GoesOn (BranchesReading l.room) (place l.fn.self) (map pattern_of l.found.items) (place l.self);
  forward : length (text_left l.self) ≤ length (text_left l.fn.self);
}

abbrev pub decreases-alternatives-loop-found : goal.decreases-alternatives-loop-found
decreases-alternatives-loop-found l = length (text_left l.self)

abbrev pub invariant-sequence-loop-self : goal.invariant-sequence-loop-self
invariant-sequence-loop-self l = record {
  goes_on : GoesOn (PartsReading l.room) (place l.fn.self) (map pattern_of l.parts.items) (place l.self);
  forward : length (text_left l.self) ≤ length (text_left l.fn.self);
}

abbrev pub decreases-sequence-loop-self : goal.decreases-sequence-loop-self
decreases-sequence-loop-self l = length (text_left l.self)
