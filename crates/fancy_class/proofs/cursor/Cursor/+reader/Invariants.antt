use Rattle.std.proofs.Common.{◌+◌, ◌*◌, ◌-◌, ◌≤◌, length}
use Rattle.fancy_class.specs.ClassGrammar.{none_of}
use Rattle.fancy_class.specs.ClassReading.{OperandItemsReading, OperandsReading}
use Rattle.fancy_class.specs.Chains.{chain_members}
use Rattle.fancy_class.specs.ClassViews.{builder_members}
use Rattle.fancy_class.proofs.ClassSteps.{GoesOn}
use Rattle.fancy_class.proofs.cursor.Cursor.+reader.Given as goal

abbrev pub decreases-bracketed_class : goal.decreases-bracketed_class
decreases-bracketed_class l = 2 * l.room

abbrev pub decreases-items : goal.decreases-items
decreases-items l = 2 * l.room + 1

abbrev pub invariant-bracketed_class-operands : goal.invariant-bracketed_class-operands
invariant-bracketed_class-operands l = record {
  goes_on : GoesOn (λ g r. OperandsReading l.context.meaning l.context.fold (l.room - 1) (chain_members l.initial.chain) l.initial.self.rest.now g r) (λ g r. OperandsReading l.context.meaning l.context.fold (l.room - 1) (chain_members l.chain) l.self.rest.now g r);
  forward : length l.self.rest.now ≤ length l.initial.self.rest.now;
}

abbrev pub decreases-bracketed_class-operands : goal.decreases-bracketed_class-operands
decreases-bracketed_class-operands l = length l.self.rest.now

abbrev pub invariant-items-more : goal.invariant-items-more
invariant-items-more l = record {
  goes_on : GoesOn (λ g r. OperandItemsReading l.context.meaning l.context.fold l.room l.fn.first none_of l.fn.self.rest.now g r) (λ g r. OperandItemsReading l.context.meaning l.context.fold l.room l.first (builder_members l.context l.builder) l.self.rest.now g r);
  forward : length l.self.rest.now ≤ length l.fn.self.rest.now;
}

abbrev pub decreases-items-more : goal.decreases-items-more
decreases-items-more l = length l.self.rest.now
