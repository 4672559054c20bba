use Rattle.std.proofs.Common.{◌<◌, ℕ}
use Rattle.std.specs.Prelude.{slice_index}
use Rattle.fancy_automaton.proofs.amid.first_below.Given as goal

abbrev pub invariant-numbers : goal.invariant-numbers
invariant-numbers l = (i : ℕ) → i < l.i → slice_index l.numbers i < l.bound
