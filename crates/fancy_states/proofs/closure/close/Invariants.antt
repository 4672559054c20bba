use Rattle.std.proofs.Common.{ℕ, ◌≡◌, ◌+◌, ◌-◌, ◌*◌, ◌≤◌, Bool, None, [], length, reverse}
use Rattle.fancy_code.specs.Code.{instrs_of}
use Rattle.fancy_code.specs.CodeLength.{code_len}
use Rattle.fancy_states.specs.Counts.{AddsSteps, PaysFor}
use Rattle.fancy_alphabet.specs.Sights.{seen_in}
use Rattle.fancy_states.specs.Ways.{Ends, Solves, Closing, AllKnown, marked, first_end}
use Rattle.fancy_states.proofs.closure.close.Given as goal

abbrev pub invariant-ways : goal.invariant-ways
invariant-ways l = record {
  closing : (here : ℕ) (ends later : Ends) (known beyond : ℕ → Bool) (rank : ℕ → ℕ)
      → Solves (instrs_of l.code) (seen_in l.sight) here ends later known beyond rank
      → AllKnown known (reverse l.fn.reach.stack.items)
      → Closing ends later known beyond rank (first_end ends (reverse l.fn.reach.stack.items)) l.marks l.reach.next.items (reverse l.reach.stack.items);
  halts : l.sight.reading ≡ None → l.reach.next.items ≡ [];
  room : length l.marks ≡ code_len l.code;
  width : length l.reach.next.items ≤ marked l.marks;
  counts : AddsSteps (marked l.marks) l.fn.work l.work;
  paid : PaysFor (marked l.marks) l.fn.work l.work;
}

abbrev pub decreases-ways : goal.decreases-ways
decreases-ways l = 2 * (length l.marks - marked l.marks) + length l.reach.stack.items
