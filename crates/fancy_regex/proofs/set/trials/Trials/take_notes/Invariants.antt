use Rattle.std.proofs.Common.{ℕ, ◌≡◌, ◌+◌, ◌-◌, length}
use Rattle.fancy_regex.specs.Trials.{notes_at}
use Rattle.fancy_regex.proofs.set.trials.Trials.take_notes.Given as goal

abbrev pub invariant-members : goal.invariant-members
invariant-members l = record {
  others : (k : ℕ) → notes_at l.self k ≡ notes_at l.fn.self k;
  cache : l.self.cache ≡ l.fn.self.cache;
}

abbrev pub decreases-members : goal.decreases-members
decreases-members l = l.index + 1 - length l.self.notes.items
