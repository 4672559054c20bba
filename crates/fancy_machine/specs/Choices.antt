-- Where an attempt goes on from a choice.
use Rattle.std.specs.Prelude.{◌≡◌, ℕ, ◌<◌, Some, slice_get}
use Rattle.fancy_splits.specs.declared.choices.Passage.{Passage}
use Rattle.fancy_splits.specs.declared.choices.ToldChoice.{ToldChoice}
use Rattle.fancy_splits.specs.Splits.{IsPassage}
use Rattle.fancy_machine.specs.declared.attempt.Attempt.{Attempt}
use Rattle.fancy_trail.specs.Frames.{Spot}

-- the passage is that of the byte that stands at the place, where text may be consumed
abbrev pub IsTaken : Attempt → ToldChoice → Spot → Passage → Type 0
IsTaken a c x p = (b : ℕ) × (slice_get a.haystack.now x.state.place ≡ Some b) × (b < 256) × IsPassage c b p × (x.state.place < x.limit)
