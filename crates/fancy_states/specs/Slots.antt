-- Steps on what is no ASCII character, found by hashing.
use Rattle.std.specs.Prelude.{◌≡◌, ◌⊎◌, ℕ, List, Some, slice_get}
use Rattle.fancy_alphabet.specs.declared.side.Side.TheVariants.{Other}
use Rattle.fancy_states.specs.declared.slots.Slot.{Slot}
use Rattle.fancy_states.specs.declared.origin.Origin.TheVariants.{Mixed}
use Rattle.fancy_states.specs.declared.transitions.Kind.TheVariants.{Unknown}
use Rattle.fancy_states.specs.declared.transitions.Transition.{Transition}

-- stands for a character where nothing is read
abbrev pub nothing : ℕ
nothing = 4_294_967_295

-- the entry of a step that is not remembered
abbrev pub unknown : Transition
unknown = record { ahead = 0; opened = 0; cell = 0; next = 0; begun = 0; origin = Mixed; kind = Unknown }

-- no step
abbrev pub blank : Slot
blank = record { start = 0; code = nothing; width = 0; after = Other; entry = unknown }

-- it is one of the slots
abbrev pub IsIn : List Slot → Slot → Type 0
IsIn slots s = (i : ℕ) × (slice_get slots i ≡ Some s)

-- each of the later slots is this one, or one of those before
abbrev pub ComeFrom : List Slot → Slot → List Slot → Type 0
ComeFrom slots s later = (x : Slot) → IsIn later x → (x ≡ s) ⊎ IsIn slots x
