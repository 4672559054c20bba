-- The text that code consumes first from an instruction on.
use Rattle.std.specs.Prelude.{◌≡◌, ℕ, ◌+◌, true, List, [], ◌∷◌, ◌++◌, length, Option, Some, None, slice_get, slice_index}
use Rattle.fancy_tree.specs.declared.tree.Meaning.{Meaning}
use Rattle.fancy_bytes.specs.Openings.{StandsBefore}
use Rattle.fancy_meaning.specs.Context.{Context, State, moved_to}
use Rattle.fancy_meaning.specs.Events.{Event, outcome}
use Rattle.fancy_code.specs.Instructions.{Instruction}
use Rattle.fancy_code.specs.Run.{Raw, Foretells, erase, run}
use Rattle.fancy_prefilter.specs.declared.text.Text.{Text}

-- where the events are known, they are these
abbrev pub GivesEvents : List Event → Option (List Raw) → Type 0
GivesEvents es None = Unit {0}
GivesEvents es (Some w) = erase w ≡ es

-- Where a way of the code stops from an instruction on, the text stands where it began, before the end.
abbrev pub BeginsWith : List Instruction → Meaning → List ℕ → ℕ → Type 0
BeginsWith code m text at =
    (x : Context) (limit n : ℕ) (s : State) (v : List ℕ) → x.meaning ≡ m → Foretells (StandsBefore x.haystack limit text s.place) (run x limit code n at s v)

-- Where the text stands, there is one outcome from an instruction on, at the text's end.
abbrev pub EndsWith : List Instruction → Meaning → List ℕ → ℕ → Type 0
EndsWith code m text at =
    (x : Context) (limit n : ℕ) (s : State) (v : List ℕ) → x.meaning ≡ m → StandsBefore x.haystack limit text s.place
    → GivesEvents (outcome (moved_to s (s.place + length text)) ∷ []) (run x limit code n at s v)

-- the text that the code begins with from an instruction on, and all of it where that is told
pub record IsTextOf (t : Text) (code : List Instruction) (m : Meaning) (at : ℕ) : Type 0 where
  pub begins : BeginsWith code m t.bytes.items at
  pub ends : t.is_all ≡ true → EndsWith code m t.bytes.items at

-- From one instruction on the code consumes this text, and goes on at another: what is told of more text from there is told of both from the first one.
pub record ConsumesTo (code : List Instruction) (m : Meaning) (text : List ℕ) (from to : ℕ) : Type 0 where
  pub begins : (more : List ℕ) → BeginsWith code m more to → BeginsWith code m (text ++ more) from
  pub ends : (more : List ℕ) → EndsWith code m more to → EndsWith code m (text ++ more) from

-- one text for each of these instructions, which the code begins with from there on
pub record AreTexts (code : List Instruction) (m : Meaning) (heads : List ℕ) (texts : List Text) : Type 0 where
  pub count : length texts ≡ length heads
  pub each : (number : ℕ) (t : Text) → slice_get texts number ≡ Some t → IsTextOf t code m (slice_index heads number)
