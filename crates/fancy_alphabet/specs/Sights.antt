-- What a search sees at a place.
use Rattle.std.specs.Prelude.{◌≡◌, ℕ, Some, option_map}
use Rattle.fancy_meaning.specs.Context.{Context}
use Rattle.fancy_meaning.specs.Reading.{unit_read}
use Rattle.fancy_meaning.specs.declared.reading.Reading.{Reading}
use Rattle.fancy_alphabet.specs.Units.{unit_by}
use Rattle.fancy_alphabet.specs.Sides.{IsBefore, IsAfter, seen_as, side_of}
use Rattle.fancy_alphabet.specs.Effects.{Seen}
use Rattle.fancy_alphabet.specs.declared.side.Side.{Side}
use Rattle.fancy_alphabet.specs.declared.side.Tests.{Tests}
use Rattle.fancy_alphabet.specs.declared.sight.Sight.{Sight}

-- what the instructions of a code see there
abbrev pub seen_in : Sight → Seen
seen_in s = record { before = s.before; after = s.after; unit = option_map unit_read s.reading }

-- what tests tell apart of it
abbrev pub sight_seen : Tests → Sight → Sight
sight_seen t s = record { before = seen_as t s.before; after = seen_as t s.after; reading = s.reading }

-- That is what stands at the place, and is read there up to the limit.
pub record IsSeen (x : Context) (limit p : ℕ) (s : Seen) : Type 0 where
  pub before : IsBefore x p s.before
  pub after : IsAfter x p s.after
  pub unit : s.unit ≡ unit_by x limit p

-- an ASCII character
abbrev pub ascii : ℕ → Reading
ascii byte = record { code = byte; width = 1 }

-- an ASCII character after this side
abbrev pub ascii_sight : Side → ℕ → Sight
ascii_sight before byte = record { before = before; after = side_of byte; reading = Some (ascii byte) }

-- what tests tell apart of what is seen at a place
abbrev pub IsSeenAs : Context → ℕ → ℕ → Tests → Sight → Type 0
IsSeenAs x limit p t s = (whole : Sight) × IsSeen x limit p (seen_in whole) × (s ≡ sight_seen t whole)
