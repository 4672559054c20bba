-- Which ASCII characters the code treats alike.
use Rattle.std.specs.Prelude.{◌≡◌, ◌+◌, ◌≤◌, ◌<◌, ◌⊎◌, ◌↔◌, IfSome, option_map, None, ℕ, Bool, false, true, List, Option, Some, get_or, length, ◌==◌}
use Rattle.fancy_code.specs.Code.{set_edges}
use Rattle.fancy_code.specs.declared.code.Code.{Code}
use Rattle.fancy_meaning.specs.Context.{Unit_at}
use Rattle.fancy_code.specs.Instructions.{Instruction}
use Rattle.fancy_code.specs.Run.{instr_at}
use Rattle.fancy_tree.specs.Sets.{has}
use Rattle.fancy_code.specs.Attempt.{context_in, instrs_in}
use Rattle.fancy_meaning.specs.Reading.{unit_read}
use Rattle.fancy_code.specs.declared.attempt.Attempt.{Attempt}
use Rattle.fancy_alphabet.specs.Units.{place_after}
use Rattle.fancy_alphabet.specs.Sides.{seen_as, side_of}
use Rattle.fancy_alphabet.specs.Sights.{IsSeen, seen_in}
use Rattle.fancy_alphabet.specs.Effects.{Seen, effect_of}
use Rattle.fancy_alphabet.specs.declared.side.Side.{Side}
use Rattle.fancy_alphabet.specs.declared.side.Tests.{Tests}
use Rattle.fancy_alphabet.specs.declared.sight.Sight.{Sight}

-- each instruction does the same where the one is seen as where the other is
abbrev pub IsAlike : List Instruction → Seen → Seen → Type 0
IsAlike code u v = (q : ℕ) → effect_of u (instr_at code q) ≡ effect_of v (instr_at code q)

-- an ASCII character
abbrev pub ascii_unit : ℕ → Option Unit_at
ascii_unit byte = Some (record { code = byte; width = 1 })

-- an ASCII character between these sides
abbrev pub ascii_seen : Side → Side → ℕ → Seen
ascii_seen before after byte = record { before = before; after = after; unit = ascii_unit byte }

-- A sight that the code treats as it treats what is seen at the place.
pub record IsSeenLike (a : Attempt) (p : ℕ) (s : Sight) : Type 0 where
  pub whole : Seen
  pub seen : IsSeen (context_in a) a.last p whole
  pub alike : IsAlike (instrs_in a) whole (seen_in s)
  pub width : place_after p (option_map unit_read s.reading) ≡ place_after p whole.unit
  pub ends : whole.unit ≡ None → s.reading ≡ None
  pub fits : IfSome s.reading (λ r. p + r.width ≤ a.last)

-- For each ASCII character there is one that stands for it.
pub record AreStanding (stands : List ℕ) : Type 0 where
  pub size : length stands ≡ 128
  pub ascii : (byte : ℕ) → byte < 128 → get_or stands byte 0 < 128

-- a test says the same of each ASCII character as of the one that stands for it
abbrev pub Respects : List ℕ → (ℕ → Bool) → Type 0
Respects stands test = (byte : ℕ) → byte < 128 → test byte ≡ test (get_or stands byte 0)

-- each test that said the same still does
abbrev pub Keeps : List ℕ → List ℕ → Type 0
Keeps stands later = (test : ℕ → Bool) → Respects stands test → Respects later test

-- the test for a character
abbrev pub is_character : ℕ → ℕ → Bool
is_character c byte = byte == c

-- the test for the members of a set
abbrev pub is_member : List ℕ → ℕ → Bool
is_member edges byte = has edges byte

-- what stands for a character where some are marked: itself, or one that is not marked either
abbrev pub IsApart : List Bool → ℕ → ℕ → Type 0
IsApart marks byte member = (member ≡ byte) ⊎ ((get_or marks byte false ≡ false) × (get_or marks member false ≡ false))

-- an ASCII character that stands so for one
pub record IsFirst (marks : List Bool) (byte member : ℕ) : Type 0 where
  pub ascii : member < 128
  pub apart : IsApart marks byte member

-- marks stay
abbrev pub Marked : List Bool → List Bool → Type 0
Marked marks later = (c : ℕ) → get_or marks c false ≡ true → get_or later c false ≡ true

-- the test for what is marked
abbrev pub is_marked : List Bool → ℕ → Bool
is_marked marks byte = get_or marks byte false

-- a test that says of ASCII characters whether they are this beside a place
abbrev pub IsTestFor : Side → (ℕ → Bool) → Type 0
IsTestFor side test = (byte : ℕ) → byte < 128 → (test byte ≡ true) ↔ (side_of byte ≡ side)

-- what tests tell apart of an ASCII character beside a place is the same of the one that stands for it
abbrev pub AreSided : Tests → List ℕ → Type 0
AreSided tests stands = (byte : ℕ) → byte < 128
    → seen_as tests (side_of byte) ≡ seen_as tests (side_of (get_or stands byte 0))

-- the sets with these numbers are respected
abbrev pub AreSeen : Code → List ℕ → List Bool → Type 0
AreSeen code stands seen = (n : ℕ) → get_or seen n false ≡ true → Respects stands (is_member (set_edges code n))
