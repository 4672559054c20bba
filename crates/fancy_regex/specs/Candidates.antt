-- Which members of a pattern set may begin at a position, by the bytes there. Neighbours share a group: the member with index k is in the group k / width.
use Rattle.std.specs.Prelude.{◌≡◌, ◌≤◌, ◌<◌, ◌+◌, ◌/◌, ◌==◌, ℕ, Bool, true, false, List, Option, Some, None, IfSome, length, slice_get, slice_index_or}
use Rattle.std.specs.Int.{bit_at}
use Rattle.fancy_core.specs.declared.regex.Regex.{Regex}
use Rattle.fancy_core.specs.RegexStarts.{regex_may_start, NoneHolds}
use Rattle.fancy_regex.specs.declared.set.candidates.Groups.{Groups}
use Rattle.fancy_regex.specs.declared.set.candidates.Candidates.{Candidates}

-- the group with this number is there
unfoldable pub has_group : Groups → ℕ → Bool
has_group groups g = bit_at groups.bits g == 1

-- none is there from this number on
abbrev pub NoGroupFrom : Groups → ℕ → Type 0
NoGroupFrom groups from = (g : ℕ) → from ≤ g → has_group groups g ≡ false

-- g is the first that is there from this number on
pub record IsNextGroup (groups : Groups) (from g : ℕ) : Type 0 where
  pub reached : from ≤ g
  pub inside : g < 128
  pub there : has_group groups g ≡ true
  pub none : (h : ℕ) → from ≤ h → h < g → has_group groups h ≡ false

-- each member that may start right before this byte, or before none, is in one of the groups
abbrev pub HoldAll : ℕ → List Regex → Option ℕ → Groups → Type 0
HoldAll width members next groups = (k : ℕ) (r : Regex) → slice_get members k ≡ Some r → regex_may_start r next ≡ true → has_group groups (k / width) ≡ true

-- the group with this number has a member that may
pub record HasStarter (width : ℕ) (members : List Regex) (next : Option ℕ) (g : ℕ) : Type 0 where
  pub index : ℕ
  pub member : Regex
  pub is : slice_get members index ≡ Some member
  pub grouped : index / width ≡ g
  pub starts : regex_may_start member next ≡ true

-- each of the groups has such a member
abbrev pub HoldOnly : ℕ → List Regex → Option ℕ → Groups → Type 0
HoldOnly width members next groups = (g : ℕ) → has_group groups g ≡ true → HasStarter width members next g

-- what the table has for this byte, or for none
abbrev pub groups_before : Candidates → Option ℕ → Groups
groups_before c None = c.at_end
groups_before c (Some byte) = slice_index_or c.by_byte byte c.at_end

-- each member that is in none of the groups is easy, and no match of it starts so many places before this byte
abbrev pub HoldAhead : ℕ → List Regex → ℕ → ℕ → Groups → Type 0
HoldAhead width members place byte groups = (k : ℕ) (r : Regex) → slice_get members k ≡ Some r → has_group groups (k / width) ≡ false → NoneHolds r place byte

-- the groups for each byte
pub record AreHolders (width : ℕ) (members : List Regex) (place : ℕ) (by_byte : List Groups) : Type 0 where
  pub all : length by_byte ≡ 256
  pub each : (byte : ℕ) (none : Groups) → byte < 256 → HoldAhead width members place byte (slice_index_or by_byte byte none)

-- the tables have the groups of all these members, for each byte and for none
pub record AreCandidatesOf (members : List Regex) (c : Candidates) : Type 0 where
  pub first : (next : Option ℕ) → IfSome next (λ b. b < 256) → HoldAll c.width members next (groups_before c next)
  pub second : AreHolders c.width members 1 c.second
  pub third : AreHolders c.width members 2 c.third
  pub fourth : AreHolders c.width members 3 c.fourth
  pub fifth : AreHolders c.width members 4 c.fifth
  pub sixth : AreHolders c.width members 5 c.sixth

-- A member is not asked at p: no match of it starts with the byte there; or it is easy, and none starts so many places before a byte further on.
pub data IsPassed (r : Regex) (searched : List ℕ) (p : ℕ) : Type 0 where
  by_byte : regex_may_start r (slice_get searched p) ≡ false → IsPassed r searched p
  by_later : (place byte : ℕ) → slice_get searched (p + place) ≡ Some byte → NoneHolds r place byte → IsPassed r searched p

-- each member that is in none of the groups is not asked at p
abbrev pub HoldAllAt : ℕ → List Regex → List ℕ → ℕ → Groups → Type 0
HoldAllAt width members searched p groups = (k : ℕ) (r : Regex) → slice_get members k ≡ Some r → has_group groups (k / width) ≡ false → IsPassed r searched p

-- it has no group without a member that may start there
abbrev pub HoldNoOthers : List Regex → Candidates → Type 0
HoldNoOthers members c = (next : Option ℕ) → IfSome next (λ b. b < 256) → HoldOnly c.width members next (groups_before c next)

-- each of the groups is that of a member alone, which may start right before this byte, or before none
abbrev pub AreOfStarters : List Regex → Option ℕ → Groups → Type 0
AreOfStarters members next groups =
    (g : ℕ) → has_group groups g ≡ true → (g < length members) × ((r : Regex) → slice_get members g ≡ Some r → regex_may_start r next ≡ true)

-- where each member has a group of its own, the tables have those of starters
pub record TellStarters (members : List Regex) (c : Candidates) : Type 0 where
  pub tells : c.width ≡ 1 → (next : Option ℕ) → IfSome next (λ b. b < 256) → AreOfStarters members next (groups_before c next)

-- no member with an index from the one on and below the other is in one of the groups
abbrev pub NoMemberBetween : ℕ → Groups → ℕ → ℕ → Type 0
NoMemberBetween width groups from to = (k : ℕ) → from ≤ k → k < to → has_group groups (k / width) ≡ false

-- k is the first index, from the one on and below the other, of a member in one of the groups
pub record IsNextMember (width : ℕ) (groups : Groups) (from count k : ℕ) : Type 0 where
  pub reached : from ≤ k
  pub inside : k < count
  pub there : has_group groups (k / width) ≡ true
  pub none : NoMemberBetween width groups from k

-- no member with an index from the one on and below the other is asked at p
abbrev pub NoStarterBetween : List Regex → List ℕ → ℕ → ℕ → ℕ → Type 0
NoStarterBetween members searched p from to = (k : ℕ) (r : Regex) → from ≤ k → k < to → slice_get members k ≡ Some r → IsPassed r searched p

-- k is the first index, from the one on, of a member that is asked at p: it may start with the byte there
pub record IsNextStarter (members : List Regex) (searched : List ℕ) (p from k : ℕ) : Type 0 where
  pub reached : from ≤ k
  pub inside : k < length members
  pub starts : (r : Regex) → slice_get members k ≡ Some r → regex_may_start r (slice_get searched p) ≡ true
  pub none : NoStarterBetween members searched p from k
