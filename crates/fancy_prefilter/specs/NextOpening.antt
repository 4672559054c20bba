-- Where a search goes on to, by all that tells where no match starts.
use Rattle.std.specs.Prelude.{◌≡◌, ℕ, zero, suc, ◌+◌, ◌<◌, ◌≤◌, false, List, Option, Some, None, length, slice_index}
use Rattle.fancy_bytes.specs.Sets.{ByteFlags, member}
use Rattle.fancy_bytes.specs.Openings.{StandsBefore}
use Rattle.fancy_prefilter.specs.Regions.{LacksTarget}
use Rattle.fancy_bytes.specs.Rows.{StandsFrom}
use Rattle.fancy_prefilter.specs.declared.reach.Reach.{Reach}
use Rattle.fancy_prefilter.specs.KeyTables.{NoneMayStand}
use Rattle.fancy_prefilter.specs.Seen.{MayNotStart, NoneMayStart}
use Rattle.fancy_prefilter.specs.declared.prefilter.Anchor.{Anchor}
use Rattle.fancy_prefilter.specs.declared.prefilter.Anchor.TheVariants.{Anywhere, AtStart, AtLines, AtWords}
use Rattle.fancy_prefilter.specs.declared.prefilter.Opening.{Opening}
use Rattle.fancy_prefilter.specs.declared.prefilter.Opening.TheVariants.{Untold, Text, Window, Sets, Words}
use Rattle.fancy_prefilter.specs.declared.prefilter.Prefilter.{Prefilter}

-- What each match opens with does not stand at p: not the text, a byte of some set not at its place, or by their table none of the alternatives.
abbrev pub LacksOpening : Opening → List ℕ → ℕ → ℕ → Type 0
LacksOpening Untold haystack range_end p = ⊥
LacksOpening (Text text) haystack range_end p = ¬ StandsBefore haystack range_end text p
LacksOpening (Window sets) haystack range_end p = ¬ StandsFrom sets haystack range_end 0 p
LacksOpening (Sets sets) haystack range_end p = ¬ StandsFrom sets.items haystack range_end 0 p
LacksOpening (Words b) haystack range_end p = NoneMayStand b.table haystack range_end p

-- what each match opens with stands nowhere so many places before this byte
abbrev pub IsRuledOut : Opening → ℕ → ℕ → Type 0
IsRuledOut o place byte = (haystack : List ℕ) (range_end p : ℕ) → slice_index haystack (p + place) ≡ byte → LacksOpening o haystack range_end p

-- p is not the haystack's start, and no byte of the set stands before it
abbrev pub FollowsNone : ByteFlags → List ℕ → ℕ → Type 0
FollowsNone set haystack zero = ⊥
FollowsNone set haystack (suc p) = member set (slice_index haystack p) ≡ false

-- bytes stand before p and at it, and none of them is of the set
abbrev pub IsInsideWord : ByteFlags → List ℕ → ℕ → Type 0
IsInsideWord set haystack p = FollowsNone set haystack p × ((p < length haystack) × (member set (slice_index haystack p) ≡ false))

-- each match starts at the text's start, or there or after a byte of the set, or where a byte of the set stands on either side, and p is no such place
abbrev pub IsOffAnchor : Anchor → List ℕ → ℕ → Type 0
IsOffAnchor Anywhere haystack p = ⊥
IsOffAnchor AtStart haystack p = 0 < p
IsOffAnchor (AtLines set) haystack p = FollowsNone set haystack p
IsOffAnchor (AtWords set) haystack p = IsInsideWord set haystack p

-- what each match goes on to does not stand where a match from p on might come to it
abbrev pub LacksReach : Option Reach → List ℕ → ℕ → ℕ → Type 0
LacksReach None haystack range_end p = ⊥
LacksReach (Some r) haystack range_end p = LacksTarget r haystack range_end p

-- no match starts at p: by its first byte, since it would start past the text's start, within a line or inside a word, by what it opens with, or by what
-- it goes on to
pub data StartsNot (f : Prefilter) (haystack : List ℕ) (range_end p : ℕ) : Type 0 where
  by_byte : MayNotStart f.starts haystack range_end p → StartsNot f haystack range_end p
  by_anchor : IsOffAnchor f.anchor haystack p → StartsNot f haystack range_end p
  by_opening : LacksOpening f.opening haystack range_end p → StartsNot f haystack range_end p
  by_reach : LacksReach f.region haystack range_end p → StartsNot f haystack range_end p

-- p is a place, from the one on and up to the other, at which a search may go on, since no match starts before it; or it is past both. Where no match starts by its first byte, it is past both.
pub record IsNextOpening (f : Prefilter) (haystack : List ℕ) (range_end from last p : ℕ) : Type 0 where
  pub passed : from ≤ p
  pub within : p ≤ last + 1
  pub some : p ≤ last → ¬ NoneMayStart f.starts haystack range_end from (last + 1)
  pub none : (k : ℕ) → from ≤ k → k < p → StartsNot f haystack range_end k
