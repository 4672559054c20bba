-- Where the items of a loop stand, and where what follows it dies.
use Rattle.std.specs.Prelude.{◌≡◌, ℕ, ◌+◌, ◌-◌, ◌^◌, ◌<◌, ◌≤◌, ◌⊎◌, true, false, List, Some, None, slice_get}
use Rattle.fancy_bytes.specs.Sets.{ByteFlags, member}
use Rattle.fancy_splits.specs.declared.splits.ToldSplit.{ToldSplit}
use Rattle.fancy_splits.specs.declared.splits.Splits.{Splits}
use Rattle.fancy_splits.specs.Splits.{IsNoted, IsPast}
use Rattle.fancy_machine.specs.declared.runs.Run.{Run}
use Rattle.fancy_trail.specs.Frames.{Frame, Held}
use Rattle.fancy_trail.specs.Ways.{IsEndedByAny}
use Rattle.fancy_machine.specs.declared.runs.LastRun.{LastRun}

-- a byte of these stands at a place
abbrev pub Stands : ByteFlags → List ℕ → ℕ → Type 0
Stands bytes haystack p = (b : ℕ) × (slice_get haystack p ≡ Some b) × (b < 256) × (member bytes b ≡ true)

-- a byte stands at a place, and it is none of these
abbrev pub Lacks : ByteFlags → List ℕ → ℕ → Type 0
Lacks bytes haystack p = (b : ℕ) × (slice_get haystack p ≡ Some b) × (b < 256) × (member bytes b ≡ false)

-- the first way of a loop dies at a place, where consumed text ends by a limit: a byte tells it, or nothing is consumed any more
abbrev pub IsStuck : ToldSplit → List ℕ → ℕ → ℕ → Type 0
IsStuck l haystack limit p = Lacks l.begins haystack p ⊎ IsPast haystack limit p

-- from a place on so many items of the loop stand one after another, each of them one byte
abbrev pub HasItems : ToldSplit → List ℕ → ℕ → ℕ → Type 0
HasItems l haystack place n = (k : ℕ) → k < n → Stands l.items haystack (place + k)

-- at these of the places from one on, what follows the loop cannot go on
abbrev pub DieFrom : ToldSplit → List ℕ → ℕ → ℕ → ℕ → Type 0
DieFrom l haystack place low high = (k : ℕ) → low ≤ k → k < high → Lacks l.leaves haystack (place + k)

-- what is remembered of the run that was read last is true
abbrev pub KnowsRun : Splits → List ℕ → LastRun → Type 0
KnowsRun splits haystack r = (l : ToldSplit) → IsNoted splits r.at l → HasItems l haystack r.from (r.past - r.from)

-- so many items from a place on are the last ones of the run that was read for the loop at an instruction
abbrev pub IsPartOf : LastRun → ℕ → ℕ → ℕ → Type 0
IsPartOf r at place n = (r.at ≡ at) × (r.from ≤ place) × (place + n ≡ r.past)

-- the second way of a choice stops at once, and that ends the innermost region
abbrev pub Closes : ToldSplit → List Frame → Type 0
Closes l fs = IsEndedByAny fs × ((next : ℕ) × (l.stop ≡ Some next))

-- What was read at a choice is true. Where items stand in a group there are some only if the first way dies after them, and the second one closes.
pub record IsRun (l : ToldSplit) (haystack : List ℕ) (h : Held) (r : Run) : Type 0 where
  pub items : HasItems l haystack h.now.state.place r.count
  pub inside : r.count ≤ h.now.limit - h.now.state.place
  pub fits : h.now.state.place + r.count < 2 ^ 64
  pub short : r.count + 2 < 2 ^ 64
  pub stuck : r.is_stuck ≡ true → IsStuck l haystack h.now.limit (h.now.state.place + r.count)
  pub goes : r.is_stuck ≡ false → 0 < r.count → l.group ≡ None
  pub closes : r.closes ≡ true → Closes l h.frames
  pub stays : r.closes ≡ false → 0 < r.count → l.group ≡ None
