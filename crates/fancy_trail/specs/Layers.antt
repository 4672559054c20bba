-- The layers of a search as frames.
use Rattle.std.specs.Prelude.{◌≡◌, ℕ, zero, suc, ◌+◌, ◌-◌, ◌≤◌, Bool, true, false, if◌then◌else◌, nat_le, nat_lt, ◌==◌, Option, Some, None, List, [], ◌∷◌, ◌++◌, map, length, drop, replicate}
use Rattle.fancy_code.specs.declared.slot.Slot.{Slot}
use Rattle.fancy_meaning.specs.Context.{State, moved_to}
use Rattle.fancy_code.specs.Thread.{slot_span, slot_from}
use Rattle.fancy_trail.specs.declared.layer.Layer.{Layer}
use Rattle.fancy_trail.specs.declared.layer.Kind.{Kind}
use Rattle.fancy_trail.specs.declared.log.Cell.{Cell}
use Rattle.fancy_trail.specs.declared.log.Write.{Write}
use Rattle.fancy_trail.specs.Log.{cell_level, old_slot, undone_by, Climbs}
use Rattle.fancy_trail.specs.Frames.{Spot, Frame, Saved, Within, Atom, LookAround, Denial, Condition}
use Rattle.fancy_trail.specs.declared.layer.Kind.TheVariants as k

abbrev pub spot_of : ℕ → ℕ → ℕ → ℕ → List Slot → Spot
spot_of at limit place kept slots = record {
  at = at;
  limit = limit;
  state = record { place = place; captures = map slot_span slots; kept = kept };
  starts = map slot_from slots;
}

-- the outcome that was kept, with these slots, if one was
abbrev pub outcome_of : Bool → ℕ → ℕ → List Slot → Option State
outcome_of false place kept slots = None
outcome_of true place kept slots = Some (record { place = place; captures = map slot_span slots; kept = kept })

-- the frame of this kind for a way
abbrev pub frame_by : Kind → Spot → Frame
frame_by k.Branch x = Saved x
frame_by k.Atom x = Within (Atom x.limit)
frame_by (k.Look behind) x = Within (LookAround behind x.at x.state.place x.limit)
frame_by (k.Denial behind) x = Within (Denial behind x)
frame_by k.Condition x = Within (Condition x)

-- how many branches a layer of this kind saves
abbrev pub saves : Kind → ℕ
saves k.Branch = 1
saves k.Atom = 0
saves (k.Look behind) = 0
saves (k.Denial behind) = 1
saves k.Condition = 1

abbrev pub is_one : ℕ → Bool
is_one n = n == 1

-- whether a layer of this kind is a region
abbrev pub is_region : Kind → Bool
is_region k.Branch = false
is_region k.Atom = true
is_region (k.Look behind) = true
is_region (k.Denial behind) = true
is_region k.Condition = true

-- at how many places before its own a layer saves a branch too
abbrev pub earlier : Layer → ℕ
earlier l = if is_region l.kind then 0 else l.place - l.from

-- how many branches a layer saves
abbrev pub saved_by : Layer → ℕ
saved_by l = saves l.kind + earlier l

abbrev pub branches_in : List Layer → ℕ
branches_in [] = 0
branches_in (l ∷ ls) = saved_by l + branches_in ls

-- the same way one place before
abbrev pub one_before : Spot → Spot
one_before x = record x { state = moved_to x.state (x.state.place - 1) }

-- the frames of this kind for a way and for those at each of n places before, the way's own first
abbrev pub frames_by : Kind → ℕ → Spot → List Frame
frames_by j zero x = frame_by j x ∷ []
frames_by j (suc n) x = frame_by j x ∷ frames_by j n (one_before x)

-- the way of a layer, with the slots that there were when it was made
abbrev pub spot_at : List Write → List Slot → Layer → Spot
spot_at log slots l = spot_of l.at l.limit l.place l.kept (undone_by old_slot slots (drop l.log log))

abbrev pub frames_at : List Write → List Slot → Layer → List Frame
frames_at log slots l = frames_by l.kind (earlier l) (spot_at log slots l)

-- the frames of these layers, where `of` tells those of each: the last layer's first, and `fs` below them all
abbrev pub stacked : (Layer → List Frame) → List Frame → List Layer → List Frame
stacked of fs [] = fs
stacked of fs (l ∷ ls) = stacked of (of l ++ fs) ls

-- the layers as frames, the last one first
abbrev pub frames_of : List Write → List Slot → List Layer → List Frame
frames_of log slots ls = stacked (frames_at log slots) [] ls

-- what stays of a layer once the branch at its place is taken: those before it, if it saves such
abbrev pub less_one : Layer → List Layer
less_one l = if nat_lt 0 (earlier l) then record l { place = l.place - 1 } ∷ [] else []

-- the last of the layers is answered, if there is one, and of it stays what its last branch leaves
abbrev pub TookLast : Option Layer → List Layer → List Layer → Type 0
TookLast None all fewer = (all ≡ []) × (fewer ≡ all)
TookLast (Some l) all fewer = (rest : List Layer) × (all ≡ rest ++ l ∷ []) × (fewer ≡ rest ++ less_one l)

-- the log was at least lo writes long when the first of these layers was made, no shorter for each next one, and is n writes long now, or longer
abbrev pub Rises : ℕ → List Layer → ℕ → Type 0
Rises lo [] n = lo ≤ n
Rises lo (l ∷ ls) n = (lo ≤ l.log) × Rises l.log ls n

-- how many branches these layers had saved when write n was logged
abbrev pub depth : List Layer → ℕ → ℕ
depth [] n = 0
depth (l ∷ ls) n = (if nat_le l.log n then saved_by l else 0) + depth ls n

-- The log led from cells that nothing was written to to these, and each of its writes was to a group that had none since the last branch was saved.
abbrev pub IsLog : List Layer → List Write → List Cell → Type 0
IsLog ls log cells = Climbs (depth ls) 0 (replicate (length cells) 0) log (map cell_level cells)

-- the number of the innermost region, where l is the last of so many layers: how many stand up to it, 0 where none is a region
abbrev pub region_by : ℕ → Layer → ℕ
region_by count l = if is_region l.kind then count else l.region

-- Each of these layers has the number of the innermost region below it, and `top` is that of the innermost of all. Below them stand n layers, and `inner` is the number of the innermost region among those.
abbrev pub KnowRegions : ℕ → ℕ → List Layer → ℕ → Type 0
KnowRegions n inner [] top = inner ≡ top
KnowRegions n inner (l ∷ ls) top = (l.region ≡ inner) × KnowRegions (suc n) (region_by (suc n) l) ls top
