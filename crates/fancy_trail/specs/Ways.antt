-- What moves a way, and what stands among the frames below it.
use Rattle.std.specs.Prelude.{◌≡◌, ℕ, zero, suc, ◌+◌, ◌-◌, ◌<◌, Bool, true, false, List, [], ◌∷◌, Option, Some, None, Result, Ok, Err, if◌then◌else◌, ◌==◌, slice_index, slice_set}
use Rattle.fancy_input.specs.declared.refusal.SearchRefusal.{SearchRefusal}
use Rattle.fancy_input.specs.declared.refusal.SearchRefusal.TheVariants.{Memory, Returns, Choices, Steps}
use Rattle.fancy_code.specs.declared.slot.Slot.{Slot}
use Rattle.fancy_input.specs.declared.work.Work.{Work}
use Rattle.fancy_input.specs.Work.{returns_of, went_back}
use Rattle.fancy_meaning.specs.Context.{State, moved_to, with_capture}
use Rattle.fancy_meaning.specs.Events.{any, ends_look}
use Rattle.fancy_trail.specs.declared.layer.Kind.{Kind}
use Rattle.fancy_trail.specs.Frames.{Spot, Region, Frame, Held, Atom, LookAround, Denial, Condition, Saved, Within}
use Rattle.fancy_trail.specs.declared.layer.Kind.TheVariants as k

abbrev pub at_instr : ℕ → Spot → Spot
at_instr q x = record x { at = q }

abbrev pub at_place : ℕ → ℕ → Spot → Spot
at_place q p x = record x { at = q; state = moved_to x.state p }

-- a group has this slot
abbrev pub written : ℕ → Slot → Spot → Spot
written g s x = record x { state = record x.state { captures = slice_set x.state.captures g s.span }; starts = slice_set x.starts g s.from }

abbrev pub opened_at : ℕ → ℕ → Spot → Spot
opened_at g q x = record x { at = q; starts = slice_set x.starts g x.state.place }

abbrev pub closed_at : ℕ → ℕ → Spot → Spot
closed_at g q x = record x { at = q; state = with_capture x.state g (slice_index x.starts g) }

abbrev pub kept_at : ℕ → Spot → Spot
kept_at q x = record x { at = q; state = record x.state { kept = x.state.place } }

abbrev pub within_at : ℕ → ℕ → Spot → Spot
within_at q l x = record x { at = q; limit = l }

-- the way past an item of one byte, in a group if there is one
abbrev pub past_one : Option ℕ → Spot → Spot
past_one None x = at_place x.at (x.state.place + 1) x
past_one (Some g) x = closed_at g x.at (at_place x.at (x.state.place + 1) (opened_at g x.at x))

-- the way past so many of them
abbrev pub past_items : Option ℕ → ℕ → Spot → Spot
past_items group zero x = x
past_items group (suc n) x = past_items group n (past_one group x)

-- the frames once branches at these instructions are saved, one after another
abbrev pub saved_ways : List ℕ → Spot → List Frame → List Frame
saved_ways [] x fs = fs
saved_ways (q ∷ ways) x fs = saved_ways ways x (Saved (at_instr q x) ∷ fs)

-- a branch is saved at each of n places from p on, where it goes on at q; the last place's is taken first
abbrev pub saved_run : ℕ → ℕ → ℕ → Spot → List Frame → List Frame
saved_run q p zero x fs = fs
saved_run q p (suc n) x fs = Saved (at_place q (p + n) x) ∷ saved_run q p n x fs

-- these frames are others with so many saved branches above them
abbrev pub SavedOn : ℕ → List Frame → List Frame → Type 0
SavedOn zero gs fs = gs ≡ fs
SavedOn (suc n) [] fs = ⊥
SavedOn (suc n) (Saved y ∷ gs) fs = SavedOn n gs fs
SavedOn (suc n) (Within r ∷ gs) fs = ⊥

-- The n branches that were saved last go on at q, the last one at the place p and each one before it one place earlier. Without them fs is gs.
abbrev pub EndsInRun : ℕ → ℕ → ℕ → List Frame → List Frame → Type 0
EndsInRun q p zero fs gs = fs ≡ gs
EndsInRun q p (suc n) [] gs = ⊥
EndsInRun q p (suc n) (Saved x ∷ fs) gs = (x.at ≡ q) × (x.state.place ≡ p) × EndsInRun q (p - 1) n fs gs
EndsInRun q p (suc n) (Within r ∷ fs) gs = ⊥

-- no region is open
abbrev pub IsBare : List Frame → Type 0
IsBare [] = Unit {0}
IsBare (Saved x ∷ fs) = IsBare fs
IsBare (Within r ∷ fs) = ⊥

-- r is the innermost open region, and the rest is below it
abbrev pub HasInnermost : List Frame → Region → List Frame → Type 0
HasInnermost [] r rest = ⊥
HasInnermost (Saved x ∷ fs) r rest = HasInnermost fs r rest
HasInnermost (Within p ∷ fs) r rest = (p ≡ r) × (fs ≡ rest)

-- no branch is saved
abbrev pub IsSpent : List Frame → Type 0
IsSpent [] = Unit {0}
IsSpent (Saved x ∷ fs) = ⊥
IsSpent (Within (Atom l) ∷ fs) = IsSpent fs
IsSpent (Within (LookAround behind next p l) ∷ fs) = IsSpent fs
IsSpent (Within (Denial behind x) ∷ fs) = ⊥
IsSpent (Within (Condition x) ∷ fs) = ⊥

-- y is the branch that was saved last, and the rest is below it
abbrev pub Takes : List Frame → Spot → List Frame → Type 0
Takes [] y rest = ⊥
Takes (Saved x ∷ fs) y rest = (x ≡ y) × (fs ≡ rest)
Takes (Within (Atom l) ∷ fs) y rest = Takes fs y rest
Takes (Within (LookAround behind next p l) ∷ fs) y rest = Takes fs y rest
Takes (Within (Denial behind x) ∷ fs) y rest = (x ≡ y) × (fs ≡ rest)
Takes (Within (Condition x) ∷ fs) y rest = (x ≡ y) × (fs ≡ rest)

-- what taking the last saved branch did
abbrev pub TookBranch : Result Bool SearchRefusal → ℕ → Held → Held → Work → Work → Type 0
TookBranch (Ok false) limit old new before after = IsSpent old.frames × (after ≡ before)
TookBranch (Ok true) limit old new before after =
    Takes old.frames new.now new.frames × (new.most ≡ old.most) × (after ≡ went_back before) × (returns_of before < limit)
TookBranch (Err Returns) limit old new before after = (IsSpent old.frames → ⊥) × (returns_of before ≡ limit) × (after ≡ before)
TookBranch (Err Memory) limit old new before after = ⊥
TookBranch (Err Choices) limit old new before after = ⊥
TookBranch (Err Steps) limit old new before after = ⊥

-- which ways that stop end a region
abbrev pub wanted_by : Region → State → Bool
wanted_by (Atom l) = any
wanted_by (LookAround behind next p l) = ends_look behind p
wanted_by (Denial behind x) = ends_look behind x.state.place
wanted_by (Condition x) = any

-- each way that stops ends the innermost region
abbrev pub IsEndedByAny : List Frame → Type 0
IsEndedByAny fs = (r : Region) × (rest : List Frame) × HasInnermost fs r rest × ((s : State) → wanted_by r s ≡ true)

-- whether a way that stops at p ends the region of a layer of this kind from the place `from`
abbrev pub ends_kind : Kind → ℕ → ℕ → Bool
ends_kind k.Branch from p = true
ends_kind k.Atom from p = true
ends_kind (k.Look behind) from p = if behind then p == from else true
ends_kind (k.Denial behind) from p = if behind then p == from else true
ends_kind k.Condition from p = true
