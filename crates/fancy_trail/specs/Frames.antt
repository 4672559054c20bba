-- What the machine holds, as plain data.
use Rattle.std.specs.Prelude.{ℕ, ◌+◌, Bool, List, [], ◌∷◌}
use Rattle.fancy_meaning.specs.Context.{State}

-- A way through the code: its next instruction, where consumed text ends at the latest, its state, and where each group began.
pub record Spot : Type 0 where
  pub at : ℕ
  pub limit : ℕ
  pub state : State
  pub starts : List ℕ

-- What is open. Each says where text that is consumed after it ends at the latest.
pub data Region : Type 0 where
  -- a part of which the first way that stops is taken
  Atom : (limit : ℕ) → Region
  -- a look-around, which goes on at `next` and the place
  LookAround : (behind : Bool) → (next place limit : ℕ) → Region
  -- a negated look-around, with the way that is taken where it finds nothing
  Denial : (behind : Bool) → Spot → Region
  -- a condition, with its second branch
  Condition : Spot → Region

pub data Frame : Type 0 where
  Saved : Spot → Frame
  Within : Region → Frame

-- how many branches the frames save
abbrev pub saved_in : Frame → ℕ
saved_in (Saved x) = 1
saved_in (Within (Atom l)) = 0
saved_in (Within (LookAround behind next p l)) = 0
saved_in (Within (Denial behind x)) = 1
saved_in (Within (Condition x)) = 1

abbrev pub saved : List Frame → ℕ
saved [] = 0
saved (f ∷ fs) = saved_in f + saved fs

-- the way that is followed, the frames below it, the last one first, and how many branches they may save
pub record Held : Type 0 where
  pub now : Spot
  pub frames : List Frame
  pub most : ℕ
