-- What the parts of the machine do to its trail: to the way that is followed, and to the frames below it.
use Rattle.std.specs.Prelude.{◌≡◌, ◌≢◌, ℕ, ◌+◌, ◌<◌, List, Result, Err, OnOk}
use Rattle.fancy_input.specs.declared.refusal.SearchRefusal.{SearchRefusal}
use Rattle.fancy_input.specs.declared.refusal.SearchRefusal.TheVariants.{Returns, Choices, Steps}
use Rattle.fancy_trail.specs.Frames.{Spot, Frame, Held, saved}

-- the way changes so, and nothing else does
pub record ChangesWay (so : Spot → Spot → Type 0) (old new : Held) : Type 0 where
  pub way : so old.now new.now
  pub frames : new.frames ≡ old.frames
  pub most : new.most ≡ old.most

-- the way goes on at x, and nothing else changes
pub record GoesOn (x : Spot) (old new : Held) : Type 0 where
  pub now : new.now ≡ x
  pub frames : new.frames ≡ old.frames
  pub most : new.most ≡ old.most

-- The same where memory may run out. As many branches may be saved as before in any case.
pub record GoesOnIfOk {A E : Type 0} (result : Result A E) (x : Spot) (old new : Held) : Type 0 where
  pub now : OnOk result (new.now ≡ x)
  pub frames : OnOk result (new.frames ≡ old.frames)
  pub most : new.most ≡ old.most

-- The frames are these then, if memory lasts, and nothing else changes.
pub record LaysFrames {A E : Type 0} (result : Result A E) (frames : List Frame) (old new : Held) : Type 0 where
  pub now : new.now ≡ old.now
  pub laid : OnOk result (new.frames ≡ frames)
  pub most : new.most ≡ old.most

-- So many branches are saved, and the frames are these then. It is refused for memory, or where so many more may not be saved.
pub record SavesBranches {A : Type 0} (result : Result A SearchRefusal) (count : ℕ) (frames : List Frame) (old new : Held) : Type 0 where
  pub now : new.now ≡ old.now
  pub laid : OnOk result (new.frames ≡ frames)
  pub refused : result ≢ Err Returns
  pub unlimited : result ≢ Err Steps
  pub full : result ≡ Err Choices → old.most < saved old.frames + count
  pub most : new.most ≡ old.most
