-- What is left of an attempt, where its trail holds these.
use Rattle.std.specs.Prelude.{◌≡◌, ℕ, ◌+◌, ◌≤◌, ◌⊎◌, List, [], ◌∷◌, Option, Some}
use Rattle.fancy_code.specs.declared.step.Next.{Next}
use Rattle.fancy_code.specs.declared.step.Next.TheVariants.{On, Dead, Found}
use Rattle.fancy_code.specs.Run.{Raw, Note, Stop, choice_opened, returned, fetched, Go, before, join, fenced, resume, halt}
use Rattle.fancy_trail.specs.Frames.{Spot, Region, Frame, Held, Atom, LookAround, Denial, Condition, Saved, Within, saved}
use Rattle.fancy_trail.specs.Ways.{wanted_by}

-- `go` tells what the code gives where consumed text ends by a limit
module _ (go : ℕ → Go) where
  abbrev pub after : Spot → Option (List Raw)
  after x = go x.limit x.at x.state x.starts

  -- what a region's first way that stops goes on with
  abbrev pub found_of : Region → Go
  found_of (Atom l) = go l
  found_of (LookAround behind next p l) = resume (go l) next p
  found_of (Denial behind x) = halt
  found_of (Condition x) = go x.limit

  abbrev pub missed_of : Region → Option (List Raw)
  missed_of (Atom l) = Some []
  missed_of (LookAround behind next p l) = Some []
  missed_of (Denial behind x) = before (Note returned) (after x)
  missed_of (Condition x) = before (Note returned) (after x)

  -- what is left of the whole attempt, where o is left of the innermost region that is open
  abbrev pub finish : List Frame → Option (List Raw) → Option (List Raw)
  finish [] o = o
  finish (Saved x ∷ fs) o = finish fs (join o (after x))
  finish (Within r ∷ fs) o = finish fs (fenced (found_of r) (wanted_by r) (missed_of r) o)

  -- what is left of the attempt, where the way from x is followed
  abbrev pub left : Spot → List Frame → Option (List Raw)
  left x fs = finish fs (after x)

  -- what a step did to x and fs, where w was left of the attempt
  abbrev pub IsStep : Next → List Raw → Spot → List Frame → Spot → List Frame → Type 0
  IsStep On w x fs y gs =
      (rest : List Raw) × (left y gs ≡ Some rest)
      × (((w ≡ Note fetched ∷ rest) × (saved gs ≤ saved fs)) ⊎ ((w ≡ Note fetched ∷ Note choice_opened ∷ rest) × (saved gs ≤ saved fs + 1)))
  IsStep Dead w x fs y gs = (rest : List Raw) × (finish gs (Some []) ≡ Some rest) × (w ≡ Note fetched ∷ rest) × (saved gs ≤ saved fs)
  IsStep Found w x fs y gs =
      (rest : List Raw) × (q : ℕ) × (finish gs (Some []) ≡ Some rest) × (w ≡ Note fetched ∷ Stop q y.state y.starts ∷ rest) × (saved gs ≤ saved fs)

-- what a way that stops leaves, whatever the code is
abbrev pub Stops : Next → ℕ → Held → Spot → List Frame → Type 0
Stops next q h y gs = (go : ℕ → Go) (u : List Raw) → finish go h.frames (Some (Stop q h.now.state h.now.starts ∷ [])) ≡ Some u → IsStep go next (Note fetched ∷ u) h.now h.frames y gs
