-- The best outcome so far.
use Rattle.std.specs.Prelude.{ℕ, Bool, true, false, Option, Some, None, if◌then◌else◌, nat_lt}
use Rattle.fancy_meaning.specs.Context.{State}
use Rattle.fancy_trail.specs.Frames.{Spot}

-- the first outcome that is accepted, or under `longest` the first of those with the greatest end, where `best` came before
abbrev pub betters : Option State → ℕ → Bool
betters None p = true
betters (Some b) p = nat_lt b.place p

abbrev pub better : Option State → State → Option State
better best s = if betters best s.place then Some s else best

-- the state that an attempt stands at, if it found one
abbrev pub state_if_found : Bool → Spot → Option State
state_if_found false x = None
state_if_found true x = Some x.state
