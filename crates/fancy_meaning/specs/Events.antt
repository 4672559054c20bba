-- What a pattern can reach from a state, in order of preference: a list of marks, returns and outcomes.
use Rattle.std.specs.Prelude.{ℕ, zero, suc, ◌-◌, Bool, true, false, List, [], ◌∷◌, ◌++◌, Option, Some, None, if◌then◌else◌, ◌==◌, nat_le}
use Rattle.fancy_meaning.specs.Context.{State, moved_to}

pub data Event : Type 0 where
  -- a choice opens
  mark : Event
  -- the later side of a choice begins
  return : Event
  outcome : State → Event

-- from a state, the events that follow
abbrev pub Walk : Type 0
Walk = State → List Event

abbrev pub stay : Walk
stay s = outcome s ∷ []

-- each outcome replaced by what follows from it
abbrev pub bind : List Event → Walk → List Event
bind [] k = []
bind (mark ∷ es) k = mark ∷ bind es k
bind (return ∷ es) k = return ∷ bind es k
bind (outcome s ∷ es) k = k s ++ bind es k

-- The events up to the first outcome that is wanted, and then what it is found for. Without one, `missed` comes last. Outcomes that are not wanted are dropped.
abbrev pub guarded : (State → Bool) → Walk → List Event → List Event → List Event
guarded wanted found missed [] = missed
guarded wanted found missed (mark ∷ es) = mark ∷ guarded wanted found missed es
guarded wanted found missed (return ∷ es) = return ∷ guarded wanted found missed es
guarded wanted found missed (outcome s ∷ es) = if wanted s then found s else guarded wanted found missed es

abbrev pub any : State → Bool
any s = true

-- the outcomes alone
abbrev pub outcomes_in : List Event → List State
outcomes_in [] = []
outcomes_in (mark ∷ es) = outcomes_in es
outcomes_in (return ∷ es) = outcomes_in es
outcomes_in (outcome s ∷ es) = s ∷ outcomes_in es

abbrev pub marks_in : List Event → ℕ
marks_in [] = 0
marks_in (mark ∷ es) = suc (marks_in es)
marks_in (return ∷ es) = marks_in es
marks_in (outcome s ∷ es) = marks_in es

abbrev pub returns_in : List Event → ℕ
returns_in [] = 0
returns_in (mark ∷ es) = returns_in es
returns_in (return ∷ es) = suc (returns_in es)
returns_in (outcome s ∷ es) = returns_in es

-- the one side, and on return the other
abbrev pub either : List Event → List Event → List Event
either first second = mark ∷ (first ++ return ∷ second)

-- one more turn first, or leaving first
abbrev pub prefer : Bool → List Event → List Event → List Event
prefer greedy turn leave = if greedy then either turn leave else either leave turn

-- the state moved to a place, if there is one by the limit
abbrev pub move : ℕ → State → Option ℕ → List Event
move limit s None = []
move limit s (Some p) = if nat_le p limit then stay (moved_to s p) else []

abbrev pub holding : Bool → Walk
holding b s = if b then stay s else []

-- n copies in sequence, and then the rest
abbrev pub copies : ℕ → Walk → Walk → Walk
copies zero body rest s = rest s
copies (suc n) body rest s = bind (body s) (copies n body rest)

-- n optionals, each inside the one before
abbrev pub optionals : Bool → ℕ → Walk → Walk
optionals greedy zero body s = stay s
optionals greedy (suc n) body s = prefer greedy (bind (body s) (optionals greedy n body)) (stay s)

-- the star, with at most n turns; a turn that ends where it began fails
abbrev pub turns : Bool → ℕ → Walk → Walk
turns greedy zero body s = []
turns greedy (suc n) body s =
    prefer greedy (bind (body s) (λ t. if t.place == s.place then [] else turns greedy n body t)) (stay s)

-- The star. Every turn moves on and ends by the limit, so that this many turns are all.
abbrev pub star : Bool → ℕ → Walk → Walk
star greedy limit body s = turns greedy (suc (limit - s.place)) body s

-- the outcome back at the place
abbrev pub put_back : ℕ → Walk
put_back p t = stay (moved_to t p)

-- whether an outcome may end a look-around from the place p: a look-behind ends there
abbrev pub ends_look : Bool → ℕ → State → Bool
ends_look behind p t = if behind then t.place == p else true

-- a look-around at s whose body has these events
abbrev pub looked : Bool → Bool → State → List Event → List Event
looked true behind s es = mark ∷ guarded (ends_look behind s.place) (λ t. []) (return ∷ stay s) es
looked false behind s es = guarded (ends_look behind s.place) (put_back s.place) [] es
