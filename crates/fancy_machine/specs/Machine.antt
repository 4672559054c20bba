-- What the machine still has before it.
use Rattle.std.specs.Prelude.{◌≡◌, ℕ, suc, ◌+◌, ◌<◌, ◌≤◌, Bool, true, false, List, [], ◌∷◌, length, Option, Some, None, if◌then◌else◌, ◌==◌, not, ◌&&◌}
use Rattle.fancy_code.specs.declared.step.Next.{Next}
use Rattle.fancy_code.specs.declared.step.Next.TheVariants.{On, Dead, Found}
use Rattle.fancy_meaning.specs.Context.{State}
use Rattle.fancy_meaning.specs.Events.{Event, mark, return, outcome}
use Rattle.fancy_code.specs.Run.{Raw, Note, choice_opened, fetched, Go, erase}
use Rattle.fancy_trail.specs.Best.{better}
use Rattle.fancy_trail.specs.Frames.{Spot, Frame, saved}
use Rattle.fancy_trail.specs.Left.{left, finish}
use Rattle.fancy_trail.specs.Ways.{at_instr, at_place}

-- what moving on to a place does, if there is one by the limit
abbrev pub MovedTo : Next → ℕ → Option ℕ → Spot → Spot → Type 0
MovedTo On next None x y = ⊥
MovedTo On next (Some p) x y = (p ≤ x.limit) × (y ≡ at_place next p x)
MovedTo Dead next None x y = Unit {0}
MovedTo Dead next (Some p) x y = x.limit < p
MovedTo Found next o x y = ⊥

-- The same for a text that may be empty: `still` follows where nothing was consumed.
abbrev pub RecalledTo : Next → ℕ → ℕ → Option ℕ → Spot → Spot → Type 0
RecalledTo On moved still None x y = ⊥
RecalledTo On moved still (Some p) x y = (p ≤ x.limit) × (y ≡ at_place (if p == x.state.place then still else moved) p x)
RecalledTo Dead moved still None x y = Unit {0}
RecalledTo Dead moved still (Some p) x y = x.limit < p
RecalledTo Found moved still o x y = ⊥

-- what going on does, if a test holds
abbrev pub WentIf : Next → Bool → ℕ → Spot → Spot → Type 0
WentIf On holds next x y = (holds ≡ true) × (y ≡ at_instr next x)
WentIf Dead holds next x y = holds ≡ false
WentIf Found holds next x y = ⊥

-- a step was refused for its choice
abbrev pub Crowded : ℕ → List Raw → List Frame → Type 0
Crowded most w fs = (most ≤ saved fs) × (rest : List Raw) × (w ≡ Note fetched ∷ Note choice_opened ∷ rest)

abbrev pub taken_outcome : Bool → (State → Bool) → Option State → List Event → Option State
taken_outcome longest ok best [] = best
taken_outcome longest ok best (mark ∷ es) = taken_outcome longest ok best es
taken_outcome longest ok best (return ∷ es) = taken_outcome longest ok best es
taken_outcome longest ok best (outcome s ∷ es) =
    if ok s then (if longest then taken_outcome longest ok (better best s) es else Some s) else taken_outcome longest ok best es

-- the outcomes that end an attempt
abbrev pub final : Bool → (State → Bool) → State → Bool
final longest ok s = ok s && not longest

-- the returns before the first of these, or all of them
abbrev pub returns_to : (State → Bool) → List Event → ℕ
returns_to ok [] = 0
returns_to ok (mark ∷ es) = returns_to ok es
returns_to ok (return ∷ es) = suc (returns_to ok es)
returns_to ok (outcome s ∷ es) = if ok s then 0 else returns_to ok es

-- the marks
abbrev pub marks_to : (State → Bool) → List Event → ℕ
marks_to ok [] = 0
marks_to ok (mark ∷ es) = suc (marks_to ok es)
marks_to ok (return ∷ es) = marks_to ok es
marks_to ok (outcome s ∷ es) = if ok s then 0 else marks_to ok es

-- What is left after w is `rest`, and an attempt looks for the same in both.
pub record Fewer (longest : Bool) (ok : State → Bool) (best now : Option State) (w rest : List Raw) (before after : ℕ) : Type 0 where
  pub answer : taken_outcome longest ok best (erase w) ≡ taken_outcome longest ok now (erase rest)
  pub count : returns_to (final longest ok) (erase w) ≡ returns_to (final longest ok) (erase rest)
  pub room : after + marks_to (final longest ok) (erase rest) ≤ before + marks_to (final longest ok) (erase w)
  pub shorter : length rest < length w

-- a step, where an outcome that doesn't end the attempt is a dead end
abbrev pub Turned : (ℕ → Go) → Bool → (State → Bool) → Next → List Raw → Option State → List Frame → Spot → Option State → List Frame → Type 0
Turned go longest ok On w best fs y now gs = (rest : List Raw) × (left go y gs ≡ Some rest) × Fewer longest ok best now w rest (saved fs) (saved gs)
Turned go longest ok Dead w best fs y now gs = (rest : List Raw) × (finish go gs (Some []) ≡ Some rest) × Fewer longest ok best now w rest (saved fs) (saved gs)
Turned go longest ok Found w best fs y now gs = (taken_outcome longest ok best (erase w) ≡ Some y.state) × (returns_to (final longest ok) (erase w) ≡ 0)

-- what an attempt still has before it, where o is left: its answer, the returns up to it, and the choices
pub record Searching (longest : Bool) (ok : State → Bool) (goal : Option State) (total choices : ℕ) (o : Option (List Raw)) (fs : List Frame) (best : Option State) (returns : ℕ) : Type 0 where
  pub rest : List Raw
  pub known : o ≡ Some rest
  pub answer : taken_outcome longest ok best (erase rest) ≡ goal
  pub count : returns + returns_to (final longest ok) (erase rest) ≡ total
  pub room : saved fs + marks_to (final longest ok) (erase rest) ≤ choices
