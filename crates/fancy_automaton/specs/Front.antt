-- How far a search over remembered steps has come.
use Rattle.std.specs.Prelude.{◌≡◌, ◌+◌, ◌≤◌, ℕ, true, List, [], ◌∷◌, ◌++◌, Result, IfOk}
use Rattle.fancy_code.specs.declared.attempt.Attempt.{Attempt}
use Rattle.fancy_code.specs.Attempt.{may_end_in}
use Rattle.fancy_states.specs.declared.cells.Cells.{Cells}
use Rattle.fancy_automaton.specs.declared.front.Front.{Front}
use Rattle.fancy_states.specs.Cells.{IsBounded, IsFor, HasRow, ways_at}
use Rattle.fancy_states.specs.Search.{Going, IsFollowed}

-- the instructions that wait
abbrev pub ways_of : Cells → Front → List ℕ
ways_of cells f = ways_at cells.rows.lists.items f.next

-- The rows that a search holds are those of the ways that wait at `resume`, and no match may begin from `place` to there.
pub record IsFront (a : Attempt) (cells : Cells) (f : Front) (place resume : ℕ) : Type 0 where
  pub followed : IsFollowed a
  pub kept : IsBounded cells
  pub all : IsFor cells a.code.now
  pub waits : HasRow cells.rows.lists.items f.next (ways_of cells f)
  pub opens : HasRow cells.rows.lists.items f.begun (ways_of cells f ++ a.code.now.start ∷ [])
  pub going : Going a (ways_of cells f) f.starts.waiting.items f.found place resume

-- The search stands at a place of what is searched, where a match may begin and end.
pub record Stands (a : Attempt) (cells : Cells) (f : Front) (place : ℕ) : Type 0 where
  pub front : IsFront a cells f place place
  pub good : may_end_in a place ≡ true
  pub within : place ≤ a.last

-- Steps were taken from a place on, or none: the ways wait at the answer, which is within what is searched.
pub record GoesOn {E : Type 0} (a : Attempt) (cells : Cells) (place : ℕ) (result : Result ℕ E) (f : Front) : Type 0 where
  pub front : IfOk result (λ next. IsFront a cells f next next)
  pub forth : IfOk result (λ next. place ≤ next)
  pub ends : IfOk result (λ next. next ≤ a.last)

-- The step at a place was taken: the ways wait at the answer, and no match may begin past the place before it.
pub record TakesStep {E : Type 0} (a : Attempt) (cells : Cells) (place : ℕ) (result : Result ℕ E) (f : Front) : Type 0 where
  pub front : IfOk result (λ resume. IsFront a cells f (place + 1) resume)
  pub ends : IfOk result (λ resume. resume ≤ a.last + 1)
