-- A search that is asked whether there is a match alone.
use Rattle.std.specs.Prelude.{◌≡◌, ◌+◌, ◌≤◌, ℕ, Bool, false, true, List, None, is_some}
use Rattle.fancy_code.specs.declared.attempt.Attempt.{Attempt}
use Rattle.fancy_automaton.specs.declared.earliest.Waiting.{Waiting}
use Rattle.fancy_automaton.specs.Decided.{search_goal}
use Rattle.fancy_states.specs.declared.cells.Cells.{Cells}
use Rattle.fancy_states.specs.Cells.{HasRows, IsBounded, IsFor}
use Rattle.fancy_states.specs.Search.{BegunIn, Going, IsFollowed}

-- whether there is a match
abbrev pub HasMatch : Attempt → Bool → Type 0
HasMatch a found = (deep : ℕ) → BegunIn a deep → found ≡ is_some (search_goal a deep)

-- there is one
abbrev pub FindsSome : Attempt → Type 0
FindsSome a = HasMatch a true

-- there is none
abbrev pub FindsNone : Attempt → Type 0
FindsNone a = HasMatch a false

-- These ways wait, wherever they began, and nothing was found.
pub record IsWaiting (a : Attempt) (cells : Cells) (w : Waiting) : Type 0 where
  pub ways : List ℕ
  pub starts : List ℕ
  pub followed : IsFollowed a
  pub kept : IsBounded cells
  pub all : IsFor cells a.code.now
  pub rows : HasRows cells.rows.lists.items w.rows.next w.rows.begun ways a.code.now.start
  pub going : Going a ways starts None w.place w.place
  pub within : w.place ≤ a.last + 1
