-- A search whose ways that wait all began at one place.
use Rattle.std.specs.Prelude.{◌≡◌, ◌<◌, ◌≤◌, ℕ, true, List, ◌∷◌, ◌++◌, [], Option, None, Some, IfSome, length, nat_lt, replicate, slice_get, slice_index}
use Rattle.std.specs.List.{list_all}
use Rattle.fancy_input.specs.declared.span.Span.{Span}
use Rattle.fancy_code.specs.declared.attempt.Attempt.{Attempt}
use Rattle.fancy_code.specs.Attempt.{context_in, may_end_in}
use Rattle.fancy_alphabet.specs.Classes.{IsStart}
use Rattle.fancy_states.specs.declared.cells.Cell.{Cell}
use Rattle.fancy_states.specs.declared.cells.Cells.{Cells}
use Rattle.fancy_automaton.specs.declared.amid.Amid.{Amid}
use Rattle.fancy_automaton.specs.declared.sole.Sole.{Sole}
use Rattle.fancy_automaton.specs.declared.hop.Stand.{Stand}
use Rattle.fancy_states.specs.declared.transitions.Transition.{Transition}
use Rattle.fancy_states.specs.Starts.{match_from}
use Rattle.fancy_states.specs.Cells.{IsBounded, IsFor, HasRow}
use Rattle.fancy_states.specs.Search.{Going, IsFollowed}

-- where a step of the table leads, up to a place
abbrev pub stood : ℕ → Transition → Stand
stood place t = record { place = place; next = t.next; begun = t.begun; opened = t.opened }

-- where it stands after the last step that it took, if it took one, but for the place
abbrev pub left_at : Stand → Option Transition → Stand
left_at from None = from
left_at from (Some t) = stood from.place t

-- where it stands at a place
abbrev pub came_to : Stand → ℕ → Option Transition → Stand
came_to from place last = record (left_at from last) { place = place }

-- Where a search stands: these ways wait there, which began at these places, and this was found. A match may begin and end there.
pub record IsAt (a : Attempt) (cells : Cells) (at : Stand) (ways starts : List ℕ) (found : Option Span) : Type 0 where
  pub followed : IsFollowed a
  pub kept : IsBounded cells
  pub all : IsFor cells a.code.now
  pub waits : HasRow cells.rows.lists.items at.next ways
  pub opens : HasRow cells.rows.lists.items at.begun (ways ++ a.code.now.start ∷ [])
  pub going : Going a ways starts found at.place at.place
  pub begins : IsStart (context_in a) at.place cells.table.classes at.begun at.opened
  pub good : may_end_in a at.place ≡ true
  pub within : at.place ≤ a.last

-- nothing was found, and wherever the ways began
abbrev pub IsAmid : Attempt → Cells → Stand → Type 0
IsAmid a cells at = (ways : List ℕ) × (starts : List ℕ) × IsAt a cells at ways starts None

-- these ways wait, which began at these places, and this was found
abbrev pub Waits : Attempt → Cells → Stand → List ℕ → Option Span → Type 0
Waits a cells at starts found = (ways : List ℕ) × IsAt a cells at ways starts found

-- so many of the first ways began there
abbrev pub StartsWith : List ℕ → ℕ → ℕ → Type 0
StartsWith starts led s = (rest : List ℕ) × (starts ≡ replicate led s ++ rest)

-- nothing was found, and the first ways began there, so many of them
pub record IsLed (a : Attempt) (cells : Cells) (m : Amid) : Type 0 where
  pub ways : List ℕ
  pub starts : List ℕ
  pub here : IsAt a cells m.stand ways starts None
  pub leads : StartsWith starts m.led m.start

-- the ways after a step come from the first ones of its row, and so does the match, if one is found
abbrev pub ComeFromFirst : ℕ → List ℕ → Option ℕ → Type 0
ComeFromFirst led came matched = (list_all (λ f. nat_lt f led) came ≡ true) × IfSome matched (λ f. f < led)

-- so it is with the step of the table
abbrev pub IsLedOn : Cells → Amid → Transition → Type 0
IsLedOn cells m t = (d : Cell) → slice_get cells.cells.items t.cell ≡ Some d → ComeFromFirst m.led d.came.items d.matched

-- so many of the first ways after the step come from the first ones
abbrev pub KeepsFirst : Cells → Amid → Transition → ℕ → Type 0
KeepsFirst cells m t led =
    (d : Cell) → slice_get cells.cells.items t.cell ≡ Some d → (led ≤ length d.came.items) × ((i : ℕ) → i < led → slice_index d.came.items i < m.led)

-- all ways began at one place, and so did the match, if one was found
abbrev pub IsSole : Attempt → Cells → Sole → Type 0
IsSole a cells s = (ways : List ℕ) × IsAt a cells s.stand ways (replicate (length ways) s.start) (match_from s.start s.end)

-- it came to such a place, which is this one or past it
pub record Reaches (a : Attempt) (cells : Cells) (place : ℕ) (s : Sole) : Type 0 where
  pub sole : IsSole a cells s
  pub forth : place ≤ s.stand.place
