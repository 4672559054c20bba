-- A walk in which no way begins any more: the match that is looked for begins at one place, if there is one.
use Rattle.std.specs.Prelude.{◌≡◌, ◌+◌, ◌-◌, ◌≤◌, ◌<◌, ◌⊎◌, ℕ, true, List, [], ◌∷◌, ◌++◌, Option, None, Some, IfSome, length, option_map, replicate}
use Rattle.fancy_input.specs.declared.span.Span.{Span}
use Rattle.fancy_meaning.specs.Search.{Query, answer_from, search}
use Rattle.fancy_code.specs.declared.attempt.Attempt.{Attempt}
use Rattle.fancy_code.specs.Attempt.{context_in, instrs_in, may_end_in}
use Rattle.fancy_alphabet.specs.Classes.{IsStart}
use Rattle.fancy_states.specs.declared.cells.Cells.{Cells}
use Rattle.fancy_automaton.specs.declared.sole.Sole.{Sole}
use Rattle.fancy_automaton.specs.declared.hop.Stand.{Stand}
use Rattle.fancy_states.specs.Cells.{HasRow, ways_at}
use Rattle.fancy_states.specs.Search.{BegunIn, Under, ends_in, leftmost_in}
use Rattle.fancy_states.specs.Ways.{tagged}

-- where the match begins and ends that is looked for, if there is one, by how deep the code is run
abbrev pub Goal : Type 0
Goal = ℕ → Option (ℕ × ℕ)

-- it is that match, if there is one
abbrev pub IsGoal : Attempt → Goal → Option Span → Type 0
IsGoal a goal found = (deep : ℕ) → BegunIn a deep → option_map ends_in found ≡ goal deep

-- the leftmost match
abbrev pub search_goal : Attempt → Goal
search_goal a deep = leftmost_in a deep (a.last + 1 - a.base) a.base

-- the leftmost match begins there or later, if there is one
abbrev pub BeginsFrom : Attempt → ℕ → Type 0
BeginsFrom a s = (deep : ℕ) → BegunIn a deep → IfSome (search_goal a deep) (λ e. s ≤ e.0)

-- the positions from a place on have the answer of the search
abbrev pub IsAnsweredFrom : Query → ℕ → Type 0
IsAnsweredFrom q place = answer_from q (q.request.range_end + 1 - place) place ≡ search q

-- the match of the attempt at the first place alone
abbrev pub attempt_goal : Attempt → Goal
attempt_goal a deep = leftmost_in a deep 1 a.base

-- These ways wait at a place, and else the match ends where it is told. It begins at `start`, if there is one.
pub record Decided (a : Attempt) (goal : Goal) (start : ℕ) (ways : List ℕ) (end : Option ℕ) (place : ℕ) : Type 0 where
  pub under : (deep : ℕ) → BegunIn a deep
      → Under (may_end_in a) (context_in a) a.last (instrs_in a) deep a.code.now.start (goal deep) ways (replicate (length ways) start) place (tagged start end)
  pub tells : (deep : ℕ) → BegunIn a deep → (o : Option ℕ) × (goal deep ≡ tagged start o)

-- where the match ends after a step at a place, if one was found there or before
abbrev pub later_end : Option ℕ → Option ℕ → ℕ → Option ℕ
later_end None end place = end
later_end (Some f) end place = Some place

-- the ways of the row that wait
abbrev pub IsDecided : Attempt → Cells → Goal → Sole → Type 0
IsDecided a cells goal s = Decided a goal s.start (ways_at cells.rows.lists.items s.stand.next) s.end s.stand.place

-- A match may begin and end at a place, and it is told where the columns of its row begin for what stands before it.
pub record IsPlaced (a : Attempt) (cells : Cells) (at : Stand) : Type 0 where
  pub begins : IsStart (context_in a) at.place cells.table.classes at.begun at.opened
  pub good : may_end_in a at.place ≡ true
  pub within : at.place ≤ a.last

-- the other row has one more way, which begins there
abbrev pub Opens : Attempt → Cells → Stand → Type 0
Opens a cells at = HasRow cells.rows.lists.items at.begun (ways_at cells.rows.lists.items at.next ++ a.code.now.start ∷ [])

-- Its row is there, and where some way waits, a match may begin and end, and it is told where the columns of its row begin.
pub record Rests (a : Attempt) (cells : Cells) (s : Sole) : Type 0 where
  pub row : s.stand.next < length cells.rows.lists.items
  pub placed : IsPlaced a cells s.stand ⊎ (ways_at cells.rows.lists.items s.stand.next ≡ [])
