-- Positions that a search passes over together: attempts there come into a run of items which was read before.
use Rattle.std.specs.Prelude.{◌≡◌, ◌+◌, ◌-◌, ◌<◌, ◌≤◌, ◌^◌, ℕ, zero, suc, Bool, true, List, None}
use Rattle.fancy_meaning.specs.Events.{marks_in, returns_in}
use Rattle.fancy_meaning.specs.Search.{Query, answer_from, gone_from}
use Rattle.fancy_meaning.specs.Tried.{tried}
use Rattle.fancy_prices.specs.declared.entries.Priced.{Priced}
use Rattle.fancy_splits.specs.declared.front.Front.{Front}
use Rattle.fancy_splits.specs.declared.splits.ToldSplit.{ToldSplit}
use Rattle.fancy_prices.specs.Entries.{EntryTest, TakeInAll}
use Rattle.fancy_splits.specs.Splits.{IsNoted}
use Rattle.fancy_machine.specs.declared.attempt.Attempt.{Attempt}
use Rattle.fancy_machine.specs.Runs.{HasItems, Lacks}

-- From a place on stand so many items of the loop, in no group, up to the end at most. Past them no further one stands, and what follows the loop cannot go on there, nor where an
-- item stands.
pub record IsDeadRun (l : ToldSplit) (haystack : List ℕ) (end place n : ℕ) : Type 0 where
  pub items : HasItems l haystack place n
  pub inside : place + n ≤ end
  pub ends : Lacks l.begins haystack (place + n)
  pub stuck : Lacks l.leaves haystack (place + n)
  pub apart : l.apart ≡ true
  pub alone : l.group ≡ None

-- so it is of the loop that attempts come to
abbrev pub StandsInRun : Attempt → Front → ℕ → ℕ → ℕ → Type 0
StandsInRun a f end p n = (l : ToldSplit) × IsNoted a.splits.now f.at l × IsDeadRun l a.haystack.now end p n

-- These items of such a run may be passed over, since a match may begin at each.
pub record MayPass (a : Attempt) (f : Front) (end p n : ℕ) : Type 0 where
  pub stands : StandsInRun a f end p n
  pub may : a.options.now.on_boundaries ≡ true → f.whole ≡ true
  pub few : n ≤ 2 ^ 30

-- the returns of attempts at so many items, the last ones of a run: of each those of the choices before, and one for each item from there on
abbrev pub returns_over : ℕ → ℕ → ℕ
returns_over before zero = 0
returns_over before (suc n) = before + suc n + returns_over before n

-- what a search goes through from a position on, up to the last
abbrev pub returns_ahead : Query → Bool → ℕ → ℕ → ℕ
returns_ahead q seek last p = returns_in (gone_from q (tried seek q) (last + 1 - p) p)

abbrev pub marks_ahead : Query → Bool → ℕ → ℕ → ℕ
marks_ahead q seek last p = marks_in (gone_from q (tried seek q) (last + 1 - p) p)

-- The search goes on from the second position as from the first one, and so many returns are between them.
pub record GoesPast (q : Query) (seek : Bool) (last from on returns : ℕ) : Type 0 where
  pub passed : from ≤ on
  pub within : on ≤ last + 1
  pub answer : answer_from q (last + 1 - from) from ≡ answer_from q (last + 1 - on) on
  pub count : returns_ahead q seek last from ≡ returns + returns_ahead q seek last on
  pub marks : marks_ahead q seek last on ≤ marks_ahead q seek last from

-- Of the positions from the one on and before that which is passed to a price is told, and they take so many returns in all: it is one, where the search seeks.
pub record ArePriced (entry : EntryTest) (haystack : List ℕ) (range_end : ℕ) (seek : Bool) (last from : ℕ) (priced : Priced) : Type 0 where
  pub passed : from < priced.past
  pub within : priced.past ≤ last + 1
  pub inside : priced.past ≤ range_end
  pub one : seek ≡ true → priced.past ≡ from + 1
  pub returns : TakeInAll entry haystack from (priced.past - from) priced.returns
