-- What is kept through a list of searches, or through attempts from position to position: the table of the runner and what it read of
-- the line ends that close the haystack, the steps that the automaton remembers, or what the machine read of these line ends.
use Rattle.std.specs.Global.{Box}
use Rattle.std.specs.Prelude.{◌≡◌, ◌≤◌, ◌+◌, ℕ, Bool, true, false, List, Option, Result, Some, None, IfSome, IfOk, IfErr, option_map, nat_eq, if◌then◌else◌}
use Rattle.std.specs.Option.{ForSome}
use Rattle.fancy_tree.specs.declared.error.Error.{Error}
use Rattle.fancy_input.specs.LastLines.{KnowsLastLines}
use Rattle.fancy_input.specs.Requests.{effective_start}
use Rattle.fancy_input.specs.declared.input.Request.{Request}
use Rattle.fancy_runner.specs.KeptTable.{IsKept, table_in, steps_ahead, steps_from, taken_again}
use Rattle.fancy_input.specs.Work.{steps_of}
use Rattle.fancy_code.specs.declared.found.Found.{Found}
use Rattle.fancy_runner.specs.declared.notes.Cache.{Cache as RunnerCache}
use Rattle.fancy_runner.specs.declared.notes.KeptTable.{KeptTable}
use Rattle.fancy_input.specs.declared.work.Work.{Work}
use Rattle.fancy_machine.specs.Asked.{lines_held}
use Rattle.fancy_search.specs.declared.asked.Asked.{Asked}
use Rattle.fancy_search.specs.declared.cache.AttemptNotes.{AttemptNotes}
use Rattle.fancy_search.specs.declared.cache.Cache.{Cache}
use Rattle.fancy_search.specs.declared.cache.Kept.{Kept}
use Rattle.fancy_search.specs.declared.cache.RememberedSteps.{RememberedSteps}
use Rattle.fancy_search.specs.declared.cache.Kept.TheVariants.{Nothing, Runner, Begun, Steps, Lines}
use Rattle.fancy_search.specs.declared.program.Program.{Program}
use Rattle.fancy_search.specs.declared.searcher.Searcher.{Searcher}
use Rattle.fancy_search.specs.Options.{search_options}
use Rattle.fancy_search.specs.Programs.{program_length}
use Rattle.fancy_search.specs.StepsOf.{AreStepsOf}

-- steps are kept
abbrev pub is_steps : Kept → Bool
is_steps Nothing = false
is_steps (Runner kept) = false
is_steps (Begun patience) = false
is_steps Steps = true
is_steps Lines = false

-- something is kept, and no table
abbrev pub keeps_no_table : Kept → Bool
keeps_no_table Nothing = false
keeps_no_table (Runner None) = true
keeps_no_table (Runner (Some k)) = false
keeps_no_table (Begun patience) = true
keeps_no_table Steps = true
keeps_no_table Lines = false

-- The table that the runner holds is kept for searches with the program that start at `place` or later. What was read of the last lines
-- is true of the haystack.
abbrev pub KeepsTable : Program → List ℕ → Request → KeptTable → ℕ → RunnerCache → Type 0
KeepsTable program haystack request kept place runner = IsKept program.code haystack request (search_options program.options) kept place runner.notes

-- the table, if one is kept
abbrev pub table_kept : Kept → Option KeptTable
table_kept Nothing = None
table_kept (Runner kept) = kept
table_kept (Begun patience) = None
table_kept Steps = None
table_kept Lines = None

-- so many steps are ahead of the searches from one with this request on, with the table that is kept, if one is
abbrev pub ahead_with : Program → Request → Option KeptTable → RunnerCache → ℕ
ahead_with program request kept runner = steps_from kept program.code request (effective_start request) (table_in runner)

-- and so many may be taken by it, with those that are taken again
abbrev pub most_with : Program → Request → Option KeptTable → RunnerCache → ℕ
most_with program request kept runner = ahead_with program request kept runner + taken_again kept program.code (effective_start request)

-- So many steps are ahead of the searches of a list, from one with this request on: where the table is kept, what its marks are worth that
-- were not made, and a start at each position; else as many as a search alone may take.
abbrev pub steps_to_go : Program → Request → Kept → Cache → ℕ
steps_to_go program request kept cache = ahead_with program request (table_kept kept) cache.runner

-- A search takes at most the steps that are ahead of it, and one for each instruction.
abbrev pub TakesStepsToGo : Program → Request → Kept → Cache → Work → Work → Type 0
TakesStepsToGo program request kept cache before after = steps_of after ≤ steps_of before + (steps_to_go program request kept cache + program_length program)

-- Where it leaves its table, the steps that it took are no longer ahead of the searches that start at `place` or later.
abbrev pub SpendsSteps : Program → Request → Kept → Cache → Work → Kept → Cache → Work → ℕ → Type 0
SpendsSteps program request kept cache before left cache' after place =
    ForSome (table_kept left) (λ k. steps_of after + steps_ahead program.code request k.base place (table_in cache'.runner)
    ≤ steps_of before + (steps_to_go program request kept cache + program_length program))

-- Something is left for the next search, and a table that is kept is kept on, with the same first place.
abbrev pub KeepsOn : Kept → Kept → Type 0
KeepsOn before after = (after ≡ Nothing → ⊥) × ForSome (table_kept before) (λ k. option_map (λ (l : KeptTable). l.base) (table_kept after) ≡ Some k.base)

-- those that are held, if any are, are of the program's code
abbrev pub HoldsSteps : Program → Option (Box RememberedSteps) → Type 0
HoldsSteps program held = ForSome held (λ steps. AreStepsOf program.code steps.value)

-- What attempts found out is kept for those at `place` or later. It is the same whichever positions the request tries.
abbrev pub KeepsNotes : Program → List ℕ → Request → ℕ → AttemptNotes → Type 0
KeepsNotes program haystack request place notes =
    IfSome (table_kept notes.kept) (λ k. IsKept program.code haystack (record request { start = 0; anchored = false }) (search_options program.options) k place notes.notes)
    × (is_steps notes.kept ≡ true → HoldsSteps program notes.steps)

-- From there on the notes of an attempt at a position are kept: from the end of a match that starts at the position, and else from the
-- position.
abbrev pub kept_from : Option Found → ℕ → ℕ
kept_from None position = position
kept_from (Some f) position = if nat_eq f.start position then f.end else position

-- what an attempt at a position leaves is kept from there on, and after a refusal for another attempt at it
pub record LeavesNotes (program : Program) (asked : Asked) (position : ℕ) (result : Result (Option Found) Error) (notes : AttemptNotes) : Type 0 where
  pub after : IfOk result (λ m. KeepsNotes program asked.haystack.now asked.request.now (kept_from m position) notes)
  pub dropped : IfErr result (λ _. KeepsNotes program asked.haystack.now asked.request.now position notes)

-- so many steps are ahead of the attempts at `place` and later: what the marks are worth that were not made, and a start at each
-- position; where no table is kept, one for each pair of an instruction and a place
abbrev pub notes_ahead : Program → Request → ℕ → AttemptNotes → ℕ
notes_ahead program request place notes = steps_from (table_kept notes.kept) program.code request place notes.notes.table

-- so many of them may be taken again by an attempt at `place`, if a match ended there
abbrev pub notes_again : Program → ℕ → AttemptNotes → ℕ
notes_again program place notes = taken_again (table_kept notes.kept) program.code place

-- and so many may be taken by them
abbrev pub notes_to_go : Program → Request → ℕ → AttemptNotes → ℕ
notes_to_go program request place notes = notes_ahead program request place notes + notes_again program place notes

-- What the machine read of the last lines is true of the haystack.
abbrev pub KeepsLines : List ℕ → Cache → Type 0
KeepsLines haystack cache = KnowsLastLines haystack (lines_held cache.machine)

-- what is kept in the cache, if anything is, is for searches with the program that start at `place` or later
abbrev pub IsKeptIn : Program → List ℕ → Request → Kept → ℕ → Cache → Type 0
IsKeptIn program haystack request kept place cache =
    ForSome (table_kept kept) (λ k. KeepsTable program haystack request k place cache.runner) × (is_steps kept ≡ true → HoldsSteps program cache.steps)
    × (kept ≡ Lines → KeepsLines haystack cache)

-- and for those that ask the same, but start at `place` or later
abbrev pub IsKeptFor : Program → Asked → Kept → ℕ → Cache → Type 0
IsKeptFor program asked kept place cache = IsKeptIn program asked.haystack.now asked.request.now kept place cache

-- what the iteration keeps is for searches that start at `place` or later
abbrev pub KeepsFrom : {S : Type 0} {g : _} → (S → List ℕ) → Program → Searcher S g → Cache → ℕ → Type 0
KeepsFrom bytes program w cache place = IsKeptIn program (bytes w.haystack) w.request w.kept place cache

-- unless the iteration has ended, what it keeps is for its next search
abbrev pub Keeps : {S : Type 0} {g : _} → (S → List ℕ) → Program → Searcher S g → Cache → Type 0
Keeps bytes program w cache = w.ended ≡ false → KeepsFrom bytes program w cache (effective_start w.request)
