-- What the members of a pattern set found out at the positions before.
use Rattle.std.specs.Global.{Box}
use Rattle.std.specs.Prelude.{◌≡◌, ◌≤◌, ◌<◌, ◌+◌, ◌⊎◌, ℕ, true, List, Option, Some, None, IfSome, slice_get}
use Rattle.fancy_input.specs.declared.input.Request.{Request}
use Rattle.fancy_core.specs.declared.regex.Regex.{Regex}
use Rattle.fancy_core.specs.Regexes.{program_in}
use Rattle.fancy_search.specs.declared.cache.AttemptNotes.{AttemptNotes}
use Rattle.fancy_search.specs.declared.cache.Kept.TheVariants.{Nothing}
use Rattle.fancy_search.specs.KeptTables.{HoldsSteps, KeepsNotes, is_steps}
use Rattle.fancy_regex.specs.SetMembers.{SetQuery}
use Rattle.fancy_regex.specs.declared.set.trials.Trials.{Trials}

-- the notes in a place of the list, if there are some
abbrev pub notes_held : Option (Option (Box AttemptNotes)) → Option AttemptNotes
notes_held None = None
notes_held (Some None) = None
notes_held (Some (Some notes)) = Some notes.value

-- what the member with this index found out, if it was tried
abbrev pub notes_at : Trials → ℕ → Option AttemptNotes
notes_at trials index = notes_held (slice_get trials.notes.items index)

-- what the member with this index, this regex, found out is kept for attempts at `place` or later
abbrev pub NotedAt : ℕ → Regex → List ℕ → Request → ℕ → Trials → Type 0
NotedAt index member haystack request place trials =
    (notes : AttemptNotes) → notes_at trials index ≡ Some notes → KeepsNotes (program_in member) haystack request place notes

-- so it is of each of those members
abbrev pub AreNoted : (ℕ → Type 0) → SetQuery → ℕ → Trials → Type 0
AreNoted These q place trials = (k : ℕ) (member : Regex) → These k → slice_get q.members k ≡ Some member → NotedAt k member q.haystack q.request place trials

-- of all members from an index on
abbrev pub AreNotedFrom : ℕ → SetQuery → ℕ → Trials → Type 0
AreNotedFrom from q place trials = AreNoted (λ k. from ≤ k) q place trials

-- of all members below an index
abbrev pub AreNotedBelow : ℕ → SetQuery → ℕ → Trials → Type 0
AreNotedBelow to q place trials = AreNoted (λ k. k < to) q place trials

-- where members kept steps of the automaton, these are of their code
abbrev pub HoldStepsOf : List Regex → Trials → Type 0
HoldStepsOf members trials =
    (k : ℕ) (member : Regex) (notes : AttemptNotes) → slice_get members k ≡ Some member → notes_at trials k ≡ Some notes
    → is_steps notes.kept ≡ true → HoldsSteps (program_in member) notes.steps

-- the notes of a member are as they were, or there were none, and nothing was found out since
abbrev pub IsOldOrNew : Option AttemptNotes → Option AttemptNotes → Type 0
IsOldOrNew old new = (new ≡ old) ⊎ ((old ≡ None) × IfSome new (λ notes. notes.kept ≡ Nothing))

-- the notes of all members but the one with this index are as they were
abbrev pub OthersStayBut : ℕ → Trials → Trials → Type 0
OthersStayBut index old new = (k : ℕ) → (k ≡ index → ⊥) → notes_at new k ≡ notes_at old k

-- the member that a set's matches ask next: past the one that has answered already
abbrev pub next_asked : {A : Type 0} → Option A → ℕ → ℕ
next_asked None next = next
next_asked (Some answered) next = next + 1
