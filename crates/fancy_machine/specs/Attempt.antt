-- What an attempt sees, what it accepts, and what a step of it does.
use Rattle.std.specs.Prelude.{◌≡◌, ℕ, zero, suc, ◌∷◌, slice_get, ◌+◌, ◌<◌, ◌≤◌, Bool, true, false, Some, None, not, ◌&&◌, ◌||◌, List, [], Option, ◌==◌}
use Rattle.fancy_tree.specs.declared.tree.Meaning.{Meaning}
use Rattle.fancy_code.specs.declared.code.Instr.{Instr}
use Rattle.fancy_code.specs.declared.step.Next.{Next}
use Rattle.fancy_code.specs.Code.{instrs_of, instr_in}
use Rattle.fancy_meaning.specs.Context.{Context, State}
use Rattle.fancy_meaning.specs.Events.{Event}
use Rattle.fancy_meaning.specs.Search.{is_match_boundary}
use Rattle.fancy_code.specs.Run.{Raw, Go, run, instr_at}
use Rattle.fancy_prices.specs.Prices.{Dies}
use Rattle.fancy_splits.specs.Splits.{byte_alone}
use Rattle.fancy_trail.specs.Frames.{Spot, Held, Frame, Saved, Within}
use Rattle.fancy_code.specs.Thread.{events_of, size_of}
use Rattle.fancy_code.specs.declared.step.Next.TheVariants.{On, Dead, Found}
use Rattle.fancy_trail.specs.Left.{left, after, IsStep, finish}
use Rattle.fancy_machine.specs.Machine.{Crowded, Turned, Searching, taken_outcome, final, returns_to, marks_to}
use Rattle.fancy_machine.specs.declared.attempt.Attempt.{Attempt}
use Rattle.fancy_machine.specs.declared.seen.Seen.{Seen}
use Rattle.fancy_input.specs.LastLines.{KnowsLastLines}
use Rattle.fancy_machine.specs.Runs.{KnowsRun}

-- the context x, but over this haystack, which is read with this meaning
abbrev pub reading : List ℕ → Meaning → Context → Context
reading haystack meaning x = record x { haystack = haystack; meaning = meaning }

-- what an attempt shows its pattern
abbrev pub attempt_context : Attempt → Context
attempt_context a = record {
  haystack = a.haystack.now;
  meaning = a.code.now.meaning;
  continues_at = a.continues;
  start_text_off = a.suppressed.start;
  end_text_off = a.suppressed.end;
}

-- whether an outcome is accepted
abbrev pub accepts : Attempt → State → Bool
accepts a s =
    let stands = is_match_boundary a.options.now.on_boundaries a.haystack.now in
    stands s.kept && (stands s.place && (not a.options.now.not_empty || not (s.kept == s.place)))

-- what the code gives where consumed text ends by a limit, at most so many instructions deep
abbrev pub code_in : Attempt → ℕ → ℕ → Go
code_in a deep limit = run (attempt_context a) limit (instrs_of a.code.now) deep

-- what a step does that leads from the old trail to the new one, whatever is left of the attempt before it
abbrev pub StepsTo : Attempt → Next → Held → Held → Type 0
StepsTo a next old new =
    (deep : ℕ) (w : List Raw) → left (code_in a deep) old.now old.frames ≡ Some w
    → IsStep (code_in a deep) next w old.now old.frames new.now new.frames

-- the same for the instruction j, where it is the one that comes next
abbrev pub FollowsInstr : Attempt → Instr → Next → Held → Held → Type 0
FollowsInstr a j next old new = instr_at (instrs_of a.code.now) old.now.at ≡ instr_in a.code.now j → StepsTo a next old new

-- the step that comes next would save a branch too many
abbrev pub IsFull : Attempt → Held → Type 0
IsFull a h = (deep : ℕ) (w : List Raw) → left (code_in a deep) h.now h.frames ≡ Some w → Crowded h.most w h.frames

-- the same for the instruction j, where it is the one that comes next
abbrev pub IsFullFor : Attempt → Instr → Held → Type 0
IsFullFor a j h = instr_at (instrs_of a.code.now) h.now.at ≡ instr_in a.code.now j → IsFull a h

-- what a turn does, where `best` is the best outcome before it and `now` the best one after it
abbrev pub TurnsTo : Attempt → Next → Held → Option State → Held → Option State → Type 0
TurnsTo a next old best new now =
    (deep : ℕ) (w : List Raw) → left (code_in a deep) old.now old.frames ≡ Some w
    → Turned (code_in a deep) a.options.now.longest (accepts a) next w best old.frames new.now now new.frames

-- the events of the attempt that begins at x, as the pattern has them
abbrev pub events_from : Attempt → ℕ → Spot → List Event
events_from a deep x = events_of (after (code_in a deep) x)

-- the outcome that it takes
abbrev pub outcome_from : Attempt → ℕ → Spot → Option State
outcome_from a deep x = taken_outcome a.options.now.longest (accepts a) None (events_from a deep x)

-- the returns up to it, and the marks
abbrev pub returns_from : Attempt → ℕ → Spot → ℕ
returns_from a deep x = returns_to (final a.options.now.longest (accepts a)) (events_from a deep x)

abbrev pub marks_from : Attempt → ℕ → Spot → ℕ
marks_from a deep x = marks_to (final a.options.now.longest (accepts a)) (events_from a deep x)

-- What an attempt still has before it, from where its trail stands, with the best outcome and the returns so far: this answer, so many returns in
-- all, and so many choices at most.
abbrev pub Seeks : Attempt → ℕ → Option State → ℕ → ℕ → Held → Option State → ℕ → Type 0
Seeks a deep goal total choices h best returns =
    Searching a.options.now.longest (accepts a) goal total choices (left (code_in a deep) h.now h.frames) h.frames best returns

-- the same where the way of its trail is dead, and what was saved is left
abbrev pub SeeksBack : Attempt → ℕ → Option State → ℕ → ℕ → Held → Option State → ℕ → Type 0
SeeksBack a deep goal total choices h best returns =
    Searching a.options.now.longest (accepts a) goal total choices (finish (code_in a deep) h.frames (Some [])) h.frames best returns

-- how much is before it, and how much where the way is dead
abbrev pub size_ahead : Attempt → ℕ → Held → ℕ
size_ahead a deep h = size_of (left (code_in a deep) h.now h.frames)

abbrev pub size_behind : Attempt → ℕ → Held → ℕ
size_behind a deep h = size_of (finish (code_in a deep) h.frames (Some []))

-- what an attempt has before it where it went on, and had so much before it then
abbrev pub Advanced : Attempt → ℕ → Option State → ℕ → ℕ → ℕ → Next → Held → Option State → ℕ → Type 0
Advanced a deep goal total choices size On h best returns = Seeks a deep goal total choices h best returns × (size_ahead a deep h < size)
Advanced a deep goal total choices size Dead h best returns = SeeksBack a deep goal total choices h best returns × (size_behind a deep h < size)
Advanced a deep goal total choices size Found h best returns = (Some h.now.state ≡ goal) × (returns ≡ total)

-- Going on led from the trail `old` to `new`, and took so many returns; `best` was the best outcome before it, and `now` is the best one after it.
abbrev pub Advances : Attempt → Next → ℕ → Held → Option State → Held → Option State → Type 0
Advances a next returns old best new now =
    (deep : ℕ) (goal : Option State) (total choices r : ℕ) → Seeks a deep goal total choices old best r
    → Advanced a deep goal total choices (size_ahead a deep old) next new now (r + returns)

-- No attempt takes fewer returns in all than these, if it had so many before it went on from the trail.
abbrev pub TakesAtLeast : Attempt → ℕ → ℕ → Held → Option State → Type 0
TakesAtLeast a before returns h best = (deep : ℕ) (goal : Option State) (total choices : ℕ) → Seeks a deep goal total choices h best before → returns ≤ total

-- The attempt has more choices than its trail may save.
abbrev pub IsOverfull : Attempt → Held → Option State → Type 0
IsOverfull a h best = (deep : ℕ) (goal : Option State) (total choices r : ℕ) → Seeks a deep goal total choices h best r → h.most < choices

-- The way from the instruction q on dies at once at a place, as the byte tells that stands there.
abbrev pub DiesAt : Attempt → ℕ → ℕ → Type 0
DiesAt a q p = (b : ℕ) × (slice_get a.haystack.now p ≡ Some b) × Dies (instrs_of a.code.now) a.code.now.meaning (byte_alone b) 0 0 q

-- the frames gs are left of fs without the n branches that were saved last, and each of those dies at once
abbrev pub DieFirst : Attempt → ℕ → List Frame → List Frame → Type 0
DieFirst a zero fs gs = fs ≡ gs
DieFirst a (suc n) [] gs = ⊥
DieFirst a (suc n) (Saved x ∷ fs) gs = DiesAt a x.at x.state.place × DieFirst a n fs gs
DieFirst a (suc n) (Within r ∷ fs) gs = ⊥

-- The way is dead, and so are others that were saved, which took so many returns.
abbrev pub PassesBack : Attempt → ℕ → Held → Held → Type 0
PassesBack a returns old new =
    (deep : ℕ) (goal : Option State) (total choices r : ℕ) (best : Option State) → SeeksBack a deep goal total choices old best r
    → SeeksBack a deep goal total choices new best (r + returns) × (size_behind a deep new ≤ size_behind a deep old)

-- what an attempt has before it where it went back, if it could, and had so much before it then
abbrev pub WentBack : Attempt → ℕ → Option State → ℕ → ℕ → ℕ → Bool → Held → Option State → ℕ → Type 0
WentBack a deep goal total choices size true h best returns = Seeks a deep goal total choices h best returns × (size_ahead a deep h < size)
WentBack a deep goal total choices size false h best returns = (best ≡ goal) × (returns ≡ total)

-- Going back led from the trail `old` to `new`, if a branch was left, and took so many returns.
abbrev pub GoesBack : Attempt → Bool → ℕ → Held → Held → Type 0
GoesBack a taken returns old new =
    (deep : ℕ) (goal : Option State) (total choices r : ℕ) (best : Option State) → SeeksBack a deep goal total choices old best r
    → WentBack a deep goal total choices (size_behind a deep old) taken new best (r + returns)

-- No attempt takes fewer returns in all than these, if it had so many before it went back.
abbrev pub BackTakes : Attempt → ℕ → ℕ → Held → Type 0
BackTakes a before returns h = (deep : ℕ) (goal : Option State) (total choices : ℕ) (best : Option State) → SeeksBack a deep goal total choices h best before → returns ≤ total

-- what is remembered of the haystack of the attempts is true
pub record KnowsSeen (a : Attempt) (s : Seen) : Type 0 where
  pub lines : KnowsLastLines a.haystack.now s.last_lines
  pub run : KnowsRun a.splits.now a.haystack.now s.last_run
