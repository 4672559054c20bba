-- The answer of a search, and the choices and returns that it takes.
use Rattle.std.specs.Prelude.{◌≢◌, ℕ, zero, suc, ◌+◌, Bool, not, ◌&&◌, ◌||◌, List, [], ◌∷◌, ◌++◌, replicate, filter, Option, Some, None, option_map, if◌then◌else◌, ◌==◌, nat_lt, is_some, IsTrue}
use Rattle.std.specs.Option.{option_or}
use Rattle.fancy_tree.specs.declared.tree.Meaning.{Meaning}
use Rattle.fancy_tree.specs.Pattern.{Pattern}
use Rattle.fancy_input.specs.Places.{is_boundary}
use Rattle.fancy_input.specs.Requests.{effective_start, positions}
use Rattle.fancy_input.specs.declared.input.Request.{Request}
use Rattle.fancy_input.specs.declared.span.Span.{Span}
use Rattle.fancy_input.specs.Spans.{from_to}
use Rattle.fancy_meaning.specs.Context.{Context, State}
use Rattle.fancy_meaning.specs.Events.{Event, mark, return, outcome, marks_in, returns_in}
use Rattle.fancy_meaning.specs.Trace.{trace, outcomes}

-- what is searched for: a pattern, and the options that hold while it is searched
pub record Sought : Type 0 where
  pub pattern : Pattern
  pub meaning : Meaning
  -- groups of the pattern, with group 0
  pub groups : ℕ
  -- matches begin and end on character boundaries alone
  pub on_boundaries : Bool
  -- a request may say that the text's start, or its end, is not to count as one, or that `\G` holds nowhere
  pub overrides : Bool
  -- an empty match is refused
  pub not_empty : Bool
  -- at a position the longest match, and not the first
  pub longest : Bool

-- what is searched for, in which haystack and where
pub record Query : Type 0 where
  pub sought : Sought
  pub haystack : List ℕ
  pub request : Request
  -- whether `\G` is on at all; an iteration has it off in the search after an empty match
  pub continues : Bool

-- Where `\G` holds: at the effective start; nowhere, where it is off, or where the request suppresses it and may.
abbrev pub continues_from : Bool → Bool → Request → Option ℕ
continues_from continues overrides request =
    if continues && not (overrides && not request.continues) then Some (effective_start request) else None

-- what a search shows its pattern
abbrev pub context_of : Query → Context
context_of q = record {
  haystack = q.haystack;
  meaning = q.sought.meaning;
  continues_at = continues_from q.continues q.sought.overrides q.request;
  start_text_off = q.sought.overrides && not q.request.start_text;
  end_text_off = q.sought.overrides && not q.request.end_text;
}

abbrev pub initial : Query → ℕ → State
initial q p = record { place = p; captures = replicate q.sought.groups None; kept = p }

-- the trace and the outcomes of an attempt at p; consumed text ends by the range's end
abbrev pub trace_at : Query → ℕ → List Event
trace_at q p = trace (context_of q) q.request.range_end q.sought.pattern (initial q p)

abbrev pub outcomes_at : Query → ℕ → List State
outcomes_at q p = outcomes (context_of q) q.request.range_end q.sought.pattern (initial q p)

-- p, the kept start and the end stand on boundaries where they must, and the match is not empty where it must not be
pub record IsAccepted (q : Query) (p : ℕ) (s : State) : Type 0 where
  pub begins : IsTrue q.sought.on_boundaries → IsTrue (is_boundary q.haystack p)
  pub keeps : IsTrue q.sought.on_boundaries → IsTrue (is_boundary q.haystack s.kept)
  pub ends : IsTrue q.sought.on_boundaries → IsTrue (is_boundary q.haystack s.place)
  pub filled : IsTrue q.sought.not_empty → s.kept ≢ s.place

-- a match may begin or end at p
abbrev pub is_match_boundary : Bool → List ℕ → ℕ → Bool
is_match_boundary on_boundaries haystack p = not on_boundaries || is_boundary haystack p

-- the test of `IsAccepted`
abbrev pub accepted : Query → ℕ → State → Bool
accepted q p s =
    let stands = is_match_boundary q.sought.on_boundaries q.haystack in
    stands p && (stands s.kept && (stands s.place && (not q.sought.not_empty || not (s.kept == s.place))))

abbrev pub first_one : List State → Option State
first_one [] = None
first_one (s ∷ ss) = Some s

-- the earlier, unless the later one ends further on
abbrev pub further : State → Option State → Option State
further s None = Some s
further s (Some t) = if nat_lt s.place t.place then Some t else Some s

-- the first among those with the greatest end
abbrev pub longest_one : List State → Option State
longest_one [] = None
longest_one (s ∷ ss) = further s (longest_one ss)

-- the accepted outcome that is taken at p
unfoldable pub answer_at : Query → ℕ → Option State
answer_at q p =
    if q.sought.longest
    then longest_one (filter (accepted q p) (outcomes_at q p))
    else first_one (filter (accepted q p) (outcomes_at q p))

-- where a search found something, and what; a match goes from the kept start to the state's place
pub record Answer : Type 0 where
  pub position : ℕ
  pub state : State

abbrev pub span_of : Answer → Span
span_of f = from_to f.state.kept f.state.place

-- the answer of an attempt at p alone
abbrev pub attempt : Query → ℕ → Option Answer
attempt q p = option_map (λ s. record { position = p; state = s }) (answer_at q p)

-- the answer at the least of the n positions from p on that has one
unfoldable pub answer_from : Query → ℕ → ℕ → Option Answer
answer_from q zero p = None
answer_from q (suc n) p =
    option_or (option_map (λ s. record { position = p; state = s }) (answer_at q p)) (answer_from q n (p + 1))

-- the answer of the search: none where no position has an accepted outcome
abbrev pub search : Query → Option Answer
search q = answer_from q (positions q.request) (effective_start q.request)

-- the events before the first accepted outcome, and all where there is none
abbrev pub before_accepted : (State → Bool) → List Event → List Event
before_accepted accept [] = []
before_accepted accept (mark ∷ es) = mark ∷ before_accepted accept es
before_accepted accept (return ∷ es) = return ∷ before_accepted accept es
before_accepted accept (outcome s ∷ es) = if accept s then [] else outcome s ∷ before_accepted accept es

-- what an attempt at p goes through
unfoldable pub gone_through : Query → ℕ → List Event
gone_through q p = if q.sought.longest then trace_at q p else before_accepted (accepted q p) (trace_at q p)

-- what an attempt at p alone goes through: nothing where no match may begin
abbrev pub gone_at : Query → ℕ → List Event
gone_at q p = if is_match_boundary q.sought.on_boundaries q.haystack p then gone_through q p else []

-- What the search goes through at the n positions from p on, where `tries` tells those that count.
unfoldable pub gone_from : Query → (ℕ → Bool) → ℕ → ℕ → List Event
gone_from q tries zero p = []
gone_from q tries (suc n) p =
    (if is_match_boundary q.sought.on_boundaries q.haystack p && tries p then gone_through q p else [])
    ++ (if is_some (answer_at q p) then [] else gone_from q tries n (p + 1))

abbrev pub gone : Query → (ℕ → Bool) → List Event
gone q tries = gone_from q tries (positions q.request) (effective_start q.request)

-- the marks up to the answer
abbrev pub choices : Query → (ℕ → Bool) → ℕ
choices q tries = marks_in (gone q tries)

-- the returns up to the answer
abbrev pub returns : Query → (ℕ → Bool) → ℕ
returns q tries = returns_in (gone q tries)

-- the marks of an attempt at p alone
abbrev pub choices_at : Query → ℕ → ℕ
choices_at q p = marks_in (gone_at q p)

-- the returns of an attempt at p alone
abbrev pub returns_at : Query → ℕ → ℕ
returns_at q p = returns_in (gone_at q p)
