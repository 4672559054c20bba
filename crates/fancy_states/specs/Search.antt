-- A search by all ways at once.
use Rattle.std.specs.Prelude.{◌≡◌, ℕ, ◌+◌, ◌-◌, ◌≤◌, ◌<◌, ◌⊎◌, Bool, true, false, List, [], ◌∷◌, ◌++◌, Option, None, Some, length, replicate, IsUtf8}
use Rattle.std.specs.Option.{option_or}
use Rattle.fancy_tree.specs.declared.tree.Meaning.{Meaning}
use Rattle.fancy_input.specs.declared.span.Span.{Span}
use Rattle.fancy_code.specs.Instructions.{Instruction}
use Rattle.fancy_meaning.specs.Context.{Context, Unit_at, unit_in}
use Rattle.fancy_meaning.specs.Placed.{reads_characters}
use Rattle.fancy_code.specs.declared.found.Found.{Found}
use Rattle.fancy_code.specs.Code.{instrs_of}
use Rattle.fancy_code.specs.Queries.{answer_with}
use Rattle.fancy_code.specs.declared.code.Code.{Code}
use Rattle.fancy_code.specs.declared.attempt.Attempt.{Attempt}
use Rattle.fancy_code.specs.Attempt.{context_in, instrs_in, may_end_in}
use Rattle.fancy_meaning.specs.Search.{Answer}
use Rattle.fancy_prefilter.specs.NextOpening.{StartsNot}
use Rattle.fancy_states.specs.Ways.{AllKnown}
use Rattle.fancy_states.specs.Futures.{ArePlain, EndsNoGroup, end_at, known_at, leftmost}
use Rattle.fancy_states.specs.Steps.{waiting, first_tagged_end}

module _ (good : ℕ → Bool) (x : Context) (limit : ℕ) (code : List Instruction) (deep start : ℕ) where
  -- what the code gives from each start is known
  abbrev pub Begun : Type 0
  Begun = (p : ℕ) → p ≤ limit → known_at good x limit code deep p start ≡ true

  -- What the ways have before them that wait at a place, or else the rest: that is what is looked for.
  pub record Under (goal : Option (ℕ × ℕ)) (ways starts : List ℕ) (place : ℕ) (rest : Option (ℕ × ℕ)) : Type 0 where
    pub same : length starts ≡ length ways
    pub known : AllKnown (known_at good x limit code deep place) (waiting 0 ways)
    pub answer : option_or (first_tagged_end (end_at good x limit code deep place) ways starts) rest ≡ goal

-- where a match begins and ends
abbrev pub ends_in : Span → ℕ × ℕ
ends_in s = (s.start, s.end)

-- what was found, or else the rest
abbrev pub found_or : Option Span → Option (ℕ × ℕ) → Option (ℕ × ℕ)
found_or None rest = rest
found_or (Some s) rest = Some (ends_in s)

-- one more, unless something was found
abbrev pub begun_if : Option Span → List ℕ → ℕ → List ℕ
begun_if None xs y = xs ++ y ∷ []
begun_if (Some s) xs y = xs

-- no match begins there, by what tells where they may, or since matches begin elsewhere
abbrev pub Passes : Attempt → ℕ → Type 0
Passes a k = (may_end_in a k ≡ false) ⊎ StartsNot a.code.now.prefilter a.haystack.now a.last k

module _ (a : Attempt) (deep : ℕ) where
  -- what the code gives from each start is known, and nothing where it is told that no match begins
  pub record BegunIn : Type 0 where
    pub known : Begun (may_end_in a) (context_in a) a.last (instrs_in a) deep a.code.now.start
    pub starts : (k : ℕ) → k ≤ a.last → may_end_in a k ≡ true → StartsNot a.code.now.prefilter a.haystack.now a.last k
        → end_at (may_end_in a) (context_in a) a.last (instrs_in a) deep k a.code.now.start ≡ None

  abbrev pub leftmost_in : ℕ → ℕ → Option (ℕ × ℕ)
  leftmost_in n p = leftmost (may_end_in a) (context_in a) a.last (instrs_in a) deep a.code.now.start n p

  abbrev pub UnderIn : List ℕ → List ℕ → ℕ → Option (ℕ × ℕ) → Type 0
  UnderIn ways starts place rest =
      Under (may_end_in a) (context_in a) a.last (instrs_in a) deep a.code.now.start (leftmost_in (a.last + 1 - a.base) a.base) ways starts place rest

module _ (a : Attempt) where
  -- What is read leads from a place where a match may begin and end to the next such place.
  abbrev pub Steady : Type 0
  Steady =
      (p : ℕ) (u : Unit_at) → p ≤ a.last → may_end_in a p ≡ true → unit_in a.code.now.meaning a.haystack.now p ≡ Some u
      → (0 < u.width) × (may_end_in a (p + u.width) ≡ true) × ((k : ℕ) → p < k → k < p + u.width → may_end_in a k ≡ false)

  -- An automaton follows the attempt: what is searched is in the haystack, its code is plain, and what is read leads from place to place.
  pub record IsFollowed : Type 0 where
    pub inside : a.last ≤ length a.haystack.now
    pub plain : ArePlain (instrs_in a)
    pub steady : Steady

  -- How far a search has come: these ways wait at `resume`, and no match may begin from `place` to there.
  pub record Going (ways starts : List ℕ) (found : Option Span) (place resume : ℕ) : Type 0 where
    pub under : (deep : ℕ) → BegunIn a deep → UnderIn a deep ways starts resume (found_or found (leftmost_in a deep (a.last + 1 - place) place))
    pub even : length starts ≡ length ways
    pub ahead : place ≤ resume
    pub inside : (k : ℕ) → place ≤ k → k < resume → Passes a k
    pub rests : ((may_end_in a resume ≡ true) × (resume ≤ a.last)) ⊎ (starts ≡ [])

-- A search that reads from boundary to boundary: over text by characters, or over bytes one by one.
pub data KeepsPlaces (haystack : List ℕ) (meaning : Meaning) (on_boundaries : Bool) : Type 0 where
  by_characters : IsUtf8 haystack → reads_characters meaning ≡ true → on_boundaries ≡ true → KeepsPlaces haystack meaning on_boundaries
  by_bytes : reads_characters meaning ≡ false → on_boundaries ≡ false → KeepsPlaces haystack meaning on_boundaries

-- at which position an answer was found, and where it ends
abbrev pub ends_of : Answer → ℕ × ℕ
ends_of f = (f.position, f.state.place)

-- the n groups of an answer; without one none takes part
abbrev pub groups_of : ℕ → Option Answer → List (Option Span)
groups_of n None = replicate n None
groups_of n (Some f) = f.state.captures

-- What was found, with the groups of the answer, is the answer. No group takes part where the code ends none.
pub record IsFoundAs (code : Code) (found : Option Found) (answer : Option Answer) : Type 0 where
  pub same : answer_with (groups_of code.groups answer) found ≡ answer
  pub none : EndsNoGroup (instrs_of code) → groups_of code.groups answer ≡ replicate code.groups None

-- a match that starts at its position
abbrev pub at_position : Span → Found
at_position s = record { position = s.start; start = s.start; end = s.end }
