-- The attempt that a request asks for, and a search of it that is begun.
use Rattle.std.specs.Prelude.{◌≡◌, ◌<◌, ◌≤◌, ℕ, List, false, slice_index}
use Rattle.fancy_code.specs.declared.attempt.Attempt.{Attempt}
use Rattle.fancy_code.specs.declared.code.Code.{Code}
use Rattle.fancy_input.specs.declared.input.Request.{Request}
use Rattle.fancy_input.specs.Requests.{effective_start}
use Rattle.fancy_meaning.specs.declared.options.SearchOptions.{SearchOptions}
use Rattle.fancy_meaning.specs.Reading.{suppressed_ends}
use Rattle.fancy_states.specs.Search.{IsFollowed}
use Rattle.fancy_automaton.specs.Places.{IsNextPlace}
use Rattle.fancy_automaton.specs.declared.search.Opened.{Opened}

-- the attempt that this request asks for, whose range does not end before it starts
pub record IsAsked (a : Attempt) (code : Code) (haystack : List ℕ) (request : Request) (options : SearchOptions) : Type 0 where
  pub of_code : a.code.now ≡ code
  pub of_haystack : a.haystack.now ≡ haystack
  pub base : a.base ≡ effective_start request
  pub last : a.last ≡ request.range_end
  pub boundaries : a.on_boundaries ≡ options.on_boundaries
  pub suppressed : a.suppressed ≡ suppressed_ends options.overrides request
  pub ordered : a.base ≤ a.last
  pub bytes : (k : ℕ) → slice_index a.haystack.now k < 256

-- a match may begin at its place, as far as is told, and none begins before it
pub record IsOpened (o : Opened) : Type 0 where
  pub followed : IsFollowed o.attempt
  pub next : IsNextPlace o.attempt o.attempt.base o.place
  pub within : o.place ≤ o.attempt.last

-- it is begun for this request, which is not anchored
pub record IsOpenedFor (o : Opened) (code : Code) (haystack : List ℕ) (request : Request) (options : SearchOptions) : Type 0 where
  pub asked : IsAsked o.attempt code haystack request options
  pub unanchored : request.anchored ≡ false
