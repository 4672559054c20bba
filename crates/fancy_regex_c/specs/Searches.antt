-- What the exports that search with a regex answer.
use Rattle.std.specs.Prelude.{◌≡◌, ◌<◌, ℕ, List, length, Option, None, Some, true, false, is_some, IsSomeAnd, slice_get}
use Rattle.fancy_regex.specs.declared.Regex.{Regex}
use Rattle.fancy_regex.specs.declared.Span.{Span as Found}
use Rattle.fancy_regex.specs.Groups.{span_at}
use Rattle.fancy_regex.specs.Limited.{Refuses, Allows}
use Rattle.fancy_regex.specs.Regexes.{query}
use Rattle.fancy_regex.specs.Search.{Query, search}
use Rattle.fancy_regex.specs.Searches.{first_match, first_groups}
use Rattle.fancy_regex.specs.Spans.{from_to}
use Rattle.fancy_regex_c.specs.declared.plain.Request.{Request}
use Rattle.fancy_regex_c.specs.declared.plain.Span.{Span}
use Rattle.fancy_regex_c.specs.Answers.{Answers}
use Rattle.fancy_regex_c.specs.Asked.{asked, IsAsSaid, IsPlace}

-- what the search asks of the library
abbrev pub asked_of : Regex → List ℕ → Request → Query
asked_of regex bytes r = query regex bytes (asked r)

-- A search of the bytes: DONE and NONE come only where it keeps within its limit of returns.
abbrev pub SearchAnswers : Regex → List ℕ → Request → Type 0 → Type 0 → ℕ → Type 0
SearchAnswers regex bytes r done none answer =
    Answers (IsAsSaid bytes r) (IsPlace regex bytes r) (Refuses regex (asked_of regex bytes r))
    (Allows regex (asked_of regex bytes r) × done) (Allows regex (asked_of regex bytes r) × none) answer

-- `is_match`: DONE where there is a match, NONE where there is none
abbrev pub TellsWhether : Regex → List ℕ → Request → ℕ → Type 0
TellsWhether regex bytes r answer =
    SearchAnswers regex bytes r (is_some (search (asked_of regex bytes r)) ≡ true) (is_some (search (asked_of regex bytes r)) ≡ false) answer

-- the first match of a search has this span
abbrev pub IsFirst : Query → Span → Type 0
IsFirst q span = first_match q ≡ Some (from_to span.start span.end)

-- `find`: DONE with the span of the first match, NONE where there is none
abbrev pub TellsFirst : Regex → List ℕ → Request → Span → ℕ → Type 0
TellsFirst regex bytes r found answer =
    SearchAnswers regex bytes r (IsFirst (asked_of regex bytes r) found) (first_match (asked_of regex bytes r) ≡ None) answer

-- a group's span as it crosses: that of a group that took no part has the greatest number as both ends
abbrev pub crossing : Option Found → Span
crossing None = record { start = 18446744073709551615; end = 18446744073709551615 }
crossing (Some s) = record { start = s.start; end = s.end }

-- These are the groups, from group 0 on, as many as there is room for. Past the last group of the pattern each is absent.
abbrev pub AreGroups : List (Option Found) → List Span → Type 0
AreGroups groups written = (k : ℕ) → k < length written → slice_get written k ≡ Some (crossing (span_at groups k))

-- `captures`: DONE with the groups of the first match, NONE where there is none
abbrev pub TellsGroups : Regex → List ℕ → Request → List Span → ℕ → Type 0
TellsGroups regex bytes r written answer =
    SearchAnswers regex bytes r (IsSomeAnd (first_groups (asked_of regex bytes r)) (λ groups. AreGroups groups written))
    (first_groups (asked_of regex bytes r) ≡ None) answer
