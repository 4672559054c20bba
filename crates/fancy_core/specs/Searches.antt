-- What a search with a regex asks and finds, for any form of haystack: `bytes` gives the bytes of a haystack, and `text` says whether it is text.
use Rattle.std.specs.Prelude.{◌≡◌, ℕ, Bool, false, List, Option, option_map}
use Rattle.fancy_input.specs.declared.input.Request.{Request}
use Rattle.fancy_input.specs.declared.regex_input.RegexInput.{RegexInput}
use Rattle.fancy_input.specs.Inputs.{haystack_in, request_in}
use Rattle.fancy_input.specs.Requests.{whole}
use Rattle.fancy_input.specs.declared.span.Span.{Span}
use Rattle.fancy_meaning.specs.Search.{Query, search, attempt, span_of}
use Rattle.fancy_search.specs.declared.options.Options.{Options}
use Rattle.fancy_core.specs.declared.regex.Regex.{Regex}
use Rattle.fancy_search.specs.Groups.{spans_of}
use Rattle.fancy_search.specs.declared.searcher.Onward.{Onward}
use Rattle.fancy_search.specs.Remaining.{Standing, scan, program_matches, program_last_start, items_left, items_end}
use Rattle.fancy_search.specs.MatchList.{Scan, MatchItem}
use Rattle.fancy_core.specs.Regexes.{program_in, query}
use Rattle.fancy_search.specs.Searching.{CanSearch}

-- the condition of all searches, of an input
abbrev pub CanSearchInput : {S : Type 0} {g : _} → (S → Bool) → (S → List ℕ) → Options → RegexInput S g → Type 0
CanSearchInput text bytes o input = CanSearch o (text (haystack_in input)) (bytes (haystack_in input)) (request_in input)

-- what the search of a whole haystack asks
abbrev pub asked_whole : {S : Type 0} → Regex → (S → List ℕ) → S → Query
asked_whole r bytes haystack = query r (bytes haystack) (whole (bytes haystack))

-- what the search of a haystack from a byte offset on asks
abbrev pub asked_from : {S : Type 0} → Regex → (S → List ℕ) → S → ℕ → Query
asked_from r bytes haystack start = query r (bytes haystack) (record (whole (bytes haystack)) { start = start })

-- what the search of an input asks
abbrev pub asked_by : {S : Type 0} {g : _} → Regex → (S → List ℕ) → RegexInput S g → Query
asked_by r bytes input = query r (bytes (haystack_in input)) (request_in input)

-- the span of the match that a search finds, if there is one
abbrev pub first_match : Query → Option Span
first_match q = option_map span_of (search q)

-- what was found, if anything was, has the span of that match
abbrev pub FindsFirst : {A : Type 0} → (A → Span) → Option A → Query → Type 0
FindsFirst span found q = option_map span found ≡ first_match q

-- the spans of the groups of that match
abbrev pub first_groups : Query → Option (List (Option Span))
first_groups q = option_map (spans_of q.sought.groups) (search q)

-- the spans of the groups of the match that an attempt at p finds
abbrev pub groups_of_attempt : Query → ℕ → Option (List (Option Span))
groups_of_attempt q p = option_map (spans_of q.sought.groups) (attempt q p)

-- the matches that a request has one after the other; `text` says whether the haystack is text
abbrev pub matches_of : Regex → Bool → List ℕ → Request → List MatchItem
matches_of r text haystack request = program_matches (program_in r) text haystack request

-- where a list stands that goes on so from a start
abbrev pub standing_onward : ℕ → Onward → Standing
standing_onward start o = record { start = start; continues = o.continues; skips_empty = o.skips_empty; ended = false }

-- the matches that a request has as a list goes on
abbrev pub matches_onward : Regex → Bool → List ℕ → Request → Onward → List MatchItem
matches_onward r text haystack request o = items_left (scan (program_in r) text haystack request) (standing_onward request.start o)

-- where the search starts that finds none, at the end of these
abbrev pub last_start_onward : Regex → Bool → List ℕ → Request → Onward → ℕ
last_start_onward r text haystack request o = items_end (scan (program_in r) text haystack request) (standing_onward request.start o)

-- where the search starts that finds none, at the end of the matches that a request has
abbrev pub last_start_of : Regex → Bool → List ℕ → Request → ℕ
last_start_of r text haystack request = program_last_start (program_in r) text haystack request

-- the searches for the matches of an input, one after the other
abbrev pub scan_of_input : {S : Type 0} {g : _} → Regex → (S → Bool) → (S → List ℕ) → RegexInput S g → Scan
scan_of_input r text bytes input = scan (program_in r) (text (haystack_in input)) (bytes (haystack_in input)) (request_in input)

-- the matches that a whole haystack has one after the other
abbrev pub matches_in_whole : {S : Type 0} → Regex → (S → Bool) → (S → List ℕ) → S → List MatchItem
matches_in_whole r text bytes haystack = matches_of r (text haystack) (bytes haystack) (whole (bytes haystack))

-- the matches that an input has one after the other
abbrev pub matches_of_input : {S : Type 0} {g : _} → Regex → (S → Bool) → (S → List ℕ) → RegexInput S g → List MatchItem
matches_of_input r text bytes input = matches_of r (text (haystack_in input)) (bytes (haystack_in input)) (request_in input)

-- where the search starts that finds none, at the end of the matches of a whole haystack
abbrev pub last_start_in_whole : {S : Type 0} → Regex → (S → Bool) → (S → List ℕ) → S → ℕ
last_start_in_whole r text bytes haystack = last_start_of r (text haystack) (bytes haystack) (whole (bytes haystack))

-- where the search starts that finds none, at the end of the matches of an input
abbrev pub last_start_of_input : {S : Type 0} {g : _} → Regex → (S → Bool) → (S → List ℕ) → RegexInput S g → ℕ
last_start_of_input r text bytes input = last_start_of r (text (haystack_in input)) (bytes (haystack_in input)) (request_in input)
