-- What a search by the machine is asked, and what it answers.
use Rattle.std.specs.Prelude.{◌≡◌, ◌+◌, ◌<◌, ◌≤◌, ℕ, max, length, Bool, true, false, List, Option, Some, None, Result, Ok, Err, IfOk}
use Rattle.fancy_input.specs.declared.last_lines.LastLines.{LastLines}
use Rattle.fancy_input.specs.declared.refusal.SearchRefusal.{SearchRefusal}
use Rattle.fancy_input.specs.declared.refusal.SearchRefusal.TheVariants.{Returns, Choices}
use Rattle.fancy_input.specs.declared.span.Span.{Span}
use Rattle.fancy_input.specs.declared.work.Work.{Work}
use Rattle.fancy_input.specs.Work.{returns_of}
use Rattle.fancy_code.specs.declared.found.Found.{Found}
use Rattle.fancy_meaning.specs.declared.options.SearchOptions.{SearchOptions}
use Rattle.fancy_code.specs.Compile.{IsCodeOf}
use Rattle.fancy_code.specs.Queries.{query_of, answer_with}
use Rattle.fancy_meaning.specs.Search.{Query, Answer, context_of}
use Rattle.fancy_splits.specs.Told.{ArePrices}
use Rattle.fancy_machine.specs.declared.asked.Asked.{Asked}
use Rattle.fancy_machine.specs.declared.attempt.Attempt.{Attempt}
use Rattle.fancy_machine.specs.declared.search.Cache.{Cache}
use Rattle.fancy_machine.specs.declared.seen.Seen.{Seen}
use Rattle.fancy_machine.specs.Attempt.{attempt_context}
use Rattle.fancy_machine.specs.Parts.{HeedsLimits, KeepsCounts}

-- The query is what is asked of the haystack, by the code of its pattern. What is told of attempts with that is true.
pub record Asks (q : Query) (asked : Asked) (haystack : List ℕ) : Type 0 where
  pub query : q ≡ query_of q.sought.pattern asked.code.now asked.options.now haystack asked.request asked.continues
  pub code : ∥ IsCodeOf q.sought.pattern asked.code.now ∥₁
  pub inside : asked.request.range_end ≤ length haystack
  pub prices : ArePrices asked.prices.now asked.code.now

-- the attempt sees what the query shows, and accepts by the same options
pub record Serves (a : Attempt) (q : Query) : Type 0 where
  pub context : attempt_context a ≡ context_of q
  pub on_boundaries : a.options.now.on_boundaries ≡ q.sought.on_boundaries
  pub not_empty : a.options.now.not_empty ≡ q.sought.not_empty
  pub longest : a.options.now.longest ≡ q.sought.longest

-- the attempt at a position i is one of the query, up to the end of its range
pub record IsAsked (q : Query) (a : Attempt) (range_end i : ℕ) : Type 0 where
  pub serves : Serves a q
  pub groups : q.sought.groups ≡ a.code.now.groups
  pub coded : ∥ IsCodeOf q.sought.pattern a.code.now ∥₁
  pub range : range_end ≡ q.request.range_end
  pub inside : q.request.range_end ≤ length q.haystack
  pub ends : i ≤ q.request.range_end

-- where the groups stand in the match that the search before found
abbrev pub groups_held : Cache → List (Option Span)
groups_held cache = cache.trail.now.state.captures

-- what the search before read of the line ends that close the haystack
abbrev pub lines_held : Cache → LastLines
lines_held cache = cache.seen.last_lines

-- what its attempts found out of the haystack
abbrev pub seen_held : Cache → Seen
seen_held cache = cache.seen

-- how many branches the machine may have saved at one time, so far
abbrev pub branches_allowed : Cache → ℕ
branches_allowed cache = cache.trail.most

-- Of two states of a cache the later one let no more branches be saved at one time than the earlier one did, or than this limit allows.
abbrev pub HeedsLimit : ℕ → Cache → Cache → Type 0
HeedsLimit limit before after = branches_allowed after ≤ max (branches_allowed before) limit

-- what is found where an attempt at the position p finds something, and the trail then stands where that ends
abbrev pub found_if : ℕ → Cache → Bool → Option Found
found_if p cache false = None
found_if p cache true = Some (record { position = p; start = cache.trail.now.state.kept; end = cache.trail.now.state.place })

-- the same where it may be refused
abbrev pub found_by : ℕ → Cache → Result Bool SearchRefusal → Result (Option Found) SearchRefusal
found_by p cache (Ok found) = Ok (found_if p cache found)
found_by p cache (Err refusal) = Err refusal

-- What a search answers and counts, or an attempt, whose answer is `found` after so many returns and choices. It is refused for returns only where
-- these pass their limit, and for a choice only where there are more than may be saved.
pub record Answers (options : SearchOptions) (limit : ℕ) (found : Option Answer) (returns choices : ℕ) (result : Result (Option Found) SearchRefusal) (old new : Cache) (before after : Work) : Type 0 where
  pub answer : IfOk result (λ f. answer_with (groups_held new) f ≡ found)
  pub count : IfOk result (λ _. returns_of after ≡ returns_of before + returns)
  pub bounded : returns_of after ≤ returns_of before + returns
  pub refused : result ≡ Err Returns → limit < returns_of before + returns
  pub crowded : result ≡ Err Choices → options.stack_limit < choices
  pub heeds : HeedsLimit options.stack_limit old new
  pub counts : KeepsCounts before after
  pub limits : HeedsLimits limit options.step_limit result before after
