-- What a search came to, which may leave off between two positions.
use Rattle.std.specs.Prelude.{◌≡◌, ◌+◌, ◌-◌, ◌*◌, ◌≤◌, ℕ, List, Option, IfSome}
use Rattle.std.specs.Option.{option_or}
use Rattle.fancy_input.specs.Requests.{effective_start}
use Rattle.fancy_input.specs.Work.{steps_of}
use Rattle.fancy_input.specs.declared.span.Span.{Span}
use Rattle.fancy_input.specs.declared.work.Work.{Work}
use Rattle.fancy_code.specs.CodeLength.{code_len}
use Rattle.fancy_code.specs.Queries.{answer_with}
use Rattle.fancy_code.specs.declared.code.Code.{Code}
use Rattle.fancy_meaning.specs.Search.{Answer, Query, answer_from, search}
use Rattle.fancy_prefilter.specs.Seen.{NoneMayStart}
use Rattle.fancy_runner.specs.KeptTable.{past_tried}
use Rattle.fancy_runner.specs.declared.search.Searched.{Searched}
use Rattle.fancy_runner.specs.declared.search.Wanted.{Wanted}

-- the answer of the positions that are tried from a place on
abbrev pub answer_past : Query → ℕ → Option Answer
answer_past q place = answer_from q (past_tried q.request - place) place

-- The answer of the search is what was found, and else that of the positions from the place on that was reached.
abbrev pub IsAnsweredBy : Query → List (Option Span) → Searched → Type 0
IsAnsweredBy q groups s = option_or (answer_with groups s.found) (answer_past q s.reached) ≡ search q

-- Where a search left off it took as many steps as its patience has, and no more than the code is long for each position before. A match may
-- start at some position.
pub record LeftOff (code : Code) (haystack : List ℕ) (wanted : Wanted) (place : ℕ) (before after : Work) : Type 0 where
  pub enough : IfSome wanted.patience (λ p. p.steps ≤ p.taken + (steps_of after - steps_of before))
  pub paid : steps_of after ≤ steps_of before + code_len code * (place - effective_start wanted.request)
  pub starts : ¬ NoneMayStart code.prefilter.starts haystack wanted.request.range_end (effective_start wanted.request) (wanted.request.range_end + 1)
