-- One place of a search: the ways that wait there, what is read, and the ways after it.
use Rattle.std.specs.Prelude.{◌≡◌, ℕ, suc, Bool, List, [], ◌∷◌, Option, None, Some, slice_index}
use Rattle.std.specs.Option.{option_or}
use Rattle.fancy_code.specs.Instructions.{Instruction}
use Rattle.fancy_code.specs.declared.code.Code.{Code}
use Rattle.fancy_code.specs.Code.{instrs_of}
use Rattle.fancy_states.specs.declared.way.Way.{Way}
use Rattle.fancy_states.specs.Ways.{Ends, tagged, Solves, AllKnown, first_end, match_end}
use Rattle.fancy_alphabet.specs.Effects.{Seen}
use Rattle.fancy_alphabet.specs.declared.sight.Sight.{Sight}
use Rattle.fancy_alphabet.specs.Sights.{seen_in}
use Rattle.fancy_states.specs.declared.step.Step.{Step}

-- the ways that wait at these instructions, by their numbers from n on
abbrev pub waiting : ℕ → List ℕ → List Way
waiting n [] = []
waiting n (q ∷ qs) = record { at = q; from = n } ∷ waiting (suc n) qs

abbrev pub at_of : Way → ℕ
at_of w = w.at

abbrev pub from_of : Way → ℕ
from_of w = w.from

-- What a step means, with no haystack in sight: from these instructions, where `u` is seen, the ways go on as `next` says, and one
-- ended with an outcome if `matched` has the number of the way that it came from.
abbrev pub IsStep : List Instruction → List ℕ → Seen → List Way → Option ℕ → Type 0
IsStep code ways u next matched =
    (here : ℕ) (ends later : Ends) (known beyond : ℕ → Bool) (rank : ℕ → ℕ) → Solves code u here ends later known beyond rank
    → AllKnown known (waiting 0 ways)
    → AllKnown beyond next × (option_or (first_end later next) (match_end matched here) ≡ first_end ends (waiting 0 ways))

-- That is the step which was computed for what is seen. Where nothing is read no way goes on.
pub record IsStepOn (code : Code) (ways : List ℕ) (sight : Sight) (s : Step) : Type 0 where
  pub step : IsStep (instrs_of code) ways (seen_in sight) s.next.items s.matched
  pub halts : sight.reading ≡ None → s.next.items ≡ []

-- the end, with where its way began
abbrev pub span_by : List ℕ → Option (ℕ × ℕ) → Option (ℕ × ℕ)
span_by starts None = None
span_by starts (Some (from, end)) = Some (slice_index starts from, end)

-- the first way that has an end, with where it began
abbrev pub first_tagged_end : Ends → List ℕ → List ℕ → Option (ℕ × ℕ)
first_tagged_end ends [] starts = None
first_tagged_end ends (q ∷ qs) [] = None
first_tagged_end ends (q ∷ qs) (s ∷ starts) = option_or (tagged s (ends q)) (first_tagged_end ends qs starts)

abbrev pub start_in : List ℕ → Way → ℕ
start_in starts w = slice_index starts w.from
