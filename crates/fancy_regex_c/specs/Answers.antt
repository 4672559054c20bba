-- What the number that a call answers says, for calls that read a haystack. `answer_for` gives the answer for each error of the library.
use Rattle.std.specs.Prelude.{◌≡◌, ℕ}
use Rattle.fancy_regex.specs.declared.Error.{Error}
use Rattle.fancy_regex.specs.declared.Error.TheVariants.{Memory, ParseError, CompileError, RuntimeError}
use Rattle.fancy_regex.specs.declared.RuntimeError.TheVariants.{BacktrackLimitExceeded, StackOverflow, StepLimitExceeded, Unmatched}

-- NO_MEMORY, one of the three limits, UNMATCHED; REFUSED for what is wrong with a pattern
abbrev pub answer_for : Error → ℕ
answer_for Memory = 4
answer_for (ParseError place kind) = 6
answer_for (CompileError why) = 6
answer_for (RuntimeError BacktrackLimitExceeded) = 9
answer_for (RuntimeError StackOverflow) = 10
answer_for (RuntimeError StepLimitExceeded) = 11
answer_for (RuntimeError (Unmatched place)) = 12

-- it is the answer for an error by which the library refuses the call
abbrev pub IsAnswerFor : (Error → Type 0) → ℕ → Type 0
IsAnswerFor refuses answer = (e : Error) × (answer ≡ answer_for e) × refuses e

-- Why a haystack is not searched: `said` where the bytes are what the request says, `place` where they may be searched as it asks.
pub data IsUnread (said place : Type 0) (answer : ℕ) : Type 0 where
  not_text : answer ≡ 2 → (said → ⊥) → IsUnread said place answer
  no_place : answer ≡ 3 → said → (place → ⊥) → IsUnread said place answer

-- One case for each answer, with what it says. DONE and NONE have a fact of their own; `refuses` are the errors by which the library
-- refuses the call.
pub data Answers (said place : Type 0) (refuses : Error → Type 0) (done none : Type 0) (answer : ℕ) : Type 0 where
  is_done : answer ≡ 0 → said → place → done → Answers said place refuses done none answer
  is_none : answer ≡ 1 → said → place → none → Answers said place refuses done none answer
  is_not_text : answer ≡ 2 → (said → ⊥) → Answers said place refuses done none answer
  is_no_place : answer ≡ 3 → said → (place → ⊥) → Answers said place refuses done none answer
  is_refused : said → place → IsAnswerFor refuses answer → Answers said place refuses done none answer
