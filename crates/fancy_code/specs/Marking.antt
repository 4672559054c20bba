-- Which instructions have a mark at each place, and what it costs to go on at the others.
use Rattle.std.specs.Prelude.{ℕ, zero, suc, ◌≡◌, ◌+◌, ◌*◌, ◌<◌, ◌≤◌, Bool, false, List, length, Option, Some, None, if◌then◌else◌, slice_index_or}
use Rattle.fancy_code.specs.Instructions.{Instruction, Match, Fail, Character, Member, RawByte, Assert, Split, Open, Close, Enter, Commit, Look, Deny, Test, Back, Recall, Keep, Continue, Taken}
use Rattle.fancy_meaning.specs.Context.{option_to}

-- at an instruction and a place whether the pair was marked
abbrev pub Marks : Type 0
Marks = ℕ → ℕ → Bool

-- the number of an instruction's mark, among those of a place; none where it has no mark
abbrev pub number_in : List (Option ℕ) → ℕ → Option ℕ
number_in numbers q = slice_index_or numbers q None

-- what is due where a thread goes on at q: nothing where a mark tells whether one was there before
abbrev pub due_in : List (Option ℕ) → List ℕ → ℕ → ℕ
due_in numbers weights q = option_to (number_in numbers q) (slice_index_or weights q 0) (λ k. 0)

-- what the mark of q is worth, if it has one
abbrev pub worth_in : List (Option ℕ) → List ℕ → ℕ → ℕ
worth_in numbers weights q = option_to (number_in numbers q) 0 (λ k. slice_index_or weights q 0)

-- what is due where an instruction leads on; the runner meets the easy ones alone
abbrev pub cost_in : List (Option ℕ) → List ℕ → Instruction → ℕ
cost_in numbers weights Match = 0
cost_in numbers weights Fail = 0
cost_in numbers weights (Character c next) = due_in numbers weights next
cost_in numbers weights (Member edges next) = due_in numbers weights next
cost_in numbers weights (RawByte byte next) = due_in numbers weights next
cost_in numbers weights (Assert a next) = due_in numbers weights next
cost_in numbers weights (Split a b) = due_in numbers weights a + due_in numbers weights b
cost_in numbers weights (Open group next) = due_in numbers weights next
cost_in numbers weights (Close group next) = due_in numbers weights next
cost_in numbers weights (Enter body) = 0
cost_in numbers weights (Commit next) = 0
cost_in numbers weights (Look behind body next) = 0
cost_in numbers weights (Deny behind body next) = 0
cost_in numbers weights (Test body other) = 0
cost_in numbers weights (Back n next) = 0
cost_in numbers weights (Recall folded number moved still) = 0
cost_in numbers weights (Keep next) = 0
cost_in numbers weights (Continue next) = 0
cost_in numbers weights (Taken number next) = 0

-- f 0 + .. + f (n - 1)
abbrev pub sum_to : (ℕ → ℕ) → ℕ → ℕ
sum_to f zero = 0
sum_to f (suc n) = sum_to f n + f n

-- An instruction's weight pays for its step and for what is due after it. The marks of a place and the start are worth no more than there
-- are instructions.
pub record IsPaid (code : List Instruction) (numbers : List (Option ℕ)) (weights : List ℕ) (start : ℕ) : Type 0 where
  pub pays : (q : ℕ) → q < length code → cost_in numbers weights (slice_index_or code q Fail) < slice_index_or weights q 0
  pub total : sum_to (worth_in numbers weights) (length code) + due_in numbers weights start ≤ length code

-- the marks have numbers of their own, below `width`
pub record IsNumbered (numbers : List (Option ℕ)) (width : ℕ) : Type 0 where
  pub below : (q k : ℕ) → number_in numbers q ≡ Some k → k < width
  pub apart : (q r k : ℕ) → number_in numbers q ≡ Some k → number_in numbers r ≡ Some k → q ≡ r

-- the pairs that were marked, in a table with `width` bits for each place
abbrev pub marks : List (Option ℕ) → ℕ → List Bool → Marks
marks numbers width table q row = option_to (number_in numbers q) false (λ k. slice_index_or table (row * width + k) false)

-- what the mark of q is worth in a row, if it was not made
abbrev pub owed : List (Option ℕ) → List ℕ → ℕ → List Bool → ℕ → ℕ → ℕ
owed numbers weights width table row q = if marks numbers width table q row then 0 else worth_in numbers weights q

-- what all marks are worth that were not made, of so many instructions at so many places
abbrev pub sum_owed : List (Option ℕ) → List ℕ → ℕ → ℕ → ℕ → List Bool → ℕ
sum_owed numbers weights width count rows table = sum_to (λ row. sum_to (owed numbers weights width table row) count) rows
