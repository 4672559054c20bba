-- A table, and what was read of the last lines, that are kept from one search to the next.
use Rattle.std.proofs.Common.{◌≡◌, ℕ, ◌+◌, ◌-◌, ◌*◌, ◌^◌, ◌<◌, ◌≤◌, Bool, true, false, List, Option, Some, None, length, refl, sym, ap, subst, arith}
use Rattle.std.specs.Prelude.{IfSome, is_some, nat_lt, if◌then◌else◌}
use Rattle.std.proofs.lemmas.Bool.{true≢false, lt-ltb}
use Rattle.fancy_tree.specs.Pattern.{Pattern}
use Rattle.fancy_input.specs.LastLines.{KnowsLastLines}
use Rattle.fancy_input.specs.Requests.{effective_start}
use Rattle.fancy_input.specs.declared.input.Request.{Request}
use Rattle.fancy_code.specs.Instructions.{Instruction}
use Rattle.fancy_meaning.specs.Context.{Context}
use Rattle.fancy_code.specs.Marking.{Marks, worth_in, sum_to, sum_owed}
use Rattle.fancy_code.specs.declared.code.Code.{Code}
use Rattle.fancy_runner.specs.declared.notes.KeptTable.{KeptTable}
use Rattle.fancy_runner.specs.declared.notes.Notes.{Notes}
use Rattle.fancy_meaning.specs.declared.options.SearchOptions.{SearchOptions}
use Rattle.fancy_meaning.specs.declared.reading.SuppressedEnds.{SuppressedEnds}
use Rattle.fancy_code.specs.Code.{instrs_of, width_of, due_of, worth_of, owed_of}
use Rattle.fancy_code.specs.CodeLength.{code_len}
use Rattle.fancy_code.specs.Compile.{IsCodeOf, depth}
use Rattle.fancy_meaning.specs.Reading.{search_context, suppressed_ends}
use Rattle.fancy_runner.specs.Runner.{AllFailed}
use Rattle.fancy_meaning.specs.Search.{is_match_boundary}
use Rattle.fancy_runner.specs.KeptTable.{marks_from, base_of, IsKept, steps_ahead, steps_from, taken_again}
use Rattle.fancy_code.proofs.InstructionLemmas.{length-instrs_of}
use Rattle.fancy_code.proofs.MarkingLemmas.{first_ticks, times_le}

-- what has failed from a place on has failed from a later one on
pub failed_later : (good : ℕ → Bool) (x : Context) (low later limit : ℕ) (code : List Instruction) (deep : ℕ) (table : Marks) → low ≤ later
    → AllFailed good x low limit code deep table → AllFailed good x later limit code deep table
failed_later good x low later limit code deep table le failed q i seen hit = failed q i ((seen.0.0, omega (arith, le, seen.0.1), seen.0.2), seen.1) hit

-- what is kept for a place is kept for a later one
pub told_later : (code : Code) (haystack : List ℕ) (request : Request) (options : SearchOptions) (kept : Option KeptTable) (place later : ℕ) (notes : Notes) → place ≤ later
    → IfSome kept (λ k. IsKept code haystack request options k place notes) → IfSome kept (λ k. IsKept code haystack request options k later notes)
told_later code haystack request options None place later notes le is = tt
told_later code haystack request options (Some k) place later notes le is = record {
  begins = omega (arith, le, is.begins);
  reached = omega (arith, le, is.reached);
  room = is.room;
  small = is.small;
  failed = is.failed;
  last_lines = is.last_lines;
}

-- what the marks of a place and a start are worth
pub worth_paid : (code : Code) → worth_of code + due_of code code.start ≤ code_len code
worth_paid code =
    subst (λ (n : ℕ). sum_to (worth_in code.marking.numbers.items code.marking.weights.items) n + due_of code code.start ≤ n) (length-instrs_of code) code.paid.total

-- a search that clears the marks where it starts may take them again
pub all_again : (kept : Option KeptTable) (k : KeptTable) (code : Code) (first : ℕ) → kept ≡ Some k → first < k.from → taken_again kept code first ≡ worth_of code
all_again kept k code first is lt = rw (is, lt-ltb first k.from lt) refl

-- with one start these are no more steps than there are instructions
pub again_paid : (kept : Option KeptTable) (code : Code) (first : ℕ) → taken_again kept code first + due_of code code.start ≤ code_len code
again_paid None code first = omega (arith, worth_paid code)
again_paid (Some k) code first = omega (arith, worth_paid code, if_most (nat_lt first k.from) (worth_of code))
  where
    if_most : (b : Bool) (w : ℕ) → (if b then w else 0) ≤ w
    if_most true w = omega arith
    if_most false w = omega arith

module _ (code : Code) (haystack : List ℕ) (request : Request) (options : SearchOptions) (first base : ℕ) (suppressed : SuppressedEnds)
    (begins : first ≡ effective_start request) (ends : suppressed ≡ suppressed_ends options.overrides request) where
  -- what a search is told of what is kept
  abbrev Told : Option KeptTable → Notes → Type 0
  Told kept notes = IfSome kept (λ k. IsKept code haystack request options k (effective_start request) notes)

  -- no marked pair from the place on gives an accepted outcome
  abbrev Failed : Pattern → ℕ → List Bool → Type 0
  Failed p place table =
      AllFailed (is_match_boundary options.on_boundaries haystack) (search_context haystack code.meaning suppressed base) place request.range_end (instrs_of code)
      (depth (length haystack) p + 1) (marks_from code base table)

  pub kept_begins : (kept : Option KeptTable) (notes : Notes) → Told kept notes → base ≡ base_of kept first → base ≤ first
  kept_begins None notes told is = omega (arith, is)
  kept_begins (Some k) notes told is = omega (arith, is, told.begins, begins)

  pub kept_reached : (kept : Option KeptTable) (notes : Notes) → Told kept notes → IfSome kept (λ k. k.from ≤ first + 1)
  kept_reached None notes told = tt
  kept_reached (Some k) notes told = omega (arith, told.reached, begins)

  pub kept_room : (kept : Option KeptTable) (notes : Notes) → Told kept notes → base ≡ base_of kept first
      → IfSome kept (λ k. length notes.table ≡ (request.range_end - base + 1) * width_of code)
  kept_room None notes told is = tt
  kept_room (Some k) notes told is = rw is told.room

  pub kept_small : (kept : Option KeptTable) (notes : Notes) → Told kept notes → IfSome kept (λ k. length notes.table < 2 ^ 64)
  kept_small None notes told = tt
  kept_small (Some k) notes told = told.small

  pub kept_last_lines : (kept : Option KeptTable) (notes : Notes) → Told kept notes → is_some kept ≡ true → KnowsLastLines haystack notes.last_lines
  kept_last_lines None notes told some = absurd (true≢false (sym some))
  kept_last_lines (Some k) notes told some = told.last_lines

  pub kept_failed : (kept : Option KeptTable) (notes : Notes) → Told kept notes → base ≡ base_of kept first → (p : Pattern) → IsCodeOf p code
      → IfSome kept (λ k. Failed p k.from notes.table)
  kept_failed None notes told is p of = tt
  kept_failed (Some k) notes told is p of = rw (is, ends) (told.failed p of)

  -- a search leaves what can be kept: the marks from a place on have failed
  pub kept_after : (kept : Option KeptTable) (from place : ℕ) (notes : Notes) → base ≡ base_of kept first → base ≤ place → from ≤ place + 1
      → length notes.table ≡ (request.range_end - base + 1) * width_of code → length notes.table < 2 ^ 64
      → ((p : Pattern) → IsCodeOf p code → Failed p from notes.table)
      → KnowsLastLines haystack notes.last_lines
      → IsKept code haystack request options (record { base = base; from = from }) place notes
  kept_after kept from place notes is low reached room small failed last_lines = record {
    begins = low;
    reached = reached;
    room = room;
    small = small;
    failed = λ p of.
        subst (λ (s : SuppressedEnds). AllFailed (is_match_boundary options.on_boundaries haystack) (search_context haystack code.meaning s base) from request.range_end (instrs_of code) (depth (length haystack) p + 1) (marks_from code base notes.table)) ends
        (failed p of);
    last_lines = last_lines;
  }

  -- no more steps are ahead of a table that begins at the first position than a search alone takes
  ahead_first : (new : List Bool) (n : ℕ) → base ≡ first → first ≤ request.range_end → n ≤ request.range_end + 1 - first
      → owed_of code (request.range_end - base + 1) new + n * due_of code code.start ≤ code_len code * (request.range_end + 1 - effective_start request)
  ahead_first new n same within few =
      let rows_are : request.range_end - base + 1 ≡ request.range_end + 1 - effective_start request = omega (arith, same, begins, within) in
      let ticks : owed_of code (request.range_end - base + 1) new + n * due_of code code.start ≤ (request.range_end - base + 1) * code_len code =
      subst (λ (k : ℕ). sum_owed code.marking.numbers.items code.marking.weights.items code.marking.width k (request.range_end - base + 1) new + n * due_of code code.start ≤ (request.range_end - base + 1) * k)
      (length-instrs_of code)
      (first_ticks (instrs_of code) code.marking.numbers.items code.marking.weights.items code.marking.width code.start (request.range_end - base + 1) n new code.paid (omega (arith, same, few, within))) in
      subst (λ (k : ℕ). owed_of code (request.range_end - base + 1) new + n * due_of code code.start ≤ code_len code * k) rows_are (swapped (request.range_end - base + 1) (code_len code) _ ticks) where
        swapped : (rows count all : ℕ) → all ≤ rows * count → all ≤ count * rows
        swapped rows count all h = omega arith

  -- the steps that are ahead once the table is ready were ahead before, but for those that may be taken again
  pub ahead_ready : (kept : Option KeptTable) (old new : List Bool) (n : ℕ) → base ≡ base_of kept first → first ≤ request.range_end → n ≤ request.range_end + 1 - first
      → IfSome kept (λ _. owed_of code (request.range_end - base + 1) new ≤ owed_of code (request.range_end - base + 1) old + taken_again kept code first)
      → owed_of code (request.range_end - base + 1) new + n * due_of code code.start
      ≤ steps_from kept code request (effective_start request) old + taken_again kept code (effective_start request)
  ahead_ready None old new n is within few left = omega (arith, ahead_first new n is within few)
  ahead_ready (Some k) old new n is within few left =
      let rows : ℕ = request.range_end - base + 1 in
      let same : owed_of code rows old ≡ owed_of code (request.range_end - k.base + 1) old = ap (λ (b : ℕ). owed_of code (request.range_end - b + 1) old) is in
      let starts : (request.range_end + 1 - first) * due_of code code.start ≡ (request.range_end + 1 - effective_start request) * due_of code code.start = ap (λ (b : ℕ). (request.range_end + 1 - b) * due_of code code.start) begins in
      let again : taken_again (Some k) code first ≡ taken_again (Some k) code (effective_start request) = ap (taken_again (Some k) code) begins in
      let fewer : n * due_of code code.start ≤ (request.range_end + 1 - first) * due_of code code.start = times_le n (request.range_end + 1 - first) (due_of code code.start) few in
      omega (arith, left, same, starts, again, fewer)

  -- what is ahead after a search, from a later place on
  pub ahead_after : (place later : ℕ) (table : List Bool) → place ≤ later
      → steps_ahead code request base later table
      ≤ owed_of code (request.range_end - base + 1) table + (request.range_end + 1 - place) * due_of code code.start
  ahead_after place later table le =
      let fewer : (request.range_end + 1 - later) * due_of code code.start ≤ (request.range_end + 1 - place) * due_of code code.start = times_le (request.range_end + 1 - later) (request.range_end + 1 - place) (due_of code code.start) (omega (arith, le)) in
      omega (arith, fewer)

-- no more steps are ahead from a later place on
pub fewer_ahead : (kept : Option KeptTable) (code : Code) (request : Request) (place later : ℕ) (table : List Bool) → place ≤ later
    → steps_from kept code request later table ≤ steps_from kept code request place table
fewer_ahead None code request place later table le =
    omega (arith, times_le (request.range_end + 1 - later) (request.range_end + 1 - place) (code_len code) (omega (arith, le)))
fewer_ahead (Some k) code request place later table le =
    let fewer : (request.range_end + 1 - later) * due_of code code.start ≤ (request.range_end + 1 - place) * due_of code code.start = times_le (request.range_end + 1 - later) (request.range_end + 1 - place) (due_of code code.start) (omega (arith, le)) in
    omega (arith, fewer)
