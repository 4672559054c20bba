-- What is kept from one search of a list to the next.
use Rattle.std.proofs.Common.{◌≡◌, ℕ, ◌+◌, ◌≤◌, Bool, true, false, List, Option, Some, None, IfSome, IfNone, refl, sym, ap, ap₂, ◌∙◌, subst, arith, eqb-true, eq-eqb, true≢false}
use Rattle.std.specs.Prelude.{nat_eq, option_map, if◌then◌else◌, Box}
use Rattle.std.specs.Global.{Global}
use Rattle.fancy_search.specs.declared.cache.RememberedSteps.{RememberedSteps}
use Rattle.std.specs.Option.{ForSome}
use Rattle.std.proofs.lemmas.Option.{none-some, same_Some}
use Rattle.fancy_input.specs.Requests.{effective_start, positions}
use Rattle.fancy_input.specs.declared.input.Request.{Request}
use Rattle.fancy_code.specs.declared.code.Code.{Code}
use Rattle.fancy_code.specs.declared.found.Found.{Found}
use Rattle.fancy_meaning.specs.declared.options.SearchOptions.{SearchOptions}
use Rattle.fancy_runner.specs.declared.notes.KeptTable.{KeptTable}
use Rattle.fancy_runner.specs.declared.notes.Notes.{Notes}
use Rattle.fancy_input.specs.declared.span.Span.{Span}
use Rattle.fancy_meaning.specs.Context.{State}
use Rattle.fancy_code.specs.Queries.{answer_with}
use Rattle.fancy_meaning.specs.Search.{Query, Answer, attempt, answer_at}
use Rattle.fancy_runner.specs.KeptTable.{IsKept, base_of, place_kept, past_tried, steps_ahead, steps_from, table_in, taken_again}
use Rattle.fancy_search.specs.declared.asked.Asked.{Asked}
use Rattle.fancy_search.specs.Served.{StandsIn}
use Rattle.fancy_search.specs.declared.cache.AttemptNotes.{AttemptNotes}
use Rattle.fancy_search.specs.declared.cache.Cache.{Cache}
use Rattle.fancy_search.specs.declared.program.Program.{Program}
use Rattle.fancy_search.specs.declared.cache.Kept.{Kept}
use Rattle.fancy_search.specs.declared.cache.Kept.TheVariants.{Nothing, Runner, Begun, Steps, Lines}
use Rattle.fancy_search.specs.Options.{search_options}
use Rattle.fancy_search.specs.StepsOf.{AreStepsOf}
use Rattle.fancy_search.specs.KeptTables.{KeepsTable, KeepsLines, KeepsNotes, HoldsSteps, IsKeptIn, KeepsOn, table_kept, keeps_no_table, is_steps, kept_from}

-- what is kept for a place is kept for a later one, whichever positions are tried
pub kept_later : (code : Code) (haystack : List ℕ) (request : Request) (options : SearchOptions) (kept : KeptTable) (place later start : ℕ) (anchored : Bool) (notes : Notes) → place ≤ later
    → IsKept code haystack request options kept place notes → IsKept code haystack (record request { start = start; anchored = anchored }) options kept later notes
kept_later code haystack request options kept place later start anchored notes le is = record {
  begins = omega (arith, le, is.begins);
  reached = omega (arith, le, is.reached);
  room = is.room;
  small = is.small;
  failed = is.failed;
  last_lines = is.last_lines;
}

-- the same of a table, if one is kept
kept_if : (code : Code) (haystack : List ℕ) (request : Request) (options : SearchOptions) (kept : Option KeptTable) (place later start : ℕ) (anchored : Bool) (notes : Notes) → place ≤ later
    → IfSome kept (λ k. IsKept code haystack request options k place notes) → IfSome kept (λ k. IsKept code haystack (record request { start = start; anchored = anchored }) options k later notes)
kept_if code haystack request options None place later start anchored notes le is = tt
kept_if code haystack request options (Some k) place later start anchored notes le is = kept_later code haystack request options k place later start anchored notes le is

module _ (program : Program) (haystack : List ℕ) (cache : Cache) where
  -- where nothing is kept, there is nothing to say
  pub keeps_nothing : (request : Request) (kept : Kept) (place : ℕ) → kept ≡ Nothing → IsKeptIn program haystack request kept place cache
  keeps_nothing request kept place is =
      subst (λ (k : Kept). IsKeptIn program haystack request k place cache) (sym is) ((λ base e. absurd (none-some base e)), (λ e. cc), (λ e. cc))

  -- a table is kept
  pub keeps_table : (request : Request) (kept : KeptTable) (place : ℕ) → KeepsTable program haystack request kept place cache.runner → IsKeptIn program haystack request (Runner (Some kept)) place cache
  keeps_table request kept place is = ((λ b e. subst (λ (n : KeptTable). KeepsTable program haystack request n place cache.runner) (same_Some kept b e) is), (λ e. cc), (λ e. cc))

  -- either is kept for the search after a match, if there is one
  pub found_table : (request : Request) (kept : Option KeptTable) (m : Option Found) → IfSome kept (λ k. KeepsTable program haystack request k (place_kept m request) cache.runner)
      → IfSome m (λ f. IsKeptIn program haystack request (Runner kept) f.end cache)
  found_table request kept None is = tt
  found_table request None (Some f) is = ((λ base e. absurd (none-some base e)), (λ e. cc), (λ e. cc))
  found_table request (Some k) (Some f) is = keeps_table request k f.end is

  pub found_steps : (request : Request) (kept : Kept) (m : Option Found) → keeps_no_table kept ≡ true → (is_steps kept ≡ true → HoldsSteps program cache.steps) → IfSome m (λ f. IsKeptIn program haystack request kept f.end cache)
  found_steps request kept None steps is = tt
  found_steps request Nothing (Some f) steps is = absurd (true≢false (sym steps))
  found_steps request (Runner None) (Some f) steps is = ((λ base e. absurd (none-some base e)), (λ e. cc), (λ e. cc))
  found_steps request (Runner (Some k)) (Some f) steps is = absurd (true≢false (sym steps))
  found_steps request Lines (Some f) steps is = absurd (true≢false (sym steps))
  found_steps request (Begun patience) (Some f) steps is = ((λ base e. absurd (none-some base e)), (λ e. cc), (λ e. cc))
  found_steps request Steps (Some f) steps is = ((λ base e. absurd (none-some base e)), is, (λ e. cc))

  pub found_lines : (request : Request) (m : Option Found) → IfSome m (λ f. KeepsLines haystack cache) → IfSome m (λ f. IsKeptIn program haystack request Lines f.end cache)
  found_lines request None is = tt
  found_lines request (Some f) is = ((λ base e. absurd (none-some base e)), (λ e. cc), (λ e. is))

  -- what is kept for a place is kept for a search that starts there or later
  pub keeps_on : (before after : Request) (kept kept' : Kept) (place : ℕ) → after ≡ record before { start = after.start } → kept' ≡ kept → place ≤ after.start
      → IsKeptIn program haystack before kept place cache → IsKeptIn program haystack after kept' (effective_start after) cache
  keeps_on before after kept kept' place same keeps le is =
      subst (λ (k : Kept). IsKeptIn program haystack after k (effective_start after) cache) (sym keeps)
      (subst (λ (r : Request). IsKeptIn program haystack r kept (effective_start after) cache) (sym same)
      ((λ k e. kept_later program.code haystack before _ k place (effective_start after) after.start before.anchored _ (omega (arith, le)) (is.0 k e)), is.1, is.2))

-- and the same of an iteration that was moved on
pub keeps_moved : {S : Type 0} (bytes : S → List ℕ) (program : Program) (cache : Cache) (haystack haystack' : S) (before after : Request) (kept kept' : Kept) (place : ℕ)
    → haystack' ≡ haystack → after ≡ record before { start = after.start } → kept' ≡ kept → place ≤ after.start
    → IsKeptIn program (bytes haystack) before kept place cache
    → IsKeptIn program (bytes haystack') after kept' (effective_start after) cache
keeps_moved {S} bytes program cache haystack haystack' before after kept kept' place stays same keeps le is =
    subst (λ (h : S). IsKeptIn program (bytes h) after kept' (effective_start after) cache) (sym stays)
    (keeps_on program (bytes haystack) cache before after kept kept' place same keeps le is)

-- a request of which another start is told
pub starts_at : (before after : Request) (start : ℕ) → after ≡ record before { start = start } → after ≡ record before { start = after.start }
starts_at before after start e = e ∙ ap (λ (s : ℕ). record before { start = s }) (sym (ap (λ (r : Request). r.start) e))

-- what holds of a table that is kept, if one is
pub if_some : (o : Option KeptTable) (Is : KeptTable → Type 0) → ForSome o Is → IfSome o Is
if_some None Is is = tt
if_some (Some k) Is is = is k refl

-- the same of an option that is equal
pub if_some_at : (o p : Option KeptTable) (Is : KeptTable → Type 0) → o ≡ p → ForSome p Is → IfSome o Is
if_some_at o p Is e is = rw e (if_some p Is is)

-- what attempts found out is kept for those at a later place
pub noted_later : (program : Program) (haystack : List ℕ) (request : Request) (place later : ℕ) (notes : AttemptNotes) → place ≤ later
    → KeepsNotes program haystack request place notes → KeepsNotes program haystack request later notes
noted_later program haystack request place later notes le is =
    (kept_if program.code haystack (record request { start = 0; anchored = false }) (search_options program.options) (table_kept notes.kept) place later 0 false notes.notes le is.0, is.1)

-- it is kept on by an attempt that does not use it
pub noted_past : (program : Program) (asked : Asked) (position : ℕ) (notes : AttemptNotes) (m : Option Found) → IfSome m (StandsIn program asked)
    → KeepsNotes program asked.haystack.now asked.request.now position notes → KeepsNotes program asked.haystack.now asked.request.now (kept_from m position) notes
noted_past program asked position notes None stands is = is
noted_past program asked position notes (Some f) stands is = noted_later program asked.haystack.now asked.request.now position (kept_from (Some f) position) notes (at (nat_eq f.start position) refl) is where
  at : (b : Bool) → nat_eq f.start position ≡ b → position ≤ (if b then f.end else position)
  at true e = omega (arith, stands.ordered, eqb-true f.start position e)
  at false e = omega arith

-- the request of an attempt at a position, where its searches begin, and past what it tries
module _ (request : Request) (position : ℕ) (starts : effective_start request ≤ position) (ends : position ≤ request.range_end) where
  pub begins_at : effective_start (record request { start = position; anchored = true }) ≡ position
  begins_at = omega (arith, starts)

  pub one_tried : positions (record request { start = position; anchored = true }) ≡ 1
  one_tried = omega (arith, starts, ends)

-- what attempts found out is kept for the search that is anchored at the position
pub noted_before : (program : Program) (haystack : List ℕ) (request : Request) (position : ℕ) (notes : AttemptNotes)
    → KeepsNotes program haystack request position notes
    → IfSome (table_kept notes.kept) (λ k. IsKept program.code haystack (record request { start = position; anchored = true }) (search_options program.options) k (effective_start (record request { start = position; anchored = true })) notes.notes)
noted_before program haystack request position notes is =
    kept_if program.code haystack (record request { start = 0; anchored = false }) (search_options program.options) (table_kept notes.kept) position _ position true notes.notes (omega arith) is.0

-- what that search leaves is kept for attempts, by the runner
pub noted_after : (program : Program) (haystack : List ℕ) (request : Request) (position : ℕ) (kept : Option KeptTable) (notes : AttemptNotes) (m : Option Found) → notes.kept ≡ Runner kept
    → effective_start request ≤ position → position ≤ request.range_end → IfSome m (λ f. f.start ≡ position)
    → IfSome kept (λ k. IsKept program.code haystack (record request { start = position; anchored = true }) (search_options program.options) k (place_kept m (record request { start = position; anchored = true })) notes.notes)
    → KeepsNotes program haystack request (kept_from m position) notes
noted_after program haystack request position kept notes m left starts ends here is =
    rw left (
      kept_if program.code haystack (record request { start = position; anchored = true }) (search_options program.options) kept _ (kept_from m position) 0 false notes.notes (reached m here) is,
      λ e. cc,
    )
  where
    reached : (m : Option Found) → IfSome m (λ f. f.start ≡ position) → place_kept m (record request { start = position; anchored = true }) ≤ kept_from m position
    reached None here = omega (arith, begins_at request position starts ends, one_tried request position starts ends)
    reached (Some f) here = rw (eq-eqb f.start position here) (omega arith)

-- where steps are kept, and held, they are kept for any place
pub noted_steps : (program : Program) (haystack : List ℕ) (request : Request) (place : ℕ) (notes : AttemptNotes) → keeps_no_table notes.kept ≡ true → HoldsSteps program notes.steps
    → KeepsNotes program haystack request place notes
noted_steps program haystack request place notes steps holds = rw (no_table notes.kept steps) (tt, λ _. holds) where
  no_table : (kept : Kept) → keeps_no_table kept ≡ true → table_kept kept ≡ None
  no_table Nothing e = refl
  no_table (Runner None) e = refl
  no_table (Runner (Some k)) e = absurd (true≢false (sym e))
  no_table (Begun patience) e = refl
  no_table Steps e = refl
  no_table Lines e = refl

-- where steps of the code are held, those that are held are of it
pub steps_hold : (program : Program) (held : Box RememberedSteps Global) → AreStepsOf program.code held.value → HoldsSteps program (Some held)
steps_hold program held is other same = subst (λ (b : Box RememberedSteps Global). AreStepsOf program.code b.value) (same_Some held other same) is

-- the steps that are held, where these are lent
pub steps_held : (program : Program) (held : Option (Box RememberedSteps Global)) (steps : RememberedSteps)
    → option_map (λ (b : Box RememberedSteps Global). b.value) held ≡ Some steps → HoldsSteps program held → AreStepsOf program.code steps
steps_held program None steps lent is = absurd (none-some _ lent)
steps_held program (Some h) steps lent is = subst (AreStepsOf program.code) (same_Some h.value steps lent) (is h refl)

-- an attempt at a position that finds where it starts starts at the position
pub starts_here : (q : Query) (p : ℕ) (groups : List (Option Span)) (m : Option Found) → answer_with groups m ≡ attempt q p → IfSome m (λ f. f.start ≡ f.position) → IfSome m (λ f. f.start ≡ p)
starts_here q p groups None e here = tt
starts_here q p groups (Some f) e here = here ∙ at (answer_at q p) e where
  at : (s : Option State) → answer_with groups (Some f) ≡ option_map (λ s. record { position = p; state = s }) s → f.position ≡ p
  at None e = absurd (none-some _ (sym e))
  at (Some s) e = ap (λ (a : Answer). a.position) (same_Some _ _ e)

-- what a search of the runner leaves after a match: the steps that it took are no longer ahead, and the table goes on
module _ (program : Program) (request : Request) (before : Kept) (table : Option KeptTable) where
  pub found_spent : (m : Option Found) → IfSome m (λ f. table ≡ Some (record { base = base_of (table_kept before) (effective_start request); from = f.end + 1 }))
      → (cache : Cache) (old new : ℕ)
      → IfSome m (λ f. new + steps_ahead program.code request (base_of (table_kept before) (effective_start request)) f.end (table_in cache.runner) ≤ old)
      → IfSome m (λ f. ForSome table (λ k. new + steps_ahead program.code request k.base f.end (table_in cache.runner) ≤ old))
  found_spent None left cache old new spent = tt
  found_spent (Some f) left cache old new spent = λ k e.
      subst (λ (k : KeptTable). new + steps_ahead program.code request k.base f.end (table_in cache.runner) ≤ old) (same_Some _ k (sym left ∙ e)) spent

  pub found_goes_on : (m : Option Found) → IfSome m (λ f. table ≡ Some (record { base = base_of (table_kept before) (effective_start request); from = f.end + 1 }))
      → IfSome m (λ f. KeepsOn before (Runner table))
  found_goes_on None left = tt
  found_goes_on (Some f) left = (
    (λ e. cc),
    (λ k e. ap (option_map (λ (l : KeptTable). l.base)) left ∙ ap (λ (o : Option KeptTable). Some (base_of o (effective_start request))) e),
  )

-- what follows where nothing was found
pub none_so : {A : Type 0} (P Q : Type 0) → (P → Q) → (m : Option A) → IfNone m P → IfNone m Q
none_so P Q so None p = so p
none_so P Q so (Some a) p = tt

-- the steps that are ahead of the search that is anchored at a position are those of an attempt there
module _ (kept : Option KeptTable) (code : Code) (request : Request) (position : ℕ) (table : List Bool) (starts : effective_start request ≤ position) (ends : position ≤ request.range_end) where
  same_ahead : (kept : Option KeptTable) (place : ℕ) → steps_from kept code (record request { start = position; anchored = true }) place table ≡ steps_from kept code request place table
  same_ahead None place = refl
  same_ahead (Some k) place = refl

  pub ahead_at : steps_from kept code (record request { start = position; anchored = true }) (effective_start (record request { start = position; anchored = true })) table
      + taken_again kept code (effective_start (record request { start = position; anchored = true }))
      ≡ steps_from kept code request position table + taken_again kept code position
  ahead_at =
      ap (λ (p : ℕ). steps_from kept code (record request { start = position; anchored = true }) p table + taken_again kept code p) (begins_at request position starts ends)
      ∙ ap (λ (n : ℕ). n + taken_again kept code position) (same_ahead kept position)

  pub ahead_past : steps_from kept code (record request { start = position; anchored = true }) (past_tried (record request { start = position; anchored = true })) table
      ≡ steps_from kept code request (position + 1) table
  ahead_past =
      ap (λ (p : ℕ). steps_from kept code (record request { start = position; anchored = true }) p table) (ap₂ (λ (a b : ℕ). a + b) (begins_at request position starts ends) (one_tried request position starts ends))
      ∙ same_ahead kept (position + 1)
