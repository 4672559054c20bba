-- An attempt at a loop that is told: what it seeks once it read the items.
use Rattle.std.proofs.Common.{◌≡◌, ℕ, suc, ◌+◌, ◌-◌, ◌<◌, ◌≤◌, Bool, true, false, List, [], Option, Some, None, refl, sym, ap, ap₂, ◌∙◌, subst, arith}
use Rattle.std.specs.Prelude.{if◌then◌else◌}
use Rattle.fancy_meaning.specs.Context.{Context, State}
use Rattle.fancy_code.specs.Code.{instrs_of}
use Rattle.fancy_code.specs.Instructions.{Instruction}
use Rattle.fancy_code.specs.Run.{Raw}
use Rattle.fancy_code.specs.declared.step.Next.TheVariants.{On, Dead}
use Rattle.fancy_splits.specs.declared.splits.ToldSplit.{ToldSplit}
use Rattle.fancy_splits.specs.Splits.{IsToldSplit}
use Rattle.fancy_machine.specs.declared.attempt.Attempt.{Attempt}
use Rattle.fancy_machine.specs.declared.runs.Run.{Run}
use Rattle.fancy_machine.specs.Attempt.{attempt_context, accepts, code_in, Seeks, SeeksBack, Advanced, size_ahead}
use Rattle.fancy_trail.specs.Frames.{Frame, Held, Spot, saved}
use Rattle.fancy_trail.specs.Left.{finish, left}
use Rattle.fancy_trail.specs.Ways.{at_instr, at_place, saved_run, past_items}
use Rattle.fancy_machine.specs.Runs.{DieFrom, IsRun}
use Rattle.fancy_machine.proofs.PassLemmas.{Passed, passed_none, passed_then, read_on, gone_back, gone_dead, saved_by_run, goes_on, dies_off, returns_to_come, choices_to_come}
use Rattle.fancy_trail.proofs.ItemLemmas.{alone_items}
use Rattle.fancy_machine.proofs.CloseLemmas.{closed}

-- an attempt that stands at a choice, and read ahead there
module _ (a : Attempt) (l : ToldSplit) (h : Held) (run : Run) (is : IsToldSplit (instrs_of a.code.now) a.code.now.meaning h.now.at l) (read : IsRun l a.haystack.now h run) (best : Option State) where
  abbrev cx : Context
  cx = attempt_context a

  abbrev code : List Instruction
  code = instrs_of a.code.now

  abbrev n : ℕ
  n = run.count

  inside : (k : ℕ) → k < n → h.now.state.place + k < h.now.limit
  inside k lt = omega (arith, lt, read.inside)

  module _ (deep : ℕ) (goal : Option State) (total choices r : ℕ) (s : Seeks a deep goal total choices h best r) where
    module _ (alone : 0 < n → l.group ≡ None) where
      abbrev past : (rest : List Raw) × (left (code_in a deep) (at_place l.first (h.now.state.place + n) h.now) (saved_run l.second h.now.state.place (suc n) h.now h.frames) ≡ Some rest)
          × Passed (n + 1) 0 s.rest rest
      past = read_on cx code deep l h.now h.frames is n s.rest s.known alone read.items inside

      -- it reads the items, and a further one may stand
      pub reads_on : (new : Held) → new.now ≡ at_place l.first (h.now.state.place + n) h.now → new.frames ≡ saved_run l.second h.now.state.place (n + 1) h.now h.frames
          → (t : ℕ) → t ≡ 0 → Advanced a deep goal total choices (size_ahead a deep h) On new best (r + t)
      reads_on new now frames t none =
          let one : n + 1 ≡ suc n = omega arith in
          let f = frames ∙ ap (λ (m : ℕ). saved_run l.second h.now.state.place m h.now h.frames) one in
          let saves = ap saved f in
          goes_on a h best deep goal total choices r s (n + 1) 0 past.0 past.2 (omega (arith, past.2.shorter)) t none new (ap₂ (left (code_in a deep)) now f ∙ past.1) (omega (arith, saves, saved_by_run l.second h.now.state.place (suc n) h.now h.frames))

      pub many_choices : saved h.frames + (n + 1) ≤ choices
      many_choices = choices_to_come a.options.now.longest (accepts a) goal total choices best r _ h.frames s (n + 1) 0 _ h.frames past.0 past.1 past.2

    module _ (stuck : run.is_stuck ≡ true) where
      -- what follows the loop closes the region
      abbrev Shut : Type 0
      Shut = (rest : List Raw) × (left (code_in a deep) (at_instr l.second (past_items l.group n h.now)) h.frames ≡ Some rest) × Passed (n + 1) 1 s.rest rest

      shut : run.closes ≡ true → Shut
      shut e =
          let f = read.closes e in
          closed cx code deep l h.frames f.0 f.1.0 (is.stops f.1.0 f.1.1) n 0 h.now h.frames s.rest is refl s.known read.items inside (read.stuck stuck)

      pub choices_stuck : saved h.frames + (n + 1) ≤ choices
      choices_stuck = by run.closes refl where
        by : (c : Bool) → run.closes ≡ c → saved h.frames + (n + 1) ≤ choices
        by true e = let b = shut e in choices_to_come a.options.now.longest (accepts a) goal total choices best r _ h.frames s (n + 1) 1 _ h.frames b.0 b.1 b.2
        by false e = many_choices (read.stays e)

      -- it goes back to the place k
      module _ (k : ℕ) (le : k ≤ n) (all : run.closes ≡ true → k ≡ n) (dies : DieFrom l a.haystack.now h.now.state.place (suc k) (n + 1)) where
        abbrev saved_at : Bool → List Frame
        saved_at closes = saved_run l.second h.now.state.place (if closes then 0 else k) h.now h.frames

        abbrev Back : Bool → Type 0
        Back closes = (rest : List Raw) × (left (code_in a deep) (at_instr l.second (past_items l.group k h.now)) (saved_at closes) ≡ Some rest) × Passed (n + 1) (1 + (n - k)) s.rest rest
            × (saved (saved_at closes) ≤ saved h.frames + (n + 1))

        back : Back run.closes
        back = by run.closes refl where
          by : (c : Bool) → run.closes ≡ c → Back c
          by true e =
              let b = shut e in
              let last = all e in (
                b.0,
                subst (λ (i : ℕ). left (code_in a deep) (at_instr l.second (past_items l.group i h.now)) h.frames ≡ Some b.0) (sym last) b.1,
                passed_then b.2 (passed_none b.0) (omega arith) (omega (arith, last)),
                omega arith,
              )
          by false e =
              let b = gone_back cx code deep l h.now h.frames is n k le s.rest s.known (read.stays e) read.items inside (read.stuck stuck) (λ i low high. dies i low (omega (arith, high))) in (
                b.0,
                ap (λ (x : Spot). left (code_in a deep) x (saved_at false)) (alone_items l.group k l.second h.now (λ some. read.stays e (omega (arith, some, le)))) ∙ b.1,
                b.2,
                omega (arith, saved_by_run l.second h.now.state.place k h.now h.frames, le),
              )

        pub goes_back : (new : Held) → new.now ≡ at_instr l.second (past_items l.group k h.now) → new.frames ≡ saved_at run.closes → (t : ℕ) → t ≡ 1 + (n - k)
            → Advanced a deep goal total choices (size_ahead a deep h) On new best (r + t)
        goes_back new now frames t count =
            let saves = ap saved frames in
            goes_on a h best deep goal total choices r s (n + 1) (1 + (n - k)) back.0 back.2 (omega (arith, back.2.shorter)) t count new (ap₂ (left (code_in a deep)) now frames ∙ back.1) (omega (arith, saves, back.3))

        pub returns_back : r + (1 + (n - k)) ≤ total
        returns_back = returns_to_come a.options.now.longest (accepts a) goal total choices best r _ h.frames s (n + 1) (1 + (n - k)) _ h.frames back.0 back.1 back.2

      -- what follows dies at each place
      module _ (stays : run.closes ≡ true → 0 ≡ n + 1) (dies : DieFrom l a.haystack.now h.now.state.place 0 (n + 1)) where
        alone : 0 < n → l.group ≡ None
        alone = by run.closes refl where
          by : (c : Bool) → run.closes ≡ c → 0 < n → l.group ≡ None
          by true e = absurd (omega (arith, stays e))
          by false e = read.stays e

        abbrev dead : (rest : List Raw) × (finish (code_in a deep) h.frames (Some []) ≡ Some rest) × Passed (n + 1) (n + 1) s.rest rest
        dead = gone_dead cx code deep l h.now h.frames is n s.rest s.known alone read.items inside (read.stuck stuck) (λ i high. dies i (omega arith) (omega (arith, high)))

        pub is_dead : (new : Held) → new.frames ≡ h.frames → (t : ℕ) → t ≡ n + 1 → Advanced a deep goal total choices (size_ahead a deep h) Dead new best (r + t)
        is_dead new frames t count =
            let saves = ap saved frames in
            dies_off a h best deep goal total choices r s (n + 1) (n + 1) dead.0 dead.2 (omega (arith, dead.2.shorter)) t count new (ap (λ (fs : List Frame). finish (code_in a deep) fs (Some [])) frames ∙ dead.1) (omega (arith, saves))

        pub returns_dead : r + (n + 1) ≤ total
        returns_dead = returns_to_come a.options.now.longest (accepts a) goal total choices best r _ h.frames s (n + 1) (n + 1) _ h.frames dead.0 dead.1 dead.2
