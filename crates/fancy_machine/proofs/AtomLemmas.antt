-- An attempt at the start of an atomic group round a loop of one item: what it seeks in the group, and after it.
use Rattle.std.proofs.Common.{◌≡◌, ℕ, zero, suc, ◌+◌, ◌<◌, ◌≤◌, inl, inr, List, [], ◌∷◌, length, Option, Some, refl, sym, ap, ap₂, ◌∙◌, subst, arith}
use Rattle.fancy_meaning.specs.Context.{Context, State}
use Rattle.fancy_code.specs.Code.{instrs_of}
use Rattle.fancy_code.specs.Instructions.{Instruction}
use Rattle.fancy_code.specs.Run.{Raw, Note, Stop, fetched, Go, before, instr_at, run}
use Rattle.fancy_code.specs.Thread.{size_of}
use Rattle.fancy_code.specs.declared.step.Next.TheVariants.{On}
use Rattle.fancy_code.proofs.RunMore.{run_more}
use Rattle.fancy_prices.specs.Prices.{Costs}
use Rattle.fancy_splits.specs.declared.atoms.ToldAtom.{ToldAtom}
use Rattle.fancy_splits.specs.declared.splits.ToldSplit.{ToldSplit}
use Rattle.fancy_splits.specs.Splits.{IsToldAtom, StopsAt}
use Rattle.fancy_machine.specs.declared.atoms.Whole.{Whole}
use Rattle.fancy_machine.specs.declared.attempt.Attempt.{Attempt}
use Rattle.fancy_machine.specs.Attempt.{attempt_context, accepts, code_in, Seeks, Advanced, size_ahead}
use Rattle.fancy_machine.specs.Atoms.{ComesTo, IsWhole, ReadsAll, ReadsItems, ReadsNone}
use Rattle.fancy_trail.specs.Frames.{Atom, Frame, Held, Saved, Spot, Within, saved}
use Rattle.fancy_trail.specs.Left.{after, finish, left}
use Rattle.fancy_trail.specs.Ways.{SavedOn, at_instr, at_place, IsEndedByAny}
use Rattle.fancy_trail.proofs.Closing.{before_some, finish_known, finish_note}
use Rattle.fancy_machine.proofs.MachineSteps.{acts}
use Rattle.fancy_machine.proofs.PassLemmas.{Passed, passed_fetch, passed_then, at_split, at_item, at_end, goes_on, returns_to_come, choices_to_come}
use Rattle.fancy_machine.proofs.CloseLemmas.{at_stop}
use Rattle.fancy_machine.proofs.ItemsLemmas.{items_le}
use Rattle.fancy_code.specs.Instructions as i

-- a way that stops at once leaves the group
pub at_close : (cx : Context) (code : List Instruction) (deep : ℕ) (z : Spot) (limit next : ℕ) (fs : List Frame) (w : List Raw) → StopsAt code z.at next → z.limit ≡ limit
    → left (λ l. run cx l code deep) z (Within (Atom limit) ∷ fs) ≡ Some w → (rest : List Raw) × (left (λ l. run cx l code deep) (at_instr next z) fs ≡ Some rest) × Passed 0 0 w rest
at_close cx code deep z limit next fs w stops same known =
    let go : ℕ → Go = λ l. run cx l code deep in
    let gs = Within (Atom limit) ∷ fs in
    let o = Some (Stop next z.state z.starts ∷ []) in
    let k = finish_known go gs (after go z) w known in
    let is : after go z ≡ before (Note fetched) o = k.1 ∙ sym (run_more cx z.limit code deep z.at z.state z.starts k.0 k.1) ∙ stops cx z.limit deep z.state z.starts in
    let b = before_some (Note fetched) _ w (sym (ap (finish go gs) is ∙ finish_note go gs fetched o) ∙ known) in
    (b.0, subst (λ (m : ℕ). finish go fs (go m next z.state z.starts) ≡ Some b.0) (sym same) b.1, passed_fetch w b.0 b.2)

-- a loop reads its items, and the way stops at once after them: of the branches that it saved none is taken
closed_over : (cx : Context) (code : List Instruction) (deep : ℕ) (l : ToldSplit) (fs : List Frame) → IsEndedByAny fs → (next : ℕ) → StopsAt code l.second next → (q n m : ℕ) (x : Spot) (gs : List Frame) (w : List Raw)
    → instr_at code x.at ≡ i.Split l.first l.second → SavedOn m gs fs → left (λ e. run cx e code deep) x gs ≡ Some w → ReadsItems cx code l.first x.at n x.state.place q → (0 < n → q ≤ x.limit)
    → ReadsNone cx code l.first x.limit q → (rest : List Raw) × (left (λ e. run cx e code deep) (at_place l.second q x) fs ≡ Some rest) × Passed (n + 1) 1 w rest
closed_over cx code deep l fs ended next stops q zero m x gs w splits on known items inside none =
    let go : ℕ → Go = λ e. run cx e code deep in
    let met = at_split cx code deep x gs w l.first l.second known splits in
    let z = at_instr l.second x in
    let end = at_end cx code deep 0 0 (at_instr l.first x) z gs met.0 met.1 (λ u is. subst (Costs 0 0) is (none deep x.state x.starts items)) in
    let last = at_stop cx code deep l.second fs ended next stops z m gs end.0 refl on end.1 in
    (end.0, subst (λ (j : ℕ). left go (at_place l.second j x) fs ≡ Some end.0) items last, passed_then met.2 end.2 (omega arith) (omega arith))
closed_over cx code deep l fs ended next stops q (suc n) m x gs w splits on known items inside none =
    let met = at_split cx code deep x gs w l.first l.second known splits in
    let branch = Saved (at_instr l.second x) in
    let later = items_le cx code l.first x.at n items.0 q items.2 in
    let read = at_item cx code deep (at_instr l.first x) (branch ∷ gs) met.0 items.0 x.at met.1 (items.1.1 x.limit deep x.state x.starts refl (omega (arith, later, inside (omega arith)))) in
    let more = closed_over cx code deep l fs ended next stops q n (suc m) (at_place x.at items.0 x) (branch ∷ gs) read.0 splits on read.1 items.2 (λ some. inside (omega arith)) none in
    (more.0, more.1, passed_then (passed_then met.2 read.2 refl refl) more.2 (omega arith) (omega arith))

module _ (a : Attempt) (t : ToldAtom) (h : Held) (is : IsToldAtom (instrs_of a.code.now) a.code.now.meaning h.now.at t) (best : Option State)
    (deep : ℕ) (goal : Option State) (total choices r : ℕ) (s : Seeks a deep goal total choices h best r) where
  abbrev cx : Context
  cx = attempt_context a

  abbrev code : List Instruction
  code = instrs_of a.code.now

  abbrev inner : List Frame
  inner = Within (Atom h.now.limit) ∷ h.frames

  begun : (rest : List Raw) × (left (code_in a deep) (at_instr t.body h.now) inner ≡ Some rest) × (s.rest ≡ Note fetched ∷ rest)
  begun = acts cx code deep h.now h.frames s.rest s.known (i.Enter t.body) is.enters

  -- the region begins
  pub lays : (new : Held) → new.now ≡ at_instr t.body h.now → new.frames ≡ inner → (u : ℕ) → u ≡ 0 → Advanced a deep goal total choices (size_ahead a deep h) On new best (r + u)
  lays new now frames u none =
      let shorter = ap length begun.2 in
      let saves = ap saved frames in
      goes_on a h best deep goal total choices r s 0 0 begun.0 (passed_fetch s.rest begun.0 begun.2) (omega (arith, shorter)) u none new (ap₂ (left (code_in a deep)) now frames ∙ begun.1) (omega (arith, saves))

  module _ (p : ℕ) (comes : ComesTo a t h.now p) (y : Spot) (there : y ≡ at_place t.head p h.now) where
    abbrev AtLoop : Spot → Type 0
    AtLoop x = (rest : List Raw) × (left (code_in a deep) x inner ≡ Some rest) × Passed 0 0 s.rest rest × (length rest < length s.rest)

    at_loop : AtLoop y
    at_loop =
        let shorter = ap length begun.2 in
        let fetch = passed_fetch s.rest begun.0 begun.2 in
        subst AtLoop (sym there)
        (elim comes [
          | inl alone ↦
              let same : at_instr t.body h.now ≡ at_place t.head p h.now = ap₂ (λ (q j : ℕ). at_place q j h.now) (is.alone alone.0) (sym alone.1) in
              (begun.0, subst (λ (x : Spot). left (code_in a deep) x inner ≡ Some begun.0) same begun.1, fetch, omega (arith, shorter))
          | inr leads ↦
              let read = at_item cx code deep (at_instr t.body h.now) inner begun.0 p t.head begun.1 (leads.1.1 h.now.limit deep h.now.state h.now.starts refl leads.2) in
              (read.0, read.1, passed_then fetch read.2 (omega arith) (omega arith), omega (arith, shorter, read.2.shorter))
        ])

    -- the region begins at the loop
    pub lays_later : (new : Held) → new.now ≡ y → new.frames ≡ inner → (u : ℕ) → u ≡ 0 → Advanced a deep goal total choices (size_ahead a deep h) On new best (r + u)
    lays_later new now frames u none =
        let saves = ap saved frames in
        goes_on a h best deep goal total choices r s 0 0 at_loop.0 at_loop.2 at_loop.3 u none new (ap₂ (left (code_in a deep)) now frames ∙ at_loop.1) (omega (arith, saves))

    module _ (whole : Whole) (reads : ReadsAll a y whole) where
      abbrev l : ToldSplit
      l = reads.0

      abbrev all : IsWhole a l y whole
      all = reads.2

      abbrev end : Spot
      end = at_place whole.next whole.past y

      out : (rest : List Raw) × (left (code_in a deep) end h.frames ≡ Some rest) × Passed (whole.count + 1) 1 s.rest rest
      out =
          let told = a.told _ _ _ reads.1.1 reads.1.2 in
          let stops = told.stops whole.next all.stop in
          let limit : y.limit ≡ h.now.limit = ap (λ (x : Spot). x.limit) there in
          let ended : IsEndedByAny inner = (Atom h.now.limit, h.frames, (refl, refl), λ s. refl) in
          let last = closed_over cx code deep l inner ended whole.next stops whole.past whole.count 0 y inner at_loop.0 told.splits refl at_loop.1 all.items all.inside all.none in
          let left_it = at_close cx code deep (at_place l.second whole.past y) h.now.limit whole.next h.frames last.0 stops limit last.1 in
          (left_it.0, left_it.1, passed_then (passed_then at_loop.2 last.2 refl refl) left_it.2 (omega arith) (omega arith))

      pub goes_out : (new : Held) → new.now ≡ end → new.frames ≡ h.frames → (u : ℕ) → u ≡ 1 → Advanced a deep goal total choices (size_ahead a deep h) On new best (r + u)
      goes_out new now frames u one =
          let saves = ap saved frames in
          goes_on a h best deep goal total choices r s (whole.count + 1) 1 out.0 out.2 (omega (arith, out.2.shorter)) u one new (ap₂ (left (code_in a deep)) now frames ∙ out.1) (omega (arith, saves))

      pub returns_out : r + 1 ≤ total
      returns_out = returns_to_come a.options.now.longest (accepts a) goal total choices best r _ h.frames s (whole.count + 1) 1 _ h.frames out.0 out.1 out.2

      pub choices_out : saved h.frames + (whole.count + 1) ≤ choices
      choices_out = choices_to_come a.options.now.longest (accepts a) goal total choices best r _ h.frames s (whole.count + 1) 1 _ h.frames out.0 out.1 out.2
