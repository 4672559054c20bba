-- An attempt at a choice that is told: what it seeks where the byte leads that stands there.
use Rattle.std.proofs.Common.{◌≡◌, ℕ, zero, suc, ◌+◌, ◌<◌, ◌≤◌, List, [], ◌∷◌, length, Option, Some, refl, sym, ap, ap₂, ◌∙◌, subst, arith}
use Rattle.std.specs.Prelude.{slice_get}
use Rattle.std.proofs.lemmas.Option.{same_Some}
use Rattle.std.proofs.Math.Logic.{∥∥₁_elim}
use Rattle.std.proofs.Props.{props}
use Rattle.fancy_meaning.specs.Context.{Context, State}
use Rattle.fancy_code.specs.Code.{instrs_of}
use Rattle.fancy_code.specs.Instructions.{Instruction}
use Rattle.fancy_code.specs.Run.{Raw, run}
use Rattle.fancy_code.specs.declared.step.Next.TheVariants.{On, Dead}
use Rattle.fancy_splits.specs.declared.choices.Onward.{Onward}
use Rattle.fancy_splits.specs.declared.choices.Onward.TheVariants.{Ends, Goes, Reads}
use Rattle.fancy_splits.specs.declared.choices.Passage.{Passage}
use Rattle.fancy_splits.specs.declared.choices.ToldChoice.{ToldChoice}
use Rattle.fancy_code.specs.Items.{ReadsByte}
use Rattle.fancy_splits.specs.Splits.{IsToldChoice, Leads, LeadsOut, LeadsTo, Passes, ways_of}
use Rattle.fancy_machine.specs.declared.attempt.Attempt.{Attempt}
use Rattle.fancy_machine.specs.Attempt.{attempt_context, accepts, code_in, Seeks, SeeksBack, Advanced, size_ahead}
use Rattle.fancy_machine.specs.Choices.{IsTaken}
use Rattle.fancy_trail.specs.Ways.{saved_ways, at_instr, at_place, IsEndedByAny, SavedOn}
use Rattle.fancy_trail.specs.Frames.{Atom, Frame, Held, Saved, Spot, Within, saved}
use Rattle.fancy_trail.specs.Left.{finish, left}
use Rattle.fancy_machine.proofs.AtomLemmas.{at_close}
use Rattle.fancy_machine.proofs.CloseLemmas.{at_stop}
use Rattle.fancy_machine.proofs.MachineSteps.{acts}
use Rattle.fancy_machine.proofs.PassLemmas.{Passed, passed_fetch, passed_none, passed_then, at_byte, at_split, at_last_end, over, goes_on, dies_off, returns_to_come, choices_to_come}
use mathlib.Core.HLevel.{is_prop→PathP}
use Rattle.fancy_code.specs.Instructions as i

-- so many marks and returns later something is left, if o is known
abbrev Left : Option (List Raw) → ℕ → ℕ → List Raw → Type 0
Left o m r w = (rest : List Raw) × (o ≡ Some rest) × Passed m r w rest

left_once : (o : Option (List Raw)) (m r : ℕ) (w : List Raw) → IsProp (Left o m r w)
left_once o m r w = λ a b i.
    let p : a.0 ≡ b.0 = same_Some _ _ (sym a.1 ∙ b.1) in
    (p i, is_prop→PathP (λ j. o ≡ Some (p j)) (λ j. hlevel props) a.1 b.1 i, is_prop→PathP (λ j. Passed m r w (p j)) (λ j. hlevel props) a.2 b.2 i)

-- ways are saved at a place, whichever instruction the way there comes to
saved_at : (ways : List ℕ) (q : ℕ) (x : Spot) (fs : List Frame) → saved_ways ways (at_instr q x) fs ≡ saved_ways ways x fs
saved_at [] q x fs = refl
saved_at (way ∷ ways) q x fs = saved_at ways q x (Saved (at_instr way x) ∷ fs)

saved_on : (ways : List ℕ) (x : Spot) (n k : ℕ) (gs fs : List Frame) → n + length ways ≡ k → SavedOn n gs fs → SavedOn k (saved_ways ways x gs) fs
saved_on [] x n k gs fs count on = let same : n ≡ k = omega (arith, count) in subst (λ (m : ℕ). SavedOn m gs fs) same on
saved_on (way ∷ ways) x n k gs fs count on = saved_on ways x (suc n) k (Saved (at_instr way x) ∷ gs) fs (omega (arith, count)) on

saved_more : (ways : List ℕ) (x : Spot) (fs : List Frame) → saved (saved_ways ways x fs) ≡ length ways + saved fs
saved_more [] x fs = omega arith
saved_more (way ∷ ways) x fs = omega (arith, saved_more ways x (Saved (at_instr way x) ∷ fs))

module _ (cx : Context) (code : List Instruction) (deep : ℕ) where
  -- choices are passed over, and ways of others saved
  leads_to : (b m r q to : ℕ) (ways : List ℕ) → LeadsTo code cx.meaning b m r ways q to → (y : Spot) → y.at ≡ q → slice_get cx.haystack y.state.place ≡ Some b → (fs : List Frame) (w : List Raw)
      → left (λ l. run cx l code deep) y fs ≡ Some w → Left (left (λ l. run cx l code deep) (at_instr to y) (saved_ways ways y fs)) (m + length ways) r w
  leads_to b m r q to [] o y at here fs w known =
      let past = over cx code deep b o.0 m r q to o.1 y at here fs w known in
      (past.0, past.1, passed_then past.2 (passed_none past.0) refl (omega arith))
  leads_to b m r q to (second ∷ ways) o y at here fs w known =
      let before = over cx code deep b o.0 o.1 o.2 q o.3 o.4 y at here fs w known in
      let met = at_split cx code deep (at_instr o.3 y) fs before.0 o.5 second before.1 o.6 in
      let gs = Saved (at_instr second y) ∷ fs in
      let after = leads_to b o.7 o.8 o.5 to ways o.9 (at_instr o.5 y) refl here gs met.0 met.1 in (
        after.0,
        ap (left (λ l. run cx l code deep) (at_instr to y)) (sym (saved_at ways o.5 y gs)) ∙ after.1,
        passed_then (passed_then before.2 met.2 refl refl) after.2 (omega (arith, o.10)) (omega (arith, o.11)),
      )

  -- so they are in atomic groups that are come out of, and what is after them leaves the way at the place p
  module _ (b : ℕ) (Last : ℕ → ℕ → Type 0) (p : ℕ) (y : Spot) (here : slice_get cx.haystack y.state.place ≡ Some b)
      (last : (at to : ℕ) → Last at to → (fs : List Frame) (w : List Raw) → left (λ l. run cx l code deep) (at_instr at y) fs ≡ Some w → Left (left (λ l. run cx l code deep) (at_place to p y) fs) 0 0 w) where
    leads_out : (groups m r q to : ℕ) (ways : List ℕ) → LeadsOut code cx.meaning b Last groups m r ways q to → (fs : List Frame) (w : List Raw)
        → left (λ l. run cx l code deep) (at_instr q y) fs ≡ Some w → Left (left (λ l. run cx l code deep) (at_place to p y) (saved_ways ways y fs)) (m + length ways) r w
    leads_out zero m r q to ways t fs w known =
        let on = leads_to b m r q t.0 ways t.1 (at_instr q y) refl here fs w known in
        let end = last t.0 to t.2 (saved_ways ways y fs) on.0 (ap (left (λ l. run cx l code deep) (at_instr t.0 y)) (sym (saved_at ways q y fs)) ∙ on.1) in
        (end.0, end.1, passed_then on.2 end.2 (omega arith) (omega arith))
    leads_out (suc groups) m r q to ways t fs w known =
        let on = leads_to b t.0 t.1 q t.2 ways t.3 (at_instr q y) refl here fs w known in
        let gs = saved_ways ways y fs in
        let inner = Within (Atom y.limit) ∷ gs in
        let begun = acts cx code deep (at_instr t.2 y) gs on.0 (ap (left (λ l. run cx l code deep) (at_instr t.2 y)) (sym (saved_at ways q y fs)) ∙ on.1) (i.Enter t.4) t.5 in
        let within = leads_out groups t.6 t.7 t.4 t.9 t.8 t.10 inner begun.0 begun.1 in
        let ended : IsEndedByAny inner = (Atom y.limit, gs, (refl, refl), λ s. refl) in
        let dropped = at_stop cx code deep t.9 inner ended to t.11 (at_place t.9 p y) (length t.8) (saved_ways t.8 y inner) within.0 refl (saved_on t.8 y 0 (length t.8) inner inner (omega arith) refl) within.1 in
        let out = at_close cx code deep (at_place t.9 p y) y.limit to gs within.0 t.11 refl dropped in
        let entered = passed_then {k = t.0 + length ways} {l = t.1} on.2 (passed_fetch on.0 begun.0 begun.2) (omega arith) (omega arith) in
        (out.0, out.1, passed_then (passed_then entered within.2 refl refl) out.2 (omega (arith, t.12)) (omega (arith, t.13)))

module _ (a : Attempt) (c : ToldChoice) (h : Held) (is : IsToldChoice (instrs_of a.code.now) a.code.now.meaning h.now.at c)
    (best : Option State) (deep : ℕ) (goal : Option State) (total choices r : ℕ) (s : Seeks a deep goal total choices h best r) where
  abbrev cx : Context
  cx = attempt_context a

  abbrev code : List Instruction
  code = instrs_of a.code.now

  -- what is left where a passage leads, so many marks and returns later
  abbrev Led : ℕ → ℕ → List ℕ → Onward → Type 0
  Led m t ways Ends = (ways ≡ []) × Left (finish (code_in a deep) h.frames (Some [])) m t s.rest
  Led m t ways (Goes to) = Left (left (code_in a deep) (at_instr to h.now) (saved_ways ways h.now h.frames)) (m + length ways) t s.rest
  Led m t ways (Reads to) = Left (left (code_in a deep) (at_place to (h.now.state.place + 1) h.now) (saved_ways ways h.now h.frames)) (m + length ways) t s.rest

  by_byte : (b m t : ℕ) (ways : List ℕ) (o : Onward) → slice_get a.haystack.now h.now.state.place ≡ Some b → h.now.state.place < h.now.limit → Leads code cx.meaning b m t ways o h.now.at
      → Led m t ways o
  by_byte b m t ways Ends here lt leads = (leads.0, at_last_end cx code deep m t h.now h.frames s.rest b s.known leads.1 here)
  by_byte b m t ways (Goes to) here lt leads =
      ∥∥₁_elim leads (left_once _ (m + length ways) t s.rest)
      (λ o. leads_out cx code deep b (λ from next. from ≡ next) h.now.state.place h.now here
      (λ at next same fs w known. (w, subst (λ (q : ℕ). left (code_in a deep) (at_instr q h.now) fs ≡ Some w) same known, passed_none w)) o.0 m t h.now.at to ways o.1 h.frames s.rest s.known)
  by_byte b m t ways (Reads to) here lt leads =
      ∥∥₁_elim leads (left_once _ (m + length ways) t s.rest)
      (λ o. leads_out cx code deep b (ReadsByte code cx.meaning b) (h.now.state.place + 1) h.now here
      (λ at next reads fs w known. at_byte cx code deep (at_instr at h.now) fs w b next known reads here lt) o.0 m t h.now.at to ways o.1 h.frames s.rest s.known)

  -- the choice by itself
  own : Led 0 0 (c.second ∷ []) (Goes c.first)
  own = at_split cx code deep h.now h.frames s.rest c.first c.second s.known is.splits

  pub saves_one : (new : Held) → new.now ≡ at_instr c.first h.now → new.frames ≡ Saved (at_instr c.second h.now) ∷ h.frames → (u : ℕ) → u ≡ 0
      → Advanced a deep goal total choices (size_ahead a deep h) On new best (r + u)
  saves_one new now frames u count =
      let saves = ap saved frames in
      goes_on a h best deep goal total choices r s 1 0 own.0 own.2 (omega (arith, own.2.shorter)) u count new (ap₂ (left (code_in a deep)) now frames ∙ own.1) (omega (arith, saves))

  pub one_ahead : saved h.frames + 1 ≤ choices
  one_ahead =
      let all = choices_to_come a.options.now.longest (accepts a) goal total choices best r _ h.frames s 1 0 _ h.frames own.0 own.1 own.2 in
      omega (arith, all)

  -- where a passage leads
  module _ (p : Passage) (taken : IsTaken a c h.now p) where
    abbrev marks : ℕ
    marks = p.price.marks

    abbrev returns : ℕ
    returns = p.price.returns

    abbrev ways : List ℕ
    ways = ways_of p

    led : Led marks returns ways p.onward
    led = by_byte taken.0 marks returns ways p.onward taken.1 taken.4 (is.leads taken.0 p taken.2 taken.3).1

    some : Passes marks ways
    some = (is.leads taken.0 p taken.2 taken.3).0

    pub all_die : p.onward ≡ Ends → (new : Held) → new.frames ≡ h.frames → (u : ℕ) → u ≡ returns → Advanced a deep goal total choices (size_ahead a deep h) Dead new best (r + u)
    all_die ends new frames u count =
        let l = subst (Led marks returns ways) ends led in
        let none = ap length l.0 in
        let saves = ap saved frames in
        dies_off a h best deep goal total choices r s marks returns l.1.0 l.1.2 (omega (arith, some, none, l.1.2.shorter)) u count new (ap (λ (fs : List Frame). finish (code_in a deep) fs (Some [])) frames ∙ l.1.1) (omega (arith, saves))

    pub goes_past : (to : ℕ) → p.onward ≡ Goes to → (new : Held) → new.now ≡ at_instr to h.now → new.frames ≡ saved_ways ways h.now h.frames → (u : ℕ) → u ≡ returns
        → Advanced a deep goal total choices (size_ahead a deep h) On new best (r + u)
    goes_past to goes new now frames u count =
        let l = subst (Led marks returns ways) goes led in
        let saves = ap saved frames in
        goes_on a h best deep goal total choices r s (marks + length ways) returns l.0 l.2 (omega (arith, some, l.2.shorter)) u count new (ap₂ (left (code_in a deep)) now frames ∙ l.1) (omega (arith, saves, saved_more ways h.now h.frames))

    pub reads_past : (to : ℕ) → p.onward ≡ Reads to → (new : Held) → new.now ≡ at_place to (h.now.state.place + 1) h.now → new.frames ≡ saved_ways ways h.now h.frames → (u : ℕ) → u ≡ returns
        → Advanced a deep goal total choices (size_ahead a deep h) On new best (r + u)
    reads_past to reads new now frames u count =
        let l = subst (Led marks returns ways) reads led in
        let saves = ap saved frames in
        goes_on a h best deep goal total choices r s (marks + length ways) returns l.0 l.2 (omega (arith, some, l.2.shorter)) u count new (ap₂ (left (code_in a deep)) now frames ∙ l.1) (omega (arith, saves, saved_more ways h.now h.frames))

    -- no attempt takes fewer returns, or has fewer choices
    pub returns_ahead : r + returns ≤ total
    returns_ahead = by p.onward led where
      by : (o : Onward) → Led marks returns ways o → r + returns ≤ total
      by Ends l = returns_to_come a.options.now.longest (accepts a) goal total choices best r _ h.frames s marks returns _ h.frames l.1.0 l.1.1 l.1.2
      by (Goes to) l = returns_to_come a.options.now.longest (accepts a) goal total choices best r _ h.frames s (marks + length ways) returns _ (saved_ways ways h.now h.frames) l.0 l.1 l.2
      by (Reads to) l = returns_to_come a.options.now.longest (accepts a) goal total choices best r _ h.frames s (marks + length ways) returns _ (saved_ways ways h.now h.frames) l.0 l.1 l.2

    pub choices_ahead : saved h.frames + length ways ≤ choices
    choices_ahead = by p.onward led where
      by : (o : Onward) → Led marks returns ways o → saved h.frames + length ways ≤ choices
      by Ends l =
          let none = ap length l.0 in
          let all = choices_to_come a.options.now.longest (accepts a) goal total choices best r _ h.frames s marks returns _ h.frames l.1.0 l.1.1 l.1.2 in
          omega (arith, all, none)
      by (Goes to) l =
          let all = choices_to_come a.options.now.longest (accepts a) goal total choices best r _ h.frames s (marks + length ways) returns _ h.frames l.0 l.1 l.2 in
          omega (arith, all)
      by (Reads to) l =
          let all = choices_to_come a.options.now.longest (accepts a) goal total choices best r _ h.frames s (marks + length ways) returns _ h.frames l.0 l.1 l.2 in
          omega (arith, all)
