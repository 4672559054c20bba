-- A loop of one item, passed in one step.
use Rattle.std.proofs.Common.{◌≡◌, ℕ, zero, suc, ◌+◌, ◌-◌, ◌<◌, ◌≤◌, Bool, true, List, [], ◌∷◌, length, Option, Some, None, refl, sym, ap, ◌∙◌, subst, arith, slice_index, inl, inr, true≢false}
use Rattle.std.specs.Prelude.{slice_get}
use Rattle.std.proofs.lemmas.Option.{same_Some, slice_get-get_or}
use Rattle.std.proofs.lemmas.Bool.{cases_eq}
use Rattle.fancy_bytes.specs.Sets.{member}
use Rattle.fancy_meaning.specs.Context.{Context, State, moved_to}
use Rattle.fancy_code.specs.Instructions.{Instruction}
use Rattle.fancy_meaning.specs.Events.{any}
use Rattle.fancy_code.specs.Run.{Raw, Note, Stop, choice_opened, returned, fetched, Go, before, join, erase, instr_at, run}
use Rattle.fancy_code.specs.Thread.{size_of}
use Rattle.fancy_code.specs.declared.step.Next.TheVariants.{On, Dead}
use Rattle.fancy_code.proofs.RunMore.{run_more}
use Rattle.fancy_splits.specs.declared.splits.ToldSplit.{ToldSplit}
use Rattle.fancy_splits.specs.declared.splits.Splits.{Splits}
use Rattle.fancy_splits.specs.declared.splits.ToldPart.TheVariants.{Loop}
use Rattle.fancy_code.specs.Items.{ReadsByte}
use Rattle.fancy_splits.specs.Splits.{AreApart, DiesPast, IsToldSplit, IsNoted, PassesOver, byte_alone}
use Rattle.fancy_prices.specs.Prices.{Costs, MissesIn, Dies}
use Rattle.fancy_code.specs.Code.{instrs_of}
use Rattle.fancy_machine.specs.declared.attempt.Attempt.{Attempt}
use Rattle.fancy_machine.specs.Attempt.{attempt_context, accepts, code_in, size_ahead, Advanced, BackTakes, DieFirst, PassesBack, Seeks, SeeksBack}
use Rattle.fancy_trail.specs.Frames.{Spot, Frame, Held, Saved, Within, saved}
use Rattle.fancy_trail.specs.Left.{after, finish, left}
use Rattle.fancy_trail.specs.Ways.{at_instr, at_place, saved_run}
use Rattle.fancy_machine.specs.Machine.{Searching, taken_outcome, final, returns_to, marks_to}
use Rattle.fancy_machine.specs.declared.runs.LastRun.{LastRun}
use Rattle.fancy_machine.specs.Runs.{HasItems, IsStuck, DieFrom, KnowsRun, Lacks, Stands}
use Rattle.fancy_trail.proofs.Closing.{before_some, finish_known, finish_note, join_nothing, join_note, take_branch}
use Rattle.fancy_machine.proofs.MachineSteps.{acts}
use Rattle.fancy_code.specs.Instructions as i

-- What is left after w is `rest`: between them no way stops, and there are so many marks and returns.
pub record Passed (marks returns : ℕ) (w rest : List Raw) : Type 0 where
  pub answer : (longest : Bool) (ok : State → Bool) (best : Option State) → taken_outcome longest ok best (erase w) ≡ taken_outcome longest ok best (erase rest)
  pub returned_so : (ok : State → Bool) → returns_to ok (erase w) ≡ returns + returns_to ok (erase rest)
  pub marked_so : (ok : State → Bool) → marks_to ok (erase w) ≡ marks + marks_to ok (erase rest)
  pub shorter : marks + length rest ≤ length w

pub passed_none : (w : List Raw) → Passed 0 0 w w
passed_none w = record { answer = λ l ok b. refl; returned_so = λ ok. omega arith; marked_so = λ ok. omega arith; shorter = omega arith }

pub passed_then : {m n r t k l : ℕ} {u v w : List Raw} → Passed m r u v → Passed n t v w → k ≡ m + n → l ≡ r + t → Passed k l u w
passed_then f g marks returns = record {
  answer = λ l ok b. f.answer l ok b ∙ g.answer l ok b;
  returned_so = λ ok. omega (arith, f.returned_so ok, g.returned_so ok, returns);
  marked_so = λ ok. omega (arith, f.marked_so ok, g.marked_so ok, marks);
  shorter = omega (arith, f.shorter, g.shorter, marks);
}

pub passed_fetch : (w rest : List Raw) → w ≡ Note fetched ∷ rest → Passed 0 0 w rest
passed_fetch w rest e = subst (λ (l : List Raw). Passed 0 0 l rest) (sym e)
    (record { answer = λ l ok b. refl; returned_so = λ ok. omega arith; marked_so = λ ok. omega arith; shorter = omega arith })

pub passed_mark : (w rest : List Raw) → w ≡ Note choice_opened ∷ rest → Passed 1 0 w rest
passed_mark w rest e = subst (λ (l : List Raw). Passed 1 0 l rest) (sym e)
    (record { answer = λ l ok b. refl; returned_so = λ ok. omega arith; marked_so = λ ok. omega arith; shorter = omega arith })

pub passed_return : (w rest : List Raw) → w ≡ Note returned ∷ rest → Passed 0 1 w rest
passed_return w rest e = subst (λ (l : List Raw). Passed 0 1 l rest) (sym e)
    (record { answer = λ l ok b. refl; returned_so = λ ok. omega arith; marked_so = λ ok. omega arith; shorter = omega arith })

module _ (cx : Context) (code : List Instruction) (deep : ℕ) where
  abbrev go : ℕ → Go
  go l = run cx l code deep

  -- a choice is met
  pub at_split : (x : Spot) (fs : List Frame) (w : List Raw) (a b : ℕ) → left go x fs ≡ Some w → instr_at code x.at ≡ i.Split a b
      → (rest : List Raw) × (left go (at_instr a x) (Saved (at_instr b x) ∷ fs) ≡ Some rest) × Passed 1 0 w rest
  at_split x fs w a b known e =
      let u = acts cx code deep x fs w known (i.Split a b) e in
      let o = join (go x.limit a x.state x.starts) (go x.limit b x.state x.starts) in
      let v = before_some (Note choice_opened) _ u.0 (sym (finish_note go fs choice_opened o) ∙ u.1) in
      (v.0, v.1, passed_then (passed_fetch w u.0 u.2) (passed_mark u.0 v.0 v.2) (omega arith) (omega arith))

  -- an item is read
  pub at_item : (y : Spot) (gs : List Frame) (w : List Raw) (p back : ℕ) → left go y gs ≡ Some w
      → run cx y.limit code (suc deep) y.at y.state y.starts ≡ before (Note fetched) (run cx y.limit code deep back (moved_to y.state p) y.starts)
      → (rest : List Raw) × (left go (at_place back p y) gs ≡ Some rest) × Passed 0 0 w rest
  at_item y gs w p back known reads =
      let k = finish_known go gs (after go y) w known in
      let z = at_place back p y in
      let more = run_more cx y.limit code deep y.at y.state y.starts k.0 k.1 in
      let is : after go y ≡ before (Note fetched) (after go z) = k.1 ∙ sym more ∙ reads in
      let v = before_some (Note fetched) _ w (sym (ap (finish go gs) is ∙ finish_note go gs fetched (after go z)) ∙ known) in
      (v.0, v.1, passed_fetch w v.0 v.2)

  pub at_byte : (y : Spot) (gs : List Frame) (w : List Raw) (b back : ℕ) → left go y gs ≡ Some w → ReadsByte code cx.meaning b y.at back
      → slice_get cx.haystack y.state.place ≡ Some b → y.state.place < y.limit
      → (rest : List Raw) × (left go (at_place back (y.state.place + 1) y) gs ≡ Some rest) × Passed 0 0 w rest
  at_byte y gs w b back known reads here lt = at_item y gs w (y.state.place + 1) back known (reads cx y.limit deep y.state y.starts refl here lt)

  -- what costs so much ends, and what was saved follows
  costly_back : (m r : ℕ) (u : List Raw) → MissesIn any m r u → (fs : List Frame) (o : Option (List Raw)) (w : List Raw) → finish go fs (join (Some u) o) ≡ Some w
      → (rest : List Raw) × (finish go fs o ≡ Some rest) × Passed m (r + 1) w rest
  costly_back m r [] c fs o w h =
      let t = take_branch go fs o w (sym (ap (finish go fs) (join_nothing o)) ∙ h) in
      (t.0, t.1, passed_then (passed_none w) (passed_return w t.0 t.2) (omega (arith, c.0)) (omega (arith, c.1)))
  costly_back m r (Note fetched ∷ u) c fs o w h =
      let v = before_some (Note fetched) _ w (sym (ap (finish go fs) (join_note fetched (Some u) o) ∙ finish_note go fs fetched (join (Some u) o)) ∙ h) in
      let t = costly_back m r u c fs o v.0 v.1 in
      (t.0, t.1, passed_then (passed_fetch w v.0 v.2) t.2 (omega arith) (omega arith))
  costly_back m r (Note choice_opened ∷ u) c fs o w h =
      let v = before_some (Note choice_opened) _ w (sym (ap (finish go fs) (join_note choice_opened (Some u) o) ∙ finish_note go fs choice_opened (join (Some u) o)) ∙ h) in
      let t = costly_back c.0 r u c.2 fs o v.0 v.1 in
      (t.0, t.1, passed_then (passed_mark w v.0 v.2) t.2 (omega (arith, c.1)) (omega arith))
  costly_back m r (Note returned ∷ u) c fs o w h =
      let v = before_some (Note returned) _ w (sym (ap (finish go fs) (join_note returned (Some u) o) ∙ finish_note go fs returned (join (Some u) o)) ∙ h) in
      let t = costly_back m c.0 u c.2 fs o v.0 v.1 in
      (t.0, t.1, passed_then (passed_return w v.0 v.2) t.2 (omega arith) (omega (arith, c.1)))
  costly_back m r (Stop q s v ∷ u) c fs o w h = absurd (true≢false c.0)

  -- the same where nothing was saved for it
  costly_dead : (m r : ℕ) (u : List Raw) → MissesIn any m r u → (fs : List Frame) (w : List Raw) → finish go fs (Some u) ≡ Some w
      → (rest : List Raw) × (finish go fs (Some []) ≡ Some rest) × Passed m r w rest
  costly_dead m r [] c fs w h = (w, h, passed_then (passed_none w) (passed_none w) (omega (arith, c.0)) (omega (arith, c.1)))
  costly_dead m r (Note fetched ∷ u) c fs w h =
      let v = before_some (Note fetched) _ w (sym (finish_note go fs fetched (Some u)) ∙ h) in
      let t = costly_dead m r u c fs v.0 v.1 in
      (t.0, t.1, passed_then (passed_fetch w v.0 v.2) t.2 (omega arith) (omega arith))
  costly_dead m r (Note choice_opened ∷ u) c fs w h =
      let v = before_some (Note choice_opened) _ w (sym (finish_note go fs choice_opened (Some u)) ∙ h) in
      let t = costly_dead c.0 r u c.2 fs v.0 v.1 in
      (t.0, t.1, passed_then (passed_mark w v.0 v.2) t.2 (omega (arith, c.1)) (omega arith))
  costly_dead m r (Note returned ∷ u) c fs w h =
      let v = before_some (Note returned) _ w (sym (finish_note go fs returned (Some u)) ∙ h) in
      let t = costly_dead m c.0 u c.2 fs v.0 v.1 in
      (t.0, t.1, passed_then (passed_return w v.0 v.2) t.2 (omega arith) (omega (arith, c.1)))
  costly_dead m r (Stop q s v ∷ u) c fs w h = absurd (true≢false c.0)

  -- a way that dies where a byte stands
  pub costs : (m r : ℕ) (y : Spot) (b : ℕ) (u : List Raw) → Dies code cx.meaning (byte_alone b) m r y.at → slice_get cx.haystack y.state.place ≡ Some b → after go y ≡ Some u → MissesIn any m r u
  costs m r y b u dies here is = subst (Costs m r) is (dies cx y.limit deep y.state y.starts refl (record { here = here; before = tt }))

  -- a way that costs so much and dies, where a branch was saved
  pub at_end : (m r : ℕ) (y z : Spot) (fs : List Frame) (w : List Raw) → left go y (Saved z ∷ fs) ≡ Some w → ((u : List Raw) → after go y ≡ Some u → MissesIn any m r u)
      → (rest : List Raw) × (left go z fs ≡ Some rest) × Passed m (r + 1) w rest
  at_end m r y z fs w known dies =
      let k = finish_known go (Saved z ∷ fs) (after go y) w known in
      costly_back m r k.0 (dies k.0 k.1) fs (after go z) w (sym (ap (finish go (Saved z ∷ fs)) k.1) ∙ known)

  at_dead_end : (y z : Spot) (fs : List Frame) (w : List Raw) (b : ℕ) → left go y (Saved z ∷ fs) ≡ Some w → Dies code cx.meaning (byte_alone b) 0 0 y.at
      → slice_get cx.haystack y.state.place ≡ Some b → (rest : List Raw) × (left go z fs ≡ Some rest) × Passed 0 1 w rest
  at_dead_end y z fs w b known dies here = at_end 0 0 y z fs w known (λ u is. costs 0 0 y b u dies here is)

  pub at_last_end : (m r : ℕ) (y : Spot) (fs : List Frame) (w : List Raw) (b : ℕ) → left go y fs ≡ Some w → Dies code cx.meaning (byte_alone b) m r y.at
      → slice_get cx.haystack y.state.place ≡ Some b → (rest : List Raw) × (finish go fs (Some []) ≡ Some rest) × Passed m r w rest
  at_last_end m r y fs w b known dies here =
      let k = finish_known go fs (after go y) w known in
      costly_dead m r k.0 (costs m r y b k.0 dies here k.1) fs w (sym (ap (finish go fs) k.1) ∙ known)

  -- the branch that was saved last dies where a byte stands
  pub branch_dies : (y : Spot) (fs : List Frame) (w : List Raw) (b : ℕ) → finish go (Saved y ∷ fs) (Some []) ≡ Some w → Dies code cx.meaning (byte_alone b) 0 0 y.at
      → slice_get cx.haystack y.state.place ≡ Some b → (rest : List Raw) × (finish go fs (Some []) ≡ Some rest) × Passed 0 1 w rest
  branch_dies y fs w b known dies here =
      let t = take_branch go fs (after go y) w (sym (ap (finish go fs) (join_nothing (after go y))) ∙ known) in
      let last = at_last_end 0 0 y fs t.0 b t.1 dies here in
      (last.0, last.1, passed_then (passed_return w t.0 t.2) last.2 (omega arith) (omega arith))

  -- the first way of a choice, where it is stuck
  pub stuck_costs : (l : ToldSplit) (at : ℕ) → IsToldSplit code cx.meaning at l → (y : Spot) → y.at ≡ l.first → IsStuck l cx.haystack y.limit y.state.place
      → (u : List Raw) → after go y ≡ Some u → MissesIn any 0 0 u
  stuck_costs l at is y first stuck u e =
      elim stuck [
        | inl lacks ↦
            costs 0 0 y lacks.0 u (subst (Dies code cx.meaning (byte_alone lacks.0) 0 0) (sym first) (is.misses lacks.0 lacks.2 lacks.3)) lacks.1 e
        | inr past ↦ subst (Costs 0 0) e (subst (DiesPast code) (sym first) is.ends cx y.limit deep y.state y.starts past)
      ]

  -- choices are passed over
  pub over : (b n m r q to : ℕ) → PassesOver code cx.meaning b n m r q to → (y : Spot) → y.at ≡ q → slice_get cx.haystack y.state.place ≡ Some b → (fs : List Frame) (w : List Raw) → left go y fs ≡ Some w
      → (rest : List Raw) × (left go (at_instr to y) fs ≡ Some rest) × Passed m r w rest
  over b zero m r q to p y at here fs w known =
      (w, subst (λ (t : ℕ). left go (at_instr t y) fs ≡ Some w) (at ∙ p.2) known, passed_then (passed_none w) (passed_none w) (omega (arith, p.0)) (omega (arith, p.1)))
  over b (suc n) m r q to p y at here fs w known =
      let met = at_split y fs w p.0 p.1 known (ap (instr_at code) at ∙ p.2) in
      let end = at_end p.3 p.4 (at_instr p.0 y) (at_instr p.1 y) fs met.0 met.1 (λ u e. costs p.3 p.4 (at_instr p.0 y) b u p.5 here e) in
      let more = over b n p.6 p.7 p.1 to p.8 (at_instr p.1 y) refl here fs end.0 end.1 in
      (more.0, more.1, passed_then (passed_then met.2 end.2 refl refl) more.2 (omega (arith, p.9)) (omega (arith, p.10)))

  module _ (l : ToldSplit) (x : Spot) (fs : List Frame) (is : IsToldSplit code cx.meaning x.at l) where
    -- at the loop, and at what follows it, after so many items
    abbrev turn : ℕ → Spot
    turn n = at_place x.at (x.state.place + n) x

    abbrev item : ℕ → Spot
    item n = at_place l.first (x.state.place + n) x

    abbrev rest_of : ℕ → Spot
    rest_of n = at_place l.second (x.state.place + n) x

    abbrev run_saved : ℕ → List Frame
    run_saved n = saved_run l.second x.state.place n x fs

    -- one more choice after so many items
    one_choice : (n : ℕ) (w : List Raw) → left go (turn n) (run_saved n) ≡ Some w → (rest : List Raw) × (left go (item n) (run_saved (suc n)) ≡ Some rest) × Passed 1 0 w rest
    one_choice n w known = at_split (turn n) (run_saved n) w l.first l.second known is.splits

    -- so many items are read
    items_read : (n : ℕ) (w : List Raw) → left go x fs ≡ Some w → (0 < n → l.group ≡ None) → HasItems l cx.haystack x.state.place n → ((k : ℕ) → k < n → x.state.place + k < x.limit)
        → (rest : List Raw) × (left go (turn n) (run_saved n) ≡ Some rest) × Passed n 0 w rest
    items_read zero w known alone items fits =
        let e : x.state.place ≡ x.state.place + 0 = omega arith in
        (w, subst (λ (p : ℕ). left go (at_place x.at p x) fs ≡ Some w) e known, passed_none w)
    items_read (suc n) w known alone items fits =
        let before = items_read n w known (λ some. alone (omega arith)) (λ k lt. items k (omega (arith, lt))) (λ k lt. fits k (omega (arith, lt))) in
        let met = one_choice n before.0 before.1 in
        let here = items n (omega arith) in
        let read = at_byte (item n) (run_saved (suc n)) met.0 here.0 x.at met.1 (is.reads (alone (omega arith)) here.0 here.2 here.3) here.1 (fits n (omega arith)) in
        let e : x.state.place + n + 1 ≡ x.state.place + suc n = omega arith in (
          read.0,
          subst (λ (p : ℕ). left go (at_place x.at p x) (run_saved (suc n)) ≡ Some read.0) e read.1,
          passed_then {r = 0} (passed_then {l = 0} before.2 met.2 refl (omega arith)) read.2 (omega arith) (omega arith),
        )

    -- and then one more choice
    pub read_on : (n : ℕ) (w : List Raw) → left go x fs ≡ Some w → (0 < n → l.group ≡ None) → HasItems l cx.haystack x.state.place n → ((k : ℕ) → k < n → x.state.place + k < x.limit)
        → (rest : List Raw) × (left go (item n) (run_saved (suc n)) ≡ Some rest) × Passed (n + 1) 0 w rest
    read_on n w known alone items fits =
        let all = items_read n w known alone items fits in
        let met = one_choice n all.0 all.1 in
        (met.0, met.1, passed_then all.2 met.2 refl (omega arith))

    -- what follows dies at the last of these places, down to the place k
    back_over : (j n k : ℕ) → n ≡ j + k → (w : List Raw) → left go (rest_of n) (run_saved n) ≡ Some w → ((i : ℕ) → k < i → i ≤ n → Lacks l.leaves cx.haystack (x.state.place + i))
        → (rest : List Raw) × (left go (rest_of k) (run_saved k) ≡ Some rest) × Passed 0 j w rest
    back_over zero n k e w known dies =
        let same : n ≡ k = omega (arith, e) in
        (w, subst (λ (i : ℕ). left go (rest_of i) (run_saved i) ≡ Some w) same known, passed_none w)
    back_over (suc j) zero k e w known dies = absurd (omega (arith, e))
    back_over (suc j) (suc m) k e w known dies =
        let d = dies (suc m) (omega (arith, e)) (omega arith) in
        let back = at_dead_end (rest_of (suc m)) (rest_of m) (run_saved m) w d.0 known (is.leaves d.0 d.2 d.3) d.1 in
        let more = back_over j m k (omega (arith, e)) back.0 back.1 (λ i low high. dies i low (omega (arith, high))) in
        (more.0, more.1, passed_then back.2 more.2 (omega arith) (omega arith))

    -- no further item stands after n of them, and what follows dies at the last of the places, down to the place k
    module _ (n k : ℕ) (le : k ≤ n) (w : List Raw) (known : left go x fs ≡ Some w) (alone : 0 < n → l.group ≡ None) (items : HasItems l cx.haystack x.state.place n)
        (fits : (k : ℕ) → k < n → x.state.place + k < x.limit) (stuck : IsStuck l cx.haystack x.limit (x.state.place + n)) (dies : (i : ℕ) → k < i → i ≤ n → Lacks l.leaves cx.haystack (x.state.place + i)) where
      pub gone_back : (rest : List Raw) × (left go (rest_of k) (run_saved k) ≡ Some rest) × Passed (n + 1) (1 + (n - k)) w rest
      gone_back =
          let read = read_on n w known alone items fits in
          let end = at_end 0 0 (item n) (rest_of n) (run_saved n) read.0 read.1 (stuck_costs l x.at is (item n) refl stuck) in
          let back = back_over (n - k) n k (omega (arith, le)) end.0 end.1 dies in
          (back.0, back.1, passed_then (passed_then read.2 end.2 refl refl) back.2 (omega arith) (omega arith))

    -- and at the first place too
    pub gone_dead : (n : ℕ) (w : List Raw) → left go x fs ≡ Some w → (0 < n → l.group ≡ None) → HasItems l cx.haystack x.state.place n → ((k : ℕ) → k < n → x.state.place + k < x.limit)
        → IsStuck l cx.haystack x.limit (x.state.place + n) → ((i : ℕ) → i ≤ n → Lacks l.leaves cx.haystack (x.state.place + i))
        → (rest : List Raw) × (finish go fs (Some []) ≡ Some rest) × Passed (n + 1) (n + 1) w rest
    gone_dead n w known alone items fits stuck dies =
        let back = gone_back n 0 (omega arith) w known alone items fits stuck (λ i low high. dies i high) in
        let d = dies 0 (omega arith) in
        let last = at_last_end 0 0 (rest_of 0) fs back.0 d.0 back.1 (is.leaves d.0 d.2 d.3) d.1 in
        (last.0, last.1, passed_then back.2 last.2 (omega arith) (omega arith))

-- a run saves a branch at each of its places
pub saved_by_run : (q p n : ℕ) (x : Spot) (fs : List Frame) → saved (saved_run q p n x fs) ≡ n + saved fs
saved_by_run q p zero x fs = omega arith
saved_by_run q p (suc n) x fs = omega (arith, saved_by_run q p n x fs)

-- what an attempt seeks it seeks in what is left
module _ (longest : Bool) (ok : State → Bool) (goal : Option State) (total choices : ℕ) (best : Option State) (r : ℕ) (o : Option (List Raw)) (fs : List Frame)
    (s : Searching longest ok goal total choices o fs best r) (m t : ℕ) (p : Option (List Raw)) (gs : List Frame) (rest : List Raw) (known : p ≡ Some rest)
    (passed : Passed m t s.rest rest) where
  pub seeks_on : saved gs ≤ saved fs + m → Searching longest ok goal total choices p gs best (r + t)
  seeks_on le = record {
    rest = rest;
    known = known;
    answer = sym (passed.answer longest ok best) ∙ s.answer;
    count = omega (arith, passed.returned_so (final longest ok), s.count);
    room = omega (arith, passed.marked_so (final longest ok), s.room, le);
  }

  pub fewer_on : 0 < m → size_of p < size_of o
  fewer_on some = let a = ap size_of known in let b = ap size_of s.known in omega (arith, passed.shorter, some, a, b)

  pub returns_to_come : r + t ≤ total
  returns_to_come = omega (arith, passed.returned_so (final longest ok), s.count)

  pub choices_to_come : saved fs + m ≤ choices
  choices_to_come = omega (arith, passed.marked_so (final longest ok), s.room)

-- an attempt that comes so many marks and returns further
module _ (a : Attempt) (h : Held) (best : Option State) (deep : ℕ) (goal : Option State) (total choices r : ℕ) (s : Seeks a deep goal total choices h best r)
    (m t : ℕ) (rest : List Raw) (passed : Passed m t s.rest rest) (less : length rest < length s.rest) (u : ℕ) (count : u ≡ t) where
  same_returns : r + t ≡ r + u
  same_returns = omega (arith, count)

  fewer : (p : Option (List Raw)) → p ≡ Some rest → size_of p < size_ahead a deep h
  fewer p known = let now = ap size_of known in let old = ap size_of s.known in omega (arith, now, old, less)

  pub goes_on : (new : Held) → left (code_in a deep) new.now new.frames ≡ Some rest → saved new.frames ≤ saved h.frames + m → Advanced a deep goal total choices (size_ahead a deep h) On new best (r + u)
  goes_on new known le = (
    subst (λ (i : ℕ). Seeks a deep goal total choices new best i) same_returns (seeks_on a.options.now.longest (accepts a) goal total choices best r _ h.frames s m t _ new.frames rest known passed le),
    fewer _ known,
  )

  pub dies_off : (new : Held) → finish (code_in a deep) new.frames (Some []) ≡ Some rest → saved new.frames ≤ saved h.frames + m → Advanced a deep goal total choices (size_ahead a deep h) Dead new best (r + u)
  dies_off new known le = (
    subst (λ (i : ℕ). SeeksBack a deep goal total choices new best i) same_returns (seeks_on a.options.now.longest (accepts a) goal total choices best r _ h.frames s m t _ new.frames rest known passed le),
    fewer _ known,
  )

-- an attempt whose way is dead, and that passes over branches that die at once
module _ (a : Attempt) where
  branches_die : (deep n : ℕ) (fs gs : List Frame) (w : List Raw) → finish (code_in a deep) fs (Some []) ≡ Some w → DieFirst a n fs gs
      → (rest : List Raw) × (finish (code_in a deep) gs (Some []) ≡ Some rest) × Passed 0 n w rest
  branches_die deep zero fs gs w known dies = (w, sym (ap (λ (hs : List Frame). finish (code_in a deep) hs (Some [])) dies) ∙ known, passed_none w)
  branches_die deep (suc n) [] gs w known dies = absurd dies
  branches_die deep (suc n) (Saved y ∷ fs) gs w known dies =
      let one = branch_dies (attempt_context a) (instrs_of a.code.now) deep y fs w dies.0.0 known dies.0.2 dies.0.1 in
      let more = branches_die deep n fs gs one.0 one.1 dies.1 in
      (more.0, more.1, passed_then one.2 more.2 (omega arith) (omega arith))
  branches_die deep (suc n) (Within r ∷ fs) gs w known dies = absurd dies

  fewer_saved : (n : ℕ) (fs gs : List Frame) → DieFirst a n fs gs → saved gs ≤ saved fs
  fewer_saved zero fs gs dies = omega (arith, ap saved dies)
  fewer_saved (suc n) [] gs dies = absurd dies
  fewer_saved (suc n) (Saved y ∷ fs) gs dies = omega (arith, fewer_saved n fs gs dies.1)
  fewer_saved (suc n) (Within r ∷ fs) gs dies = absurd dies

  module _ (n : ℕ) (old new : Held) (dies : DieFirst a n old.frames new.frames) where
    pub passes_back : (t : ℕ) → t ≡ n → PassesBack a t old new
    passes_back t is deep goal total choices r best s =
        let d = branches_die deep n old.frames new.frames s.rest s.known dies in
        let same : r + n ≡ r + t = omega (arith, is) in
        let before = ap size_of s.known in
        let now = ap size_of d.1 in (
          subst (λ (u : ℕ). SeeksBack a deep goal total choices new best u) same
              (seeks_on a.options.now.longest (accepts a) goal total choices best r _ old.frames s 0 n _ new.frames d.0 d.1 d.2 (omega (arith, fewer_saved n old.frames new.frames dies))),
          omega (arith, d.2.shorter, before, now),
        )

    pub back_takes : (before returns : ℕ) → returns ≤ before + n → BackTakes a before returns old
    back_takes before returns le deep goal total choices best s =
        let d = branches_die deep n old.frames new.frames s.rest s.known dies in
        omega (arith, le, returns_to_come a.options.now.longest (accepts a) goal total choices best before _ old.frames s 0 n _ new.frames d.0 d.1 d.2)

-- one more item of a run
pub one_more_item : (l : ToldSplit) (h : List ℕ) (p q : ℕ) → p ≤ q → q < length h → HasItems l h p (q - p) → slice_index h q < 256 → member l.items (slice_index h q) ≡ true → HasItems l h p (q + 1 - p)
one_more_item l h p q le lt items byte is k low =
    elim (cases_eq k (q - p)) [
      | inl same ↦ (let e : q ≡ p + k = omega (arith, same, le) in subst (Stands l.items h) e (slice_index h q, slice_get-get_or h q 0 lt, byte, is))
      | inr other ↦ items k (omega (arith, low, other))
    ]

-- and one more place at which what follows dies
pub one_more_death : (l : ToldSplit) (h : List ℕ) (p i n : ℕ) → DieFrom l h p (suc i) n → Lacks l.leaves h (p + i) → DieFrom l h p i n
one_more_death l h p i n die lacks k low high =
    elim (cases_eq k i) [
      | inl same ↦ subst (λ (j : ℕ). Lacks l.leaves h (p + j)) (sym same) lacks
      | inr other ↦ die k (omega (arith, low, other)) high
    ]

-- at the places of items nothing goes on where what follows is apart from them
pub all_die : (l : ToldSplit) (h : List ℕ) (p n : ℕ) → HasItems l h p n → AreApart l.items l.leaves → Lacks l.leaves h (p + n) → DieFrom l h p 0 (n + 1)
all_die l h p n items apart last k low high =
    elim (cases_eq k n) [
      | inl same ↦ subst (λ (j : ℕ). Lacks l.leaves h (p + j)) (sym same) last
      | inr other ↦ (let s = items k (omega (arith, high, other)) in (s.0, s.1, s.2, apart s.0 s.2 s.3))
    ]

-- the items of a run that stand from one of its places on
pub run_inside : (splits : Splits) (h : List ℕ) (r : LastRun) (at p : ℕ) (l : ToldSplit) → KnowsRun splits h r → IsNoted splits at l → r.at ≡ at → r.from ≤ p → p ≤ r.past → HasItems l h p (r.past - p)
run_inside splits h r at p l known noted same low high k lt =
    let e : r.from + (p - r.from + k) ≡ p + k = omega (arith, low) in
    subst (Stands l.items h) e (known l (subst (λ (q : ℕ). IsNoted splits q l) (sym same) noted) (p - r.from + k) (omega (arith, low, high, lt)))

same_choice : (l m : ToldSplit) → Loop l ≡ Loop m → l ≡ m
same_choice l m e = cc

-- one loop at most is noted for an instruction
same_split : (splits : Splits) (at : ℕ) (l m : ToldSplit) → IsNoted splits at l → IsNoted splits at m → l ≡ m
same_split splits at l m a b =
    let n : a.0 ≡ b.0 = same_Some _ _ (sym a.1 ∙ b.1) in
    same_choice l m (same_Some _ _ (sym a.2 ∙ ap (slice_get splits.parts.items) n ∙ b.2))

-- a run that was read is known
pub run_known : (splits : Splits) (h : List ℕ) (at p n : ℕ) (l m : ToldSplit) → IsNoted splits at l → HasItems l h p n → IsNoted splits at m → HasItems m h p (p + n - p)
run_known splits h at p n l m noted items other =
    let e : n ≡ p + n - p = omega arith in
    subst (HasItems m h p) e (subst (λ (o : ToldSplit). HasItems o h p n) (same_split splits at l m noted other) items)
