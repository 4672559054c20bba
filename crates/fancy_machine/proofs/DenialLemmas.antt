-- An attempt at a negated look-around of which a byte tells what it finds: what it seeks after it.
use Rattle.std.proofs.Common.{◌≡◌, ℕ, ◌+◌, ◌<◌, ◌≤◌, Bool, List, [], ◌∷◌, length, Option, Some, Result, Ok, Err, refl, sym, ap, ap₂, ◌∙◌, subst, arith}
use Rattle.std.specs.Prelude.{if◌then◌else◌, IsErrAnd}
use Rattle.fancy_input.specs.declared.refusal.SearchRefusal.{SearchRefusal}
use Rattle.fancy_meaning.specs.Context.{Context, State}
use Rattle.fancy_meaning.specs.Events.{ends_look}
use Rattle.fancy_code.specs.Code.{instrs_of}
use Rattle.fancy_code.specs.Instructions.{Instruction}
use Rattle.fancy_code.specs.Run.{Raw, Note, Stop, choice_opened, returned, fetched, Go, before, guard, fenced, halt, run}
use Rattle.fancy_code.specs.declared.step.Next.TheVariants.{On, Dead}
use Rattle.fancy_prices.specs.Prices.{Meets, MeetsIn, Misses, MissesIn}
use Rattle.fancy_splits.specs.declared.denials.Sight.{Sight}
use Rattle.fancy_splits.specs.declared.denials.Sight.TheVariants.{Unclear, Finds, Misses as MissesBy}
use Rattle.fancy_prices.specs.declared.price.Price.{Price}
use Rattle.fancy_splits.specs.declared.denials.ToldDenial.{ToldDenial}
use Rattle.fancy_splits.specs.Denials.{IsSight, IsToldDenial}
use Rattle.fancy_machine.specs.declared.attempt.Attempt.{Attempt}
use Rattle.fancy_machine.specs.Attempt.{attempt_context, accepts, code_in, Seeks, SeeksBack, Advanced, size_ahead}
use Rattle.fancy_trail.specs.Frames.{Frame, Held, saved}
use Rattle.fancy_machine.specs.Denials.{IsSeen, Tells, as_next}
use Rattle.fancy_trail.specs.Left.{after, finish, left}
use Rattle.fancy_trail.specs.Ways.{at_instr}
use Rattle.fancy_trail.proofs.Closing.{before_some, fenced_some, finish_known, finish_note, take_branch}
use Rattle.fancy_machine.proofs.MachineSteps.{acts}
use Rattle.fancy_machine.proofs.PassLemmas.{Passed, passed_none, passed_then, passed_fetch, passed_mark, passed_return, goes_on, dies_off, returns_to_come}
use Rattle.fancy_code.specs.Instructions as i

-- what is left of a region whose body is not found, and of one whose body is, where nothing follows that
module _ (go : ℕ → Go) (wanted : State → Bool) (fs : List Frame) where
  missed_in : (found : Go) (missed : Option (List Raw)) (m r : ℕ) (u : List Raw) → MissesIn wanted m r u → (w : List Raw) → finish go fs (guard found wanted missed u) ≡ Some w
      → (rest : List Raw) × (finish go fs missed ≡ Some rest) × Passed m r w rest
  missed_in found missed m r [] c w h = (w, h, passed_then (passed_none w) (passed_none w) (omega (arith, c.0)) (omega (arith, c.1)))
  missed_in found missed m r (Note fetched ∷ u) c w h =
      let v = before_some (Note fetched) _ w (sym (finish_note go fs fetched (guard found wanted missed u)) ∙ h) in
      let t = missed_in found missed m r u c v.0 v.1 in
      (t.0, t.1, passed_then (passed_fetch w v.0 v.2) t.2 (omega arith) (omega arith))
  missed_in found missed m r (Note choice_opened ∷ u) c w h =
      let v = before_some (Note choice_opened) _ w (sym (finish_note go fs choice_opened (guard found wanted missed u)) ∙ h) in
      let t = missed_in found missed c.0 r u c.2 v.0 v.1 in
      (t.0, t.1, passed_then (passed_mark w v.0 v.2) t.2 (omega (arith, c.1)) (omega arith))
  missed_in found missed m r (Note returned ∷ u) c w h =
      let v = before_some (Note returned) _ w (sym (finish_note go fs returned (guard found wanted missed u)) ∙ h) in
      let t = missed_in found missed m c.0 u c.2 v.0 v.1 in
      (t.0, t.1, passed_then (passed_return w v.0 v.2) t.2 (omega arith) (omega (arith, c.1)))
  missed_in found missed m r (Stop q s v ∷ u) c w h =
      missed_in found missed m r u c.1 w (sym (ap (λ (b : Bool). finish go fs (if b then (found q s v) else (guard found wanted missed u))) c.0) ∙ h)

  found_in : (missed : Option (List Raw)) (u : List Raw) → MeetsIn wanted u → (w : List Raw) → finish go fs (guard halt wanted missed u) ≡ Some w
      → (rest : List Raw) × (finish go fs (Some []) ≡ Some rest) × Passed 0 0 w rest
  found_in missed [] c w h = absurd c
  found_in missed (Note fetched ∷ u) c w h =
      let v = before_some (Note fetched) _ w (sym (finish_note go fs fetched (guard halt wanted missed u)) ∙ h) in
      let t = found_in missed u c v.0 v.1 in
      (t.0, t.1, passed_then (passed_fetch w v.0 v.2) t.2 (omega arith) (omega arith))
  found_in missed (Note choice_opened ∷ u) c w h = absurd c
  found_in missed (Note returned ∷ u) c w h = absurd c
  found_in missed (Stop q s v ∷ u) c w h =
      (w, sym (ap (λ (b : Bool). finish go fs (if b then (Some []) else (guard halt wanted missed u))) c) ∙ h, passed_none w)

  missed_by : (found : Go) (missed : Option (List Raw)) (m r : ℕ) (o : Option (List Raw)) → Misses wanted m r o → (w : List Raw) → finish go fs (fenced found wanted missed o) ≡ Some w
      → (rest : List Raw) × (finish go fs missed ≡ Some rest) × Passed m r w rest
  missed_by found missed m r o c w h =
      let all = finish_known go fs (fenced found wanted missed o) w h in
      let body = fenced_some found wanted missed o all.0 all.1 in
      missed_in found missed m r body.0 (subst (Misses wanted m r) body.1 c) w (sym (ap (λ (p : Option (List Raw)). finish go fs (fenced found wanted missed p)) body.1) ∙ h)

  found_by : (missed : Option (List Raw)) (o : Option (List Raw)) → Meets wanted o → (w : List Raw) → finish go fs (fenced halt wanted missed o) ≡ Some w
      → (rest : List Raw) × (finish go fs (Some []) ≡ Some rest) × Passed 0 0 w rest
  found_by missed o c w h =
      let all = finish_known go fs (fenced halt wanted missed o) w h in
      let body = fenced_some halt wanted missed o all.0 all.1 in
      found_in missed body.0 (subst (Meets wanted) body.1 c) w (sym (ap (λ (p : Option (List Raw)). finish go fs (fenced halt wanted missed p)) body.1) ∙ h)

module _ (a : Attempt) (l : ToldDenial) (h : Held) (is : IsToldDenial (instrs_of a.code.now) a.code.now.meaning h.now.at l)
    (best : Option State) (deep : ℕ) (goal : Option State) (total choices r : ℕ) (s : Seeks a deep goal total choices h best r) where
  abbrev cx : Context
  cx = attempt_context a

  abbrev code : List Instruction
  code = instrs_of a.code.now

  abbrev wanted : State → Bool
  wanted = ends_look l.behind h.now.state.place

  abbrev body : Option (List Raw)
  body = run cx (length cx.haystack) code deep l.body h.now.state h.now.starts

  -- what follows where it finds nothing
  abbrev missed : Option (List Raw)
  missed = before (Note returned) (after (code_in a deep) (at_instr l.next h.now))

  -- its region begins
  begun : (rest : List Raw) × (finish (code_in a deep) h.frames (fenced halt wanted missed body) ≡ Some rest) × Passed 1 0 s.rest rest × (length rest < length s.rest)
  begun =
      let u = acts cx code deep h.now h.frames s.rest s.known (i.Deny l.behind l.body l.next) is.denies in
      let v = before_some (Note choice_opened) _ u.0 (sym (finish_note (code_in a deep) h.frames choice_opened (fenced halt wanted missed body)) ∙ u.1) in
      let one = ap length u.2 in
      let two = ap length v.2 in
      (v.0, v.1, passed_then (passed_fetch s.rest u.0 u.2) (passed_mark u.0 v.0 v.2) (omega arith) (omega arith), omega (arith, one, two))

  told : (t : Sight) → (seen : Tells a l h.now.state.place t) → IsSight code cx.meaning l.behind l.body seen.0 t
  told t seen = subst (IsSight code cx.meaning l.behind l.body seen.0) seen.3 (is.sights seen.0 seen.1)

  -- it finds what it looks for
  pub found_dead : Tells a l h.now.state.place Finds → (new : Held) → new.frames ≡ h.frames → (u : ℕ) → u ≡ 0
      → Advanced a deep goal total choices (size_ahead a deep h) Dead new best (r + u)
  found_dead seen new frames u none =
      let end = found_by (code_in a deep) wanted h.frames missed body (told Finds seen cx deep h.now.state h.now.starts refl seen.2) begun.0 begun.1 in
      let passed : Passed 1 0 s.rest end.0 = passed_then begun.2 end.2 (omega arith) (omega arith) in
      let known = ap (λ (fs : List Frame). finish (code_in a deep) fs (Some [])) frames ∙ end.1 in
      let saves = ap saved frames in
      dies_off a h best deep goal total choices r s 1 0 end.0 passed (omega (arith, passed.shorter)) u none new known (omega (arith, saves))

  -- it finds nothing, and the way goes on
  module _ (c : Price) (seen : Tells a l h.now.state.place (MissesBy c)) where
    misses : Misses wanted c.marks c.returns body
    misses = told (MissesBy c) seen cx (length cx.haystack) deep h.now.state h.now.starts refl seen.2

    past : (rest : List Raw) × (left (code_in a deep) (at_instr l.next h.now) h.frames ≡ Some rest) × Passed (c.marks + 1) (c.returns + 1) s.rest rest
    past =
        let go : ℕ → Go = code_in a deep in
        let end = missed_by go wanted h.frames halt missed c.marks c.returns body misses begun.0 begun.1 in
        let back = take_branch go h.frames (after go (at_instr l.next h.now)) end.0 end.1 in
        (back.0, back.1, passed_then (passed_then begun.2 end.2 refl refl) (passed_return end.0 back.0 back.2) (omega arith) (omega arith))

    pub missed_on : (new : Held) → new.now ≡ at_instr l.next h.now → new.frames ≡ h.frames → (u : ℕ) → u ≡ c.returns + 1
        → Advanced a deep goal total choices (size_ahead a deep h) On new best (r + u)
    missed_on new now frames u count =
        let known = ap₂ (left (code_in a deep)) now frames ∙ past.1 in
        let saves = ap saved frames in
        goes_on a h best deep goal total choices r s (c.marks + 1) (c.returns + 1) past.0 past.2 (omega (arith, past.2.shorter)) u count new known (omega (arith, saves))

    pub returns_missed : r + (c.returns + 1) ≤ total
    returns_missed = returns_to_come a.options.now.longest (accepts a) goal total choices best r _ h.frames s (c.marks + 1) (c.returns + 1) _ h.frames past.0 past.1 past.2

-- what is seen and is no miss is found
pub not_missed : (a : Attempt) (l : ToldDenial) (p : ℕ) (t : Sight) → IsSeen a l p t → ((c : Price) → t ≡ MissesBy c → ⊥) → Tells a l p Finds
not_missed a l p Unclear seen other = absurd seen
not_missed a l p Finds seen other = seen
not_missed a l p (MissesBy c) seen other = absurd (other c refl)

-- a refusal stays one
pub as_refused : (r : Result Bool SearchRefusal) (e : SearchRefusal) → IsErrAnd r (λ (x : SearchRefusal). x ≡ e) → IsErrAnd (as_next r) (λ (x : SearchRefusal). x ≡ e)
as_refused (Ok b) e h = absurd h
as_refused (Err x) e h = h
