-- One step along a thread.
use Rattle.std.proofs.Common.{◌≡◌, ℕ, ◌+◌, ◌<◌, Bool, true, false, List, [], ◌∷◌, ◌++◌, length, Option, Some, None, refl, sym, ap, ap₂, ◌∙◌, subst, inl, arith, length-append}
use Rattle.std.specs.Prelude.{slice_get, slice_index, slice_set, if◌then◌else◌}
use Rattle.std.proofs.lemmas.Bool.{le-leb, lt-leb}
use Rattle.fancy_tree.specs.declared.tree.Assertion.{Assertion}
use Rattle.fancy_code.specs.Instructions.{Instruction, Match, Fail, Assert, Split, Open, Close}
use Rattle.fancy_code.specs.Items.{ReadsByte}
use Rattle.fancy_code.specs.declared.step.Next.{Next}
use Rattle.fancy_code.specs.declared.step.Next.TheVariants.{On, Dead, Found}
use Rattle.fancy_meaning.specs.Context.{Context, State, moved_to, with_capture, holds}
use Rattle.fancy_meaning.specs.Events.{Event, mark, return, outcome, either}
use Rattle.fancy_code.specs.Run.{Raw, Note, Stop, choice_opened, returned, fetched, before, join, onward, instr_at, act, run, erase}
use Rattle.fancy_runner.specs.declared.pair.Pair.{Pair}
use Rattle.fancy_code.specs.Thread.{Thread, state_of, starts_of, events_of, size_of, first_accepted, IsKnown, Known, thread_run}
use Rattle.fancy_runner.specs.Threads.{thread_of}
use Rattle.fancy_runner.specs.Runner.{Moved, Tested, Went, Parted, Stepped}
use Rattle.fancy_code.proofs.RunMore.{known_act}

erase_append : (a b : List Raw) → erase (a ++ b) ≡ erase a ++ erase b
erase_append [] b = refl
erase_append (Note choice_opened ∷ a) b = ap (λ (es : List Event). mark ∷ es) (erase_append a b)
erase_append (Note returned ∷ a) b = ap (λ (es : List Event). return ∷ es) (erase_append a b)
erase_append (Note fetched ∷ a) b = erase_append a b
erase_append (Stop q s v ∷ a) b = ap (λ (es : List Event). outcome s ∷ es) (erase_append a b)

known_some : (o : Option (List Raw)) → IsKnown o → (w : List Raw) × (o ≡ Some w)
known_some None k = absurd k
known_some (Some w) k = (w, refl)

went_from : (o' o : Option (List Raw)) → o ≡ before (Note fetched) o' → IsKnown o
    → IsKnown o' × ((ok : State → Bool) → first_accepted ok (events_of o) ≡ first_accepted ok (events_of o')) × (size_of o' < size_of o)
went_from None o e k = absurd (subst IsKnown e k)
went_from (Some w) o e k = (tt, λ ok. ap (λ (p : Option (List Raw)). first_accepted ok (events_of p)) e, omega (arith, ap size_of e))

parted_from : (a b o : Option (List Raw)) → o ≡ before (Note fetched) (before (Note choice_opened) (join a b)) → IsKnown o
    → IsKnown a × IsKnown b × (events_of o ≡ either (events_of a) (events_of b)) × (size_of a + size_of b < size_of o)
parted_from None b o e k = absurd (subst IsKnown e k)
parted_from (Some v) None o e k = absurd (subst IsKnown e k)
parted_from (Some v) (Some w) o e k = (
  tt,
  tt,
  ap events_of e ∙ ap (λ (es : List Event). mark ∷ es) (erase_append v (Note returned ∷ w)),
  omega (arith, ap size_of e, length-append v (Note returned ∷ w)),
)

module _ (x : Context) (limit : ℕ) (code : List Instruction) (deep kept : ℕ) (t : Thread) (known : Known x limit code deep kept t) where
  -- the run from t is what the instruction says
  pub acts : (i : Instruction) → instr_at code t.at ≡ i
      → thread_run x limit code deep kept t ≡ before (Note fetched) (act x limit t.at i (run x limit code deep) (run x (length x.haystack) code deep) (state_of kept t) (starts_of t))
  acts i e =
      let w = known_some (thread_run x limit code deep kept t) known in
      known_act x limit code deep t.at (state_of kept t) (starts_of t) w.0 w.1
      ∙ ap (λ (j : Instruction). before (Note fetched) (act x limit t.at j (run x limit code deep) (run x (length x.haystack) code deep) (state_of kept t) (starts_of t))) e

  thread_same : (u : Thread) (q : ℕ) (s : State) (v : List ℕ) → u.at ≡ q → state_of kept u ≡ s → starts_of u ≡ v → run x limit code deep q s v ≡ thread_run x limit code deep kept u
  thread_same u q s v eq es ev =
      sym (ap (λ (y : ℕ). run x limit code deep y (state_of kept u) (starts_of u)) eq
      ∙ ap (λ (y : State). run x limit code deep q y (starts_of u)) es
      ∙ ap (λ (y : List ℕ). run x limit code deep q s y) ev)

  pub found : instr_at code t.at ≡ Match → events_of (thread_run x limit code deep kept t) ≡ outcome (state_of kept t) ∷ []
  found e = ap events_of (acts Match e)

  pub failed : instr_at code t.at ≡ Fail → events_of (thread_run x limit code deep kept t) ≡ []
  failed e = ap events_of (acts Fail e)

  -- an instruction that goes on at u
  goes : (u : Thread) (q : ℕ) (s : State) (v : List ℕ) → thread_run x limit code deep kept t ≡ before (Note fetched) (run x limit code deep q s v)
      → u.at ≡ q → state_of kept u ≡ s → starts_of u ≡ v → Went x limit code deep kept t u
  goes u q s v e eq es ev = went_from (thread_run x limit code deep kept u) _ (e ∙ ap (before (Note fetched)) (thread_same u q s v eq es ev)) known

  -- an item was read, or not
  pub moved : (next : Next) (o : Option ℕ) (q : ℕ) (u : Thread) (ts us : List Thread)
      → thread_run x limit code deep kept t ≡ before (Note fetched) (onward limit (run x limit code deep) q (state_of kept t) (starts_of t) o)
      → Moved next limit o q t u → us ≡ ts → Stepped x limit code deep kept next t ts u us
  moved On None q u ts us e m same = absurd m
  moved On (Some p) q u ts us e m same =
      let there : Thread = record t { at = q; place = p } in
      inl (
        subst (λ (y : Thread). Went x limit code deep kept t y) (sym m.1)
            (goes there q (moved_to (state_of kept t) p) (starts_of t)
            (e ∙ ap (λ (b : Bool). before (Note fetched) (if b then (run x limit code deep q (moved_to (state_of kept t) p) (starts_of t)) else (Some []))) (le-leb p limit m.0))
            refl refl refl),
        same,
      )
  moved Dead None q u ts us e m same = (ap events_of e, same)
  moved Dead (Some p) q u ts us e m same = (
    ap events_of (e ∙ ap (λ (b : Bool). before (Note fetched) (if b then (run x limit code deep q (moved_to (state_of kept t) p) (starts_of t)) else (Some []))) (lt-leb p limit m.0)),
    same,
  )
  moved Found o q u ts us e m same = absurd m

  pub asserted : (a : Assertion) (next : ℕ) (u : Thread) → instr_at code t.at ≡ Assert a next → holds x a t.place ≡ true
      → u.at ≡ next → state_of kept u ≡ state_of kept t → starts_of u ≡ starts_of t → Went x limit code deep kept t u
  asserted a next u e there eq es ev =
      goes u next (state_of kept t) (starts_of t)
      (acts (Assert a next) e ∙ ap (λ (b : Bool). before (Note fetched) (if b then (run x limit code deep next (state_of kept t) (starts_of t)) else (Some []))) there) eq es ev

  pub refuted : (a : Assertion) (next : ℕ) → instr_at code t.at ≡ Assert a next → holds x a t.place ≡ false → events_of (thread_run x limit code deep kept t) ≡ []
  refuted a next e none =
      ap events_of (acts (Assert a next) e ∙ ap (λ (b : Bool). before (Note fetched) (if b then (run x limit code deep next (state_of kept t) (starts_of t)) else (Some []))) none)

  -- a test of the place held, or not
  pub tested : (next : Next) (held : Bool) (a : Assertion) (q : ℕ) (new : Pair) (ts : List Thread) → instr_at code t.at ≡ Assert a q → held ≡ holds x a t.place
      → Tested next held q (record { at = t.at; place = t.place }) new → Stepped x limit code deep kept next t ts (thread_of new t.slots) ts
  tested On true a q new ts e h m =
      inl (
        asserted a q (thread_of new t.slots) e (sym h) (ap (λ (p : Pair). p.at) m) (ap (λ (p : Pair). state_of kept (thread_of p t.slots)) m) refl,
        refl,
      )
  tested On false a q new ts e h m = absurd m
  tested Dead true a q new ts e h m = absurd m
  tested Dead false a q new ts e h m = (refuted a q e (sym h), refl)
  tested Found held a q new ts e h m = absurd m

  -- an item of one byte was read
  pub read_byte : (b q : ℕ) → ReadsByte code x.meaning b t.at q → slice_get x.haystack t.place ≡ Some b → t.place < limit → Went x limit code deep kept t (record t { at = q; place = t.place + 1 })
  read_byte b q reads stands within =
      goes (record t { at = q; place = t.place + 1 }) q (moved_to (state_of kept t) (t.place + 1)) (starts_of t)
      (acts (instr_at code t.at) refl ∙ reads x limit deep (state_of kept t) (starts_of t) refl stands within) refl refl refl

  pub opened : (g next : ℕ) (u : Thread) → instr_at code t.at ≡ Open g next
      → u.at ≡ next → state_of kept u ≡ state_of kept t → starts_of u ≡ slice_set (starts_of t) g t.place → Went x limit code deep kept t u
  opened g next u e eq es ev = goes u next (state_of kept t) (slice_set (starts_of t) g t.place) (acts (Open g next) e) eq es ev

  pub closed : (g next : ℕ) (u : Thread) → instr_at code t.at ≡ Close g next
      → u.at ≡ next → state_of kept u ≡ with_capture (state_of kept t) g (slice_index (starts_of t) g) → starts_of u ≡ starts_of t → Went x limit code deep kept t u
  closed g next u e eq es ev = goes u next (with_capture (state_of kept t) g (slice_index (starts_of t) g)) (starts_of t) (acts (Close g next) e) eq es ev

  pub parted : (a c : ℕ) (u b : Thread) → instr_at code t.at ≡ Split a c
      → u.at ≡ a → state_of kept u ≡ state_of kept t → starts_of u ≡ starts_of t
      → b.at ≡ c → state_of kept b ≡ state_of kept t → starts_of b ≡ starts_of t → b.place ≡ t.place → Parted x limit code deep kept t u b
  parted a c u b e uq us uv bq bs bv place =
      let p = parted_from (thread_run x limit code deep kept u) (thread_run x limit code deep kept b) _
      (acts (Split a c) e ∙ ap (λ (o : Option (List Raw)). before (Note fetched) (before (Note choice_opened) o)) (ap₂ join (thread_same u a _ _ uq us uv) (thread_same b c _ _ bq bs bv))) known in
      (p.0, p.1, p.2, p.3, place)
