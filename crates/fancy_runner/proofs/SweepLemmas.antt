-- A sweep, which follows the threads that are left in the order of their places.
use Rattle.std.proofs.Common.{◌≡◌, ℕ, ◌+◌, ◌<◌, ◌≤◌, ◌⊎◌, Bool, true, false, List, [], ◌∷◌, ◌++◌, Option, Some, None, refl, sym, ap, ap₂, ◌∙◌, subst, inl, inr, arith, append_assoc}
use Rattle.std.specs.Prelude.{if◌then◌else◌, is_some, reverse}
use Rattle.std.specs.Option.{option_or}
use Rattle.std.proofs.lemmas.List.{reverse-append}
use Rattle.std.proofs.lemmas.Bool.{or_cases, cases_lt, true≢false}
use Rattle.fancy_code.specs.declared.code.Code.{Code}
use Rattle.fancy_runner.specs.Runner.{burden}
use Rattle.fancy_code.specs.Instructions.{Instruction}
use Rattle.fancy_code.specs.declared.step.Next.TheVariants.{On}
use Rattle.fancy_meaning.specs.Context.{Context, State}
use Rattle.fancy_meaning.specs.Events.{Event, return, outcome}
use Rattle.fancy_code.specs.Marking.{Marks}
use Rattle.fancy_code.specs.Thread.{Thread, state_of}
use Rattle.fancy_code.specs.Thread.{events_of, Known, thread_run, first_accepted, ends_well, rank}
use Rattle.fancy_runner.specs.Runner.{AllKnown, pending, Stepped, AllWithin, Grown, WasVisited, Hits, HitsBelow, AllFailed, FailedPast, Running}
use Rattle.fancy_code.specs.Compile.{AreEasy}
use Rattle.fancy_runner.specs.Sweep.{AllPast, AllAt, AllUpTo, AreRising, IsPast, HitsPast, CoversAll, Sweeping}
use Rattle.fancy_runner.proofs.RunnerLemmas.{first_or, choice_some, rank_is, hits_is, Adds}

-- threads past a place, one after another
pub past_append : (p : ℕ) (ts us : List Thread) → AllPast p ts → AllPast p us → AllPast p (ts ++ us)
past_append p [] us a b = b
past_append p (t ∷ ts) us a b = (a.0, past_append p ts us a.1 b)

pub up_to_more : (p q : ℕ) (ts : List Thread) → p ≤ q → AllUpTo p ts → AllUpTo q ts
up_to_more p q [] le w = tt
up_to_more p q (t ∷ ts) le w = (omega (arith, le, w.0), up_to_more p q ts le w.1)

-- the places of threads rise after a visit too
pub rising_next : (t u : Thread) (ts us : List Thread) → AreRising (t ∷ ts) → Grown t.place ts us → t.place ≤ u.place → AreRising (u ∷ us)
rising_next t u ts us rising grown forth =
    elim grown [
      | inl same ↦ subst (λ (x : List Thread). AreRising (u ∷ x)) (sym same) (up_to_more t.place u.place ts forth rising.0, rising.1)
      | inr more ↦
          subst (λ (x : List Thread). AreRising (u ∷ x)) (sym more.2)
          ((omega (arith, forth, more.1), up_to_more t.place u.place ts forth rising.0), (up_to_more t.place more.0.place ts (omega (arith, more.1)) rising.0, rising.1))
    ]

-- all threads stand at the place after a visit too
pub at_next : (p : ℕ) (ts us : List Thread) → AllAt p ts → Grown p ts us → AllAt p us
at_next p ts us all grown =
    elim grown [
      | inl same ↦ subst (λ (x : List Thread). AllAt p x) (sym same) all
      | inr more ↦ subst (λ (x : List Thread). AllAt p x) (sym more.2) (more.1, all)
    ]

pub at_within : (p first last : ℕ) (ts : List Thread) → first ≤ p → p ≤ last → AllAt p ts → AllWithin first last ts
at_within p first last [] low high all = tt
at_within p first last (t ∷ ts) low high all = (omega (arith, low, all.0), omega (arith, high, all.0), at_within p first last ts low high all.1)

up_to_last : (p : ℕ) (ts : List Thread) (w : Thread) → AllUpTo p (ts ++ w ∷ []) → w.place ≤ p
up_to_last p [] w up = up.0
up_to_last p (t ∷ ts) w up = up_to_last p ts w up.1

-- the last one stands at the least place
pub rising_past : (p : ℕ) (ts : List Thread) (w : Thread) → AreRising (ts ++ w ∷ []) → p < w.place → AllPast p (ts ++ w ∷ [])
rising_past p [] w rising past = (past, tt)
rising_past p (t ∷ ts) w rising past = (omega (arith, past, up_to_last t.place ts w rising.0), rising_past p ts w rising.1 past)

up_to_front : (p : ℕ) (ts us : List Thread) → AllUpTo p (ts ++ us) → AllUpTo p ts
up_to_front p [] us up = tt
up_to_front p (t ∷ ts) us up = (up.0, up_to_front p ts us up.1)

pub rising_front : (ts us : List Thread) → AreRising (ts ++ us) → AreRising ts
rising_front [] us rising = tt
rising_front (t ∷ ts) us rising = (up_to_front t.place ts us rising.0, rising_front ts us rising.1)

-- the last of some threads waits before the others, turned
pub moved_over : (front later rest : List Thread) (t : Thread) → (front ++ reverse later) ++ t ∷ rest ≡ (front ++ reverse (t ∷ later)) ++ rest
moved_over front later rest t =
    sym (append_assoc (front ++ reverse later) (t ∷ []) rest)
    ∙ ap (λ (x : List Thread). x ++ rest) (append_assoc front (reverse later) (t ∷ []) ∙ ap (λ (x : List Thread). front ++ x) (sym (reverse-append (t ∷ []) later)))

pub past_reverse : (p : ℕ) (ts : List Thread) → AllPast p ts → AllPast p (reverse ts)
past_reverse p [] past = tt
past_reverse p (t ∷ ts) past =
    subst (λ (x : List Thread). AllPast p x) (sym (reverse-append (t ∷ []) ts)) (past_append p (reverse ts) (t ∷ []) (past_reverse p ts past.1) (past.0, tt))

pub past_both : (p : ℕ) (front later : List Thread) → AllPast p front → AllPast p later → AllPast p (front ++ reverse later)
past_both p front later a b = past_append p front (reverse later) a (past_reverse p later b)

pub within_append : (first last : ℕ) (ts us : List Thread) → AllWithin first last ts → AllWithin first last us → AllWithin first last (ts ++ us)
within_append first last [] us a b = b
within_append first last (t ∷ ts) us a b = (a.0, a.1, within_append first last ts us a.2 b)

pub within_front : (first last : ℕ) (ts us : List Thread) → AllWithin first last (ts ++ us) → AllWithin first last ts
within_front first last [] us w = tt
within_front first last (t ∷ ts) us w = (w.0, w.1, within_front first last ts us w.2)

pub within_back : (first last : ℕ) (ts us : List Thread) → AllWithin first last (ts ++ us) → AllWithin first last us
within_back first last [] us w = w
within_back first last (t ∷ ts) us w = within_back first last ts us w.2

pub within_reverse : (first last : ℕ) (ts : List Thread) → AllWithin first last ts → AllWithin first last (reverse ts)
within_reverse first last [] w = tt
within_reverse first last (t ∷ ts) w =
    subst (λ (x : List Thread). AllWithin first last x) (sym (reverse-append (t ∷ []) ts))
    (within_append first last (reverse ts) (t ∷ []) (within_reverse first last ts w.2) (w.0, w.1, tt))

-- threads past a place stand from the next one on
pub within_past : (p first last : ℕ) (ts : List Thread) → AllPast p ts → AllWithin first last ts → AllWithin (p + 1) last ts
within_past p first last [] past w = tt
within_past p first last (t ∷ ts) past w = (omega (arith, past.0), w.1, within_past p first last ts past.1 w.2)

-- no thread stands past the last place
pub within_none : (first last : ℕ) (ts : List Thread) → last < first → AllWithin first last ts → ts ≡ []
within_none first last [] lt w = refl
within_none first last (t ∷ ts) lt w = absurd (omega (arith, lt, w.0, w.1))

-- those that are preferred stand from where the last one does
pub within_last : (first last : ℕ) (ts : List Thread) (w : Thread) → AreRising (ts ++ w ∷ []) → AllWithin first last (ts ++ w ∷ []) → AllWithin w.place last (ts ++ w ∷ [])
within_last first last [] w rising within = (omega arith, within.1, tt)
within_last first last (t ∷ ts) w rising within = (up_to_last t.place ts w rising.0, within.1, within_last first last ts w rising.1 within.2)

-- what is due for threads, in any order
pub burden_append : (c : Code) (ts us : List Thread) → burden c (ts ++ us) ≡ burden c ts + burden c us
burden_append c [] us = omega arith
burden_append c (t ∷ ts) us = omega (arith, burden_append c ts us)

pub burden_reverse : (c : Code) (ts : List Thread) → burden c (reverse ts) ≡ burden c ts
burden_reverse c [] = refl
burden_reverse c (t ∷ ts) =
    ap (burden c) (reverse-append (t ∷ []) ts) ∙ burden_append c (reverse ts) (t ∷ []) ∙ omega (arith, burden_reverse c ts)

or_assoc : (a b c : Option State) → option_or (option_or a b) c ≡ option_or a (option_or b c)
or_assoc None b c = refl
or_assoc (Some s) b c = refl

pub or_nothing : (a : Option State) → option_or a None ≡ a
or_nothing None = refl
or_nothing (Some s) = refl

some_stays : (a b : Option State) → is_some a ≡ true → option_or a b ≡ a
some_stays None b e = absurd (true≢false (sym e))
some_stays (Some s) b e = refl

none_over : (a b : Option State) → is_some a ≡ false → option_or a b ≡ b
none_over None b e = refl
none_over (Some s) b e = absurd (true≢false e)

module _ (good : ℕ → Bool) (cx : Context) (low limit : ℕ) (code : List Instruction) (easy : AreEasy code) (deep : ℕ) where
  abbrev HitsAt : Thread → Type 0
  HitsAt t = Hits good cx low limit code deep t.at t.place

  abbrev RankAt : Thread → ℕ
  RankAt t = rank cx limit code deep t.at t.place

  abbrev Past : ℕ → ℕ → Thread → Type 0
  Past r i t = IsPast good cx low limit code deep r i t

  abbrev Covered : ℕ → ℕ → List Thread → Option State → Type 0
  Covered r i ts found = HitsPast good cx low limit code deep r i ts found

  -- what comes of a thread that is past a pair is past it too
  past_step : (r i : ℕ) (t u : Thread) → Past r i t → t.place ≤ u.place → RankAt u < RankAt t → Past r i u
  past_step r i t u past forth lower =
      elim past [
        | inl beyond ↦ inl (omega (arith, beyond, forth))
        | inr here ↦ elim (cases_lt t.place u.place) [
          | inl beyond ↦ inl (omega (arith, here.0, beyond))
          | inr still ↦ inr (omega (arith, here.0, forth, still), omega (arith, here.1, lower))
        ]
      ]

  -- what comes of a thread is past the thread's own pair
  past_own : (t u : Thread) → t.place ≤ u.place → RankAt u < RankAt t → Past (RankAt t) t.place u
  past_own t u forth lower =
      elim (cases_lt t.place u.place) [
        | inl beyond ↦ inl beyond
        | inr still ↦ inr (omega (arith, forth, still), lower)
      ]

  not_past_own : (t : Thread) → Past (RankAt t) t.place t → ⊥
  not_past_own t past =
      elim past [
        | inl beyond ↦ absurd (omega (arith, beyond))
        | inr here ↦ absurd (omega (arith, here.1))
      ]

  -- what comes after some threads is changed
  covered_behind : (r i : ℕ) (front a b : List Thread) (f g : Option State) → (Covered r i a f → Covered r i b g) → Covered r i (front ++ a) f → Covered r i (front ++ b) g
  covered_behind r i [] a b f g change h = change h
  covered_behind r i (t ∷ front) a b f g change h = (
    h.0,
    elim h.1 [
      | inl hit ↦ inl hit
      | inr rest ↦ inr (covered_behind r i front a b f g change rest)
    ],
  )

  -- threads that stand past the place come to none of its pairs
  covered_over : (r i : ℕ) (front b : List Thread) (g : Option State) → AllPast i front → Covered r i b g → Covered r i (front ++ b) g
  covered_over r i [] b g past h = h
  covered_over r i (t ∷ front) b g past h = (inl past.0, inr (covered_over r i front b g past.1 h))

  -- a thread is followed on: those before it stand past its place
  covers_next : (table table' : Marks) (front : List Thread) (t : Thread) (back next : List Thread) (found found' : Option State)
      → Adds good cx low limit code easy deep table table' t.at t.place → AllPast t.place front
      → CoversAll good cx low limit code deep table (front ++ t ∷ back) found
      → ((r i : ℕ) → Past r i t → HitsAt t ⊎ Covered r i back found → Covered r i next found')
      → (HitsAt t → Covered (RankAt t) t.place next found')
      → CoversAll good cx low limit code deep table' (front ++ next) found'
  covers_next table table' front t back next found found' adds past covers old new p j seen hit =
      elim (adds p j seen) [
        | inl before ↦
            covered_behind (rank cx limit code deep p j) j front (t ∷ back) next found found' (λ h. old (rank cx limit code deep p j) j h.0 h.1) (covers p j before hit)
        | inr same ↦
            let hit_t : HitsAt t = subst (λ y. Hits good cx low limit code deep t.at y) same.1 (subst (λ y. Hits good cx low limit code deep y j) same.0 hit) in
            let e : rank cx limit code deep p j ≡ RankAt t = ap₂ (rank cx limit code deep) same.0 same.1 in
            subst (λ (r : ℕ). Covered r j (front ++ next) found') (sym e)
            (subst (λ (i : ℕ). Covered (RankAt t) i (front ++ next) found') (sym same.1) (covered_over (RankAt t) t.place front next found' past (new hit_t)))
      ]

  -- where the pair of a thread is answered for, one before it hits, which answers for all that the thread would
  covered_seen : (r i : ℕ) (front : List Thread) (t : Thread) (back : List Thread) (found : Option State)
      → Covered r i (front ++ t ∷ back) found → Covered (RankAt t) t.place (front ++ t ∷ back) found → Covered r i (front ++ back) found
  covered_seen r i [] t back found h own = absurd (not_past_own t own.0)
  covered_seen r i (f ∷ front) t back found h own = (
    h.0,
    elim h.1 [
      | inl hit ↦ inl hit
      | inr rest ↦ elim own.1 [
        | inl hit ↦ inl hit
        | inr under ↦ inr (covered_seen r i front t back found rest under)
      ]
    ],
  )

  module _ (kept : ℕ) (goal : Option State) where
    -- the first accepted outcome of threads
    abbrev first_in : List Thread → Option State
    first_in ts = first_accepted (ends_well good) (pending cx limit code deep kept ts)

    abbrev first_of : Thread → Option State
    first_of t = first_accepted (ends_well good) (events_of (thread_run cx limit code deep kept t))

    first_cons : (t : Thread) (ts : List Thread) → first_in (t ∷ ts) ≡ option_or (first_of t) (first_in ts)
    first_cons t ts = first_or (ends_well good) (events_of (thread_run cx limit code deep kept t)) (pending cx limit code deep kept ts)

    first_append : (ts us : List Thread) → first_in (ts ++ us) ≡ option_or (first_in ts) (first_in us)
    first_append [] us = refl
    first_append (t ∷ ts) us =
        first_cons t (ts ++ us) ∙ ap (option_or (first_of t)) (first_append ts us)
        ∙ sym (or_assoc (first_of t) (first_in ts) (first_in us)) ∙ ap (λ (o : Option State). option_or o (first_in us)) (sym (first_cons t ts))

    -- what comes after some threads is changed, and answers the same
    same_answer : (front a b : List Thread) (f g : Option State) → option_or (first_in a) f ≡ option_or (first_in b) g → option_or (first_in (front ++ a)) f ≡ option_or (first_in (front ++ b)) g
    same_answer front a b f g e =
        ap (λ (o : Option State). option_or o f) (first_append front a) ∙ or_assoc (first_in front) (first_in a) f
        ∙ ap (option_or (first_in front)) e
        ∙ sym (or_assoc (first_in front) (first_in b) g) ∙ ap (λ (o : Option State). option_or o g) (sym (first_append front b))

    -- threads after others are known, and others in their place are
    all_behind : (front a b : List Thread) → (AllKnown cx limit code deep kept a → AllKnown cx limit code deep kept b)
        → AllKnown cx limit code deep kept (front ++ a) → AllKnown cx limit code deep kept (front ++ b)
    all_behind [] a b change all = change all
    all_behind (t ∷ front) a b change all = (all.0, all_behind front a b change all.1)

    all_back : (front a : List Thread) → AllKnown cx limit code deep kept (front ++ a) → AllKnown cx limit code deep kept a
    all_back [] a all = all
    all_back (t ∷ front) a all = all_back front a all.1

    abbrev Sweep : Marks → List Thread → Option State → Type 0
    Sweep table ts found = Sweeping good cx low limit code deep kept goal table ts found

    -- the thread between the others is known
    pub sweep_known : (table : Marks) (front : List Thread) (t : Thread) (back : List Thread) (found : Option State) → Sweep table (front ++ t ∷ back) found
        → Known cx limit code deep kept t
    sweep_known table front t back found s = (all_back front (t ∷ back) s.all).0

    -- a thread without an accepted outcome is left out
    drop_thread : (table table' : Marks) (front : List Thread) (t : Thread) (back : List Thread) (found : Option State) → Sweep table (front ++ t ∷ back) found
        → Adds good cx low limit code easy deep table table' t.at t.place → AllPast t.place front → is_some (first_of t) ≡ false → Sweep table' (front ++ back) found
    drop_thread table table' front t back found s adds past none =
        let never : HitsAt t → ⊥ = λ h. true≢false (sym h ∙ sym (hits_is good cx low limit code easy deep kept t) ∙ none) in
        record {
          all = all_behind front (t ∷ back) back (λ all. all.1) s.all;
          answer = same_answer front back (t ∷ back) found found (ap (λ (o : Option State). option_or o found) (sym (first_cons t back ∙ none_over (first_of t) (first_in back) none))) ∙ s.answer;
          covers = covers_next table table' front t back back found found adds past s.covers
              (λ r i at h. elim h [ inl hit ↦ absurd (never hit) | inr rest ↦ rest ]) (λ hit. absurd (never hit));
        }

    pub sweep_dead : (table table' : Marks) (front : List Thread) (t : Thread) (back : List Thread) (found : Option State) → Sweep table (front ++ t ∷ back) found
        → Adds good cx low limit code easy deep table table' t.at t.place → AllPast t.place front → events_of (thread_run cx limit code deep kept t) ≡ []
        → Sweep table' (front ++ back) found
    sweep_dead table table' front t back found s adds past e =
        drop_thread table table' front t back found s adds past (ap (λ (x : List Event). is_some (first_accepted (ends_well good) x)) e)

    pub sweep_bad : (table table' : Marks) (front : List Thread) (t : Thread) (back : List Thread) (found : Option State) → Sweep table (front ++ t ∷ back) found
        → Adds good cx low limit code easy deep table table' t.at t.place → AllPast t.place front
        → events_of (thread_run cx limit code deep kept t) ≡ outcome (state_of kept t) ∷ [] → good t.place ≡ false → Sweep table' (front ++ back) found
    sweep_bad table table' front t back found s adds past e bad =
        drop_thread table table' front t back found s adds past
        (ap (λ (x : List Event). is_some (first_accepted (ends_well good) x)) e ∙ ap (λ (c : Bool). is_some (if c then Some (state_of kept t) else None)) bad)

    hits_before : (t : Thread) (front back : List Thread) (found : Option State) → Covered (RankAt t) t.place (front ++ t ∷ back) found → is_some (first_in front) ≡ true
    hits_before t [] back found own = absurd (not_past_own t own.0)
    hits_before t (f ∷ front) back found own = ap is_some (first_cons f front) ∙ by (first_of f) (elim own.1 [
      | inl hit ↦ inl (hits_is good cx low limit code easy deep kept f ∙ hit)
      | inr rest ↦ inr (hits_before t front back found rest)
    ]) where
      by : (o : Option State) → (is_some o ≡ true) ⊎ (is_some (first_in front) ≡ true) → is_some (option_or o (first_in front)) ≡ true
      by None h = elim h [ inl e ↦ absurd (true≢false (sym e)) | inr e ↦ e ]
      by (Some s) h = refl

    -- a pair that was marked before gives nothing that none before it gives
    pub sweep_seen : (table : Marks) (front : List Thread) (t : Thread) (back : List Thread) (found : Option State) → Sweep table (front ++ t ∷ back) found
        → AllPast t.place front → WasVisited good cx low limit code deep table t.at t.place → Sweep table (front ++ back) found
    sweep_seen table front t back found s past seen = by (is_some (first_of t)) refl where
      by : (b : Bool) → is_some (first_of t) ≡ b → Sweep table (front ++ back) found
      by false none = drop_thread table table front t back found s (λ p j h. inl h) past none
      by true some =
          let own = s.covers t.at t.place seen (sym (hits_is good cx low limit code easy deep kept t) ∙ some) in
          let first = hits_before t front back found own in
          record {
            all = all_behind front (t ∷ back) back (λ all. all.1) s.all;
            answer = ap (λ (o : Option State). option_or o found) (first_append front back ∙ some_stays (first_in front) (first_in back) first
                ∙ sym (some_stays (first_in front) (first_in (t ∷ back)) first) ∙ sym (first_append front (t ∷ back))) ∙ s.answer;
            covers = λ p j h hit. covered_seen (rank cx limit code deep p j) j front t back found (s.covers p j h hit) own;
          }

    -- an accepted outcome stands for all that came after
    pub sweep_found : (table table' : Marks) (front : List Thread) (t : Thread) (back : List Thread) (found : Option State) → Sweep table (front ++ t ∷ back) found
        → Adds good cx low limit code easy deep table table' t.at t.place → AllPast t.place front
        → events_of (thread_run cx limit code deep kept t) ≡ outcome (state_of kept t) ∷ [] → good t.place ≡ true → Sweep table' front (Some (state_of kept t))
    sweep_found table table' front t back found s adds past e fine =
        let none : front ++ [] ≡ front = append_nothing front in
        let one : first_of t ≡ Some (state_of kept t) =
        ap (first_accepted (ends_well good)) e ∙ ap (λ (c : Bool). if c then Some (state_of kept t) else None) fine in
        subst (λ (ts : List Thread). Sweep table' ts (Some (state_of kept t))) none
        (record {
          all = all_behind front (t ∷ back) [] (λ all. tt) s.all;
          answer = same_answer front [] (t ∷ back) (Some (state_of kept t)) found
              (sym (ap (λ (o : Option State). option_or o found) (first_cons t back ∙ ap (λ (o : Option State). option_or o (first_in back)) one))) ∙ s.answer;
          covers = covers_next table table' front t back [] found (Some (state_of kept t)) adds past s.covers
              (λ r i at h. elim at [ inl beyond ↦ omega (arith, beyond) | inr here ↦ omega (arith, here.0) ]) (λ hit. omega arith);
        }) where
          append_nothing : (ts : List Thread) → ts ++ [] ≡ ts
          append_nothing [] = refl
          append_nothing (u ∷ ts) = ap (λ (x : List Thread). u ∷ x) (append_nothing ts)

    -- a step on
    pub sweep_on : (table table' : Marks) (front : List Thread) (t u : Thread) (ts us back : List Thread) (found : Option State) → Sweep table (front ++ t ∷ (ts ++ back)) found
        → Adds good cx low limit code easy deep table table' t.at t.place → AllPast t.place front
        → Stepped cx limit code deep kept On t ts u us → t.place ≤ u.place → Sweep table' (front ++ u ∷ (us ++ back)) found
    sweep_on table table' front t u ts us back found s adds past stepped forth =
        elim stepped [
          | inl went ↦
              let hit : HitsAt t → HitsAt u = λ h. sym (hits_is good cx low limit code easy deep kept u) ∙ sym (ap is_some (went.0.1 (ends_well good))) ∙ hits_is good cx low limit code easy deep kept t ∙ h in
              let lower : RankAt u < RankAt t = omega (arith, went.0.2, rank_is good cx low limit code easy deep kept t, rank_is good cx low limit code easy deep kept u) in
              let rest = ts ++ back in
              let alike : first_in (u ∷ rest) ≡ first_in (t ∷ rest) =
              first_cons u rest ∙ ap (λ (o : Option State). option_or o (first_in rest)) (sym (went.0.1 (ends_well good))) ∙ sym (first_cons t rest) in
              subst (λ (x : List Thread). Sweep table' (front ++ u ∷ (x ++ back)) found) (sym went.1)
              (record {
                all = all_behind front (t ∷ rest) (u ∷ rest) (λ all. (went.0.0, all.1)) s.all;
                answer = same_answer front (u ∷ rest) (t ∷ rest) found found (ap (λ (o : Option State). option_or o found) alike) ∙ s.answer;
                covers = covers_next table table' front t rest (u ∷ rest) found found adds past s.covers
                    (λ r i at h. (past_step r i t u at forth lower, elim h [ inl x ↦ inl (hit x) | inr x ↦ inr x ]))
                    (λ x. (past_own t u forth lower, inl (hit x)));
              })
          | inr parted ↦
              let b = parted.0 in
              let rest = ts ++ back in
              let eu = events_of (thread_run cx limit code deep kept u) in
              let eb = events_of (thread_run cx limit code deep kept b) in
              let hit : HitsAt t → HitsAt u ⊎ HitsAt b = λ h.
              elim (or_cases _ _ (sym (ap (λ (x : List Event). is_some (first_accepted (ends_well good) x)) parted.1.2 ∙ choice_some (ends_well good) eu eb) ∙ hits_is good cx low limit code easy deep kept t ∙ h)) [
                | inl x ↦ inl (sym (hits_is good cx low limit code easy deep kept u) ∙ x)
                | inr x ↦ inr (sym (hits_is good cx low limit code easy deep kept b) ∙ x)
              ] in
              let low_u : RankAt u < RankAt t = omega (arith, parted.1.3, rank_is good cx low limit code easy deep kept t, rank_is good cx low limit code easy deep kept u, rank_is good cx low limit code easy deep kept b) in
              let low_b : RankAt b < RankAt t = omega (arith, parted.1.3, rank_is good cx low limit code easy deep kept t, rank_is good cx low limit code easy deep kept u, rank_is good cx low limit code easy deep kept b) in
              let still : t.place ≤ b.place = omega (arith, parted.1.4) in
              let both : first_of t ≡ option_or (first_of u) (first_of b) =
              ap (first_accepted (ends_well good)) parted.1.2 ∙ first_or (ends_well good) eu (return ∷ eb) in
              let alike : first_in (u ∷ b ∷ rest) ≡ first_in (t ∷ rest) =
              first_cons u (b ∷ rest) ∙ ap (option_or (first_of u)) (first_cons b rest) ∙ sym (or_assoc (first_of u) (first_of b) (first_in rest))
              ∙ ap (λ (o : Option State). option_or o (first_in rest)) (sym both) ∙ sym (first_cons t rest) in
              subst (λ (x : List Thread). Sweep table' (front ++ u ∷ (x ++ back)) found) (sym parted.2)
              (record {
                all = all_behind front (t ∷ rest) (u ∷ b ∷ rest) (λ all. (parted.1.0, (parted.1.1, all.1))) s.all;
                answer = same_answer front (u ∷ b ∷ rest) (t ∷ rest) found found (ap (λ (o : Option State). option_or o found) alike) ∙ s.answer;
                covers = covers_next table table' front t rest (u ∷ b ∷ rest) found found adds past s.covers
                    (λ r i at h. (
                      past_step r i t u at forth low_u,
                      elim h [
                        | inl x ↦ elim (hit x) [ inl y ↦ inl y | inr y ↦ inr (past_step r i t b at still low_b, inl y) ]
                        | inr x ↦ inr (past_step r i t b at still low_b, inr x)
                      ],
                    ))
                    (λ x. (past_own t u forth low_u, elim (hit x) [ inl y ↦ inl y | inr y ↦ inr (past_own t b still low_b, inl y) ]));
              })
        ]

    -- a sweep begins with the threads that the runner has before it
    from_below : (r i : ℕ) (ts : List Thread) → HitsBelow good cx low limit code deep r i ts → Covered r i ts None
    from_below r i [] h = h
    from_below r i (t ∷ ts) h = (
      elim (cases_lt i t.place) [
        | inl beyond ↦ inl beyond
        | inr still ↦ inr (omega (arith, still, h.1), h.0)
      ],
      elim h.2 [ inl hit ↦ inl hit | inr rest ↦ inr (from_below r i ts rest) ],
    )

    pub sweep_first : (table : Marks) (t : Thread) (ts : List Thread) → Running good cx low limit code deep kept goal table t ts → Sweep table (t ∷ ts) None
    sweep_first table t ts r = record {
      all = (r.known, r.all);
      answer = or_nothing (first_in (t ∷ ts)) ∙ r.answer;
      covers = λ q i seen hit. from_below (rank cx limit code deep q i) i (t ∷ ts) (r.covers q i seen hit);
    }

    -- what was marked where no thread is left
    pub sweep_failed : (table : Marks) → Sweep table [] None → AllFailed good cx low limit code deep table
    sweep_failed table s q i seen hit = s.covers q i seen hit

    pub sweep_past : (table : Marks) (state : State) → Sweep table [] (Some state) → FailedPast good cx low limit code deep state.place table
    sweep_past table state s q i seen past hit = let h : i ≤ state.place = s.covers q i seen hit in absurd (omega (arith, past, h))
