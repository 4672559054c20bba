-- The runner, which follows each pair of an instruction with a mark and a place once.
use Rattle.std.proofs.Common.{◌≡◌, ℕ, ◌+◌, ◌-◌, ◌<◌, ◌≤◌, ◌⊎◌, Bool, true, false, List, [], ◌∷◌, ◌++◌, Option, Some, None, refl, sym, ap, ap₂, ◌∙◌, subst, inl, inr, length, arith, append_assoc}
use Rattle.std.proofs.lemmas.List.{append-nil}
use Rattle.std.specs.Prelude.{if◌then◌else◌, ◌||◌, is_some}
use Rattle.std.specs.Option.{option_or}
use Rattle.std.proofs.lemmas.Bool.{or_cases, false_from_ne_true, true≢false}
use Rattle.fancy_code.specs.Instructions.{Instruction}
use Rattle.fancy_code.specs.declared.step.Next.TheVariants.{On}
use Rattle.fancy_meaning.specs.Context.{Context, State}
use Rattle.fancy_meaning.specs.Events.{Event, mark, return, outcome, either}
use Rattle.fancy_code.specs.Marking.{Marks}
use Rattle.fancy_code.specs.Thread.{Thread, starts_of, state_of}
use Rattle.fancy_code.specs.Thread.{events_of, size_of, Known, thread_run, first_accepted, ends_well, pair_run, rank}
use Rattle.fancy_runner.specs.Runner.{AllKnown, Grown, pending, Stepped, AllWithin, WasVisited, Hits, HitsBelow, Covers, AllFailed, FailedPast, Resting, Running}
use Rattle.fancy_code.specs.Compile.{AreEasy}
use Rattle.fancy_code.proofs.EasyCode.{run_both}
use Rattle.fancy_runner.proofs.Hits.{both_size, both_hits}

pub grown_length : (p : ℕ) (ts us : List Thread) → Grown p ts us → length us ≤ length ts + 1
grown_length p ts us (inl same) = omega (arith, ap length same)
grown_length p ts us (inr (b, at, more)) = omega (arith, ap length more)

-- threads that stand from a place on stand from an earlier one on
pub within_lower : (base low last : ℕ) (ts : List Thread) → base ≤ low → AllWithin low last ts → AllWithin base last ts
within_lower base low last [] le w = tt
within_lower base low last (t ∷ ts) le w = (omega (arith, le, w.0), w.1, within_lower base low last ts le w.2)

-- the first accepted outcome of two parts
pub first_or : (ok : State → Bool) (a b : List Event) → first_accepted ok (a ++ b) ≡ option_or (first_accepted ok a) (first_accepted ok b)
first_or ok [] b = refl
first_or ok (mark ∷ a) b = first_or ok a b
first_or ok (return ∷ a) b = first_or ok a b
first_or ok (outcome s ∷ a) b = at (ok s) (first_or ok a b) where
  at : (c : Bool) → first_accepted ok (a ++ b) ≡ option_or (first_accepted ok a) (first_accepted ok b)
      → (if c then Some s else (first_accepted ok (a ++ b))) ≡ option_or (if c then Some s else (first_accepted ok a)) (first_accepted ok b)
  at true e = refl
  at false e = e

some_or : (a b : Option State) → is_some (option_or a b) ≡ is_some a || is_some b
some_or None b = refl
some_or (Some x) b = refl

none_or : (a b : Option State) → is_some a ≡ false → option_or a b ≡ b
none_or None b e = refl
none_or (Some x) b e = absurd (true≢false e)

pub choice_some : (ok : State → Bool) (a b : List Event) → is_some (first_accepted ok (either a b)) ≡ is_some (first_accepted ok a) || is_some (first_accepted ok b)
choice_some ok a b = ap is_some (first_or ok a (return ∷ b)) ∙ some_or (first_accepted ok a) (first_accepted ok b)

module _ (good : ℕ → Bool) (cx : Context) (low limit : ℕ) (code : List Instruction) (easy : AreEasy code) (deep : ℕ) where
  -- a thread is as good as its pair
  pub rank_is : (kept : ℕ) (t : Thread) → size_of (thread_run cx limit code deep kept t) ≡ rank cx limit code deep t.at t.place
  rank_is kept t = both_size _ _ (run_both cx limit code easy deep t.at (state_of kept t) (record { place = t.place; captures = []; kept = 0 }) (starts_of t) [] refl)

  pub hits_is : (kept : ℕ) (t : Thread) → is_some (first_accepted (ends_well good) (events_of (thread_run cx limit code deep kept t)))
      ≡ is_some (first_accepted (ends_well good) (events_of (pair_run cx limit code deep t.at t.place)))
  hits_is kept t =
      both_hits (ends_well good) (λ s r e. ap good e) _ _
      (run_both cx limit code easy deep t.at (state_of kept t) (record { place = t.place; captures = []; kept = 0 }) (starts_of t) [] refl)

  abbrev HitsAt : Thread → Type 0
  HitsAt t = Hits good cx low limit code deep t.at t.place

  abbrev Below : ℕ → ℕ → List Thread → Type 0
  Below r i ts = HitsBelow good cx low limit code deep r i ts

  abbrev RankAt : Thread → ℕ
  RankAt t = rank cx limit code deep t.at t.place

  -- the table has one more pair
  abbrev pub Adds : Marks → Marks → ℕ → ℕ → Type 0
  Adds table table' q i = (p j : ℕ) → WasVisited good cx low limit code deep table' p j → WasVisited good cx low limit code deep table p j ⊎ ((p ≡ q) × (j ≡ i))

  covers_next : (table table' : Marks) (t : Thread) (ts next : List Thread) → Adds table table' t.at t.place → Covers good cx low limit code deep table (t ∷ ts)
      → ((r i : ℕ) → RankAt t < r + 1 → i ≤ t.place → HitsAt t → Below r i next)
      → ((r i : ℕ) → RankAt t < r → i ≤ t.place → Below r i ts → Below r i next)
      → Covers good cx low limit code deep table' next
  covers_next table table' t ts next adds covers top below p j seen hit =
      elim (adds p j seen) [
        | inl old ↦
            let h = covers p j old hit in
            elim h.2 [
              | inl here ↦ let lt : RankAt t < rank cx limit code deep p j = h.0 in top (rank cx limit code deep p j) j (omega arith) h.1 here
              | inr under ↦ below (rank cx limit code deep p j) j h.0 h.1 under
            ]
        | inr same ↦
            let e : rank cx limit code deep p j ≡ RankAt t = ap₂ (rank cx limit code deep) same.0 same.1 in
            top (rank cx limit code deep p j) j (omega arith) (omega (arith, same.1)) (subst (λ x. Hits good cx low limit code deep t.at x) same.1 (subst (λ x. Hits good cx low limit code deep x j) same.0 hit))
      ]

  pub same_table : (table : Marks) (q i : ℕ) → Adds table table q i
  same_table table q i p j seen = inl seen

  module _ (kept : ℕ) (goal : Option State) where
    -- a thread without an accepted outcome is dropped
    rest_of : (table table' : Marks) (t : Thread) (ts : List Thread) → Running good cx low limit code deep kept goal table t ts → Adds table table' t.at t.place
        → is_some (first_accepted (ends_well good) (events_of (thread_run cx limit code deep kept t))) ≡ false → Resting good cx low limit code deep kept goal table' ts
    rest_of table table' t ts r adds none =
        let never : HitsAt t → ⊥ = λ h. true≢false (sym h ∙ sym (hits_is kept t) ∙ none) in
        record {
          all = r.all;
          answer = sym (first_or (ends_well good) (events_of (thread_run cx limit code deep kept t)) (pending cx limit code deep kept ts) ∙ none_or _ _ none) ∙ r.answer;
          covers = covers_next table table' t ts ts adds r.covers (λ n i lt at h. absurd (never h)) (λ n i lt at h. h);
        }

    -- a pair that was visited before has no accepted outcome
    pub run_seen : (table : Marks) (t : Thread) (ts : List Thread) → Running good cx low limit code deep kept goal table t ts
        → WasVisited good cx low limit code deep table t.at t.place → Resting good cx low limit code deep kept goal table ts
    run_seen table t ts r seen =
        rest_of table table t ts r (same_table table t.at t.place)
        (false_from_ne_true _ (λ e. let h = r.covers t.at t.place seen (sym (hits_is kept t) ∙ e) in let lt : RankAt t < RankAt t = h.0 in absurd (omega arith)))

    pub run_dead : (table table' : Marks) (t : Thread) (ts : List Thread) → Running good cx low limit code deep kept goal table t ts → Adds table table' t.at t.place
        → events_of (thread_run cx limit code deep kept t) ≡ [] → Resting good cx low limit code deep kept goal table' ts
    run_dead table table' t ts r adds e = rest_of table table' t ts r adds (ap (λ (x : List Event). is_some (first_accepted (ends_well good) x)) e)

    pub run_bad : (table table' : Marks) (t : Thread) (ts : List Thread) → Running good cx low limit code deep kept goal table t ts → Adds table table' t.at t.place
        → events_of (thread_run cx limit code deep kept t) ≡ outcome (state_of kept t) ∷ [] → good t.place ≡ false → Resting good cx low limit code deep kept goal table' ts
    run_bad table table' t ts r adds e bad =
        rest_of table table' t ts r adds
        (ap (λ (x : List Event). is_some (first_accepted (ends_well good) x)) e ∙ ap (λ (c : Bool). is_some (if c then Some (state_of kept t) else None)) bad)

    -- where an outcome is accepted, the marked pairs past it have failed
    pub past_found : (table table' : Marks) (t : Thread) (ts : List Thread) → Running good cx low limit code deep kept goal table t ts → Adds table table' t.at t.place
        → FailedPast good cx low limit code deep t.place table'
    past_found table table' t ts r adds p j seen past hit =
        elim (adds p j seen) [
          | inl old ↦ let h = r.covers p j old hit in absurd (omega (arith, past, h.1))
          | inr same ↦ absurd (omega (arith, past, same.1))
        ]

    pub run_good : (table : Marks) (t : Thread) (ts : List Thread) → Running good cx low limit code deep kept goal table t ts
        → events_of (thread_run cx limit code deep kept t) ≡ outcome (state_of kept t) ∷ [] → good t.place ≡ true → Some (state_of kept t) ≡ goal
    run_good table t ts r e fine =
        let p = pending cx limit code deep kept ts in
        sym (ap (λ (x : List Event). first_accepted (ends_well good) (x ++ p)) e
        ∙ ap (λ (c : Bool). if c then Some (state_of kept t) else (first_accepted (ends_well good) p)) fine) ∙ r.answer

    pub run_on : (table table' : Marks) (t u : Thread) (ts us : List Thread) → Running good cx low limit code deep kept goal table t ts → Adds table table' t.at t.place
        → Stepped cx limit code deep kept On t ts u us → t.place ≤ u.place → Running good cx low limit code deep kept goal table' u us
    run_on table table' t u ts us r adds stepped forth =
        elim stepped [
          | inl went ↦
              let et = events_of (thread_run cx limit code deep kept t) in
              let eu = events_of (thread_run cx limit code deep kept u) in
              let p = pending cx limit code deep kept ts in
              let e : first_accepted (ends_well good) (et ++ p) ≡ first_accepted (ends_well good) (eu ++ pending cx limit code deep kept us) =
              first_or (ends_well good) et p
              ∙ ap (λ (o : Option State). option_or o (first_accepted (ends_well good) p)) (went.0.1 (ends_well good))
              ∙ sym (first_or (ends_well good) eu p)
              ∙ ap (λ (x : List Thread). first_accepted (ends_well good) (eu ++ pending cx limit code deep kept x)) (sym went.1) in
              let hit : HitsAt t → HitsAt u = λ h. sym (hits_is kept u) ∙ sym (ap is_some (went.0.1 (ends_well good))) ∙ hits_is kept t ∙ h in
              let lower : RankAt u < RankAt t = omega (arith, went.0.2, rank_is kept t, rank_is kept u) in
              record {
                known = went.0.0;
                all = subst (AllKnown cx limit code deep kept) (sym went.1) r.all;
                answer = sym e ∙ r.answer;
                covers = subst (λ (x : List Thread). Covers good cx low limit code deep table' (u ∷ x)) (sym went.1)
                    (covers_next table table' t ts (u ∷ ts) adds r.covers
                    (λ n i lt at h. (omega (arith, lower), omega (arith, at, forth), inl (hit h))) (λ n i lt at h. (omega (arith, lower), omega (arith, at, forth), inr h)));
              }
          | inr parted ↦
              let b = parted.0 in
              let eu = events_of (thread_run cx limit code deep kept u) in
              let eb = events_of (thread_run cx limit code deep kept b) in
              let p = pending cx limit code deep kept ts in
              let e : first_accepted (ends_well good) (events_of (thread_run cx limit code deep kept t) ++ p) ≡ first_accepted (ends_well good) (eu ++ pending cx limit code deep kept us) =
              ap (λ (x : List Event). first_accepted (ends_well good) (x ++ p)) parted.1.2
              ∙ ap (λ (x : List Event). first_accepted (ends_well good) (mark ∷ x)) (append_assoc eu (return ∷ eb) p)
              ∙ ap (λ (x : List Thread). first_accepted (ends_well good) (eu ++ pending cx limit code deep kept x)) (sym parted.2) in
              let hit : HitsAt t → HitsAt u ⊎ HitsAt b = λ h.
              elim (or_cases _ _ (sym (ap (λ (x : List Event). is_some (first_accepted (ends_well good) x)) parted.1.2 ∙ choice_some (ends_well good) eu eb) ∙ hits_is kept t ∙ h)) [
                | inl x ↦ inl (sym (hits_is kept u) ∙ x)
                | inr x ↦ inr (sym (hits_is kept b) ∙ x)
              ] in
              let low_u : RankAt u < RankAt t = omega (arith, parted.1.3, rank_is kept t, rank_is kept u, rank_is kept b) in
              let low_b : RankAt b < RankAt t = omega (arith, parted.1.3, rank_is kept t, rank_is kept u, rank_is kept b) in
              record {
                known = parted.1.0;
                all = subst (AllKnown cx limit code deep kept) (sym parted.2) (parted.1.1, r.all);
                answer = sym e ∙ r.answer;
                covers = subst (λ (x : List Thread). Covers good cx low limit code deep table' (u ∷ x)) (sym parted.2)
                    (covers_next table table' t ts (u ∷ b ∷ ts) adds r.covers
                    (λ n i lt at h. (omega (arith, low_u), omega (arith, at, forth), elim (hit h) [ inl x ↦ inl x | inr x ↦ inr (omega (arith, low_b), omega (arith, at, parted.1.4), inl x) ]))
                    (λ n i lt at h. (omega (arith, low_u), omega (arith, at, forth), inr (omega (arith, low_b), omega (arith, at, parted.1.4), inr h))));
              }
        ]

    pub rest_done : (table : Marks) → Resting good cx low limit code deep kept goal table [] → (None ≡ goal) × AllFailed good cx low limit code deep table
    rest_done table r = (r.answer, λ q i seen hit. r.covers q i seen hit)

    pub rest_back : (table : Marks) (b : Thread) (ts : List Thread) → Resting good cx low limit code deep kept goal table (b ∷ ts) → Running good cx low limit code deep kept goal table b ts
    rest_back table b ts r = record { known = r.all.0; all = r.all.1; answer = r.answer; covers = r.covers }

  pub run_first : (kept : ℕ) (table : Marks) (t : Thread) → Known cx limit code deep kept t → AllFailed good cx low limit code deep table
      → Running good cx low limit code deep kept (first_accepted (ends_well good) (events_of (thread_run cx limit code deep kept t))) table t []
  run_first kept table t known failed =
      record {
        known = known;
        all = tt;
        answer = ap (first_accepted (ends_well good)) (append-nil (events_of (thread_run cx limit code deep kept t)));
        covers = λ q i seen hit. absurd (failed q i seen hit);
      }

  -- one more mark, by its row in a table that begins at `base`
  pub adds_mark : (base : ℕ) (table after : ℕ → ℕ → Bool) (q i : ℕ) → base ≤ low → base ≤ i
      → ((p row : ℕ) → after p row ≡ true → (table p row ≡ true) ⊎ ((p ≡ q) × (row ≡ i - base)))
      → Adds (λ p j. table p (j - base)) (λ p j. after p (j - base)) q i
  adds_mark base table after q i begins here adds p j h =
      elim (adds p (j - base) h.1) [
        | inl old ↦ inl (h.0, old)
        | inr new ↦ inr (new.0, omega (arith, h.0.1, begins, here, new.1))
      ]
