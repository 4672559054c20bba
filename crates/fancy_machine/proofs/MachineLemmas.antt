-- What an attempt still has before it.
use Rattle.std.proofs.Common.{◌≡◌, ℕ, suc, ◌+◌, ◌-◌, ◌<◌, ◌≤◌, Bool, true, false, List, [], ◌∷◌, Option, Some, None, refl, sym, ap, ap₂, ◌∙◌, subst, inl, inr, arith, length, not, ◌&&◌}
use Rattle.std.specs.Prelude.{if◌then◌else◌, Result, Ok, Err, IfOk, OnOk}
use Rattle.fancy_code.specs.declared.step.Next.TheVariants.{On, Dead, Found}
use Rattle.fancy_meaning.specs.Context.{State}
use Rattle.fancy_code.specs.Run.{Raw, Note, Stop, fetched, Go, erase}
use Rattle.fancy_trail.specs.Frames.{Spot, Frame, Held, saved}
use Rattle.fancy_code.specs.Thread.{size_of, IsKnown, events_of}
use Rattle.fancy_trail.specs.Ways.{IsSpent, Takes, TookBranch}
use Rattle.fancy_trail.specs.Left.{left, after, finish, IsStep}
use Rattle.fancy_machine.specs.Machine.{Crowded, Turned, Fewer, Searching, taken_outcome, final, returns_to, marks_to}
use Rattle.fancy_trail.specs.Best.{better}
use Rattle.fancy_input.specs.declared.work.Work.{Work}
use Rattle.fancy_input.specs.declared.refusal.SearchRefusal.{SearchRefusal}
use Rattle.fancy_input.specs.declared.refusal.SearchRefusal.TheVariants.{Memory, Returns, Choices, Steps}
use Rattle.fancy_input.specs.Work.{returns_of}
use Rattle.fancy_code.specs.declared.step.Next.{Next}
use Rattle.fancy_machine.specs.declared.attempt.Attempt.{Attempt}
use Rattle.fancy_machine.specs.Attempt.{Advanced, BackTakes, GoesBack, PassesBack, IsFull, Seeks, SeeksBack, TurnsTo, accepts, code_in, size_ahead}
use Rattle.fancy_trail.proofs.Closing.{finish_back, finish_spent, finish_unspent, saved_taken}

module _ (go : ℕ → Go) (longest : Bool) (ok : State → Bool) (best : Option State) (w : List Raw) (x : Spot) (fs : List Frame) (y : Spot) (gs : List Frame) where
  pub turn_on : IsStep go On w x fs y gs → Turned go longest ok On w best fs y best gs
  turn_on s =
      elim s.2 [
        | inl a ↦ (
          s.0,
          s.1,
          subst (λ (l : List Raw). Fewer longest ok best best l s.0 (saved fs) (saved gs)) (sym a.0)
              (record { answer = refl; count = refl; room = omega (arith, a.1); shorter = omega arith }),
        )
        | inr a ↦ (
          s.0,
          s.1,
          subst (λ (l : List Raw). Fewer longest ok best best l s.0 (saved fs) (saved gs)) (sym a.0)
              (record { answer = refl; count = refl; room = omega (arith, a.1); shorter = omega arith }),
        )
      ]

  pub turn_dead : IsStep go Dead w x fs y gs → Turned go longest ok Dead w best fs y best gs
  turn_dead s = (
    s.0,
    s.1,
    subst (λ (l : List Raw). Fewer longest ok best best l s.0 (saved fs) (saved gs)) (sym s.2)
        (record { answer = refl; count = refl; room = omega (arith, s.3); shorter = omega arith }),
  )

  not_final : ok y.state ≡ false → final longest ok y.state ≡ false
  not_final bad = ap (λ (c : Bool). c && not longest) bad

  -- an outcome that isn't accepted
  pub turn_bad : IsStep go Found w x fs y gs → ok y.state ≡ false → Turned go longest ok Dead w best fs y best gs
  turn_bad s bad = (
    s.0,
    s.2,
    subst (λ (l : List Raw). Fewer longest ok best best l s.0 (saved fs) (saved gs)) (sym s.3)
        (record {
          answer = ap (λ (c : Bool). if c then (if longest then taken_outcome longest ok (better best y.state) (erase s.0) else Some y.state) else taken_outcome longest ok best (erase s.0)) bad;
          count = ap (λ (c : Bool). if c then 0 else returns_to (final longest ok) (erase s.0)) (not_final bad);
          room = (let m : marks_to (final longest ok) (erase (Note fetched ∷ Stop s.1 y.state y.starts ∷ s.0)) ≡ marks_to (final longest ok) (erase s.0) =
              ap (λ (c : Bool). if c then 0 else marks_to (final longest ok) (erase s.0)) (not_final bad) in omega (arith, m, s.4));
          shorter = omega arith;
        }),
  )

  -- the first outcome that is accepted
  pub turn_found : IsStep go Found w x fs y gs → ok y.state ≡ true → longest ≡ false → Turned go longest ok Found w best fs y best gs
  turn_found s good first =
      subst (λ (l : List Raw). (taken_outcome longest ok best (erase l) ≡ Some y.state) × (returns_to (final longest ok) (erase l) ≡ 0)) (sym s.3) (
        ap₂ (λ (c d : Bool). if c then (if d then taken_outcome longest ok (better best y.state) (erase s.0) else Some y.state) else taken_outcome longest ok best (erase s.0)) good first,
        ap₂ (λ (c d : Bool). if (c && not d) then 0 else returns_to (final longest ok) (erase s.0)) good first,
      )

  -- one more outcome that is accepted, where all are asked for
  pub turn_more : (now : Option State) → IsStep go Found w x fs y gs → ok y.state ≡ true → longest ≡ true → now ≡ better best y.state → Turned go longest ok Dead w best fs y now gs
  turn_more now s good all is =
      let f : final longest ok y.state ≡ false = ap₂ (λ (c d : Bool). c && not d) good all in (
        s.0,
        s.2,
        subst (λ (l : List Raw). Fewer longest ok best now l s.0 (saved fs) (saved gs)) (sym s.3)
            (record {
              answer = ap₂ (λ (c d : Bool). if c then (if d then taken_outcome longest ok (better best y.state) (erase s.0) else Some y.state) else taken_outcome longest ok best (erase s.0)) good all
                  ∙ ap (λ (b : Option State). taken_outcome longest ok b (erase s.0)) (sym is);
              count = ap (λ (c : Bool). if c then 0 else returns_to (final longest ok) (erase s.0)) f;
              room = (let m : marks_to (final longest ok) (erase (Note fetched ∷ Stop s.1 y.state y.starts ∷ s.0)) ≡ marks_to (final longest ok) (erase s.0) =
                  ap (λ (c : Bool). if c then 0 else marks_to (final longest ok) (erase s.0)) f in omega (arith, m, s.4));
              shorter = omega arith;
            }),
      )

known_some : (o : Option (List Raw)) → IsKnown o → (w : List Raw) × (o ≡ Some w) × (events_of o ≡ erase w)
known_some None k = absurd k
known_some (Some w) k = (w, refl, refl)

module _ (go : ℕ → Go) (longest : Bool) (ok : State → Bool) where
  pub search_begins : (x : Spot) (r : ℕ) → IsKnown (after go x)
      → Searching longest ok (taken_outcome longest ok None (events_of (after go x))) (r + returns_to (final longest ok) (events_of (after go x)))
      (marks_to (final longest ok) (events_of (after go x))) (left go x []) [] None r
  search_begins x r k =
      let s = known_some (after go x) k in
      record {
        rest = s.0;
        known = s.1;
        answer = ap (taken_outcome longest ok None) (sym s.2);
        count = ap (λ (t : _). r + returns_to (final longest ok) t) (sym s.2);
        room = (let e : marks_to (final longest ok) (erase s.0) ≡ marks_to (final longest ok) (events_of (after go x)) = ap (marks_to (final longest ok)) (sym s.2) in omega (arith, e));
      }

  module _ (goal : Option State) (total choices : ℕ) (x : Spot) (fs : List Frame) (best : Option State) (r : ℕ) (s : Searching longest ok goal total choices (left go x fs) fs best r)
      (y : Spot) (gs : List Frame) (now : Option State) where
    pub search_on : Turned go longest ok On s.rest best fs y now gs → Searching longest ok goal total choices (left go y gs) gs now r
    search_on t = record {
      rest = t.0;
      known = t.1;
      answer = sym t.2.answer ∙ s.answer;
      count = omega (arith, t.2.count, s.count);
      room = omega (arith, t.2.room, s.room);
    }

    pub smaller_on : Turned go longest ok On s.rest best fs y now gs → size_of (left go y gs) < size_of (left go x fs)
    smaller_on t = let a = ap size_of t.1 in let b = ap size_of s.known in omega (arith, t.2.shorter, a, b)

    pub search_found : Turned go longest ok Found s.rest best fs y now gs → (Some y.state ≡ goal) × (r ≡ total)
    search_found t = (sym t.0 ∙ s.answer, omega (arith, t.1, s.count))

    pub search_dead : Turned go longest ok Dead s.rest best fs y now gs → Searching longest ok goal total choices (finish go gs (Some [])) gs now r
    search_dead t = record {
      rest = t.0;
      known = t.1;
      answer = sym t.2.answer ∙ s.answer;
      count = omega (arith, t.2.count, s.count);
      room = omega (arith, t.2.room, s.room);
    }

    pub smaller_dead : Turned go longest ok Dead s.rest best fs y now gs → size_of (finish go gs (Some [])) < size_of (left go x fs)
    smaller_dead t = let a = ap size_of t.1 in let b = ap size_of s.known in omega (arith, t.2.shorter, a, b)

  -- the way is dead
  module _ (goal : Option State) (total choices : ℕ) (gs : List Frame) (now : Option State) (r : ℕ) (s : Searching longest ok goal total choices (finish go gs (Some [])) gs now r) where
    pub search_back : (z : Spot) (hs : List Frame) → Takes gs z hs → Searching longest ok goal total choices (left go z hs) hs now (r + 1)
    search_back z hs k =
        let b = finish_back go gs hs z s.rest s.known k in
        let e = ap erase b.2 in
        let c : returns_to (final longest ok) (erase s.rest) ≡ suc (returns_to (final longest ok) (erase b.0)) = ap (returns_to (final longest ok)) e in
        let m : marks_to (final longest ok) (erase s.rest) ≡ marks_to (final longest ok) (erase b.0) = ap (marks_to (final longest ok)) e in
        record {
          rest = b.0;
          known = b.1;
          answer = sym (ap (taken_outcome longest ok now) e) ∙ s.answer;
          count = omega (arith, s.count, c);
          room = omega (arith, s.room, m, saved_taken gs hs z k);
        }

    pub smaller_back : (z : Spot) (hs : List Frame) → Takes gs z hs → size_of (left go z hs) < size_of (finish go gs (Some []))
    smaller_back z hs k =
        let b = finish_back go gs hs z s.rest s.known k in
        let c : length s.rest ≡ suc (length b.0) = ap length b.2 in
        let d = ap size_of b.1 in
        let e = ap size_of s.known in
        omega (arith, c, d, e)

    pub search_end : IsSpent gs → (now ≡ goal) × (r ≡ total)
    search_end k =
        let e = ap erase (finish_spent go gs s.rest s.known k) in
        let c : returns_to (final longest ok) (erase s.rest) ≡ 0 = ap (returns_to (final longest ok)) e in
        (sym (ap (taken_outcome longest ok now) e) ∙ s.answer, omega (arith, s.count, c))

    pub search_refused : (IsSpent gs → ⊥) → r < total
    search_refused k =
        let b = finish_unspent go gs s.rest s.known k in
        let c : returns_to (final longest ok) (erase s.rest) ≡ suc (returns_to (final longest ok) (erase b.0)) = ap (λ (l : List Raw). returns_to (final longest ok) (erase l)) b.1 in
        omega (arith, s.count, c)

  pub search_crowded : (most : ℕ) (goal : Option State) (total choices : ℕ) (x : Spot) (fs : List Frame) (best : Option State) (r : ℕ)
      (s : Searching longest ok goal total choices (left go x fs) fs best r) → Crowded most s.rest fs → most < choices
  search_crowded most goal total choices x fs best r s k =
      let m : marks_to (final longest ok) (erase s.rest) ≡ suc (marks_to (final longest ok) (erase k.1)) = ap (λ (l : List Raw). marks_to (final longest ok) (erase l)) k.2 in
      omega (arith, s.room, k.0, m)

pub backed_err : (e : SearchRefusal) (limit : ℕ) (old new : Held) (before after : Work) → TookBranch (Err e) limit old new before after
    → (IsSpent old.frames → ⊥) × (returns_of before ≡ limit) × (after ≡ before)
backed_err Memory limit old new before after b = absurd b
backed_err Choices limit old new before after b = absurd b
backed_err Steps limit old new before after b = absurd b
backed_err Returns limit old new before after b = b

-- what is told of what there is, if there is an answer
pub told_ok : {A E : Type 0} {P Q : A → Type 0} (o : Result A E) → ((x : A) → P x → Q x) → IfOk o P → IfOk o Q
told_ok (Ok x) f told = f x told
told_ok (Err e) f told = tt

-- the same of what holds whatever the answer is
pub held_ok : {A E : Type 0} {P Q : Type 0} (o : Result A E) → (P → Q) → OnOk o P → OnOk o Q
held_ok (Ok x) f held = f held
held_ok (Err e) f held = tt

-- an attempt goes on by one turn, which takes no return
module _ (a : Attempt) (old : Held) (best : Option State) (new : Held) (now : Option State) (deep : ℕ) (goal : Option State) (total choices r : ℕ)
    (s : Seeks a deep goal total choices old best r) where
  pub advanced : (next : Next) → TurnsTo a next old best new now → (t : ℕ) → t ≡ 0 → Advanced a deep goal total choices (size_ahead a deep old) next new now (r + t)
  advanced next turned t none = by next (turned deep s.rest s.known) where
    same : r ≡ r + t
    same = omega (arith, none)

    by : (n : Next) → Turned (code_in a deep) a.options.now.longest (accepts a) n s.rest best old.frames new.now now new.frames
        → Advanced a deep goal total choices (size_ahead a deep old) n new now (r + t)
    by On u = (
      subst (Seeks a deep goal total choices new now) same (search_on (code_in a deep) a.options.now.longest (accepts a) goal total choices old.now old.frames best r s new.now new.frames now u),
      smaller_on (code_in a deep) a.options.now.longest (accepts a) goal total choices old.now old.frames best r s new.now new.frames now u,
    )
    by Dead u = (
      subst (SeeksBack a deep goal total choices new now) same (search_dead (code_in a deep) a.options.now.longest (accepts a) goal total choices old.now old.frames best r s new.now new.frames now u),
      smaller_dead (code_in a deep) a.options.now.longest (accepts a) goal total choices old.now old.frames best r s new.now new.frames now u,
    )
    by Found u =
        let found = search_found (code_in a deep) a.options.now.longest (accepts a) goal total choices old.now old.frames best r s new.now new.frames now u in
        (found.0, omega (arith, found.1, same))

  pub overfull : IsFull a old → old.most < choices
  overfull full = search_crowded (code_in a deep) a.options.now.longest (accepts a) old.most goal total choices old.now old.frames best r s (full deep s.rest s.known)

  -- it took no more returns than it takes in all
  pub taken : r ≤ total
  taken = omega (arith, s.count)

-- an attempt goes back from the trail `mid`, where it passed over branches that were saved last before
module _ (a : Attempt) (limit : ℕ) (old mid new : Held) (before between after : Work) (passes : PassesBack a (returns_of between - returns_of before) old mid) (le : returns_of before ≤ returns_of between) where
  pub goes_back_then : (o : Result Bool SearchRefusal) → TookBranch o limit mid new between after → IfOk o (λ taken. GoesBack a taken (returns_of after - returns_of before) old new)
  goes_back_then (Err e) took = tt
  goes_back_then (Ok false) took = λ deep goal total choices r best s.
      let p = passes deep goal total choices r best s in
      let end = search_end (code_in a deep) a.options.now.longest (accepts a) goal total choices mid.frames best _ p.0 took.0 in
      (end.0, omega (arith, end.1, ap returns_of took.1))
  goes_back_then (Ok true) took = λ deep goal total choices r best s.
      let p = passes deep goal total choices r best s in
      let same : r + (returns_of between - returns_of before) + 1 ≡ r + (returns_of after - returns_of before) = omega (arith, ap returns_of took.2, le) in (
        subst (λ (u : ℕ). Seeks a deep goal total choices new best u) same
            (search_back (code_in a deep) a.options.now.longest (accepts a) goal total choices mid.frames best _ p.0 new.now new.frames took.0),
        omega (arith, p.1, smaller_back (code_in a deep) a.options.now.longest (accepts a) goal total choices mid.frames best _ p.0 new.now new.frames took.0),
      )

  pub back_takes_then : BackTakes a (returns_of before) (returns_of between) old → (o : Result Bool SearchRefusal) → TookBranch o limit mid new between after → BackTakes a (returns_of before) (returns_of after) old
  back_takes_then takes (Err e) took = λ deep goal total choices best s.
      omega (arith, takes deep goal total choices best s, ap returns_of (backed_err e limit mid new between after took).2)
  back_takes_then takes (Ok false) took = λ deep goal total choices best s. omega (arith, takes deep goal total choices best s, ap returns_of took.1)
  back_takes_then takes (Ok true) took = λ deep goal total choices best s.
      let p = passes deep goal total choices (returns_of before) best s in
      let on = search_back (code_in a deep) a.options.now.longest (accepts a) goal total choices mid.frames best _ p.0 new.now new.frames took.0 in
      omega (arith, on.count, ap returns_of took.2, le)

  pub back_refused_then : (o : Result Bool SearchRefusal) → TookBranch o limit mid new between after → o ≡ Err Returns → BackTakes a (returns_of before) (limit + 1) old
  back_refused_then o took e = λ deep goal total choices best s.
      let k = backed_err Returns limit mid new between after (subst (λ (r : Result Bool SearchRefusal). TookBranch r limit mid new between after) e took) in
      let p = passes deep goal total choices (returns_of before) best s in
      let lt = search_refused (code_in a deep) a.options.now.longest (accepts a) goal total choices mid.frames best _ p.0 k.0 in
      omega (arith, lt, k.1, le)
