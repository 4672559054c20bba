-- What the code gives, an instruction at a time.
use Rattle.std.proofs.Common.{◌≡◌, ◌≢◌, ℕ, zero, suc, ◌+◌, ◌-◌, ◌≤◌, Bool, true, false, List, [], ◌∷◌, ◌++◌, length, Option, Some, None, refl, sym, ap, ap₂, ◌∙◌, subst, arith}
use Rattle.std.specs.Prelude.{slice_index, slice_set, nat_le, ◌==◌, if◌then◌else◌}
use Rattle.std.proofs.lemmas.Bool.{leb-true, eqb-true, eqb-false}
use Rattle.std.proofs.lemmas.List.{append-nil}
use Rattle.std.proofs.lemmas.Option.{get_or_from_slice_get}
use Rattle.fancy_tree.specs.declared.tree.Assertion.{Assertion}
use Rattle.fancy_code.specs.Instructions.{Instruction, Match, Fail, Assert, Split, Open, Close, Commit}
use Rattle.fancy_meaning.specs.Context.{Context, State, moved_to, with_capture, holds, option_to}
use Rattle.fancy_meaning.specs.Events.{Event, mark, return, outcome, Walk, stay, bind, guarded, either, prefer, move, holding}
use Rattle.fancy_code.specs.Run.{Raw, Note, Stop, choice_opened, returned, fetched, Go, Ends, before, join, guard, fenced, onward, rejoin, erase, AllStops, Given, instr_at, act, run, CodeGives}
use Rattle.fancy_code.specs.Compile.{Has, split_of}
use Rattle.fancy_code.proofs.RunMore.{run_more}

erase_append : (a b : List Raw) → erase (a ++ b) ≡ erase a ++ erase b
erase_append [] b = refl
erase_append (Note choice_opened ∷ a) b = ap (λ x. mark ∷ x) (erase_append a b)
erase_append (Note returned ∷ a) b = ap (λ x. return ∷ x) (erase_append a b)
erase_append (Note fetched ∷ a) b = erase_append a b
erase_append (Stop q s v ∷ a) b = ap (λ x. outcome s ∷ x) (erase_append a b)

stops_append : (P : Ends) (a b : List Raw) → AllStops P a → AllStops P b → AllStops P (a ++ b)
stops_append P [] b f g = g
stops_append P (Note m ∷ a) b f g = stops_append P a b f g
stops_append P (Stop q s v ∷ a) b f g = (f.0, stops_append P a b f.1 g)

pub given_at : (P : Ends) (o : Option (List Raw)) (t u : List Event) → t ≡ u → Given P o t → Given P o u
given_at P o t u e g = (g.0, g.1, g.2 ∙ e, g.3)

given_tick : (P : Ends) (o : Option (List Raw)) (t : List Event) → Given P o t → Given P (before (Note fetched) o) t
given_tick P o t g = (Note fetched ∷ g.0, ap (before (Note fetched)) g.1, g.2, g.3)

pub given_mark : (P : Ends) (o : Option (List Raw)) (t : List Event) → Given P o t → Given P (before (Note choice_opened) o) (mark ∷ t)
given_mark P o t g = (Note choice_opened ∷ g.0, ap (before (Note choice_opened)) g.1, ap (λ x. mark ∷ x) g.2, g.3)

pub given_return : (P : Ends) (o : Option (List Raw)) (t : List Event) → Given P o t → Given P (before (Note returned) o) (return ∷ t)
given_return P o t g = (Note returned ∷ g.0, ap (before (Note returned)) g.1, ap (λ x. return ∷ x) g.2, g.3)

given_join : (P : Ends) (o p : Option (List Raw)) (t u : List Event) → Given P o t → Given P p u → Given P (join o p) (t ++ return ∷ u)
given_join P o p t u f g =
    (f.0 ++ Note returned ∷ g.0, ap₂ join f.1 g.1, erase_append f.0 (Note returned ∷ g.0) ∙ ap₂ (λ x y. x ++ return ∷ y) f.2 g.2, stops_append P f.0 (Note returned ∷ g.0) f.3 g.3)

pub gives_nothing : (P : Ends) (o : Option (List Raw)) → o ≡ Some [] → Given P o []
gives_nothing P o e = ([], e, refl, tt)

-- a region: its body's ways stop as Q says, and from a stop that is wanted the code gives what k says
module _ (P Q : Ends) (found : Go) (wanted : State → Bool) (missed : Option (List Raw)) (k : Walk) (m : List Event) (other : Given P missed m)
    (after : (q : ℕ) (r : State) (u : List ℕ) → Q q r u → Given P (found q r u) (k r)) where
  guard_if : (c : Bool) (w : List Raw) (q : ℕ) (s : State) (v : List ℕ) → Q q s v → Given P (guard found wanted missed w) (guarded wanted k m (erase w))
      → Given P (if c then (found q s v) else (guard found wanted missed w)) (if c then k s else guarded wanted k m (erase w))
  guard_if true w q s v stop rest = after q s v stop
  guard_if false w q s v stop rest = rest

  given_events : (w : List Raw) → AllStops Q w → Given P (guard found wanted missed w) (guarded wanted k m (erase w))
  given_events [] stops = other
  given_events (Note choice_opened ∷ w) stops = given_mark P _ _ (given_events w stops)
  given_events (Note returned ∷ w) stops = given_return P _ _ (given_events w stops)
  given_events (Note fetched ∷ w) stops = given_tick P _ _ (given_events w stops)
  given_events (Stop q s v ∷ w) stops = guard_if (wanted s) w q s v stops.0 (given_events w stops.1)

  pub given_guard : (o : Option (List Raw)) (t : List Event) → Given Q o t → Given P (fenced found wanted missed o) (guarded wanted k m t)
  given_guard o t g =
      let r = given_events g.0 g.3 in
      (r.0, ap (fenced found wanted missed) g.1 ∙ r.1, r.2 ∙ ap (guarded wanted k m) g.2, r.3)

-- an item goes on at the new place
pub given_onward : (P : Ends) (limit : ℕ) (go : Go) (next : ℕ) (s : State) (v : List ℕ) (k : Walk) (o : Option ℕ)
    → ((p : ℕ) → o ≡ Some p → p ≤ limit → Given P (go next (moved_to s p) v) (k (moved_to s p)))
    → Given P (onward limit go next s v o) (bind (move limit s o) k)
given_onward P limit go next s v k None f = gives_nothing P (Some []) refl
given_onward P limit go next s v k (Some p) f = by (nat_le p limit) refl where
  by : (c : Bool) → nat_le p limit ≡ c → Given P (if c then (go next (moved_to s p) v) else (Some [])) (bind (if c then stay (moved_to s p) else []) k)
  by true e = given_at P _ _ _ (sym (append-nil _)) (f p refl (leb-true p limit e))
  by false e = gives_nothing P (Some []) refl

-- a test goes on where it holds
pub given_holding : (P : Ends) (c : Bool) (o : Option (List Raw)) (s : State) (k : Walk) → Given P o (k s) → Given P (if c then o else (Some [])) (bind (holding c s) k)
given_holding P true o s k g = given_at P _ _ _ (sym (append-nil _)) g
given_holding P false o s k g = gives_nothing P (Some []) refl

-- a text goes on after it, and an empty one on its own way
pub given_rejoin : (P : Ends) (limit : ℕ) (go : Go) (moved still : ℕ) (s : State) (v : List ℕ) (k : Walk) (o : Option ℕ)
    → ((p : ℕ) → o ≡ Some p → p ≤ limit → p ≡ s.place → Given P (go still (moved_to s p) v) (k (moved_to s p)))
    → ((p : ℕ) → o ≡ Some p → p ≤ limit → p ≢ s.place → Given P (go moved (moved_to s p) v) (k (moved_to s p)))
    → Given P (rejoin limit go moved still s v o) (bind (move limit s o) k)
given_rejoin P limit go moved still s v k None f g = gives_nothing P (Some []) refl
given_rejoin P limit go moved still s v k (Some p) f g = by (nat_le p limit) refl where
  either_one : (d : Bool) → (p == s.place) ≡ d → p ≤ limit → Given P (if d then (go still (moved_to s p) v) else (go moved (moved_to s p) v)) (k (moved_to s p))
  either_one true e le = f p refl le (eqb-true p s.place e)
  either_one false e le = g p refl le (eqb-false p s.place e)

  by : (c : Bool) → nat_le p limit ≡ c
      → Given P (if c then (if p == s.place then (go still (moved_to s p) v) else (go moved (moved_to s p) v)) else (Some [])) (bind (if c then stay (moved_to s p) else []) k)
  by true e = given_at P _ _ _ (sym (append-nil _)) (either_one (p == s.place) refl (leb-true p limit e))
  by false e = gives_nothing P (Some []) refl

-- units back, where there are so many
pub given_back : (P : Ends) (go : Go) (next : ℕ) (s : State) (v : List ℕ) (k : Walk) (o : Option ℕ)
    → ((p : ℕ) → o ≡ Some p → Given P (go next (moved_to s p) v) (k (moved_to s p)))
    → Given P (option_to o (Some []) (λ p. go next (moved_to s p) v)) (option_to o [] (λ p. k (moved_to s p)))
given_back P go next s v k None f = gives_nothing P (Some []) refl
given_back P go next s v k (Some p) f = f p refl

module _ (x : Context) (limit : ℕ) (code : List Instruction) (P : Ends) where
  gives_add : (k m n q : ℕ) (s : State) (v : List ℕ) (t : List Event) → m + k ≡ n → CodeGives x limit code P m q s v t → CodeGives x limit code P n q s v t
  gives_add zero m n q s v t e g = let same : m ≡ n = omega arith in subst (λ y. CodeGives x limit code P y q s v t) same g
  gives_add (suc k) m n q s v t e g = gives_add k (suc m) n q s v t (omega arith) (g.0, run_more x limit code m q s v g.0 g.1, g.2, g.3)

  pub gives_more : (m n q : ℕ) (s : State) (v : List ℕ) (t : List Event) → m ≤ n → CodeGives x limit code P m q s v t → CodeGives x limit code P n q s v t
  gives_more m n q s v t le g = gives_add (n - m) m n q s v t (omega arith) g

  -- an instruction is fetched, and gives what it says
  pub gives_act : (n q : ℕ) (i : Instruction) (s : State) (v : List ℕ) (t : List Event) → Has code q i → Given P (act x limit q i (run x limit code n) (run x (length x.haystack) code n) s v) t
      → CodeGives x limit code P (suc n) q s v t
  gives_act n q i s v t h g =
      let e : act x limit q (instr_at code q) (run x limit code n) (run x (length x.haystack) code n) s v ≡ act x limit q i (run x limit code n) (run x (length x.haystack) code n) s v =
      ap (λ (j : Instruction). act x limit q j (run x limit code n) (run x (length x.haystack) code n) s v) (get_or_from_slice_get code q i Fail h) in
      given_tick P _ t (g.0, e ∙ g.1, g.2, g.3)

  pub gives_fail : (n q : ℕ) (s : State) (v : List ℕ) → Has code q Fail → CodeGives x limit code P (suc n) q s v []
  gives_fail n q s v h = gives_act n q Fail s v [] h (gives_nothing P (Some []) refl)

  pub gives_match : (n q : ℕ) (s : State) (v : List ℕ) → Has code q Match → P q s v → CodeGives x limit code P (suc n) q s v (outcome s ∷ [])
  gives_match n q s v h p = gives_act n q Match s v _ h (Stop q s v ∷ [], refl, refl, (p, tt))

  pub gives_commit : (n q next : ℕ) (s : State) (v : List ℕ) → Has code q (Commit next) → P next s v → CodeGives x limit code P (suc n) q s v (outcome s ∷ [])
  gives_commit n q next s v h p = gives_act n q (Commit next) s v _ h (Stop next s v ∷ [], refl, refl, (p, tt))

  pub gives_assert : (n q : ℕ) (a : Assertion) (next : ℕ) (s : State) (v : List ℕ) (k : Walk) → Has code q (Assert a next)
      → CodeGives x limit code P n next s v (k s) → CodeGives x limit code P (suc n) q s v (bind (holding (holds x a s.place) s) k)
  gives_assert n q a next s v k h g = gives_act n q (Assert a next) s v _ h (given_holding P (holds x a s.place) _ s k g)

  pub gives_split : (n q a b : ℕ) (s : State) (v : List ℕ) (t u : List Event) → Has code q (Split a b)
      → CodeGives x limit code P n a s v t → CodeGives x limit code P n b s v u → CodeGives x limit code P (suc n) q s v (either t u)
  gives_split n q a b s v t u h f g = gives_act n q (Split a b) s v _ h (given_mark P _ _ (given_join P _ _ t u f g))

  pub gives_prefer : (greedy : Bool) (n q a b : ℕ) (s : State) (v : List ℕ) (t u : List Event) → Has code q (split_of greedy a b)
      → CodeGives x limit code P n a s v t → CodeGives x limit code P n b s v u → CodeGives x limit code P (suc n) q s v (prefer greedy t u)
  gives_prefer true n q a b s v t u h f g = gives_split n q a b s v t u h f g
  gives_prefer false n q a b s v t u h f g = gives_split n q b a s v u t h g f

  pub gives_open : (n q g next : ℕ) (s : State) (v : List ℕ) (t : List Event) → Has code q (Open g next)
      → CodeGives x limit code P n next s (slice_set v g s.place) t → CodeGives x limit code P (suc n) q s v t
  gives_open n q g next s v t h f = gives_act n q (Open g next) s v t h f

  pub gives_close : (n q g next : ℕ) (s : State) (v : List ℕ) (t : List Event) → Has code q (Close g next)
      → CodeGives x limit code P n next (with_capture s g (slice_index v g)) v t → CodeGives x limit code P (suc n) q s v t
  gives_close n q g next s v t h f = gives_act n q (Close g next) s v t h f
