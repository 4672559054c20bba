-- Each step of the machine keeps what is left of the attempt.
use Rattle.std.proofs.Common.{◌≡◌, ℕ, ◌≤◌, ◌<◌, Bool, true, false, List, [], ◌∷◌, ◌++◌, Option, Some, None, refl, sym, ap, ◌∙◌, subst, arith}
use Rattle.std.specs.Prelude.{if◌then◌else◌}
use Rattle.std.proofs.lemmas.Option.{none-some, same_Some}
use Rattle.fancy_meaning.specs.Context.{State}
use Rattle.fancy_code.specs.Run.{Raw, Note, Stop, Sign, returned, Go, before, join, guard, fenced}
use Rattle.fancy_trail.specs.Frames.{Spot, Region, Frame, Atom, LookAround, Denial, Condition, Saved, Within, saved}
use Rattle.fancy_trail.specs.Ways.{IsBare, HasInnermost, IsSpent, Takes, wanted_by}
use Rattle.fancy_trail.specs.Left.{after, found_of, missed_of, finish, left}

pub join_note : (m : Sign) (o p : Option (List Raw)) → join (before (Note m) o) p ≡ before (Note m) (join o p)
join_note m None p = refl
join_note m (Some w) None = refl
join_note m (Some w) (Some x) = refl

pub join_nothing : (p : Option (List Raw)) → join (Some []) p ≡ before (Note returned) p
join_nothing None = refl
join_nothing (Some w) = refl

fenced_note : (found : Go) (ok : State → Bool) (missed : Option (List Raw)) (m : Sign) (o : Option (List Raw))
    → fenced found ok missed (before (Note m) o) ≡ before (Note m) (fenced found ok missed o)
fenced_note found ok missed m None = refl
fenced_note found ok missed m (Some w) = refl

pub before_some : (e : Raw) (o : Option (List Raw)) (w : List Raw) → before e o ≡ Some w → (x : List Raw) × (o ≡ Some x) × (w ≡ e ∷ x)
before_some e None w h = absurd (none-some w h)
before_some e (Some x) w h = (x, refl, sym (same_Some _ _ h))

join_some : (o p : Option (List Raw)) (w : List Raw) → join o p ≡ Some w → (x : List Raw) × (o ≡ Some x)
join_some None p w h = absurd (none-some w h)
join_some (Some x) p w h = (x, refl)

pub fenced_some : (found : Go) (ok : State → Bool) (missed o : Option (List Raw)) (w : List Raw) → fenced found ok missed o ≡ Some w → (x : List Raw) × (o ≡ Some x)
fenced_some found ok missed None w h = absurd (none-some w h)
fenced_some found ok missed (Some x) w h = (x, refl)

module _ (go : ℕ → Go) where
  -- a mark, a return and a fetch come through every frame
  pub finish_note : (fs : List Frame) (m : Sign) (o : Option (List Raw)) → finish go fs (before (Note m) o) ≡ before (Note m) (finish go fs o)
  finish_note [] m o = refl
  finish_note (Saved x ∷ fs) m o = ap (finish go fs) (join_note m o (after go x)) ∙ finish_note fs m (join o (after go x))
  finish_note (Within r ∷ fs) m o =
      ap (finish go fs) (fenced_note (found_of go r) (wanted_by r) (missed_of go r) m o) ∙ finish_note fs m (fenced (found_of go r) (wanted_by r) (missed_of go r) o)

  -- what is known of the whole is known of its beginning
  pub finish_known : (fs : List Frame) (o : Option (List Raw)) (w : List Raw) → finish go fs o ≡ Some w → (x : List Raw) × (o ≡ Some x)
  finish_known [] o w h = (w, h)
  finish_known (Saved x ∷ fs) o w h = let k = finish_known fs _ w h in join_some o (after go x) k.0 k.1
  finish_known (Within r ∷ fs) o w h = let k = finish_known fs _ w h in fenced_some (found_of go r) (wanted_by r) (missed_of go r) o k.0 k.1

  pub take_branch : (fs : List Frame) (o : Option (List Raw)) (w : List Raw) → finish go fs (before (Note returned) o) ≡ Some w
      → (rest : List Raw) × (finish go fs o ≡ Some rest) × (w ≡ Note returned ∷ rest)
  take_branch fs o w h = before_some (Note returned) _ w (sym (finish_note fs returned o) ∙ h)

  take_at : (fs rest : List Frame) (x y : Spot) (w : List Raw) → x ≡ y → fs ≡ rest → finish go fs (before (Note returned) (after go x)) ≡ Some w
      → (w' : List Raw) × (left go y rest ≡ Some w') × (w ≡ Note returned ∷ w')
  take_at fs rest x y w ex ef h =
      let t = take_branch fs (after go x) w h in
      (t.0, subst (λ (z : Spot). left go z rest ≡ Some t.0) ex (subst (λ (l : List Frame). left go x l ≡ Some t.0) ef t.1), t.2)

  -- the way is dead: the branch that was saved last is taken
  pub finish_back : (fs rest : List Frame) (y : Spot) (w : List Raw) → finish go fs (Some []) ≡ Some w → Takes fs y rest
      → (w' : List Raw) × (left go y rest ≡ Some w') × (w ≡ Note returned ∷ w')
  finish_back [] rest y w h t = absurd t
  finish_back (Saved x ∷ fs) rest y w h t = take_at fs rest x y w t.0 t.1 (sym (ap (finish go fs) (join_nothing (after go x))) ∙ h)
  finish_back (Within (Atom l) ∷ fs) rest y w h t = finish_back fs rest y w h t
  finish_back (Within (LookAround behind next i l) ∷ fs) rest y w h t = finish_back fs rest y w h t
  finish_back (Within (Denial behind x) ∷ fs) rest y w h t = take_at fs rest x y w t.0 t.1 h
  finish_back (Within (Condition x) ∷ fs) rest y w h t = take_at fs rest x y w t.0 t.1 h

  -- no branch is left
  pub finish_spent : (fs : List Frame) (w : List Raw) → finish go fs (Some []) ≡ Some w → IsSpent fs → w ≡ []
  finish_spent [] w h t = sym (same_Some _ _ h)
  finish_spent (Saved x ∷ fs) w h t = absurd t
  finish_spent (Within (Atom l) ∷ fs) w h t = finish_spent fs w h t
  finish_spent (Within (LookAround behind next i l) ∷ fs) w h t = finish_spent fs w h t
  finish_spent (Within (Denial behind x) ∷ fs) w h t = absurd t
  finish_spent (Within (Condition x) ∷ fs) w h t = absurd t

  -- a branch is left, and taking it is a return
  pub finish_unspent : (fs : List Frame) (w : List Raw) → finish go fs (Some []) ≡ Some w → (IsSpent fs → ⊥) → (w' : List Raw) × (w ≡ Note returned ∷ w')
  finish_unspent [] w h t = absurd (t tt)
  finish_unspent (Saved x ∷ fs) w h t = let k = take_branch fs (after go x) w (sym (ap (finish go fs) (join_nothing (after go x))) ∙ h) in (k.0, k.2)
  finish_unspent (Within (Atom l) ∷ fs) w h t = finish_unspent fs w h t
  finish_unspent (Within (LookAround behind next i l) ∷ fs) w h t = finish_unspent fs w h t
  finish_unspent (Within (Denial behind x) ∷ fs) w h t = let k = take_branch fs (after go x) w h in (k.0, k.2)
  finish_unspent (Within (Condition x) ∷ fs) w h t = let k = take_branch fs (after go x) w h in (k.0, k.2)

  -- a stop with no region open is an outcome
  pub finish_bare : (fs : List Frame) (q : ℕ) (s : State) (v : List ℕ) (u w : List Raw) → finish go fs (Some (Stop q s v ∷ u)) ≡ Some w → IsBare fs
      → (w' : List Raw) × (finish go fs (Some u) ≡ Some w') × (w ≡ Stop q s v ∷ w')
  finish_bare [] q s v u w h b = (u, refl, sym (same_Some _ _ h))
  finish_bare (Saved x ∷ fs) q s v u w h b = bared (λ u' h'. finish_bare fs q s v u' w h' b) (after go x) refl where
    bared : ((u' : List Raw) → finish go fs (Some (Stop q s v ∷ u')) ≡ Some w → (w' : List Raw) × (finish go fs (Some u') ≡ Some w') × (w ≡ Stop q s v ∷ w')) → (o : Option (List Raw)) → after go x ≡ o → (w' : List Raw) × (finish go (Saved x ∷ fs) (Some u) ≡ Some w') × (w ≡ Stop q s v ∷ w')
    bared again None e =
        let k = finish_known fs _ w (sym (ap (λ (p : Option (List Raw)). finish go fs (join (Some (Stop q s v ∷ u)) p)) e) ∙ h) in
        absurd (none-some k.0 k.1)
    bared again (Some a) e =
        let k = again (u ++ Note returned ∷ a) (sym (ap (λ (p : Option (List Raw)). finish go fs (join (Some (Stop q s v ∷ u)) p)) e) ∙ h) in
        (k.0, ap (λ (p : Option (List Raw)). finish go fs (join (Some u) p)) e ∙ k.1, k.2)
  finish_bare (Within r ∷ fs) q s v u w h b = absurd b

  -- a stop that is wanted ends the innermost region, and the branches above it are dropped
  pub finish_ends : (fs rest : List Frame) (r : Region) (q : ℕ) (s : State) (v : List ℕ) (u w : List Raw) → finish go fs (Some (Stop q s v ∷ u)) ≡ Some w
      → HasInnermost fs r rest → wanted_by r s ≡ true → finish go rest (found_of go r q s v) ≡ Some w
  finish_ends [] rest r q s v u w h o e = absurd o
  finish_ends (Saved x ∷ fs) rest r q s v u w h o e = ended (λ u' h'. finish_ends fs rest r q s v u' w h' o e) (after go x) refl where
    ended : ((u' : List Raw) → finish go fs (Some (Stop q s v ∷ u')) ≡ Some w → finish go rest (found_of go r q s v) ≡ Some w) → (p : Option (List Raw)) → after go x ≡ p → finish go rest (found_of go r q s v) ≡ Some w
    ended again None e' =
        let k = finish_known fs _ w (sym (ap (λ (p : Option (List Raw)). finish go fs (join (Some (Stop q s v ∷ u)) p)) e') ∙ h) in
        absurd (none-some k.0 k.1)
    ended again (Some a) e' =
        again (u ++ Note returned ∷ a) (sym (ap (λ (p : Option (List Raw)). finish go fs (join (Some (Stop q s v ∷ u)) p)) e') ∙ h)
  finish_ends (Within p ∷ fs) rest r q s v u w h o e =
      subst (λ (l : List Frame). finish go l (found_of go r q s v) ≡ Some w) o.1
      (sym (ap (λ (c : Bool). finish go fs (if c then (found_of go r q s v) else (guard (found_of go r) (wanted_by r) (missed_of go r) u))) e)
      ∙ ap (λ (y : Region). finish go fs (fenced (found_of go y) (wanted_by y) (missed_of go y) (Some (Stop q s v ∷ u)))) (sym o.0) ∙ h)

  -- a stop that is not wanted is dead
  pub finish_elsewhere : (fs rest : List Frame) (r : Region) (q : ℕ) (s : State) (v : List ℕ) (u w : List Raw) → finish go fs (Some (Stop q s v ∷ u)) ≡ Some w
      → HasInnermost fs r rest → wanted_by r s ≡ false → finish go fs (Some u) ≡ Some w
  finish_elsewhere [] rest r q s v u w h o e = absurd o
  finish_elsewhere (Saved x ∷ fs) rest r q s v u w h o e = ended (λ u' h'. finish_elsewhere fs rest r q s v u' w h' o e) (after go x) refl where
    ended : ((u' : List Raw) → finish go fs (Some (Stop q s v ∷ u')) ≡ Some w → finish go fs (Some u') ≡ Some w) → (p : Option (List Raw)) → after go x ≡ p → finish go (Saved x ∷ fs) (Some u) ≡ Some w
    ended again None e' =
        let k = finish_known fs _ w (sym (ap (λ (p : Option (List Raw)). finish go fs (join (Some (Stop q s v ∷ u)) p)) e') ∙ h) in
        absurd (none-some k.0 k.1)
    ended again (Some a) e' =
        ap (λ (p : Option (List Raw)). finish go fs (join (Some u) p)) e'
        ∙ again (u ++ Note returned ∷ a) (sym (ap (λ (p : Option (List Raw)). finish go fs (join (Some (Stop q s v ∷ u)) p)) e') ∙ h)
  finish_elsewhere (Within p ∷ fs) rest r q s v u w h o e =
      sym (ap (λ (c : Bool). finish go fs (if c then (found_of go p q s v) else (guard (found_of go p) (wanted_by p) (missed_of go p) u)))
      (ap (λ (y : Region). wanted_by y s) o.0 ∙ e)) ∙ h

-- what is below a region, or a branch, saves no more
pub saved_below : (fs rest : List Frame) (r : Region) → HasInnermost fs r rest → saved rest ≤ saved fs
saved_below [] rest r o = absurd o
saved_below (Saved x ∷ fs) rest r o = omega (arith, saved_below fs rest r o)
saved_below (Within p ∷ fs) rest r o = rw (sym o.1) (omega arith)

pub saved_taken : (fs rest : List Frame) (y : Spot) → Takes fs y rest → saved rest < saved fs
saved_taken [] rest y t = absurd t
saved_taken (Saved x ∷ fs) rest y t = rw (sym t.1) (omega arith)
saved_taken (Within (Atom l) ∷ fs) rest y t = omega (arith, saved_taken fs rest y t)
saved_taken (Within (LookAround behind next i l) ∷ fs) rest y t = omega (arith, saved_taken fs rest y t)
saved_taken (Within (Denial behind x) ∷ fs) rest y t = rw (sym t.1) (omega arith)
saved_taken (Within (Condition x) ∷ fs) rest y t = rw (sym t.1) (omega arith)
