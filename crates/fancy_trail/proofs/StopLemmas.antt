-- A way stops, with branches saved above what it ends or with none.
use Rattle.std.proofs.Common.{◌≡◌, ℕ, Bool, true, false, List, [], ◌∷◌, Option, Some, None, refl, sym, ap, ◌∙◌, inl, arith, zero, suc, ◌++◌}
use Rattle.std.specs.Prelude.{if◌then◌else◌}
use Rattle.fancy_code.specs.declared.step.Next.TheVariants.{On, Dead, Found}
use Rattle.fancy_meaning.specs.Context.{State}
use Rattle.fancy_code.specs.Run.{Raw, Note, Stop, fetched, Go, returned, guard, join}
use Rattle.fancy_trail.specs.Frames.{Spot, Region, Frame, Atom, LookAround, Denial, Condition, Saved, Within}
use Rattle.fancy_trail.specs.Left.{after, finish, IsStep, found_of, missed_of}
use Rattle.fancy_trail.specs.Ways.{SavedOn, IsBare, HasInnermost, wanted_by, at_place, within_at}
use Rattle.fancy_trail.proofs.Closing.{finish_known, finish_bare, finish_ends, finish_elsewhere, saved_below}
use Rattle.std.proofs.lemmas.Option.{none-some}

-- a way stops
module _ (go : ℕ → Go) (q : ℕ) (x : Spot) (fs : List Frame) (u : List Raw) (h : finish go fs (Some (Stop q x.state x.starts ∷ [])) ≡ Some u) where
  pub stop_bare : IsBare fs → IsStep go Found (Note fetched ∷ u) x fs x fs
  stop_bare bare =
      let b = finish_bare go fs q x.state x.starts [] u h bare in
      (b.0, q, b.1, ap (λ (l : List Raw). Note fetched ∷ l) b.2, omega arith)

  pub stop_elsewhere : (r : Region) (rest : List Frame) → HasInnermost fs r rest → wanted_by r x.state ≡ false → IsStep go Dead (Note fetched ∷ u) x fs x fs
  stop_elsewhere r rest o bad = (u, finish_elsewhere go fs rest r q x.state x.starts [] u h o bad, refl, omega arith)

  pub stop_atom : (l : ℕ) (gs : List Frame) → HasInnermost fs (Atom l) gs → IsStep go On (Note fetched ∷ u) x fs (within_at q l x) gs
  stop_atom l gs o = (u, finish_ends go fs gs (Atom l) q x.state x.starts [] u h o refl, inl (refl, saved_below fs gs (Atom l) o))

  pub stop_look : (behind : Bool) (next p l : ℕ) (gs : List Frame) → HasInnermost fs (LookAround behind next p l) gs → wanted_by (LookAround behind next p l) x.state ≡ true
      → IsStep go On (Note fetched ∷ u) x fs (within_at next l (at_place next p x)) gs
  stop_look behind next p l gs o good = (u, finish_ends go fs gs (LookAround behind next p l) q x.state x.starts [] u h o good, inl (refl, saved_below fs gs (LookAround behind next p l) o))

  pub stop_denial : (behind : Bool) (d y : Spot) (gs : List Frame) → HasInnermost fs (Denial behind d) gs → wanted_by (Denial behind d) x.state ≡ true
      → IsStep go Dead (Note fetched ∷ u) x fs y gs
  stop_denial behind d y gs o good = (u, finish_ends go fs gs (Denial behind d) q x.state x.starts [] u h o good, refl, saved_below fs gs (Denial behind d) o)

  pub stop_condition : (c : Spot) (gs : List Frame) → HasInnermost fs (Condition c) gs → IsStep go On (Note fetched ∷ u) x fs (within_at q c.limit x) gs
  stop_condition c gs o = (u, finish_ends go fs gs (Condition c) q x.state x.starts [] u h o refl, inl (refl, saved_below fs gs (Condition c) o))

module _ (go : ℕ → Go) (q : ℕ) (s : State) (v : List ℕ) (w : List Raw) where
  -- a stop comes through saved branches
  pub stop_through : (m : ℕ) (gs fs : List Frame) (u : List Raw) → SavedOn m gs fs → finish go gs (Some (Stop q s v ∷ u)) ≡ Some w → (t : List Raw) × (finish go fs (Some (Stop q s v ∷ t)) ≡ Some w)
  stop_through zero gs fs u on h = (u, sym (ap (λ (ks : List Frame). finish go ks (Some (Stop q s v ∷ u))) on) ∙ h)
  stop_through (suc m) [] fs u on h = absurd on
  stop_through (suc m) (Within r ∷ gs) fs u on h = absurd on
  stop_through (suc m) (Saved y ∷ gs) fs u on h = by (after go y) refl (λ t g. stop_through m gs fs t on g) where
    by : (o : Option (List Raw)) → after go y ≡ o → ((t : List Raw) → finish go gs (Some (Stop q s v ∷ t)) ≡ Some w → (t' : List Raw) × (finish go fs (Some (Stop q s v ∷ t')) ≡ Some w))
        → (t : List Raw) × (finish go fs (Some (Stop q s v ∷ t)) ≡ Some w)
    by None e again =
        let k = finish_known go gs _ w (sym (ap (λ (p : Option (List Raw)). finish go gs (join (Some (Stop q s v ∷ u)) p)) e) ∙ h) in
        absurd (none-some k.0 k.1)
    by (Some a) e again = again (u ++ Note returned ∷ a) (sym (ap (λ (p : Option (List Raw)). finish go gs (join (Some (Stop q s v ∷ u)) p)) e) ∙ h)

  -- what comes after a stop that ends the innermost region is nothing to what is left
  pub stop_alone : (r : Region) (rest fs : List Frame) (u t : List Raw) → HasInnermost fs r rest → wanted_by r s ≡ true → finish go fs (Some (Stop q s v ∷ u)) ≡ Some w
      → finish go fs (Some (Stop q s v ∷ t)) ≡ Some w
  stop_alone r rest [] u t o ends h = absurd o
  stop_alone r rest (Saved y ∷ fs) u t o ends h = by (after go y) refl (λ a b g. stop_alone r rest fs a b o ends g) where
    by : (p : Option (List Raw)) → after go y ≡ p → ((a b : List Raw) → finish go fs (Some (Stop q s v ∷ a)) ≡ Some w → finish go fs (Some (Stop q s v ∷ b)) ≡ Some w)
        → finish go fs (join (Some (Stop q s v ∷ t)) (after go y)) ≡ Some w
    by None e again =
        let k = finish_known go fs _ w (sym (ap (λ (p : Option (List Raw)). finish go fs (join (Some (Stop q s v ∷ u)) p)) e) ∙ h) in
        absurd (none-some k.0 k.1)
    by (Some a) e again =
        ap (λ (p : Option (List Raw)). finish go fs (join (Some (Stop q s v ∷ t)) p)) e
        ∙ again (u ++ Note returned ∷ a) (t ++ Note returned ∷ a) (sym (ap (λ (p : Option (List Raw)). finish go fs (join (Some (Stop q s v ∷ u)) p)) e) ∙ h)
  stop_alone r rest (Within p ∷ fs) u t o ends h =
      let good : wanted_by p s ≡ true = ap (λ (y : Region). wanted_by y s) o.0 ∙ ends in
      ap (λ (c : Bool). finish go fs (if c then (found_of go p q s v) else (guard (found_of go p) (wanted_by p) (missed_of go p) t))) good
      ∙ sym (ap (λ (c : Bool). finish go fs (if c then (found_of go p q s v) else (guard (found_of go p) (wanted_by p) (missed_of go p) u))) good) ∙ h
