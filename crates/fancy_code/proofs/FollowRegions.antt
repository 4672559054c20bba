-- Code that follows an atomic part, a look-around, a condition and what else ends ways early: whatever the parts are.
use Rattle.std.proofs.Common.{◌≡◌, ℕ, suc, ◌+◌, ◌≤◌, ◌⊎◌, Bool, true, false, List, [], ◌∷◌, length, Option, Some, None, inl, inr, refl, sym, ap, ◌∙◌, subst, arith}
use Rattle.std.specs.Prelude.{if◌then◌else◌}
use Rattle.std.proofs.lemmas.List.{append-nil}
use Rattle.fancy_code.specs.Instructions.{Instruction}
use Rattle.fancy_code.specs.Instructions as i
use Rattle.fancy_code.specs.declared.code.Entry.{Entry}
use Rattle.fancy_meaning.specs.Context.{Context, State, moved_to, units_back}
use Rattle.fancy_meaning.specs.Backreference.{past_backreference}
use Rattle.fancy_meaning.specs.Events.{Event, mark, return, Walk, stay, bind, guarded, any, ends_look, put_back, looked, move, holding}
use Rattle.fancy_meaning.specs.Trace.{from_before}
use Rattle.fancy_code.specs.Run.{Ends, CodeGives, Note, returned, before, resume, halt, act, run}
use Rattle.fancy_code.specs.Compile.{Has, HasBoth, Below, BackBy, LooksBy, look_of, stopping}
use Rattle.fancy_meaning.proofs.EventLemmas.{bind-stay, bind-guarded}
use Rattle.fancy_code.proofs.RunLemmas.{given_at, given_mark, given_return, given_guard, given_rejoin, given_back, given_holding, gives_nothing, gives_act, gives_more, gives_fail, gives_match, gives_commit}
use Rattle.fancy_meaning.proofs.Past.{back_low, recall_beyond}
use Rattle.fancy_code.proofs.FollowParts.{Follow, Still, at_trace, below_same, below_trans}

-- a way stops at a place past p, or at p itself
abbrev pub StopsMoved : ℕ → ℕ → ℕ → List ℕ → Entry → Ends
StopsMoved p limit lo v next q r u = (q ≡ next.moved) × (p ≤ r.place) × (r.place ≤ limit) × Below lo v u

abbrev pub StopsStill : ℕ → ℕ → ℕ → List ℕ → Entry → Ends
StopsStill p limit lo v next q r u = (((q ≡ next.moved) × (p + 1 ≤ r.place)) ⊎ ((q ≡ next.still) × (r.place ≡ p))) × (r.place ≤ limit) × Below lo v u

-- however a way stops, the groups below lo are as they were
abbrev pub Kept : ℕ → List ℕ → Ends
Kept lo v q r u = Below lo v u

module _ (x : Context) (limit : ℕ) (code : List Instruction) (hi : ℕ) where
  -- the first way of a part that stops
  module _ (f : Walk) (d lo : ℕ) (next close inner entry : Entry) (fa : Follow x limit code hi f d lo close inner)
      (closing : HasBoth code close (i.Commit next.moved) (i.Commit next.still)) where
    pub part_moved : (n : ℕ) (s : State) (v : List ℕ) → d + 1 ≤ n → s.place ≤ limit → length v ≡ hi
        → CodeGives x limit code (StopsMoved s.place limit lo v next) n inner.moved s v (f s)
    part_moved n s v deep le len =
        let Q = StopsMoved s.place limit lo v next in
        gives_more x limit code Q (d + 1) n inner.moved s v (f s) deep
        (given_at Q _ _ _ (bind-stay (f s))
        (fa.moved Q 1 stay s v le len (λ r u after within below. gives_commit x limit code Q 0 close.moved next.moved r u closing.0 (refl, after, within, below))))

    pub part_still : (n : ℕ) (s : State) (v : List ℕ) → d + 1 ≤ n → s.place ≤ limit → length v ≡ hi
        → CodeGives x limit code (StopsStill s.place limit lo v next) n inner.still s v (f s)
    part_still n s v deep le len =
        let Q = StopsStill s.place limit lo v next in
        gives_more x limit code Q (d + 1) n inner.still s v (f s) deep
        (given_at Q _ _ _ (bind-stay (f s))
        (fa.still Q 1 stay s v le len
        (λ r u after within below. gives_commit x limit code Q 0 close.moved next.moved r u closing.0 (inl (refl, after), within, below))
        (λ r u same below. gives_commit x limit code Q 0 close.still next.still r u closing.1 (inr (refl, same), omega arith, below))))

    pub atomic_follows : HasBoth code entry (i.Enter inner.moved) (i.Enter inner.still) → Follow x limit code hi (λ s. guarded any stay [] (f s)) (d + 2) lo next entry
    atomic_follows opening = record {
      moved = λ P m k s v le len go.
          (let n = d + 1 + m in
          let Q = StopsMoved s.place limit lo v next in
          gives_more x limit code P (suc n) (d + 2 + m) entry.moved s v _ (omega arith)
          (at_trace x limit code hi P (suc n) entry.moved s v _ _ (sym (bind-guarded any stay [] (f s) k))
          (gives_act x limit code P n entry.moved (i.Enter inner.moved) s v _ opening.0
          (given_guard P Q (run x limit code n) any (Some []) (λ r. bind (stay r) k) [] (gives_nothing P (Some []) refl)
          (λ q r u e. given_at P _ _ _ (sym (append-nil _))
          (subst (λ (y : ℕ). CodeGives x limit code P n y r u (k r)) (sym e.0) (gives_more x limit code P m n next.moved r u _ (omega arith) (go r u e.1 e.2 e.3))))
          _ _ (part_moved n s v (omega arith) le len)))));
      still = λ P m k s v le len go at.
          (let n = d + 1 + m in
          let Q = StopsStill s.place limit lo v next in
          gives_more x limit code P (suc n) (d + 2 + m) entry.still s v _ (omega arith)
          (at_trace x limit code hi P (suc n) entry.still s v _ _ (sym (bind-guarded any stay [] (f s) k))
          (gives_act x limit code P n entry.still (i.Enter inner.still) s v _ opening.1
          (given_guard P Q (run x limit code n) any (Some []) (λ r. bind (stay r) k) [] (gives_nothing P (Some []) refl)
          (λ q r u e. given_at P _ _ _ (sym (append-nil _))
          (elim e.0 [
            | inl mv ↦ subst (λ (y : ℕ). CodeGives x limit code P n y r u (k r)) (sym mv.0) (gives_more x limit code P m n next.moved r u _ (omega arith) (go r u mv.1 e.1 e.2))
            | inr st ↦ subst (λ (y : ℕ). CodeGives x limit code P n y r u (k r)) (sym st.0) (gives_more x limit code P m n next.still r u _ (omega arith) (at r u st.1 e.2))
          ]))
          _ _ (part_still n s v (omega arith) le len)))));
    }

  -- a condition, and the one branch or the other
  module _ (c f g : Walk) (dc df dg lo : ℕ) (next one two close inner entry : Entry) (fc : Follow x limit code hi c dc lo close inner)
      (ff : Follow x limit code hi f df lo next one) (fg : Follow x limit code hi g dg lo next two)
      (closing : HasBoth code close (i.Commit one.moved) (i.Commit one.still)) (opening : HasBoth code entry (i.Test inner.moved two.moved) (i.Test inner.still two.still)) where
    pub condition_follows : Follow x limit code hi (λ s. mark ∷ guarded any f (return ∷ g s) (c s)) (dc + df + dg + 2) lo next entry
    condition_follows = record {
      moved = λ P m k s v le len go.
          (let n = dc + df + dg + 1 + m in
          let Q = StopsMoved s.place limit lo v one in
          gives_more x limit code P (suc n) (dc + df + dg + 2 + m) entry.moved s v _ (omega arith)
          (at_trace x limit code hi P (suc n) entry.moved s v _ _ (ap (λ (es : List Event). mark ∷ es) (sym (bind-guarded any f (return ∷ g s) (c s) k)))
          (gives_act x limit code P n entry.moved (i.Test inner.moved two.moved) s v _ opening.0
          (given_mark P _ _
          (given_guard P Q (run x limit code n) any (before (Note returned) (run x limit code n two.moved s v)) (λ r. bind (f r) k) (return ∷ bind (g s) k)
          (given_return P _ _ (gives_more x limit code P (dg + m) n two.moved s v _ (omega arith) (fg.moved P m k s v le len go)))
          (λ q r u e. subst (λ (y : ℕ). CodeGives x limit code P n y r u (bind (f r) k)) (sym e.0)
          (gives_more x limit code P (df + m) n one.moved r u _ (omega arith)
          (ff.moved P m k r u e.2 (sym e.3.0 ∙ len) (λ r' u' after within below. go r' u' (omega (arith, e.1)) within (below_trans lo v u u' e.3 below)))))
          _ _ (part_moved c dc lo one close inner entry fc closing n s v (omega arith) le len))))));
      still = λ P m k s v le len go at.
          (let n = dc + df + dg + 1 + m in
          let Q = StopsStill s.place limit lo v one in
          gives_more x limit code P (suc n) (dc + df + dg + 2 + m) entry.still s v _ (omega arith)
          (at_trace x limit code hi P (suc n) entry.still s v _ _ (ap (λ (es : List Event). mark ∷ es) (sym (bind-guarded any f (return ∷ g s) (c s) k)))
          (gives_act x limit code P n entry.still (i.Test inner.still two.still) s v _ opening.1
          (given_mark P _ _
          (given_guard P Q (run x limit code n) any (before (Note returned) (run x limit code n two.still s v)) (λ r. bind (f r) k) (return ∷ bind (g s) k)
          (given_return P _ _ (gives_more x limit code P (dg + m) n two.still s v _ (omega arith) (fg.still P m k s v le len go at)))
          (λ q r u e. elim e.0 [
            | inl mv ↦ subst (λ (y : ℕ). CodeGives x limit code P n y r u (bind (f r) k)) (sym mv.0)
                (gives_more x limit code P (df + m) n one.moved r u _ (omega arith)
                (ff.moved P m k r u e.1 (sym e.2.0 ∙ len) (λ r' u' after within below. go r' u' (omega (arith, mv.1)) within (below_trans lo v u u' e.2 below))))
            | inr st ↦ subst (λ (y : ℕ). CodeGives x limit code P n y r u (bind (f r) k)) (sym st.0)
                (gives_more x limit code P (df + m) n one.still r u _ (omega arith)
                (ff.still P m k r u e.1 (sym e.2.0 ∙ len)
                (λ r' u' after within below. go r' u' (omega (arith, st.1)) within (below_trans lo v u u' e.2 below))
                (λ r' u' same below. at r' u' (same ∙ st.1) (below_trans lo v u u' e.2 below))))
          ])
          _ _ (part_still c dc lo one close inner entry fc closing n s v (omega arith) le len))))));
    }

  -- a look-around, whose body reads to the text's end
  look_gives : (P : Ends) (negated behind : Bool) (lo n m q body next : ℕ) (es : List Event) (k : Walk) (s : State) (v : List ℕ)
      → Has code q (look_of negated behind body next) → m ≤ n → CodeGives x (length x.haystack) code (Kept lo v) n body s v es → Still x limit code hi P s.place m next lo v k
      → CodeGives x limit code P (suc n) q s v (bind (looked negated behind s es) k)
  look_gives P true behind lo n m q body next es k s v has le inner out =
      at_trace x limit code hi P (suc n) q s v _ _ (ap (λ (t : List Event). mark ∷ t) (sym (bind-guarded (ends_look behind s.place) (λ t. []) (return ∷ stay s) es k)))
      (gives_act x limit code P n q (i.Deny behind body next) s v _ has
      (given_mark P _ _
      (given_guard P (Kept lo v) halt (ends_look behind s.place) (before (Note returned) (run x limit code n next s v)) (λ r. []) (return ∷ bind (stay s) k)
      (given_return P _ _ (given_at P _ _ _ (sym (append-nil _)) (gives_more x limit code P m n next s v _ le (out s v refl (below_same lo v)))))
      (λ p r u b. gives_nothing P (Some []) refl)
      _ es inner)))
  look_gives P false behind lo n m q body next es k s v has le inner out =
      at_trace x limit code hi P (suc n) q s v _ _ (sym (bind-guarded (ends_look behind s.place) (put_back s.place) [] es k))
      (gives_act x limit code P n q (i.Look behind body next) s v _ has
      (given_guard P (Kept lo v) (resume (run x limit code n) next s.place) (ends_look behind s.place) (Some []) (λ r. bind (put_back s.place r) k) [] (gives_nothing P (Some []) refl)
      (λ p r u b. given_at P _ _ _ (sym (append-nil _)) (gives_more x limit code P m n next (moved_to r s.place) u _ le (out (moved_to r s.place) u refl b)))
      _ es inner))

  pub look_follows : (negated behind : Bool) (start d lo : ℕ) (f : Walk) (next entry : Entry)
      → ((s : State) (v : List ℕ) → s.place ≤ limit → length v ≡ hi → CodeGives x (length x.haystack) code (Kept lo v) d start s v (f s))
      → LooksBy negated behind start code next entry → Follow x limit code hi (λ s. looked negated behind s (f s)) (d + 1) lo next entry
  look_follows negated behind start d lo f next entry body has = record {
    moved = λ P m k s v le len go.
        gives_more x limit code P (suc (d + m)) (d + 1 + m) entry.moved s v _ (omega arith)
        (look_gives P negated behind lo (d + m) m entry.moved start next.moved (f s) k s v has.0 (omega arith)
        (gives_more x (length x.haystack) code (Kept lo v) d (d + m) start s v _ (omega arith) (body s v le len))
        (λ r u same below. go r u (omega arith) (omega arith) below));
    still = λ P m k s v le len go at.
        gives_more x limit code P (suc (d + m)) (d + 1 + m) entry.still s v _ (omega arith)
        (look_gives P negated behind lo (d + m) m entry.still start next.still (f s) k s v has.1 (omega arith)
        (gives_more x (length x.haystack) code (Kept lo v) d (d + m) start s v _ (omega arith) (body s v le len))
        at);
  }

  -- where a part stops at the first instruction
  pub stops_gives : Has code 0 i.Match → (f : Walk) (d lo : ℕ) (inner : Entry) → Follow x limit code hi f d lo stopping inner
      → (s : State) (v : List ℕ) → s.place ≤ limit → length v ≡ hi → CodeGives x limit code (Kept lo v) (d + 1) inner.moved s v (f s)
  stops_gives matching f d lo inner fa s v le len =
      given_at (Kept lo v) _ _ _ (bind-stay (f s))
      (fa.moved (Kept lo v) 1 stay s v le len (λ r u after within below. gives_match x limit code (Kept lo v) 0 0 r u matching below))

  -- units back, and then a part
  pub back_gives : Has code 0 i.Match → Has code 1 i.Fail → (o : Option ℕ) (f : Walk) (M : Entry → Type 0) (d lo start : ℕ)
      → ((inner : Entry) → M inner → Follow x limit code hi f d lo stopping inner) → BackBy o M code start
      → (s : State) (v : List ℕ) → s.place ≤ limit → length v ≡ hi → CodeGives x limit code (Kept lo v) (d + 2) start s v (from_before x o f s)
  back_gives matching failing None f M d lo start each by s v le len =
      subst (λ (q : ℕ). CodeGives x limit code (Kept lo v) (d + 2) q s v []) (sym by)
      (gives_more x limit code (Kept lo v) 1 (d + 2) 1 s v [] (omega arith) (gives_fail x limit code (Kept lo v) 0 1 s v failing))
  back_gives matching failing (Some n) f M d lo start each by s v le len =
      gives_more x limit code (Kept lo v) (suc (d + 1)) (d + 2) start s v _ (omega arith)
      (gives_act x limit code (Kept lo v) (d + 1) start (i.Back n by.0.moved) s v _ by.2
      (given_back (Kept lo v) (run x limit code (d + 1)) by.0.moved s v f (units_back x n s.place)
      (λ p e. stops_gives matching f d lo by.0 (each by.0 by.1) (moved_to s p) v (omega (arith, back_low x n s.place p e)) len)))

  -- a test of the state
  pub test_follows : (test : State → Bool) (j k : Instruction) (lo : ℕ) (next entry : Entry) → HasBoth code entry j k
      → ((n : ℕ) (s : State) (v : List ℕ) → act x limit entry.moved j (run x limit code n) (run x (length x.haystack) code n) s v ≡ (if test s then (run x limit code n next.moved s v) else (Some [])))
      → ((n : ℕ) (s : State) (v : List ℕ) → act x limit entry.still k (run x limit code n) (run x (length x.haystack) code n) s v ≡ (if test s then (run x limit code n next.still s v) else (Some [])))
      → Follow x limit code hi (λ s. holding (test s) s) 1 lo next entry
  test_follows test j k lo next entry has one two = record {
    moved = λ P m w s v le len go.
        (let g = given_holding P (test s) _ s w (go s v (omega arith) le (below_same lo v)) in
        gives_more x limit code P (suc m) (1 + m) entry.moved s v _ (omega arith)
        (gives_act x limit code P m entry.moved j s v _ has.0 (g.0, one m s v ∙ g.1, g.2, g.3)));
    still = λ P m w s v le len go at.
        (let g = given_holding P (test s) _ s w (at s v refl (below_same lo v)) in
        gives_more x limit code P (suc m) (1 + m) entry.still s v _ (omega arith)
        (gives_act x limit code P m entry.still k s v _ has.1 (g.0, two m s v ∙ g.1, g.2, g.3)));
  }

  -- the start is kept
  pub keep_follows : (lo : ℕ) (next entry : Entry) → HasBoth code entry (i.Keep next.moved) (i.Keep next.still)
      → Follow x limit code hi (λ s. stay (record s { kept = s.place })) 1 lo next entry
  keep_follows lo next entry has = record {
    moved = λ P m w s v le len go.
        gives_more x limit code P (suc m) (1 + m) entry.moved s v _ (omega arith)
        (gives_act x limit code P m entry.moved (i.Keep next.moved) s v _ has.0
        (given_at P _ _ _ (sym (append-nil _)) (go (record s { kept = s.place }) v (omega arith) le (below_same lo v))));
    still = λ P m w s v le len go at.
        gives_more x limit code P (suc m) (1 + m) entry.still s v _ (omega arith)
        (gives_act x limit code P m entry.still (i.Keep next.still) s v _ has.1
        (given_at P _ _ _ (sym (append-nil _)) (at (record s { kept = s.place }) v refl (below_same lo v))));
  }

  -- a group's text once more
  pub recall_follows : (folded : Bool) (number lo : ℕ) (next entry : Entry) → HasBoth code entry (i.Recall folded number next.moved next.moved) (i.Recall folded number next.moved next.still)
      → Follow x limit code hi (λ s. move limit s (past_backreference x folded number s)) 1 lo next entry
  recall_follows folded number lo next entry has = record {
    moved = λ P m w s v le len go.
        gives_more x limit code P (suc m) (1 + m) entry.moved s v _ (omega arith)
        (gives_act x limit code P m entry.moved (i.Recall folded number next.moved next.moved) s v _ has.0
        (given_rejoin P limit (run x limit code m) next.moved next.moved s v w (past_backreference x folded number s)
        (λ p e within same. go (moved_to s p) v (recall_beyond x folded number s p e) within (below_same lo v))
        (λ p e within other. go (moved_to s p) v (recall_beyond x folded number s p e) within (below_same lo v))));
    still = λ P m w s v le len go at.
        gives_more x limit code P (suc m) (1 + m) entry.still s v _ (omega arith)
        (gives_act x limit code P m entry.still (i.Recall folded number next.moved next.still) s v _ has.1
        (given_rejoin P limit (run x limit code m) next.moved next.still s v w (past_backreference x folded number s)
        (λ p e within same. at (moved_to s p) v same (below_same lo v))
        (λ p e within other. go (moved_to s p) v (omega (arith, recall_beyond x folded number s p e, other)) within (below_same lo v))));
  }
