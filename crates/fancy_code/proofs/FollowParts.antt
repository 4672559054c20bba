-- What it is for code to follow a walk, and how that is put together: whatever the parts are.
use Rattle.std.proofs.Common.{◌≡◌, ℕ, zero, suc, ◌+◌, ◌-◌, ◌<◌, ◌≤◌, Bool, List, [], length, Option, Some, None, refl, sym, ap, ap₂, ◌∙◌, subst, arith, eq-eqb, get_or-set_same, get_or-set_other, length-set, add-zero, add-suc}
use Rattle.std.specs.Prelude.{slice_index, slice_set, if◌then◌else◌, ◌==◌}
use Rattle.std.proofs.lemmas.Bool.{ne_eqb}
use Rattle.std.proofs.lemmas.List.{append-nil}
use Rattle.fancy_code.specs.Instructions.{Instruction}
use Rattle.fancy_code.specs.Instructions as i
use Rattle.fancy_code.specs.declared.code.Entry.{Entry}
use Rattle.fancy_meaning.specs.Context.{Context, State, moved_to, with_capture}
use Rattle.fancy_meaning.specs.Events.{Event, Walk, stay, bind, either, prefer, move, copies, optionals, turns, star}
use Rattle.fancy_code.specs.Run.{Ends, CodeGives, onward, act, run}
use Rattle.fancy_code.specs.Compile.{Has, HasBoth, split_of, turn_depth, copies_depth, optionals_depth, rest_depth, Below, CopiesBy, OptionalsBy, RepeatBy}
use Rattle.fancy_meaning.specs.Trace.{repeated}
use Rattle.fancy_meaning.proofs.EventLemmas.{bind-bind, bind-either, bind-prefer}
use Rattle.fancy_code.proofs.RunLemmas.{given_at, given_onward, gives_act, gives_more, gives_fail, gives_prefer, gives_split, gives_open, gives_close}

-- the two agree below lo
pub below_trans : (lo : ℕ) (u v w : List ℕ) → Below lo u v → Below lo v w → Below lo u w
below_trans lo u v w a b = (a.0 ∙ b.0, λ k lt. b.1 k lt ∙ a.1 k lt)

pub below_same : (lo : ℕ) (u : List ℕ) → Below lo u u
below_same lo u = (refl, λ k lt. refl)

below_set : (lo g x : ℕ) (u : List ℕ) → lo ≤ g → Below lo u (slice_set u g x)
below_set lo g x u le = (sym (length-set u g x), λ k lt. get_or-set_other u g k x 0 (λ e. let bad : ⊥ = omega arith in bad))

below_less : (lo lo' : ℕ) (u v : List ℕ) → lo ≤ lo' → Below lo' u v → Below lo u v
below_less lo lo' u v le b = (b.0, λ k lt. b.1 k (omega arith))

some_depth : (d n : ℕ) → 1 ≤ turn_depth d n
some_depth d zero = omega arith
some_depth d (suc n) = omega (arith, some_depth d n)

depth_grows : (d n j : ℕ) → turn_depth d n ≤ turn_depth d (n + j)
depth_grows d n zero = rw add-zero (omega arith)
depth_grows d n (suc j) = rw add-suc (omega (arith, depth_grows d n j))

depth_le : (d n j : ℕ) → n ≤ j → turn_depth d n ≤ turn_depth d j
depth_le d n j le =
    let e : n + (j - n) ≡ j = omega arith in
    subst (λ (y : ℕ). turn_depth d n ≤ turn_depth d y) e (depth_grows d n (j - n))

module _ (x : Context) (limit : ℕ) (code : List Instruction) (hi : ℕ) where
  module _ (P : Ends) where
    -- from each place from p on the code at q goes on as k says
    abbrev pub Moved : ℕ → ℕ → ℕ → ℕ → List ℕ → Walk → Type 0
    Moved p m q lo v k = (r : State) (u : List ℕ) → p ≤ r.place → r.place ≤ limit → Below lo v u → CodeGives x limit code P m q r u (k r)

    -- the same at the place p
    abbrev pub Still : ℕ → ℕ → ℕ → ℕ → List ℕ → Walk → Type 0
    Still p m q lo v k = (r : State) (u : List ℕ) → r.place ≡ p → Below lo v u → CodeGives x limit code P m q r u (k r)

    -- the code from `entry` to `next` follows the walk f, and then goes on as `next` does
    abbrev pub FollowsMoved : Walk → ℕ → ℕ → Entry → Entry → Type 0
    FollowsMoved f d lo next entry = (m : ℕ) (k : Walk) (s : State) (v : List ℕ) → s.place ≤ limit → length v ≡ hi
        → Moved s.place m next.moved lo v k → CodeGives x limit code P (d + m) entry.moved s v (bind (f s) k)

    abbrev pub FollowsStill : Walk → ℕ → ℕ → Entry → Entry → Type 0
    FollowsStill f d lo next entry = (m : ℕ) (k : Walk) (s : State) (v : List ℕ) → s.place ≤ limit → length v ≡ hi
        → Moved (s.place + 1) m next.moved lo v k → Still s.place m next.still lo v k → CodeGives x limit code P (d + m) entry.still s v (bind (f s) k)

    pub at_trace : (n q : ℕ) (s : State) (v : List ℕ) (t u : List Event) → t ≡ u → CodeGives x limit code P n q s v t → CodeGives x limit code P n q s v u
    at_trace n q s v t u e g = given_at P _ t u e g

  -- However the ways stop: the code from `entry` to `next` follows the walk f in both forms, at most d instructions deep, and leaves the groups below lo as they are.
  pub record Follow (f : Walk) (d lo : ℕ) (next entry : Entry) : Type 1 where
    pub moved : (P : Ends) → FollowsMoved P f d lo next entry
    pub still : (P : Ends) → FollowsStill P f d lo next entry

  -- it may be deeper
  pub deeper : (f : Walk) (d c lo : ℕ) (next entry : Entry) → d ≤ c → Follow f d lo next entry → Follow f c lo next entry
  deeper f d c lo next entry short fa = record {
    moved = λ P m k s v le len go. gives_more x limit code P (d + m) (c + m) entry.moved s v _ (omega arith) (fa.moved P m k s v le len go);
    still = λ P m k s v le len go at. gives_more x limit code P (d + m) (c + m) entry.still s v _ (omega arith) (fa.still P m k s v le len go at);
  }

  pub none_follow : (lo : ℕ) (next entry : Entry) → entry ≡ next → Follow stay 0 lo next entry
  none_follow lo next entry e =
      subst (λ (y : Entry). Follow stay 0 lo next y) (sym e)
      (record {
        moved = λ P m k s v le len go. gives_more x limit code P m (0 + m) _ s v _ (omega arith) (at_trace P m _ s v _ _ (sym (append-nil _)) (go s v (omega arith) le (below_same lo v)));
        still = λ P m k s v le len go at. gives_more x limit code P m (0 + m) _ s v _ (omega arith) (at_trace P m _ s v _ _ (sym (append-nil _)) (at s v refl (below_same lo v)));
      })

  -- an item, which leads beyond its place
  module _ (lo : ℕ) (i : Instruction) (past : ℕ → Option ℕ) (next entry : Entry) (has : Has code entry.moved i) (both : entry.still ≡ entry.moved)
      (acts : (n q : ℕ) (s : State) (v : List ℕ) → act x limit q i (run x limit code n) (run x (length x.haystack) code n) s v ≡ onward limit (run x limit code n) next.moved s v (past s.place))
      (beyond : (p r : ℕ) → past p ≡ Some r → p < r) where
    item_gives : (P : Ends) (m : ℕ) (k : Walk) (s : State) (v : List ℕ) → Moved P (s.place + 1) m next.moved lo v k
        → CodeGives x limit code P (1 + m) entry.moved s v (bind (move limit s (past s.place)) k)
    item_gives P m k s v go =
        gives_more x limit code P (suc m) (1 + m) _ s v _ (omega arith)
        (gives_act x limit code P m entry.moved i s v _ has
        (let g = given_onward P limit (run x limit code m) next.moved s v k (past s.place) (λ p e le. go (moved_to s p) v (let lt : s.place < p = beyond s.place p e in omega arith) le (below_same lo v)) in
        (g.0, acts m entry.moved s v ∙ g.1, g.2, g.3)))

    pub item_follows : Follow (λ s. move limit s (past s.place)) 1 lo next entry
    item_follows = record {
      moved = λ P m k s v le len go. item_gives P m k s v (λ r u after within below. go r u (omega arith) within below);
      still = λ P m k s v le len go at. subst (λ (q : ℕ). CodeGives x limit code P (1 + m) q s v (bind (move limit s (past s.place)) k)) (sym both) (item_gives P m k s v go);
    }

  -- one after the other
  pub both_follow : (f g : Walk) (d c lo : ℕ) (next mid entry : Entry) → Follow f d lo mid entry → Follow g c lo next mid → Follow (λ s. bind (f s) g) (d + c) lo next entry
  both_follow f g d c lo next mid entry fa fb = record {
    moved = λ P m k s v le len go.
        at_trace P (d + c + m) entry.moved s v _ _ (sym (bind-bind (f s) g k))
        (gives_more x limit code P (d + (c + m)) (d + c + m) _ s v _ (omega arith)
        (fa.moved P (c + m) (λ r. bind (g r) k) s v le len
        (λ r u past within below. fb.moved P m k r u within (sym below.0 ∙ len) (λ r' u' past' within' below'. go r' u' (omega arith) within' (below_trans lo v u u' below below')))));
    still = λ P m k s v le len go at.
        at_trace P (d + c + m) entry.still s v _ _ (sym (bind-bind (f s) g k))
        (gives_more x limit code P (d + (c + m)) (d + c + m) _ s v _ (omega arith)
        (fa.still P (c + m) (λ r. bind (g r) k) s v le len
        (λ r u past within below. fb.moved P m k r u within (sym below.0 ∙ len) (λ r' u' past' within' below'. go r' u' (omega arith) within' (below_trans lo v u u' below below')))
        (λ r u same below. fb.still P m k r u (omega arith) (sym below.0 ∙ len)
        (λ r' u' past' within' below'. go r' u' (omega arith) within' (below_trans lo v u u' below below'))
        (λ r' u' same' below'. at r' u' (same' ∙ same) (below_trans lo v u u' below below')))));
  }

  -- one or the other
  pub either_follow : (f g : Walk) (d c lo : ℕ) (next one two entry : Entry) → Follow f d lo next one → Follow g c lo next two
      → HasBoth code entry (i.Split one.moved two.moved) (i.Split one.still two.still) → Follow (λ s. either (f s) (g s)) (d + c + 1) lo next entry
  either_follow f g d c lo next one two entry fa fb has = record {
    moved = λ P m k s v le len go.
        at_trace P (d + c + 1 + m) entry.moved s v _ _ (sym (bind-either (f s) (g s) k))
        (gives_more x limit code P (suc (d + c + m)) (d + c + 1 + m) entry.moved s v _ (omega arith)
        (gives_split x limit code P (d + c + m) entry.moved one.moved two.moved s v _ _ has.0
        (gives_more x limit code P (d + m) (d + c + m) one.moved s v _ (omega arith) (fa.moved P m k s v le len go))
        (gives_more x limit code P (c + m) (d + c + m) two.moved s v _ (omega arith) (fb.moved P m k s v le len go))));
    still = λ P m k s v le len go at.
        at_trace P (d + c + 1 + m) entry.still s v _ _ (sym (bind-either (f s) (g s) k))
        (gives_more x limit code P (suc (d + c + m)) (d + c + 1 + m) entry.still s v _ (omega arith)
        (gives_split x limit code P (d + c + m) entry.still one.still two.still s v _ _ has.1
        (gives_more x limit code P (d + m) (d + c + m) one.still s v _ (omega arith) (fa.still P m k s v le len go at))
        (gives_more x limit code P (c + m) (d + c + m) two.still s v _ (omega arith) (fb.still P m k s v le len go at))));
  }

  -- a group, whose own slot says where it began
  module _ (f : Walk) (d lo g : ℕ) (next close inner entry : Entry) (le_g : lo ≤ g) (lt_g : g < hi) (fa : Follow f d (g + 1) close inner)
      (closing : HasBoth code close (i.Close g next.moved) (i.Close g next.still)) (opening : HasBoth code entry (i.Open g inner.moved) (i.Open g inner.still)) where
    open_gives : (P : Ends) (m q at : ℕ) (k : Walk) (s : State) (v : List ℕ) → Has code q (i.Open g at)
        → CodeGives x limit code P (d + (m + 1)) at s (slice_set v g s.place) (bind (f s) (λ r. bind (stay (with_capture r g s.place)) k))
        → CodeGives x limit code P (d + 2 + m) q s v (bind (bind (f s) (λ r. stay (with_capture r g s.place))) k)
    open_gives P m q at k s v has body =
        at_trace P _ q s v _ _ (sym (bind-bind (f s) (λ r. stay (with_capture r g s.place)) k))
        (gives_more x limit code P (suc (d + (m + 1))) (d + 2 + m) q s v _ (omega arith)
        (gives_open x limit code P (d + (m + 1)) q g at s v _ has body))

    close_gives : (P : Ends) (m q after : ℕ) (k : Walk) (s r : State) (v u : List ℕ) → length v ≡ hi → Has code q (i.Close g after) → Below (g + 1) (slice_set v g s.place) u
        → (Below lo v u → CodeGives x limit code P m after (with_capture r g s.place) u (k (with_capture r g s.place)))
        → CodeGives x limit code P (m + 1) q r u (bind (stay (with_capture r g s.place)) k)
    close_gives P m q after k s r v u len has b out =
        let at : slice_index u g ≡ s.place = b.1 g (omega arith) ∙ get_or-set_same v g s.place 0 (omega arith) in
        let below : Below lo v u = below_trans lo v (slice_set v g s.place) u (below_set lo g s.place v le_g) (below_less lo (g + 1) _ u (omega arith) b) in
        gives_more x limit code P (suc m) (m + 1) q r u _ (omega arith)
        (gives_close x limit code P m q g after r u _ has
        (subst (λ (p : ℕ). CodeGives x limit code P m after (with_capture r g p) u (bind (stay (with_capture r g s.place)) k)) (sym at)
        (at_trace P m after _ u _ _ (sym (append-nil _)) (out below))))

    pub group_follows : Follow (λ s. bind (f s) (λ r. stay (with_capture r g s.place))) (d + 2) lo next entry
    group_follows = record {
      moved = λ P m k s v le len go.
          open_gives P m entry.moved inner.moved k s v opening.0
          (fa.moved P (m + 1) (λ r. bind (stay (with_capture r g s.place)) k) s (slice_set v g s.place) le (length-set v g s.place ∙ len)
          (λ r u after within below. close_gives P m close.moved next.moved k s r v u len closing.0 below (λ b. go _ u after within b)));
      still = λ P m k s v le len go at.
          open_gives P m entry.still inner.still k s v opening.1
          (fa.still P (m + 1) (λ r. bind (stay (with_capture r g s.place)) k) s (slice_set v g s.place) le (length-set v g s.place ∙ len)
          (λ r u after within below. close_gives P m close.moved next.moved k s r v u len closing.0 below (λ b. go _ u after within b))
          (λ r u same below. close_gives P m close.still next.still k s r v u len closing.1 below (λ b. at _ u same b)));
    }

  -- a star, whose turn follows the walk f
  module _ (failing : Has code 1 i.Fail) (greedy : Bool) (f : Walk) (d lo self : ℕ) (turn : Entry) (fa : Follow f d lo (record { moved = self; still = 1 }) turn) where
    star_turn : (P : Ends) (n m q after : ℕ) (k : Walk) (s : State) (v : List ℕ) → Has code q (split_of greedy turn.still after) → s.place ≤ limit → length v ≡ hi
        → ((r : State) (u : List ℕ) → s.place + 1 ≤ r.place → r.place ≤ limit → Below lo v u → CodeGives x limit code P (turn_depth d n + m) self r u (bind (turns greedy n f r) k))
        → CodeGives x limit code P m after s v (k s)
        → CodeGives x limit code P (turn_depth d (suc n) + m) q s v (bind (turns greedy (suc n) f s) k)
    star_turn P n m q after k s v has le len again out =
        let g : Walk = λ r. if r.place == s.place then [] else turns greedy n f r in
        let inner = fa.still P (turn_depth d n + m) (λ r. bind (g r) k) s v le len
        (λ r u past within b. at_trace P _ self r u _ _
        (ap (λ (c : Bool). bind (if c then [] else turns greedy n f r) k) (sym (ne_eqb r.place s.place (λ e. let bad : ⊥ = omega arith in bad))))
        (again r u past within b))
        (λ r u e b. at_trace P _ 1 r u _ _
        (ap (λ (c : Bool). bind (if c then [] else turns greedy n f r) k) (sym (eq-eqb r.place s.place e)))
        (gives_more x limit code P 1 (turn_depth d n + m) 1 r u [] (omega (arith, some_depth d n)) (gives_fail x limit code P 0 1 r u failing))) in
        let deep = d + (turn_depth d n + m) in
        let both = gives_prefer x limit code P greedy deep q turn.still after s v _ _ has inner (gives_more x limit code P m deep after s v (k s) (omega arith) out) in
        at_trace P _ q s v _ _
        (sym (bind-prefer greedy (bind (f s) g) (stay s) k ∙ ap₂ (prefer greedy) (bind-bind (f s) g k) (append-nil (k s))))
        (gives_more x limit code P (suc deep) (turn_depth d (suc n) + m) q s v _ (omega arith) both)

    star_moved : (P : Ends) (n m after : ℕ) (k : Walk) (s : State) (v : List ℕ) → Has code self (split_of greedy turn.still after)
        → s.place ≤ limit → length v ≡ hi → limit - s.place < n → Moved P s.place m after lo v k
        → CodeGives x limit code P (turn_depth d n + m) self s v (bind (turns greedy n f s) k)
    star_moved P zero m after k s v has le len short next = absurd (omega arith)
    star_moved P (suc n) m after k s v has le len short next =
        star_turn P n m self after k s v has le len
        (λ r u past within b. star_moved P n m after k r u has within (sym b.0 ∙ len) (omega arith)
        (λ r' u' le' within' b'. next r' u' (omega arith) within' (below_trans lo v u u' b b')))
        (next s v (omega arith) le (below_same lo v))

    pub star_follows : (c : ℕ) (next entry : Entry) → limit ≤ c → self ≡ entry.moved → HasBoth code entry (split_of greedy turn.still next.moved) (split_of greedy turn.still next.still)
        → Follow (star greedy limit f) (turn_depth d (suc c)) lo next entry
    star_follows c next entry le_c e has = record {
      moved = λ P m k s v le len go.
          gives_more x limit code P (turn_depth d (suc (limit - s.place)) + m) (turn_depth d (suc c) + m) _ s v _ (omega (arith, depth_le d (suc (limit - s.place)) (suc c) (omega arith)))
          (subst (λ (q : ℕ). CodeGives x limit code P (turn_depth d (suc (limit - s.place)) + m) q s v (bind (turns greedy (suc (limit - s.place)) f s) k)) e
          (star_moved P (suc (limit - s.place)) m next.moved k s v (subst (λ (q : ℕ). Has code q (split_of greedy turn.still next.moved)) (sym e) has.0) le len (omega arith) go));
      still = λ P m k s v le len go at.
          gives_more x limit code P (turn_depth d (suc (limit - s.place)) + m) (turn_depth d (suc c) + m) _ s v _ (omega (arith, depth_le d (suc (limit - s.place)) (suc c) (omega arith)))
          (star_turn P (limit - s.place) m entry.still next.still k s v has.1 le len
          (λ r u past within below.
          star_moved P (limit - s.place) m next.moved k r u (subst (λ (q : ℕ). Has code q (split_of greedy turn.still next.moved)) (sym e) has.0) within (sym below.0 ∙ len) (omega arith)
          (λ r' u' past' within' below'. go r' u' (omega arith) within' (below_trans lo v u u' below below')))
          (at s v refl (below_same lo v)));
    }

  -- counted repeats, where M says what the code of one turn is
  module _ (failing : Has code 1 i.Fail) (M : Entry → Entry → Type 0) (f : Walk) (d lo : ℕ) (each : (next entry : Entry) → M next entry → Follow f d lo next entry) where
    pub copies_follow : (n c : ℕ) (rest : Walk) (next mid entry : Entry) → Follow rest c lo next mid → CopiesBy M n mid entry
        → Follow (copies n f rest) (copies_depth d c n) lo next entry
    copies_follow zero c rest next mid entry after means = subst (λ (y : Entry). Follow rest c lo next y) (sym means) after
    copies_follow (suc n) c rest next mid entry after means =
        both_follow f (copies n f rest) d (copies_depth d c n) lo next means.0 entry (each means.0 entry means.2) (copies_follow n c rest next mid means.0 after means.1)

    pub optionals_follow : (greedy : Bool) (n : ℕ) (next entry : Entry) → OptionalsBy M greedy code n next entry → Follow (optionals greedy n f) (optionals_depth d n) lo next entry
    optionals_follow greedy zero next entry means = none_follow lo next entry means
    optionals_follow greedy (suc n) next entry means =
        let c = optionals_depth d n in
        let inner = both_follow f (optionals greedy n f) d c lo next means.0 means.1 (each means.0 means.1 means.3) (optionals_follow greedy n next means.0 means.2) in
        record {
          moved = λ P m k s v le len go.
              at_trace P (d + c + 1 + m) entry.moved s v _ _ (sym (bind-prefer greedy (bind (f s) (optionals greedy n f)) (stay s) k ∙ ap₂ (prefer greedy) refl (append-nil (k s))))
              (gives_more x limit code P (suc (d + c + m)) (d + c + 1 + m) entry.moved s v _ (omega arith)
              (gives_prefer x limit code P greedy (d + c + m) entry.moved means.1.moved next.moved s v _ _ means.4.0
              (inner.moved P m k s v le len go)
              (gives_more x limit code P m (d + c + m) next.moved s v (k s) (omega arith) (go s v (omega arith) le (below_same lo v)))));
          still = λ P m k s v le len go at.
              at_trace P (d + c + 1 + m) entry.still s v _ _ (sym (bind-prefer greedy (bind (f s) (optionals greedy n f)) (stay s) k ∙ ap₂ (prefer greedy) refl (append-nil (k s))))
              (gives_more x limit code P (suc (d + c + m)) (d + c + 1 + m) entry.still s v _ (omega arith)
              (gives_prefer x limit code P greedy (d + c + m) entry.still means.1.still next.still s v _ _ means.4.1
              (inner.still P m k s v le len go at)
              (gives_more x limit code P m (d + c + m) next.still s v (k s) (omega arith) (at s v refl (below_same lo v)))));
        }

    pub repeat_follows : (greedy : Bool) (c low : ℕ) (high : Option ℕ) (next entry : Entry) → limit ≤ c → RepeatBy M greedy code low high next entry
        → Follow (repeated greedy limit low high f) (copies_depth d (rest_depth d c low high) low) lo next entry
    repeat_follows greedy c low None next entry le means =
        let mid = means.0 in
        let turn = means.1.0 in
        copies_follow low (turn_depth d (suc c)) (star greedy limit f) next mid entry
        (star_follows failing greedy f d lo mid.moved turn (each (record { moved = mid.moved; still = 1 }) turn means.1.1) c next mid le refl means.1.2)
        means.2
    repeat_follows greedy c low (Some high) next entry le means =
        copies_follow low (optionals_depth d (high - low)) (optionals greedy (high - low) f) next means.0 entry (optionals_follow greedy (high - low) next means.0 means.1) means.2
