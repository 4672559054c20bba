-- What the answer of a search is: the test of acceptance, the answer at a position, and the answer over all positions.
use Rattle.std.proofs.Common.{◌≡◌, ℕ, zero, suc, ◌+◌, ◌<◌, ◌≤◌, Bool, true, false, not, ◌&&◌, ◌||◌, ◌==◌, cond, List, [], ◌∷◌, ◌++◌, filter, Option, Some, None, option_map, if◌then◌else◌, nat_lt, All, IsTrue, ◌⊎◌, inl, inr, refl, sym, ap, subst, ◌∙◌, arith, true≢false}
use Rattle.std.specs.Prelude.{◌↔◌}
use Rattle.std.specs.List.{Contains}
use Rattle.std.specs.Option.{option_or}
use Rattle.std.specs.Cmp.Derive.{both_true}
use Rattle.std.proofs.lemmas.List.Elements.{All-nil, All-cons, All-contains, Contains-append_left, Contains-append_right, Contains-push}
use Rattle.std.proofs.lemmas.Bool.Decides.{eqb_tells}
use Rattle.fancy_input.specs.Requests.{effective_start, positions}
use Rattle.fancy_meaning.specs.Context.{State}
use Rattle.fancy_meaning.specs.Search.{Query, Answer, outcomes_at, is_match_boundary, accepted, IsAccepted, first_one, further, longest_one, answer_at, answer_from, search}
use Rattle.fancy_meaning.specs.Answers.{HasAccepted, HasNone, IsFirstAccepted, IsAnswer}

pub and_parts : (a b : Bool) → (a && b) ≡ true → (a ≡ true) × (b ≡ true)
and_parts true b e = (refl, e)
and_parts false b e = absurd (true≢false (sym e))

-- "not on, or b" says that b holds where `on` does
unless_off : (on b : Bool) → (not on || b) ≡ true → IsTrue on → IsTrue b
unless_off true b e h = e
unless_off false b e h = absurd (true≢false (sym h))

where_on : (on b : Bool) → (IsTrue on → IsTrue b) → (not on || b) ≡ true
where_on true b h = h refl
where_on false b h = refl

differ_from_test : (a b : ℕ) → not (a == b) ≡ true → a ≡ b → ⊥
differ_from_test a b e same =
    elim (eqb_tells a b) [ inl h ↦ true≢false (sym e ∙ ap not h.0) | inr h ↦ h.1 same ]

test_from_differ : (a b : ℕ) → (a ≡ b → ⊥) → not (a == b) ≡ true
test_from_differ a b ne = elim (eqb_tells a b) [ inl h ↦ absurd (ne h.1) | inr h ↦ ap not h.0 ]

-- the test of acceptance tells exactly the accepted states
pub accepted-is : (q : Query) (p : ℕ) (s : State) → accepted q p s ≡ true → IsAccepted q p s
accepted-is q p s e =
    let here = and_parts (is_match_boundary q.sought.on_boundaries q.haystack p) _ e in
    let kept = and_parts (is_match_boundary q.sought.on_boundaries q.haystack s.kept) _ here.1 in
    let end = and_parts (is_match_boundary q.sought.on_boundaries q.haystack s.place) _ kept.1 in
    record {
      begins = unless_off q.sought.on_boundaries _ here.0;
      keeps = unless_off q.sought.on_boundaries _ kept.0;
      ends = unless_off q.sought.on_boundaries _ end.0;
      filled = λ h. differ_from_test s.kept s.place (unless_off q.sought.not_empty _ end.1 h);
    }

pub is-accepted : (q : Query) (p : ℕ) (s : State) → IsAccepted q p s → accepted q p s ≡ true
is-accepted q p s a =
    both_true (where_on q.sought.on_boundaries _ a.begins)
    (both_true (where_on q.sought.on_boundaries _ a.keeps)
    (both_true (where_on q.sought.on_boundaries _ a.ends)
    (where_on q.sought.not_empty _ (λ h. test_from_differ s.kept s.place (a.filled h)))))

refused-is : (q : Query) (p : ℕ) (s : State) → accepted q p s ≡ false → ¬ IsAccepted q p s
refused-is q p s e a = true≢false (sym (is-accepted q p s a) ∙ e)

-- s is the first of these that passes the test
record FirstOf (test : State → Bool) (ss : List State) (s : State) : Type 0 where
  before : List State
  after : List State
  splits : ss ≡ before ++ s ∷ after
  refused : All (λ t. test t ≡ false) before
  taken : test s ≡ true

first_at : (test : State → Bool) (x : State) (xs : List State) (s : State) (b : Bool) → test x ≡ b →
    (first_one (filter test xs) ≡ Some s → FirstOf test xs s) →
    first_one (cond b (x ∷ filter test xs) (filter test xs)) ≡ Some s → FirstOf test (x ∷ xs) s
first_at test x xs s true h later e =
    let same : x ≡ s = cc in
    record { before = []; after = xs; splits = ap (λ y. y ∷ xs) same; refused = All-nil _; taken = sym (ap test same) ∙ h }
first_at test x xs s false h later e =
    let rest = later e in
    record {
      before = x ∷ rest.before;
      after = rest.after;
      splits = ap (λ ys. x ∷ ys) rest.splits;
      refused = All-cons (λ t. test t ≡ false) x rest.before h rest.refused;
      taken = rest.taken;
    }

first-of : (test : State → Bool) (ss : List State) (s : State) → first_one (filter test ss) ≡ Some s → FirstOf test ss s
first-of test [] s e = cc
first-of test (x ∷ xs) s e = first_at test x xs s (test x) refl (first-of test xs s) e

none_at : (test : State → Bool) (x : State) (xs : List State) (b : Bool) → test x ≡ b →
    (filter test xs ≡ [] → All (λ t. test t ≡ false) xs) →
    cond b (x ∷ filter test xs) (filter test xs) ≡ [] → All (λ t. test t ≡ false) (x ∷ xs)
none_at test x xs true h later e = cc
none_at test x xs false h later e = All-cons (λ t. test t ≡ false) x xs h (later e)

pub all_refused : (test : State → Bool) (ss : List State) → filter test ss ≡ [] → All (λ t. test t ≡ false) ss
all_refused test [] e = All-nil _
all_refused test (x ∷ xs) e = none_at test x xs (test x) refl (all_refused test xs) e

kept_none_at : (test : State → Bool) (x : State) (xs : List State) (b : Bool) → test x ≡ b → (test x ≡ true → ⊥) → filter test xs ≡ [] →
    cond b (x ∷ filter test xs) (filter test xs) ≡ []
kept_none_at test x xs true h ne e = absurd (ne h)
kept_none_at test x xs false h ne e = e

kept_none : (test : State → Bool) (ss : List State) → ((s : State) → Contains ss s → test s ≡ true → ⊥) → filter test ss ≡ []
kept_none test [] h = refl
kept_none test (x ∷ xs) h =
    kept_none_at test x xs (test x) refl (h x (Contains-append_left (x ∷ []) xs x (Contains-push [] x)))
    (kept_none test xs (λ s c. h s (Contains-append_right (x ∷ []) xs s c)))

further_is : (s : State) (o : Option State) → further s o ≡ None → ⊥
further_is s None e = cc
further_is s (Some t) e = which (nat_lt s.place t.place) e
  where
    which : (b : Bool) → (if b then Some t else Some s) ≡ None → ⊥
    which true e = cc
    which false e = cc

first_none : (ss : List State) → first_one ss ≡ None → ss ≡ []
first_none [] e = refl
first_none (s ∷ ss) e = cc

pub longest_none : (ss : List State) → longest_one ss ≡ None → ss ≡ []
longest_none [] e = refl
longest_none (s ∷ ss) e = absurd (further_is s (longest_one ss) e)

nothing_at : (longest : Bool) (ss : List State) → (if longest then longest_one ss else first_one ss) ≡ None → ss ≡ []
nothing_at true ss e = longest_none ss e
nothing_at false ss e = first_none ss e

nothing_there : (longest : Bool) (ss : List State) → ss ≡ [] → (if longest then longest_one ss else first_one ss) ≡ None
nothing_there true ss e = ap longest_one e
nothing_there false ss e = ap first_one e

-- the answer at a position is none exactly where it has no accepted outcome
pub no_answer-is : (q : Query) (p : ℕ) → answer_at q p ≡ None → ¬ HasAccepted q p
unfolding answer_at
no_answer-is q p e h =
    let none : All (λ t. accepted q p t ≡ false) (outcomes_at q p) =
    all_refused (accepted q p) (outcomes_at q p) (nothing_at q.sought.longest (filter (accepted q p) (outcomes_at q p)) e) in
    refused-is q p h.state (All-contains (λ t. accepted q p t ≡ false) (outcomes_at q p) h.state none h.reached) h.stands

pub is-no_answer : (q : Query) (p : ℕ) → ¬ HasAccepted q p → answer_at q p ≡ None
unfolding answer_at
is-no_answer q p h =
    nothing_there q.sought.longest (filter (accepted q p) (outcomes_at q p))
    (kept_none (accepted q p) (outcomes_at q p) (λ s c e. h (record { state = s; reached = c; stands = accepted-is q p s e })))

pub if_false : (b : Bool) (x y : Option State) → b ≡ false → (if b then x else y) ≡ y
if_false true x y e = absurd (true≢false e)
if_false false x y e = refl

-- the answer at a position is the first accepted outcome
pub answer_at-is : (q : Query) (p : ℕ) (s : State) → q.sought.longest ≡ false → answer_at q p ≡ Some s → IsFirstAccepted q p s
unfolding answer_at
answer_at-is q p s short e =
    let f = first-of (accepted q p) (outcomes_at q p) s (sym (if_false q.sought.longest _ _ short) ∙ e) in
    record {
      preferred = f.before;
      others = f.after;
      splits = f.splits;
      refused = λ k d h. refused-is q p _ (f.refused k d h);
      stands = accepted-is q p s f.taken;
    }

next_or_here : (p k : ℕ) → p ≤ k → (k ≡ p) ⊎ (p + 1 ≤ k)
next_or_here p k h = elim (eqb_tells p k) [ inl e ↦ inl (sym e.1) | inr e ↦ let ne = e.1 in inr (omega arith) ]

none_parts : (f : State → Answer) (o : Option State) (r : Option Answer) → option_or (option_map f o) r ≡ None → (o ≡ None) × (r ≡ None)
none_parts f None r e = (refl, e)
none_parts f (Some s) r e = cc

none_whole : (f : State → Answer) (o : Option State) (r : Option Answer) → o ≡ None → r ≡ None → option_or (option_map f o) r ≡ None
none_whole f None r d e = e
none_whole f (Some s) r d e = cc

pub none_from : (q : Query) (n p : ℕ) → answer_from q n p ≡ None → (k : ℕ) → p ≤ k → k < p + n → answer_at q k ≡ None
unfolding answer_from
none_from q zero p e k from before = absurd (omega arith)
none_from q (suc n) p e k from before =
    let both = none_parts (λ s. record { position = p; state = s }) (answer_at q p) (answer_from q n (p + 1)) e in
    elim (next_or_here p k from) [
      | inl same ↦ ap (answer_at q) same ∙ both.0
      | inr past ↦ none_from q n (p + 1) both.1 k past (omega arith)
    ]

pub all_none : (q : Query) (n p : ℕ) → ((k : ℕ) → p ≤ k → k < p + n → answer_at q k ≡ None) → answer_from q n p ≡ None
unfolding answer_from
all_none q zero p h = refl
all_none q (suc n) p h =
    none_whole (λ s. record { position = p; state = s }) (answer_at q p) (answer_from q n (p + 1)) (h p (omega arith) (omega arith))
    (all_none q n (p + 1) (λ k from before. h k (omega arith) (omega arith)))

-- f is the answer at the least of the n positions from p on that has one
pub record FoundFrom (q : Query) (n p : ℕ) (f : Answer) : Type 0 where
  pub from : p ≤ f.position
  pub before : f.position < p + n
  pub is : answer_at q f.position ≡ Some f.state
  pub least : (k : ℕ) → p ≤ k → k < f.position → answer_at q k ≡ None

found_at : (q : Query) (n p : ℕ) (f : Answer) (o : Option State) → answer_at q p ≡ o →
    (answer_from q n (p + 1) ≡ Some f → FoundFrom q n (p + 1) f) →
    option_or (option_map (λ s. record { position = p; state = s }) o) (answer_from q n (p + 1)) ≡ Some f → FoundFrom q (suc n) p f
found_at q n p f (Some s) h later e =
    let same : record { position = p; state = s } ≡ f = cc in
    subst (FoundFrom q (suc n) p) same
    (record { from = omega arith; before = omega arith; is = h; least = λ k from before. absurd (omega arith) })
found_at q n p f None h later e =
    let rest = later e in
    let rest_from = rest.from in
    let rest_before = rest.before in
    record {
      from = omega arith;
      before = omega arith;
      is = rest.is;
      least = λ k from before.
          elim (next_or_here p k from) [ inl same ↦ ap (answer_at q) same ∙ h | inr past ↦ rest.least k past before ];
    }

pub found_from : (q : Query) (n p : ℕ) (f : Answer) → answer_from q n p ≡ Some f → FoundFrom q n p f
unfolding answer_from
found_from q zero p f e = cc
found_from q (suc n) p f e = found_at q n p f (answer_at q p) refl (found_from q n (p + 1) f) e

-- the search answers with none exactly where no position has an accepted outcome
pub none-is_none : (q : Query) → (search q ≡ None) ↔ HasNone q
none-is_none q = (
  λ e p at. no_answer-is q p (none_from q (positions q.request) (effective_start q.request) e p at.from at.before),
  λ none. all_none q (positions q.request) (effective_start q.request)
      (λ k from before. is-no_answer q k (none k (record { from = from; before = before }))),
)

-- the answer is the first accepted outcome at the least position that has one
pub answer-is : (q : Query) (f : Answer) → q.sought.longest ≡ false → search q ≡ Some f → IsAnswer q f
answer-is q f short e =
    let found = found_from q (positions q.request) (effective_start q.request) f e in
    record {
      tried = record { from = found.from; before = found.before };
      first = answer_at-is q f.position f.state short found.is;
      least = λ p at before. no_answer-is q p (found.least p at.from before);
    }
