-- The answer where the longest match is asked for.
use Rattle.std.proofs.Common.{◌≡◌, ℕ, ◌<◌, ◌≤◌, Bool, true, false, cond, List, [], ◌∷◌, ◌++◌, filter, Option, Some, None, if◌then◌else◌, nat_lt, All, refl, sym, ap, subst, ◌∙◌, arith, true≢false}
use Rattle.std.proofs.lemmas.Bool.Decides.{nat_tests}
use Rattle.std.proofs.lemmas.List.Elements.{All-nil, All-cons}
use Rattle.fancy_input.specs.Requests.{effective_start, positions}
use Rattle.fancy_meaning.specs.Context.{State}
use Rattle.fancy_meaning.specs.Search.{Query, Answer, outcomes_at, accepted, further, longest_one, answer_at, search}
use Rattle.fancy_meaning.specs.Answers.{IsLongestAccepted, IsLongestAnswer}
use Rattle.fancy_meaning.proofs.SearchLemmas.{accepted-is, is-accepted, all_refused, longest_none, no_answer-is, found_from}

-- s is the first among those of these that pass the test and end last
record LongestOf (test : State → Bool) (ss : List State) (s : State) : Type 0 where
  before : List State
  after : List State
  splits : ss ≡ before ++ s ∷ after
  shorter : All (λ t. test t ≡ true → t.place < s.place) before
  no_longer : All (λ t. test t ≡ true → t.place ≤ s.place) after
  most : All (λ t. test t ≡ true → t.place ≤ s.place) ss
  taken : test s ≡ true

module _ (test : State → Bool) (x : State) (xs : List State) where
  compared : (s u : State) (b : Bool) → test x ≡ true → LongestOf test xs u → nat_lt x.place u.place ≡ b → (if b then Some u else Some x) ≡ Some s → LongestOf test (x ∷ xs) s
  compared s u true h rest less e =
      let same : u ≡ s = cc in
      let before : x.place < u.place = grind (arith, nat_tests) in
      subst (LongestOf test (x ∷ xs)) same (record {
        before = x ∷ rest.before;
        after = rest.after;
        splits = ap (λ ys. x ∷ ys) rest.splits;
        shorter = All-cons (λ t. test t ≡ true → t.place < u.place) x rest.before (λ yes. before) rest.shorter;
        no_longer = rest.no_longer;
        most = All-cons (λ t. test t ≡ true → t.place ≤ u.place) x xs (λ yes. omega (arith, before)) rest.most;
        taken = rest.taken;
      })
  compared s u false h rest less e =
      let same : x ≡ s = cc in
      let up_to : u.place ≤ x.place = grind (arith, nat_tests) in
      let all : All (λ t. test t ≡ true → t.place ≤ x.place) xs = λ k d i yes. let it = rest.most k d i yes in omega (arith, it, up_to) in
      subst (LongestOf test (x ∷ xs)) same (record {
        before = [];
        after = xs;
        splits = refl;
        shorter = All-nil _;
        no_longer = all;
        most = All-cons (λ t. test t ≡ true → t.place ≤ x.place) x xs (λ yes. omega arith) all;
        taken = h;
      })

  chosen : (s : State) (o : Option State) → test x ≡ true → longest_one (filter test xs) ≡ o → ((u : State) → longest_one (filter test xs) ≡ Some u → LongestOf test xs u) →
      further x o ≡ Some s → LongestOf test (x ∷ xs) s
  chosen s None h is later e =
      let same : x ≡ s = cc in
      let none = all_refused test xs (longest_none (filter test xs) is) in
      let all : All (λ t. test t ≡ true → t.place ≤ x.place) xs = λ k d i yes. absurd (true≢false (sym yes ∙ none k d i)) in
      subst (LongestOf test (x ∷ xs)) same (record {
        before = [];
        after = xs;
        splits = refl;
        shorter = All-nil _;
        no_longer = all;
        most = All-cons (λ t. test t ≡ true → t.place ≤ x.place) x xs (λ yes. omega arith) all;
        taken = h;
      })
  chosen s (Some u) h is later e = compared s u (nat_lt x.place u.place) h (later u is) refl e

  longest_at : (s : State) (b : Bool) → test x ≡ b → ((u : State) → longest_one (filter test xs) ≡ Some u → LongestOf test xs u) →
      longest_one (cond b (x ∷ filter test xs) (filter test xs)) ≡ Some s → LongestOf test (x ∷ xs) s
  longest_at s true h later e = chosen s (longest_one (filter test xs)) h refl later e
  longest_at s false h later e =
      let rest = later s e in
      record {
        before = x ∷ rest.before;
        after = rest.after;
        splits = ap (λ ys. x ∷ ys) rest.splits;
        shorter = All-cons (λ t. test t ≡ true → t.place < s.place) x rest.before (λ yes. absurd (true≢false (sym yes ∙ h))) rest.shorter;
        no_longer = rest.no_longer;
        most = All-cons (λ t. test t ≡ true → t.place ≤ s.place) x xs (λ yes. absurd (true≢false (sym yes ∙ h))) rest.most;
        taken = rest.taken;
      }

longest_of : (test : State → Bool) (ss : List State) (s : State) → longest_one (filter test ss) ≡ Some s → LongestOf test ss s
longest_of test [] s e = cc
longest_of test (x ∷ xs) s e = longest_at test x xs s (test x) refl (longest_of test xs) e

if_true : (b : Bool) (x y : Option State) → b ≡ true → (if b then x else y) ≡ x
if_true true x y e = refl
if_true false x y e = absurd (true≢false (sym e))

-- at a position too
pub longest_answer_at : (q : Query) (p : ℕ) (s : State) → q.sought.longest ≡ true → answer_at q p ≡ Some s → IsLongestAccepted q p s
unfolding answer_at
longest_answer_at q p s long e =
    let f = longest_of (accepted q p) (outcomes_at q p) s (sym (if_true q.sought.longest _ _ long) ∙ e) in
    record {
      preferred = f.before;
      others = f.after;
      splits = f.splits;
      shorter = λ k d h stands. f.shorter k d h (is-accepted q p _ stands);
      no_longer = λ k d h stands. f.no_longer k d h (is-accepted q p _ stands);
      stands = accepted-is q p s f.taken;
    }

-- the answer is the first of those that end last, of the accepted outcomes at the least position that has one
pub longest_answer-is : (q : Query) (f : Answer) → q.sought.longest ≡ true → search q ≡ Some f → IsLongestAnswer q f
longest_answer-is q f long e =
    let found = found_from q (positions q.request) (effective_start q.request) f e in
    record {
      tried = record { from = found.from; before = found.before };
      longest = longest_answer_at q f.position f.state long found.is;
      least = λ p at before. no_answer-is q p (found.least p at.from before);
    }
