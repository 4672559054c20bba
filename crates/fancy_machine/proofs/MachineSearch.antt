-- An attempt at a position, and the positions of a search by the machine.
use Rattle.std.proofs.Common.{◌≡◌, ℕ, suc, ◌+◌, ◌≤◌, nat_lt, ltb-true, ltb-false, lt-ltb, le-ltb, true≢false, Bool, true, false, not, ◌&&◌, ◌||◌, ◌==◌, List, [], ◌∷◌, ◌++◌, filter, length, map, replicate, Option, Some, None, refl, sym, ap, ap₂, ◌∙◌, subst, arith}
use Rattle.std.specs.Prelude.{if◌then◌else◌, is_some, option_map}
use Rattle.std.proofs.lemmas.List.{length-replicate, append-nil}
use Rattle.std.proofs.Math.Logic.{∥∥₁_elim}
use Rattle.std.proofs.Props.{props}
use Rattle.fancy_input.specs.declared.span.Span.{Span}
use Rattle.fancy_tree.specs.Pattern.{Pattern}
use Rattle.fancy_input.specs.declared.input.Request.{Request}
use Rattle.fancy_code.specs.declared.code.Code.{Code}
use Rattle.fancy_meaning.specs.declared.options.SearchOptions.{SearchOptions}
use Rattle.fancy_code.specs.Queries.{query_of}
use Rattle.fancy_code.specs.Code.{instrs_of}
use Rattle.fancy_meaning.specs.Context.{Context, State}
use Rattle.fancy_meaning.specs.Events.{Event, mark, return, outcome, outcomes_in, marks_in, returns_in}
use Rattle.fancy_meaning.specs.Trace.{trace, outcomes}
use Rattle.fancy_code.specs.Run.{Raw, Given, run}
use Rattle.fancy_code.specs.Compile.{IsCodeOf, depth}
use Rattle.fancy_meaning.specs.Search.{Query, context_of, initial, trace_at, outcomes_at, is_match_boundary, accepted, first_one, further, longest_one, Answer, answer_at, attempt, before_accepted, gone_through, gone_at, gone_from, returns_at, choices_at}
use Rattle.fancy_code.specs.Thread.{empty_slot, slot_span, slot_from, IsKnown, events_of}
use Rattle.fancy_meaning.proofs.AttemptLemmas.{attempt_some, attempt_none}
use Rattle.fancy_meaning.proofs.SearchLemmas.{is-accepted, is-no_answer}
use Rattle.fancy_code.proofs.ThreadLemmas.{map-replicate}
use Rattle.fancy_code.proofs.WholeCode.{Whole, program_gives}
use Rattle.fancy_machine.specs.declared.attempt.Attempt.{Attempt}
use Rattle.fancy_machine.specs.Attempt.{accepts, code_in, events_from, outcome_from, returns_from, marks_from}
use Rattle.fancy_machine.specs.Asked.{Serves, IsAsked}
use Rattle.fancy_trail.specs.Frames.{Spot}
use Rattle.fancy_input.specs.Places.{is_boundary}
use Rattle.fancy_trail.specs.Layers.{spot_of}
use Rattle.fancy_trail.specs.Left.{after}
use Rattle.fancy_trail.specs.Best.{better}
use Rattle.fancy_machine.specs.Machine.{taken_outcome, final, returns_to, marks_to}
use mathlib.Core.HLevel.{⊥_prop, Unit-prop}

-- the position p may be tried
abbrev pub admits : Query → ℕ → Bool
admits q p = is_match_boundary q.sought.on_boundaries q.haystack p

-- the best of what came before and of what comes next, as one row
abbrev joined : Option State → Option State → Option State
joined None o = o
joined (Some b) o = further b o

-- of three the first that ends last: whether the earlier two are compared first or the later two
three : (b s u : State) (c d : Bool) → nat_lt b.place s.place ≡ c → nat_lt s.place u.place ≡ d
    → joined (if nat_lt b.place s.place then Some s else Some b) (Some u) ≡ further b (further s (Some u))
three b s u true true e f =
    let g : nat_lt b.place u.place ≡ true = lt-ltb b.place u.place (omega (arith, ltb-true b.place s.place e, ltb-true s.place u.place f)) in
    ap (λ (x : Bool). joined (if x then Some s else Some b) (Some u)) e ∙ ap (λ (x : Bool). if x then Some u else Some s) f
    ∙ sym (ap (λ (x : Bool). further b (if x then Some u else Some s)) f ∙ ap (λ (x : Bool). if x then Some u else Some b) g)
three b s u true false e f =
    ap (λ (x : Bool). joined (if x then Some s else Some b) (Some u)) e ∙ ap (λ (x : Bool). if x then Some u else Some s) f
    ∙ sym (ap (λ (x : Bool). further b (if x then Some u else Some s)) f ∙ ap (λ (x : Bool). if x then Some s else Some b) e)
three b s u false true e f =
    ap (λ (x : Bool). joined (if x then Some s else Some b) (Some u)) e
    ∙ sym (ap (λ (x : Bool). further b (if x then Some u else Some s)) f)
three b s u false false e f =
    let g : nat_lt b.place u.place ≡ false = le-ltb b.place u.place (omega (arith, ltb-false b.place s.place e, ltb-false s.place u.place f)) in
    ap (λ (x : Bool). joined (if x then Some s else Some b) (Some u)) e ∙ ap (λ (x : Bool). if x then Some u else Some b) g
    ∙ sym (ap (λ (x : Bool). further b (if x then Some u else Some s)) f ∙ ap (λ (x : Bool). if x then Some s else Some b) e)

joined-better : (best : Option State) (s : State) (o : Option State) → joined (better best s) o ≡ joined best (further s o)
joined-better None s o = refl
joined-better (Some b) s (Some u) = three b s u (nat_lt b.place s.place) (nat_lt s.place u.place) refl refl
joined-better (Some b) s None = two (nat_lt b.place s.place) where
  two : (c : Bool) → joined (if c then Some s else Some b) None ≡ (if c then Some s else Some b)
  two true = refl
  two false = refl

-- the answer of an attempt, which is the first outcome that is accepted or the longest, and what counts up to it
module _ (ok good : State → Bool) (same : (s : State) → ok s ≡ good s) where
  first_if : (c d : Bool) (s : State) (ss : List State) (o : Option State) → c ≡ d → o ≡ first_one ss → (if c then Some s else o) ≡ first_one (if d then (s ∷ ss) else ss)
  first_if true true s ss o e f = refl
  first_if false false s ss o e f = f
  first_if true false s ss o e f = cc
  first_if false true s ss o e f = cc

  first_is : (es : List Event) → taken_outcome false ok None es ≡ first_one (filter good (outcomes_in es))
  first_is [] = refl
  first_is (mark ∷ es) = first_is es
  first_is (return ∷ es) = first_is es
  first_is (outcome s ∷ es) = first_if (ok s) (good s) s (filter good (outcomes_in es)) (taken_outcome false ok None es) (same s) (first_is es)

  longest_if : (c d : Bool) (best : Option State) (s : State) (ss : List State) (a b : Option State) → c ≡ d → a ≡ joined (better best s) (longest_one ss) → b ≡ joined best (longest_one ss)
      → (if c then a else b) ≡ joined best (longest_one (if d then (s ∷ ss) else ss))
  longest_if true true best s ss a b e f g = f ∙ joined-better best s (longest_one ss)
  longest_if false false best s ss a b e f g = g
  longest_if true false best s ss a b e f g = cc
  longest_if false true best s ss a b e f g = cc

  longest_is : (best : Option State) (es : List Event) → taken_outcome true ok best es ≡ joined best (longest_one (filter good (outcomes_in es)))
  longest_is None [] = refl
  longest_is (Some b) [] = refl
  longest_is best (mark ∷ es) = longest_is best es
  longest_is best (return ∷ es) = longest_is best es
  longest_is best (outcome s ∷ es) =
      longest_if (ok s) (good s) best s (filter good (outcomes_in es)) (taken_outcome true ok (better best s) es) (taken_outcome true ok best es) (same s) (longest_is (better best s) es) (longest_is best es)

  pub chosen_is : (longest : Bool) (es : List Event) → taken_outcome longest ok None es ≡ (if longest then (longest_one (filter good (outcomes_in es))) else (first_one (filter good (outcomes_in es))))
  chosen_is false es = first_is es
  chosen_is true es = longest_is None es

  count_if : (c d : Bool) (s : State) (es : List Event) (n : ℕ) → c ≡ d → n ≡ returns_in es → (if (c && true) then 0 else n) ≡ returns_in (if d then [] else (outcome s ∷ es))
  count_if true true s es n e f = refl
  count_if false false s es n e f = f
  count_if true false s es n e f = cc
  count_if false true s es n e f = cc

  -- where the longest is asked for no outcome ends the attempt
  never : (c : Bool) (n m : ℕ) → n ≡ m → (if (c && false) then 0 else n) ≡ m
  never true n m e = e
  never false n m e = e

  pub returns_is : (longest : Bool) (es : List Event) → returns_to (final longest ok) es ≡ returns_in (if longest then es else before_accepted good es)
  returns_is false [] = refl
  returns_is true [] = refl
  returns_is false (mark ∷ es) = returns_is false es
  returns_is true (mark ∷ es) = returns_is true es
  returns_is false (return ∷ es) = ap suc (returns_is false es)
  returns_is true (return ∷ es) = ap suc (returns_is true es)
  returns_is false (outcome s ∷ es) = count_if (ok s) (good s) s (before_accepted good es) (returns_to (final false ok) es) (same s) (returns_is false es)
  returns_is true (outcome s ∷ es) = never (ok s) (returns_to (final true ok) es) (returns_in es) (returns_is true es)

  mark_if : (c d : Bool) (s : State) (es : List Event) (n : ℕ) → c ≡ d → n ≡ marks_in es → (if (c && true) then 0 else n) ≡ marks_in (if d then [] else (outcome s ∷ es))
  mark_if true true s es n e f = refl
  mark_if false false s es n e f = f
  mark_if true false s es n e f = cc
  mark_if false true s es n e f = cc

  pub marks_is : (longest : Bool) (es : List Event) → marks_to (final longest ok) es ≡ marks_in (if longest then es else before_accepted good es)
  marks_is false [] = refl
  marks_is true [] = refl
  marks_is false (mark ∷ es) = ap suc (marks_is false es)
  marks_is true (mark ∷ es) = ap suc (marks_is true es)
  marks_is false (return ∷ es) = marks_is false es
  marks_is true (return ∷ es) = marks_is true es
  marks_is false (outcome s ∷ es) = mark_if (ok s) (good s) s (before_accepted good es) (marks_to (final false ok) es) (same s) (marks_is false es)
  marks_is true (outcome s ∷ es) = never (ok s) (marks_to (final true ok) es) (marks_in es) (marks_is true es)

known_events : (o : Option (List Raw)) (es : List Event) → Given Whole o es → IsKnown o × (events_of o ≡ es)
known_events o es g = (subst IsKnown (sym g.1) tt, ap events_of g.1 ∙ g.2)

-- how deep the code of what is sought goes
abbrev pub deep_in : Query → ℕ
deep_in q = depth (length q.haystack) q.sought.pattern + 1

-- where the attempt serves the query, it accepts as the query does
served_text : (q : Query) (a : Attempt) → Serves a q → a.haystack.now ≡ q.haystack
served_text q a serves = ap (λ (x : Context). x.haystack) serves.context

module _ (q : Query) (a : Attempt) (is : IsCodeOf q.sought.pattern a.code.now) (groups : q.sought.groups ≡ a.code.now.groups)
    (inside : q.request.range_end ≤ length q.haystack) (serves : Serves a q) where
  -- how deep the code goes
  abbrev pub deep : ℕ
  deep = deep_in q

  begun : (p : ℕ) → (spot_of a.code.now.start q.request.range_end p p (replicate a.code.now.groups empty_slot)).state ≡ initial q p
  begun p =
      let g : List (Option Span) → State = λ l. record { place = p; captures = l; kept = p } in
      ap g (map-replicate slot_span a.code.now.groups empty_slot ∙ ap (λ (n : ℕ). replicate n None) (sym groups))

  starts : length (map slot_from (replicate a.code.now.groups empty_slot)) ≡ a.code.now.groups
  starts = ap length (map-replicate slot_from a.code.now.groups empty_slot) ∙ length-replicate a.code.now.groups 0

  pub attempt_begins : (p : ℕ) (x : Spot) → x ≡ spot_of a.code.now.start q.request.range_end p p (replicate a.code.now.groups empty_slot) → p ≤ q.request.range_end
      → IsKnown (after (code_in a deep) x) × (events_from a deep x ≡ trace_at q p)
  attempt_begins p x e le =
      let y = spot_of a.code.now.start q.request.range_end p p (replicate a.code.now.groups empty_slot) in
      let meant : q.sought.meaning ≡ a.code.now.meaning = sym (ap (λ (x : Context). x.meaning) serves.context) in
      let g = program_gives (context_of q) q.request.range_end q.sought.pattern a.code.now is meant inside y.state y.starts le starts in
      subst (λ (z : Spot). IsKnown (after (code_in a deep) z) × (events_from a deep z ≡ trace_at q p)) (sym e)
      (subst (λ (cx : Context). IsKnown (run cx q.request.range_end (instrs_of a.code.now) deep a.code.now.start y.state y.starts) × (events_of (run cx q.request.range_end (instrs_of a.code.now) deep a.code.now.start y.state y.starts) ≡ trace_at q p)) (sym serves.context)
      (known_events _ _ (g.0, g.1, g.2 ∙ ap (trace (context_of q) q.request.range_end q.sought.pattern) (begun p), g.3)))

  -- where the position is admitted, the machine accepts what the query accepts
  accepts_is : (p : ℕ) → admits q p ≡ true → (s : State) → accepts a s ≡ accepted q p s
  accepts_is p may s =
      ap (λ (h : List ℕ). within a.options.now.on_boundaries h a.options.now.not_empty) (served_text q a serves)
      ∙ ap₂ (λ (b n : Bool). within b q.haystack n) serves.on_boundaries serves.not_empty
      ∙ sym (ap (λ (b : Bool). b && (admits q s.kept && (admits q s.place && (not q.sought.not_empty || not (s.kept == s.place))))) may) where
        good : Bool → List ℕ → ℕ → Bool
        good b h i = not b || is_boundary h i

        within : Bool → List ℕ → Bool → Bool
        within b h n = good b h s.kept && (good b h s.place && (not n || not (s.kept == s.place)))

  module _ (p : ℕ) (may : admits q p ≡ true) where
    pub answer_is : taken_outcome a.options.now.longest (accepts a) None (trace_at q p) ≡ answer_at q p
    unfolding answer_at outcomes
    answer_is =
        chosen_is (accepts a) (accepted q p) (accepts_is p may) a.options.now.longest (trace_at q p)
        ∙ ap (λ (b : Bool). if b then (longest_one (filter (accepted q p) (outcomes_at q p))) else (first_one (filter (accepted q p) (outcomes_at q p)))) serves.longest

    through : (if a.options.now.longest then trace_at q p else before_accepted (accepted q p) (trace_at q p)) ≡ gone_through q p
    unfolding gone_through
    through = ap (λ (b : Bool). if b then trace_at q p else before_accepted (accepted q p) (trace_at q p)) serves.longest

    pub returns_here : returns_to (final a.options.now.longest (accepts a)) (trace_at q p) ≡ returns_in (gone_through q p)
    returns_here = returns_is (accepts a) (accepted q p) (accepts_is p may) a.options.now.longest (trace_at q p) ∙ ap returns_in through

    pub marks_here : marks_to (final a.options.now.longest (accepts a)) (trace_at q p) ≡ marks_in (gone_through q p)
    marks_here = marks_is (accepts a) (accepted q p) (accepts_is p may) a.options.now.longest (trace_at q p) ∙ ap marks_in through

-- what an attempt at p alone finds and goes through
module _ (q : Query) (p : ℕ) where
  pub through_here : admits q p ≡ true → gone_at q p ≡ gone_through q p
  through_here may = ap (λ (b : Bool). if b then gone_through q p else []) may

  pub nothing_here : admits q p ≡ false → gone_at q p ≡ []
  nothing_here may = ap (λ (b : Bool). if b then gone_through q p else []) may

  pub taken_here : (s : State) → answer_at q p ≡ Some s → attempt q p ≡ Some (record { position = p; state = s })
  taken_here s h = ap (option_map (λ (t : State). answer_of t)) h where
    answer_of : State → Answer
    answer_of t = record { position = p; state = t }

  pub missed_here : answer_at q p ≡ None → attempt q p ≡ None
  missed_here h = ap (option_map (λ (t : State). answer_of t)) h where
    answer_of : State → Answer
    answer_of t = record { position = p; state = t }

IsKnown-prop : (o : Option (List Raw)) → IsProp (IsKnown o)
IsKnown-prop None = ⊥_prop
IsKnown-prop (Some w) = Unit-prop

-- the machine tests as the query does whether a match may begin at p
pub admits_is : (q : Query) (a : Attempt) → Serves a q → (p : ℕ) → is_match_boundary a.options.now.on_boundaries a.haystack.now p ≡ admits q p
admits_is q a serves p = ap₂ (λ (b : Bool) (h : List ℕ). is_match_boundary b h p) serves.on_boundaries (served_text q a serves)

-- What an attempt at p finds and counts, which begins at x.
pub record Begun (q : Query) (a : Attempt) (p : ℕ) (x : Spot) : Type 0 where
  pub known : IsKnown (after (code_in a (deep_in q)) x)
  pub answer : outcome_from a (deep_in q) x ≡ answer_at q p
  pub returns : returns_from a (deep_in q) x ≡ returns_at q p
  pub marks : marks_from a (deep_in q) x ≡ choices_at q p

-- nothing is found at a position where no match may begin
pub nothing_admitted : (q : Query) (p : ℕ) → admits q p ≡ false → answer_at q p ≡ None
nothing_admitted q p may =
    is-no_answer q p (λ h. true≢false (sym (is-accepted q p h.state h.stands)
    ∙ ap (λ (b : Bool). b && (admits q h.state.kept && (admits q h.state.place && (not q.sought.not_empty || not (h.state.kept == h.state.place))))) may))

module _ (q : Query) (a : Attempt) (some : ∥ IsCodeOf q.sought.pattern a.code.now ∥₁) (groups : q.sought.groups ≡ a.code.now.groups)
    (inside : q.request.range_end ≤ length q.haystack) (serves : Serves a q) (p : ℕ) (may : admits q p ≡ true)
    (x : Spot) (stands : x ≡ spot_of a.code.now.start q.request.range_end p p (replicate a.code.now.groups empty_slot)) (le : p ≤ q.request.range_end) where
  begins : IsCodeOf q.sought.pattern a.code.now → IsKnown (after (code_in a (deep_in q)) x) × (events_from a (deep_in q) x ≡ trace_at q p)
  begins is = attempt_begins q a is groups inside serves p x stands le

  -- of code of which it is only known that it is that of the pattern
  pub begun_from : Begun q a p x
  begun_from = record {
    known = ∥∥₁_elim some (IsKnown-prop _) (λ is. (begins is).0);
    answer = ∥∥₁_elim some (hlevel props) (λ is. ap (taken_outcome a.options.now.longest (accepts a) None) (begins is).1 ∙ answer_is q a is groups inside serves p may);
    returns = ∥∥₁_elim some (hlevel props) (λ is. ap (returns_to (final a.options.now.longest (accepts a))) (begins is).1 ∙ returns_here q a is groups inside serves p may ∙ sym (ap returns_in (through_here q p may)));
    marks = ∥∥₁_elim some (hlevel props) (λ is. ap (marks_to (final a.options.now.longest (accepts a))) (begins is).1 ∙ marks_here q a is groups inside serves p may ∙ sym (ap marks_in (through_here q p may)));
  }

-- what is asked stands in the arguments of a search
module _ (q : Query) (p : Pattern) (code : Code) (options : SearchOptions) (haystack : List ℕ) (request : Request) (continues : Bool) (is : q ≡ query_of p code options haystack request continues) where
  pub asked_request : q.request ≡ request
  asked_request = ap (λ (r : Query). r.request) is

  pub is_asked : (a : Attempt) → a.code.now ≡ code → ((p : Pattern) → Serves a (query_of p code options haystack request continues)) → ∥ IsCodeOf q.sought.pattern code ∥₁
      → request.range_end ≤ length haystack → (i : ℕ) → i ≤ request.range_end → IsAsked q a request.range_end i
  is_asked a same serves some inside i to = record {
    serves = subst (Serves a) (sym is) (serves p);
    groups = ap (λ (r : Query). r.sought.groups) is ∙ ap (λ (c : Code). c.groups) (sym same);
    coded = subst (λ (c : Code). ∥ IsCodeOf q.sought.pattern c ∥₁) (sym same) some;
    range = sym (ap (λ (r : Request). r.range_end) asked_request);
    inside = subst (λ (r : Query). r.request.range_end ≤ length r.haystack) (sym is) inside;
    ends = subst (λ (r : Query). i ≤ r.request.range_end) (sym is) to;
  }

returns-append : (a b : List Event) → returns_in (a ++ b) ≡ returns_in a + returns_in b
returns-append [] b = omega arith
returns-append (mark ∷ a) b = returns-append a b
returns-append (return ∷ a) b = omega (arith, returns-append a b)
returns-append (outcome s ∷ a) b = returns-append a b

marks-append : (a b : List Event) → marks_in (a ++ b) ≡ marks_in a + marks_in b
marks-append [] b = omega arith
marks-append (mark ∷ a) b = omega (arith, marks-append a b)
marks-append (return ∷ a) b = marks-append a b
marks-append (outcome s ∷ a) b = marks-append a b

-- the events of a position that is tried, and of one that is not
module _ (b : Bool) (es : List Event) where
  if_tried : (t : Bool) → t ≡ true → (if b && t then es else []) ≡ (if b then es else [])
  if_tried t e = ap (λ (c : Bool). if b && c then es else []) e ∙ by b where
    by : (c : Bool) → (if c && true then es else []) ≡ (if c then es else [])
    by true = refl
    by false = refl

  if_untried : (t : Bool) → t ≡ false → (if b && t then es else []) ≡ []
  if_untried t e = ap (λ (c : Bool). if b && c then es else []) e ∙ by b where
    by : (c : Bool) → (if c && false then es else []) ≡ []
    by true = refl
    by false = refl

-- the search over n positions goes through the attempt at p first
module _ (q : Query) (tries : ℕ → Bool) (n m p : ℕ) (e : n ≡ suc m) where
  one_more : gone_from q tries n p ≡ (if admits q p && tries p then gone_through q p else []) ++ (if is_some (answer_at q p) then [] else gone_from q tries m (p + 1))
  unfolding gone_from
  one_more =
      subst (λ (j : ℕ). gone_from q tries j p ≡ (if admits q p && tries p then gone_through q p else []) ++ (if is_some (answer_at q p) then [] else gone_from q tries m (p + 1))) (sym e) refl

  -- where the attempt is not made, and would find nothing
  pub gone_untried : tries p ≡ false → answer_at q p ≡ None → gone_from q tries n p ≡ gone_from q tries m (p + 1)
  gone_untried untried none =
      one_more
      ∙ ap (λ (es : List Event). es ++ (if is_some (answer_at q p) then [] else gone_from q tries m (p + 1))) (if_untried (admits q p) (gone_through q p) (tries p) untried)
      ∙ ap (λ (o : Option State). if is_some o then [] else gone_from q tries m (p + 1)) none

  module _ (tried : tries p ≡ true) where
    unrolled : gone_from q tries n p ≡ gone_at q p ++ (if is_some (answer_at q p) then [] else gone_from q tries m (p + 1))
    unrolled =
        one_more
        ∙ ap (λ (es : List Event). es ++ (if is_some (answer_at q p) then [] else gone_from q tries m (p + 1))) (if_tried (admits q p) (gone_through q p) (tries p) tried)

    pub gone_hit : (a : Answer) → attempt q p ≡ Some a → gone_from q tries n p ≡ gone_at q p
    gone_hit a some =
        unrolled ∙ ap (λ (o : Option State). gone_at q p ++ (if is_some o then [] else gone_from q tries m (p + 1))) (attempt_some q p a some).0
        ∙ append-nil (gone_at q p)

    pub gone_more : (returns_at q p ≤ returns_in (gone_from q tries n p)) × (choices_at q p ≤ marks_in (gone_from q tries n p))
    gone_more =
        let rest = if is_some (answer_at q p) then [] else gone_from q tries m (p + 1) in
        (omega (arith, ap returns_in unrolled, returns-append (gone_at q p) rest), omega (arith, ap marks_in unrolled, marks-append (gone_at q p) rest))

    pub gone_counts : attempt q p ≡ None
        → (returns_in (gone_from q tries n p) ≡ returns_at q p + returns_in (gone_from q tries m (p + 1)))
        × (marks_in (gone_from q tries n p) ≡ choices_at q p + marks_in (gone_from q tries m (p + 1)))
    gone_counts none =
        let u : gone_from q tries n p ≡ gone_at q p ++ gone_from q tries m (p + 1) =
        unrolled ∙ ap (λ (o : Option State). gone_at q p ++ (if is_some o then [] else gone_from q tries m (p + 1))) (attempt_none q p none) in
        (ap returns_in u ∙ returns-append (gone_at q p) (gone_from q tries m (p + 1)), ap marks_in u ∙ marks-append (gone_at q p) (gone_from q tries m (p + 1)))

pub gone_over : (q : Query) (tries : ℕ → Bool) (n p : ℕ) → n ≡ 0 → gone_from q tries n p ≡ []
unfolding gone_from
gone_over q tries n p e = ap (λ (j : ℕ). gone_from q tries j p) e
