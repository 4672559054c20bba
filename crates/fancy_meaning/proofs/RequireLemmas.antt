-- Where a pattern has an outcome, each byte that it requires stands in the haystack.
use Rattle.std.proofs.Common.{◌≡◌, ℕ, zero, suc, ◌-◌, ◌==◌, Bool, true, false, not, ◌&&◌, ◌||◌, ◌⊎◌, inl, inr, List, [], ◌∷◌, length, Option, Some, None, if◌then◌else◌, nat_le, sym, ap, ◌∙◌, true≢false}
use Rattle.std.proofs.lemmas.Bool.Decides.{eqb_tells}
use Rattle.fancy_tree.specs.Pattern.{Pattern, empty, character, member_of, in_any_case, raw_byte, backreference, assertion, group_test, keep_start, continue_here, group, repeat, look_ahead, look_behind, atomic, conditional, followed, or_else, last_branch}
use Rattle.fancy_tree.specs.Sets.{has}
use Rattle.fancy_tree.specs.Sizes.{size, is_empty}
use Rattle.fancy_meaning.specs.Context.{Context, State, moved_to, units_back, option_to}
use Rattle.fancy_meaning.specs.Events.{Event, mark, return, Walk, stay, bind, guarded, any, copies, optionals, star, put_back, ends_look, looked}
use Rattle.fancy_meaning.specs.Trace.{trace, behind, from_before, repeated, is_greedy}
use Rattle.fancy_meaning.specs.Forward.{EachOutcome}
use Rattle.fancy_meaning.proofs.EventLemmas.{EachOutcome-bind, EachOutcome-guarded, EachOutcome_all, EachOutcome-either}
use Rattle.fancy_meaning.proofs.ForwardLemmas.{LeadsOn-by_kind}
use Rattle.fancy_bytes.specs.Items.{only}
use Rattle.fancy_bytes.specs.Required.{required_bytes}
use Rattle.fancy_meaning.specs.Stands.{Stands}
use Rattle.fancy_bytes.proofs.BoolLemmas.{either_of, parts_of, not_both}
use Rattle.fancy_meaning.proofs.SeenLemmas.{past_item-has, item_stands, one_stands, all_stand, only_one, past_byte-here}
use Rattle.fancy_meaning.proofs.BeginLemmas.{moved}

-- Q holds if there is an outcome
abbrev pub Implies : Type 0 → List Event → Type 0
Implies Q es = EachOutcome (λ t. Q) es

module _ (Q : Type 0) where
  pub by_start : (es : List Event) (next : Walk) → Implies Q es → Implies Q (bind es next)
  by_start es next h = EachOutcome-bind (λ t. Q) (λ t. Q) es next h (λ t q. EachOutcome_all (λ t. Q) (next t) (λ u. q))

  pub by_rest : (es : List Event) (next : Walk) → ((t : State) → Implies Q (next t)) → Implies Q (bind es next)
  by_rest es next h = EachOutcome-bind (λ t. Unit {0}) (λ t. Q) es next (EachOutcome_all (λ t. Unit {0}) es (λ t. tt)) (λ t u. h t)

  by_copies : (n : ℕ) (body rest : Walk) (s : State) → nat_le 1 n ≡ true → Implies Q (body s) → Implies Q (copies n body rest s)
  by_copies zero body rest s e h = absurd (true≢false (sym e))
  by_copies (suc n) body rest s e h = by_start (body s) (copies n body rest) h

  pub by_repeated : (greedy : Bool) (limit low : ℕ) (high : Option ℕ) (body : Walk) (s : State) → nat_le 1 low ≡ true → Implies Q (body s) →
      Implies Q (repeated greedy limit low high body s)
  by_repeated greedy limit low None body s e h = by_copies low body (star greedy limit body) s e h
  by_repeated greedy limit low (Some high) body s e h = by_copies low body (optionals greedy (high - low) body) s e h

  by_look : (negated behind : Bool) (s : State) (es : List Event) → not negated ≡ true → Implies Q es → Implies Q (looked negated behind s es)
  by_look true behind s es e h = absurd (true≢false (sym e))
  by_look false behind s es e h =
      EachOutcome-guarded (λ t. Q) (λ t. Q) (ends_look behind s.place) (put_back s.place) [] es h (λ t q. (q, tt)) tt

  by_atomic : (es : List Event) → Implies Q es → Implies Q (guarded any stay [] es)
  by_atomic es h = EachOutcome-guarded (λ t. Q) (λ t. Q) any stay [] es h (λ t q. (q, tt)) tt

  by_before : (x : Context) (n : Option ℕ) (walk : Walk) (s : State) → ((t : State) → Implies Q (walk t)) → Implies Q (from_before x n walk s)
  by_before x None walk s h = tt
  by_before x (Some n) walk s h =
      elim (units_back x n s.place) as (λ (o : Option ℕ). Implies Q (option_to o [] (λ p. walk (moved_to s p)))) [ None ↦ tt | Some p ↦ h (moved_to s p) ]

  by_condition : (es : List Event) (found : Walk) (missed : List Event) → Implies Q es ⊎ ((t : State) → Implies Q (found t)) → Implies Q missed →
      Implies Q (mark ∷ guarded any found (return ∷ missed) es)
  by_condition es found missed h other =
      elim h [
        | inl a ↦ EachOutcome-guarded (λ t. Q) (λ t. Q) any found (return ∷ missed) es a (λ t q. EachOutcome_all (λ t. Q) (found t) (λ u. q)) other
        | inr b ↦ EachOutcome-guarded (λ t. Unit {0}) (λ t. Q) any found (return ∷ missed) es (EachOutcome_all (λ t. Unit {0}) es (λ t. tt)) (λ t u. b t) other
      ]

  -- a conditional, which without branches is its condition alone
  by_either : (bare c m n : Bool) (es : List Event) (found : Walk) (missed : List Event) → (if bare then c else (c || m) && n) ≡ true →
      (c ≡ true → Implies Q es) → (m ≡ true → (t : State) → Implies Q (found t)) → (n ≡ true → Implies Q missed) →
      Implies Q (if bare then guarded any stay [] es else mark ∷ guarded any found (return ∷ missed) es)
  by_either true c m n es found missed e here later otherwise = by_atomic es (here e)
  by_either false c m n es found missed e here later otherwise =
      let both = parts_of (c || m) n e in
      by_condition es found missed (elim (either_of c m both.0) [ inl h ↦ inl (here h) | inr h ↦ inr (later h) ]) (otherwise both.1)

module _ (x : Context) (b : ℕ) where
  -- the byte stands in the haystack
  abbrev Here : Type 0
  Here = Stands x.haystack b

  mutual
    unfolding trace

    pub trace_requires : (p : Pattern) → required_bytes x.meaning p b ≡ true → (limit : ℕ) (s : State) → Implies Here (trace x limit p s)
    trace_requires empty e limit s = absurd (true≢false (sym e))
    trace_requires (character c) e limit s =
        moved (λ t. Here) limit s _ (λ q past. item_stands x.meaning x.haystack (only c) s.place b c (past_item-has x (only c) s.place q past) (only_one c) e)
    trace_requires (member_of edges) e limit s =
        moved (λ t. Here) limit s _ (λ q past. one_stands x.meaning x.haystack edges s.place b (past_item-has x (has edges) s.place q past) e)
    trace_requires (in_any_case edges) e limit s =
        moved (λ t. Here) limit s _ (λ q past. all_stand x.meaning x.haystack edges s.place b (past_item-has x (has edges) s.place q past) e)
    trace_requires (raw_byte byte) e limit s =
        moved (λ t. Here) limit s _ (λ q past. record {
          place = s.place;
          there = past_byte-here x byte s.place q past
              ∙ ap Some (elim (eqb_tells b byte) as (λ _. byte ≡ b) [ inl h ↦ sym h.1 | inr h ↦ not_both (b == byte) e h.0 ]);
        })
    trace_requires (backreference folded number) e limit s = absurd (true≢false (sym e))
    trace_requires (assertion a) e limit s = absurd (true≢false (sym e))
    trace_requires (group_test number) e limit s = absurd (true≢false (sym e))
    trace_requires keep_start e limit s = absurd (true≢false (sym e))
    trace_requires continue_here e limit s = absurd (true≢false (sym e))
    trace_requires (group index body) e limit s = by_start Here (trace x limit body s) _ (trace_requires body e limit s)
    trace_requires (repeat low high kind body) e limit s =
        let both = parts_of (nat_le 1 low) (required_bytes x.meaning body b) e in
        LeadsOn-by_kind (λ t. Here) kind _
        (by_repeated Here (is_greedy kind) limit low high (trace x limit body) s both.0 (trace_requires body both.1 limit s))
    trace_requires (look_ahead negated body) e limit s =
        let both = parts_of (not negated) (required_bytes x.meaning body b) e in
        by_look Here negated false s _ both.0 (trace_requires body both.1 (length x.haystack) s)
    trace_requires (look_behind negated body) e limit s =
        let both = parts_of (not negated) (required_bytes x.meaning body b) e in
        by_look Here negated true s _ both.0
        (behind_requires body both.1 (trace x (length x.haystack) body) (trace_requires body both.1 (length x.haystack)) s)
    trace_requires (atomic body) e limit s = by_atomic Here (trace x limit body s) (trace_requires body e limit s)
    trace_requires (conditional condition on_match otherwise) e limit s =
        by_either Here (is_empty on_match && is_empty otherwise) (required_bytes x.meaning condition b) (required_bytes x.meaning on_match b) (required_bytes x.meaning otherwise b)
        (trace x limit condition s) (trace x limit on_match) (trace x limit otherwise s) e
        (λ h. trace_requires condition h limit s) (λ h. trace_requires on_match h limit) (λ h. trace_requires otherwise h limit s)
    trace_requires (followed part rest) e limit s =
        elim (either_of (required_bytes x.meaning part b) (required_bytes x.meaning rest b) e) [
          | inl h ↦ by_start Here (trace x limit part s) (trace x limit rest) (trace_requires part h limit s)
          | inr h ↦ by_rest Here (trace x limit part s) (trace x limit rest) (trace_requires rest h limit)
        ]
    trace_requires (or_else branch others) e limit s =
        let both = parts_of (required_bytes x.meaning branch b) (required_bytes x.meaning others b) e in
        EachOutcome-either (λ t. Here) (trace x limit branch s) (trace x limit others s) (trace_requires branch both.0 limit s) (trace_requires others both.1 limit s)
    trace_requires (last_branch branch) e limit s = trace_requires branch e limit s

    behind_requires : (p : Pattern) → required_bytes x.meaning p b ≡ true → (whole : Walk) → ((s : State) → Implies Here (whole s)) → (s : State) →
        Implies Here (behind x p whole s)
    behind_requires (or_else branch others) e whole h s =
        let both = parts_of (required_bytes x.meaning branch b) (required_bytes x.meaning others b) e in
        EachOutcome-either (λ t. Here) (from_before x (size x.meaning branch) (trace x (length x.haystack) branch) s)
        (behind x others (trace x (length x.haystack) others) s)
        (by_before Here x (size x.meaning branch) (trace x (length x.haystack) branch) s (trace_requires branch both.0 (length x.haystack)))
        (behind_requires others both.1 (trace x (length x.haystack) others) (trace_requires others both.1 (length x.haystack)) s)
    behind_requires (last_branch branch) e whole h s =
        by_before Here x (size x.meaning branch) (trace x (length x.haystack) branch) s (trace_requires branch e (length x.haystack))
    behind_requires p e whole h s = by_before Here x (size x.meaning p) whole s h
