-- A pattern stays where it began only if it is nullable, or else one of its first bytes stands there.
use Rattle.std.proofs.Common.{◌≡◌, ℕ, zero, suc, ◌-◌, ◌==◌, Bool, true, false, not, ◌&&◌, ◌||◌, ◌⊎◌, inl, inr, List, [], ◌∷◌, Option, Some, None, if◌then◌else◌, nat_le, All, ◌<◌, ◌≤◌, refl, ap, subst, ◌∙◌, arith, leb-true, slice_get, is_some}
use Rattle.std.proofs.lemmas.Bool.Decides.{eqb_tells}
use Rattle.std.proofs.lemmas.List.Elements.{All-nil, All-cons, All-contains}
use Rattle.fancy_tree.specs.Pattern.{Pattern, empty, character, member_of, in_any_case, raw_byte, backreference, assertion, group_test, keep_start, continue_here, group, repeat, look_ahead, look_behind, atomic, conditional, followed, or_else, last_branch}
use Rattle.fancy_tree.specs.Sets.{has}
use Rattle.fancy_tree.specs.Sizes.{is_empty}
use Rattle.fancy_meaning.specs.Context.{Context, State, moved_to, group_span, past_item, past_byte, holds, continues}
use Rattle.fancy_meaning.specs.Backreference.{past_backreference}
use Rattle.fancy_meaning.specs.Events.{Event, mark, return, outcome, Walk, stay, bind, guarded, any, outcomes_in, move, holding, copies, optionals, turns, star, put_back, ends_look, looked}
use Rattle.fancy_meaning.specs.Trace.{trace, outcomes, repeated, is_greedy}
use Rattle.fancy_meaning.specs.Forward.{EachOutcome}
use Rattle.fancy_meaning.specs.Search.{Query, context_of, initial, trace_at, outcomes_at}
use Rattle.fancy_meaning.specs.Answers.{HasAccepted}
use Rattle.fancy_meaning.proofs.EventLemmas.{EachOutcome-bind, EachOutcome-guarded, EachOutcome_all, EachOutcome-either, EachOutcome-prefer, EachOutcome-only_if, EachOutcome-if}
use Rattle.fancy_meaning.proofs.ForwardLemmas.{EachOutcome_imp, LeadsOn-by_kind}
use Rattle.fancy_bytes.specs.Items.{only, first_of_items}
use Rattle.fancy_bytes.specs.Firsts.{nullable, first_bytes, has_no_turn}
use Rattle.fancy_meaning.specs.Stands.{SeesBefore, BeginsBy}
use Rattle.fancy_bytes.proofs.BoolLemmas.{first_holds, second_holds, both_hold, parts_of, not_both}
use Rattle.fancy_meaning.proofs.Past.{item_beyond, byte_beyond, recall_beyond}
use Rattle.fancy_meaning.proofs.SeenLemmas.{past_item-has, item_begins, past_byte-here, backreference-past}

-- each outcome of the walk begins by these
abbrev pub Starts : (ℕ → Type 0) → Type 0 → Walk → Type 0
Starts F N walk = (s : State) → EachOutcome (BeginsBy N F s) (walk s)

pub sees_map : (haystack : List ℕ) (end : ℕ) (f g : ℕ → Bool) (p : ℕ) → ((b : ℕ) → f b ≡ true → g b ≡ true) → SeesBefore haystack end f p → SeesBefore haystack end g p
sees_map haystack end f g p to h = (h.0, record { byte = h.1.byte; stands = h.1.stands; passes = to h.1.byte h.1.passes })

begins_map : (F G : ℕ → Type 0) (M N : Type 0) (s t : State) → (M → N) → (F s.place → G s.place) → BeginsBy M F s t → BeginsBy N G s t
begins_map F G M N s t still seen h = elim h [ inl a ↦ inl (still a.0, a.1) | inr b ↦ inr (seen b) ]

pub each_map : (F G : ℕ → Type 0) (M N : Type 0) (s : State) (es : List Event) → (M → N) → (F s.place → G s.place) →
    EachOutcome (BeginsBy M F s) es → EachOutcome (BeginsBy N G s) es
each_map F G M N s es still seen all = EachOutcome_imp _ _ es (λ t. begins_map F G M N s t still seen) all

-- what begins where another walk ended
joined : (F₁ F₂ G : ℕ → Type 0) (M N K : Type 0) (s t u : State) → (F₁ s.place → G s.place) → (M → F₂ s.place → G s.place) → (M → N → K) →
    BeginsBy M F₁ s t → BeginsBy N F₂ t u → BeginsBy K G s u
joined F₁ F₂ G M N K s t u one two both h j =
    elim h [
      | inl a ↦ elim j [ inl b ↦ inl (both a.0 b.0, b.1 ∙ a.1) | inr f ↦ inr (two a.0 (subst F₂ a.1 f)) ]
      | inr f ↦ inr (one f)
    ]

each_bind : (F₁ F₂ G : ℕ → Type 0) (M N K : Type 0) (s : State) (es : List Event) (next : Walk) →
    (F₁ s.place → G s.place) → (M → F₂ s.place → G s.place) → (M → N → K) →
    EachOutcome (BeginsBy M F₁ s) es → Starts F₂ N next → EachOutcome (BeginsBy K G s) (bind es next)
each_bind F₁ F₂ G M N K s es next one two both here later =
    EachOutcome-bind (BeginsBy M F₁ s) (BeginsBy K G s) es next here
    (λ t h. EachOutcome_imp _ _ (next t) (λ u. joined F₁ F₂ G M N K s t u one two both h) (later t))

module _ (F : ℕ → Type 0) where
  begins-stay : Starts F (Unit {0}) stay
  begins-stay s = (inl (tt, refl), tt)

  begins-holding : (b : Bool) → Starts F (Unit {0}) (holding b)
  begins-holding b s = EachOutcome-only_if _ b _ (λ e. begins-stay s)

  begins-copies : (N : Type 0) (n : ℕ) (body rest : Walk) → Starts F N body → Starts F (Unit {0}) rest → Starts F ((n ≡ 0) ⊎ N) (copies n body rest)
  begins-copies N zero body rest a b s = each_map F F (Unit {0}) ((0 ≡ 0) ⊎ N) s (rest s) (λ u. inl refl) (λ f. f) (b s)
  begins-copies N (suc n) body rest a b s =
      each_bind F F F N ((n ≡ 0) ⊎ N) ((suc n ≡ 0) ⊎ N) s (body s) (copies n body rest) (λ f. f) (λ m f. f) (λ m k. inr m)
      (a s) (begins-copies N n body rest a b)

  begins-optionals : (N : Type 0) (greedy : Bool) (n : ℕ) (body : Walk) → Starts F N body → Starts F (Unit {0}) (optionals greedy n body)
  begins-optionals N greedy zero body a s = begins-stay s
  begins-optionals N greedy (suc n) body a s =
      EachOutcome-prefer _ greedy _ _
      (each_bind F F F N (Unit {0}) (Unit {0}) s (body s) (optionals greedy n body) (λ f. f) (λ m f. f) (λ m k. tt) (a s) (begins-optionals N greedy n body a))
      (begins-stay s)

  begins-turns : (N : Type 0) (greedy : Bool) (n : ℕ) (body : Walk) → Starts F N body → Starts F (Unit {0}) (turns greedy n body)
  begins-turns N greedy zero body a s = tt
  begins-turns N greedy (suc n) body a s =
      EachOutcome-prefer _ greedy _ _
      (each_bind F F F N (Unit {0}) (Unit {0}) s (body s) _ (λ f. f) (λ m f. f) (λ m k. tt) (a s)
      (λ t. EachOutcome-if _ (t.place == s.place) _ _ tt (begins-turns N greedy n body a t)))
      (begins-stay s)

  begins-repeated : (N : Type 0) (greedy : Bool) (limit low : ℕ) (high : Option ℕ) (body : Walk) → Starts F N body →
      Starts F ((low ≡ 0) ⊎ N) (repeated greedy limit low high body)
  begins-repeated N greedy limit low None body a =
      begins-copies N low body (star greedy limit body) a (λ s. begins-turns N greedy (suc (limit - s.place)) body a s)
  begins-repeated N greedy limit low (Some high) body a =
      begins-copies N low body (optionals greedy (high - low) body) a (begins-optionals N greedy (high - low) body a)

no_turn : (low : ℕ) (high : Option ℕ) → has_no_turn low high ≡ true → (low ≡ 0) × (high ≡ Some 0)
no_turn low None e = cc
no_turn low (Some high) e =
    let both = parts_of (low == 0) (high == 0) e in (
      elim (eqb_tells low 0) [ inl h ↦ h.1 | inr h ↦ not_both (low == 0) both.0 h.0 ],
      elim (eqb_tells high 0) [ inl h ↦ ap Some h.1 | inr h ↦ not_both (high == 0) both.1 h.0 ],
    )

low_or : (low : ℕ) (b : Bool) → (low ≡ 0) ⊎ (b ≡ true) → ((low == 0) || b) ≡ true
low_or low b h =
    elim h [
      | inl e ↦ elim (eqb_tells low 0) [ inl d ↦ first_holds (low == 0) b d.0 | inr d ↦ absurd (d.1 e) ]
      | inr e ↦ second_holds (low == 0) b e
    ]

-- without a turn, a repeat stays
stays_without_turn : (F : ℕ → Type 0) (greedy : Bool) (limit low : ℕ) (high : Option ℕ) (body : Walk) → (low ≡ 0) × (high ≡ Some 0) →
    Starts F (low ≡ 0) (repeated greedy limit low high body)
stays_without_turn F greedy limit low high body none s = rw (none.0, none.1) (inl (refl, refl), tt)

pub moved_within : (P : State → Type 0) (limit : ℕ) (s : State) (past : Option ℕ) → ((q : ℕ) → past ≡ Some q → q ≤ limit → P (moved_to s q)) → EachOutcome P (move limit s past)
moved_within P limit s None to = tt
moved_within P limit s (Some q) to = EachOutcome-only_if P (nat_le q limit) _ (λ e. (to q refl (leb-true q limit e), tt))

pub moved : (P : State → Type 0) (limit : ℕ) (s : State) (past : Option ℕ) → ((q : ℕ) → past ≡ Some q → P (moved_to s q)) → EachOutcome P (move limit s past)
moved P limit s past to = moved_within P limit s past (λ q e within. to q e)

lt_of_le_ne : (p q limit : ℕ) → p ≤ q → ¬ (q ≡ p) → q ≤ limit → p < limit
lt_of_le_ne p q limit le other within = omega (arith, le, other, within)

module _ (x : Context) (limit : ℕ) where
  -- what the byte at a place passes, before the limit
  abbrev pub Sees : (ℕ → Bool) → ℕ → Type 0
  Sees f p = SeesBefore x.haystack limit f p

  by_item : (N : Type 0) (test : ℕ → Bool) (s : State) → EachOutcome (BeginsBy N (Sees (first_of_items x.meaning test)) s) (move limit s (past_item x test s.place))
  by_item N test s = moved_within _ limit s _ (λ q e within. inr (
    omega (arith, item_beyond x test s.place q e, within),
    item_begins x.meaning x.haystack test s.place (past_item-has x test s.place q e),
  ))

  by_byte : (N : Type 0) (byte : ℕ) (s : State) → EachOutcome (BeginsBy N (Sees (λ b. b == byte)) s) (move limit s (past_byte x byte s.place))
  by_byte N byte s = moved_within _ limit s _ (λ q e within. inr (
    omega (arith, byte_beyond x byte s.place q e, within),
    record {
      byte = byte;
      stands = past_byte-here x byte s.place q e;
      passes = elim (eqb_tells byte byte) [ inl h ↦ h.0 | inr h ↦ absurd (h.1 refl) ];
    },
  ))

  by_text_or_end : (folded : Bool) (number : ℕ) (s : State) (q : ℕ) → past_backreference x folded number s ≡ Some q → q ≤ limit → (o : Option ℕ) → slice_get x.haystack s.place ≡ o →
      BeginsBy (true ≡ true) (Sees (λ b. true)) s (moved_to s q)
  by_text_or_end folded number s q e within None is = inl (refl, backreference-past x folded number s q e is)
  by_text_or_end folded number s q e within (Some b) is =
      elim (eqb_tells q s.place) [
        | inl here ↦ inl (refl, here.1)
        | inr on ↦ inr (lt_of_le_ne s.place q limit (recall_beyond x folded number s q e) on.1 within, record { byte = b; stands = is; passes = refl })
      ]

  by_text : (folded : Bool) (number : ℕ) (s : State) → EachOutcome (BeginsBy (true ≡ true) (Sees (λ b. true)) s) (move limit s (past_backreference x folded number s))
  by_text folded number s = moved_within _ limit s _ (λ q e within. by_text_or_end folded number s q e within (slice_get x.haystack s.place) refl)

  stays : (f : ℕ → Bool) (s : State) → EachOutcome (BeginsBy (true ≡ true) (Sees f) s) (stay s)
  stays f s = (inl (refl, refl), tt)

  looks : (f : ℕ → Bool) (negated behind : Bool) (s : State) (es : List Event) → EachOutcome (BeginsBy (true ≡ true) (Sees f) s) (looked negated behind s es)
  looks f true behind s es =
      EachOutcome-guarded (λ t. Unit {0}) (BeginsBy (true ≡ true) (Sees f) s) (ends_look behind s.place) (λ t. []) (return ∷ stay s) es
      (EachOutcome_all _ es (λ t. tt)) (λ t u. tt) (stays f s)
  looks f false behind s es =
      EachOutcome-guarded (λ t. Unit {0}) (BeginsBy (true ≡ true) (Sees f) s) (ends_look behind s.place) (put_back s.place) [] es
      (EachOutcome_all _ es (λ t. tt)) (λ t u. (inl (refl, refl), tt)) tt

  by_turns : (low : ℕ) (high : Option ℕ) (kind_greedy : Bool) (n : Bool) (f : ℕ → Bool) (body : Walk) (none : Bool) → has_no_turn low high ≡ none →
      Starts (Sees f) (n ≡ true) body →
      Starts (Sees (λ b. not none && f b)) (((low == 0) || n) ≡ true) (repeated kind_greedy limit low high body)
  by_turns low high greedy n f body true is a s =
      each_map (Sees (λ b. false)) (Sees (λ b. false)) (low ≡ 0) _ s (repeated greedy limit low high body s) (λ z. low_or low n (inl z)) (λ h. h)
      (stays_without_turn (Sees (λ b. false)) greedy limit low high body (no_turn low high is) s)
  by_turns low high greedy n f body false is a s =
      each_map (Sees f) (Sees f) ((low ≡ 0) ⊎ (n ≡ true)) _ s (repeated greedy limit low high body s) (low_or low n) (λ h. h)
      (begins-repeated (Sees f) (n ≡ true) greedy limit low high body a s)

  left_to : (f g : ℕ → Bool) (p : ℕ) → Sees f p → Sees (λ b. f b || g b) p
  left_to f g p h = sees_map x.haystack limit f (λ b. f b || g b) p (λ b. first_holds (f b) (g b)) h

  right_to : (f g : ℕ → Bool) (p : ℕ) → Sees g p → Sees (λ b. f b || g b) p
  right_to f g p h = sees_map x.haystack limit g (λ b. f b || g b) p (λ b. second_holds (f b) (g b)) h

  right_where : (m : Bool) (f g : ℕ → Bool) (p : ℕ) → m ≡ true → Sees g p → Sees (λ b. f b || (m && g b)) p
  right_where m f g p n h = sees_map x.haystack limit g (λ b. f b || (m && g b)) p (λ b e. second_holds (f b) (m && g b) (both_hold m (g b) n e)) h

  by_joined : (m n : Bool) (f g : ℕ → Bool) (s t u : State) → BeginsBy (m ≡ true) (Sees f) s t → BeginsBy (n ≡ true) (Sees g) t u →
      BeginsBy ((m && n) ≡ true) (Sees (λ b. f b || (m && g b))) s u
  by_joined m n f g s t u h j =
      joined (Sees f) (Sees g) (Sees (λ b. f b || (m && g b))) (m ≡ true) (n ≡ true) ((m && n) ≡ true) s t u
      (left_to f (λ b. m && g b) s.place) (right_where m f g s.place) (both_hold m n) h j

  by_parts : (m n : Bool) (f g : ℕ → Bool) (s : State) (es : List Event) (next : Walk) → EachOutcome (BeginsBy (m ≡ true) (Sees f) s) es → Starts (Sees g) (n ≡ true) next →
      EachOutcome (BeginsBy ((m && n) ≡ true) (Sees (λ b. f b || (m && g b))) s) (bind es next)
  by_parts m n f g s es next here later =
      EachOutcome-bind (BeginsBy (m ≡ true) (Sees f) s) (BeginsBy ((m && n) ≡ true) (Sees (λ b. f b || (m && g b))) s) es next here
      (λ t h. EachOutcome_imp (BeginsBy (n ≡ true) (Sees g) t) (BeginsBy ((m && n) ≡ true) (Sees (λ b. f b || (m && g b))) s) (next t) (λ u. by_joined m n f g s t u h) (later t))

  by_left : (m n : Bool) (f g : ℕ → Bool) (s : State) (es : List Event) → EachOutcome (BeginsBy (m ≡ true) (Sees f) s) es →
      EachOutcome (BeginsBy ((m || n) ≡ true) (Sees (λ b. f b || g b)) s) es
  by_left m n f g s es h = each_map (Sees f) (Sees (λ b. f b || g b)) (m ≡ true) ((m || n) ≡ true) s es (first_holds m n) (left_to f g s.place) h

  by_right : (m n : Bool) (f g : ℕ → Bool) (s : State) (es : List Event) → EachOutcome (BeginsBy (n ≡ true) (Sees g) s) es →
      EachOutcome (BeginsBy ((m || n) ≡ true) (Sees (λ b. f b || g b)) s) es
  by_right m n f g s es h = each_map (Sees g) (Sees (λ b. f b || g b)) (n ≡ true) ((m || n) ≡ true) s es (second_holds m n) (right_to f g s.place) h

  -- the first outcome of the condition and then the one branch, or else the other
  by_branches : (c m n : Bool) (f g h : ℕ → Bool) (s : State) (es : List Event) (found : Walk) (missed : List Event) →
      EachOutcome (BeginsBy (c ≡ true) (Sees f) s) es → Starts (Sees g) (m ≡ true) found → EachOutcome (BeginsBy (n ≡ true) (Sees h) s) missed →
      EachOutcome (BeginsBy (((c && m) || n) ≡ true) (Sees (λ b. (f b || (c && g b)) || h b)) s) (mark ∷ guarded any found (return ∷ missed) es)
  by_branches c m n f g h s es found missed here later otherwise =
      EachOutcome-guarded (BeginsBy (c ≡ true) (Sees f) s) (BeginsBy (((c && m) || n) ≡ true) (Sees (λ b. (f b || (c && g b)) || h b)) s) any found (return ∷ missed) es here
      (λ t j. by_left (c && m) n (λ b. f b || (c && g b)) h s (found t)
      (EachOutcome_imp (BeginsBy (m ≡ true) (Sees g) t) (BeginsBy ((c && m) ≡ true) (Sees (λ b. f b || (c && g b))) s) (found t) (λ u. by_joined c m f g s t u j) (later t)))
      (by_right (c && m) n (λ b. f b || (c && g b)) h s missed otherwise)

  -- The law.
  pub trace_begins : (p : Pattern) → Starts (Sees (first_bytes x.meaning p)) (nullable p ≡ true) (trace x limit p)
  unfolding trace
  trace_begins empty s = stays _ s
  trace_begins (character c) s = by_item _ (only c) s
  trace_begins (member_of edges) s = by_item _ (has edges) s
  trace_begins (in_any_case edges) s = by_item _ (has edges) s
  trace_begins (raw_byte byte) s = by_byte _ byte s
  trace_begins (backreference folded number) s = by_text folded number s
  trace_begins (assertion a) s = EachOutcome-only_if _ (holds x a s.place) _ (λ e. stays _ s)
  trace_begins (group_test number) s = EachOutcome-only_if _ (is_some (group_span s number)) _ (λ e. stays _ s)
  trace_begins keep_start s = (inl (refl, refl), tt)
  trace_begins continue_here s = EachOutcome-only_if _ (continues x s.place) _ (λ e. stays _ s)
  trace_begins (group index body) s =
      EachOutcome-bind (BeginsBy (nullable body ≡ true) (Sees (first_bytes x.meaning body)) s) _ (trace x limit body s) _ (trace_begins body s)
      (λ t b. (b, tt))
  trace_begins (repeat low high kind body) s =
      LeadsOn-by_kind _ kind _
      (by_turns low high (is_greedy kind) (nullable body) (first_bytes x.meaning body) (trace x limit body) (has_no_turn low high) refl (trace_begins body) s)
  trace_begins (look_ahead negated body) s = looks _ negated false s _
  trace_begins (look_behind negated body) s = looks _ negated true s _
  trace_begins (atomic body) s =
      EachOutcome-guarded (BeginsBy (nullable body ≡ true) (Sees (first_bytes x.meaning body)) s) _ any stay [] (trace x limit body s)
      (trace_begins body s) (λ t b. (b, tt)) tt
  trace_begins (conditional condition on_match otherwise) s =
      let m = x.meaning in
      elim (is_empty on_match && is_empty otherwise) as (λ (e : Bool). EachOutcome
      (BeginsBy ((if e then nullable condition else (nullable condition && nullable on_match) || nullable otherwise) ≡ true)
      (Sees (λ b. if e then first_bytes m condition b else (first_bytes m condition b || (nullable condition && first_bytes m on_match b)) || first_bytes m otherwise b)) s)
      (if e then guarded any stay [] (trace x limit condition s)
      else mark ∷ guarded any (trace x limit on_match) (return ∷ trace x limit otherwise s) (trace x limit condition s))) [
        | true ↦
            EachOutcome-guarded (BeginsBy (nullable condition ≡ true) (Sees (first_bytes m condition)) s) _ any stay [] (trace x limit condition s)
            (trace_begins condition s) (λ t b. (b, tt)) tt
        | false ↦
            by_branches (nullable condition) (nullable on_match) (nullable otherwise) (first_bytes m condition) (first_bytes m on_match) (first_bytes m otherwise) s
            (trace x limit condition s) (trace x limit on_match) (trace x limit otherwise s)
            (trace_begins condition s) (trace_begins on_match) (trace_begins otherwise s)
      ]
  trace_begins (followed part rest) s =
      by_parts (nullable part) (nullable rest) (first_bytes x.meaning part) (first_bytes x.meaning rest) s (trace x limit part s) (trace x limit rest)
      (trace_begins part s) (trace_begins rest)
  trace_begins (or_else branch others) s =
      EachOutcome-either _ (trace x limit branch s) (trace x limit others s)
      (by_left (nullable branch) (nullable others) (first_bytes x.meaning branch) (first_bytes x.meaning others) s (trace x limit branch s) (trace_begins branch s))
      (by_right (nullable branch) (nullable others) (first_bytes x.meaning branch) (first_bytes x.meaning others) s (trace x limit others s) (trace_begins others s))
  trace_begins (last_branch branch) s = trace_begins branch s

pub all_outcomes : (P : State → Type 0) (es : List Event) → EachOutcome P es → All P (outcomes_in es)
all_outcomes P [] all = All-nil P
all_outcomes P (mark ∷ es) all = all_outcomes P es all
all_outcomes P (return ∷ es) all = all_outcomes P es all
all_outcomes P (outcome s ∷ es) all = All-cons P s (outcomes_in es) all.0 (all_outcomes P es all.1)

-- what holds of each outcome of an attempt holds of an accepted one
pub accepted_holds : (q : Query) (p : ℕ) (P : State → Type 0) (h : HasAccepted q p) → EachOutcome P (trace_at q p) → P h.state
unfolding outcomes
accepted_holds q p P h all = All-contains P (outcomes_at q p) h.state (all_outcomes P (trace_at q p) all) h.reached

pub attempt_begins : (q : Query) (p : ℕ) → nullable q.sought.pattern ≡ false → HasAccepted q p →
    SeesBefore q.haystack q.request.range_end (first_bytes q.sought.meaning q.sought.pattern) p
attempt_begins q p never h =
    elim (accepted_holds q p _ h (trace_begins (context_of q) q.request.range_end q.sought.pattern (initial q p))) [
      | inl a ↦ not_both (nullable q.sought.pattern) a.0 never
      | inr b ↦ b
    ]
