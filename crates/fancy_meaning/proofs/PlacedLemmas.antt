-- From a placed state, each outcome of a pattern is placed.
use Rattle.std.proofs.Common.{◌≡◌, ℕ, zero, suc, ◌+◌, ◌≤◌, Bool, true, false, ◌&&◌, ◌||◌, ◌==◌, List, [], ◌∷◌, length, Option, Some, None, IsTrue, if◌then◌else◌, nat_le, is_some, ◌⊎◌, refl, sym, ap, subst, ◌∙◌, arith, inl, inr, le_refl, le_trans, leb-true, true≢false, slice_get, replicate}
use Rattle.std.specs.Prelude.{slice_index_or, slice_set}
use Rattle.std.proofs.lemmas.Bool.{cases_lt}
use Rattle.std.proofs.lemmas.Bool.Decides.{eqb_tells}
use Rattle.std.proofs.lemmas.List.{get_or-set_same, get_or-set_other, get_or_past, length-set, get_or-replicate, length-replicate}
use Rattle.fancy_tree.specs.Pattern.{Pattern, empty, character, member_of, in_any_case, raw_byte, backreference, assertion, group_test, keep_start, continue_here, group, repeat, look_ahead, look_behind, atomic, conditional, followed, or_else, last_branch}
use Rattle.fancy_tree.specs.Sizes.{size, is_empty}
use Rattle.fancy_input.proofs.PlaceLemmas.{prev_place_at_most}
use Rattle.fancy_input.specs.declared.span.Span.{Span}
use Rattle.fancy_input.specs.Spans.{from_to}
use Rattle.fancy_tree.specs.declared.tree.Meaning.{Meaning}
use Rattle.fancy_tree.specs.declared.tree.Meaning.TheVariants.{Unicode, Bytes, AsciiText}
use Rattle.fancy_meaning.specs.Context.{Context, State, Unit_at, moved_to, with_capture, group_span, unit_at, past_item, past_byte, previous_in, units_back, holds, continues, option_to}
use Rattle.fancy_meaning.specs.Backreference.{past_backreference}
use Rattle.fancy_meaning.specs.Events.{Event, return, Walk, stay, bind, guarded, any, move, put_back, ends_look, looked}
use Rattle.fancy_meaning.specs.Trace.{trace, behind, from_before, is_greedy}
use Rattle.fancy_meaning.specs.Forward.{EachOutcome, IsBetween}
use Rattle.fancy_meaning.specs.Placed.{IsSpan, IsPlaced, Leads, has_raw_byte}
use Rattle.fancy_meaning.proofs.EventLemmas.{EachOutcome-bind, EachOutcome-guarded, EachOutcome_all, EachOutcome-either, EachOutcome-only_if, EachOutcome-if}
use Rattle.fancy_meaning.proofs.ForwardLemmas.{LeadsOn-trace, LeadsOn-by_kind}
use Rattle.fancy_meaning.proofs.WalkLemmas.{Retains, EachOutcome_both, Retains-stay, Retains-holding, Retains-bind, Retains-repeated}

-- the state is placed, and its place is at most this limit
pub record IsInside (haystack : List ℕ) (good : ℕ → Bool) (limit : ℕ) (s : State) : Type 0 where
  pub placed : IsPlaced haystack good s
  pub to : s.place ≤ limit

-- the captures

abbrev no_span : Option Span
no_span = None

-- before a match no group has taken part
no_group : (n k : ℕ) → slice_index_or (replicate n no_span) k None ≡ None
no_group n k =
    elim (cases_lt k n) [
      | inl h ↦ get_or-replicate n k no_span None h
      | inr h ↦ get_or_past (replicate n no_span) k None (omega (arith, length-replicate n no_span))
    ]

pub placed_at_start : (haystack : List ℕ) (good : ℕ → Bool) (n p : ℕ) → p ≤ length haystack → IsTrue (good p) →
    IsPlaced haystack good (record { place = p; captures = replicate n None; kept = p })
placed_at_start haystack good n p within here = record {
  within = within;
  stands = here;
  spans = λ k span e. let none = no_group n k in cc;
}

-- a group that was written is the span that was written, or one from before
span_written : (haystack : List ℕ) (good : ℕ → Bool) (captures : List (Option Span)) (index k : ℕ) (written span : Span) → IsSpan haystack good written →
    ((s : Span) → slice_index_or captures k None ≡ Some s → IsSpan haystack good s) →
    slice_index_or (slice_set captures index (Some written)) k None ≡ Some span → IsSpan haystack good span
span_written haystack good captures index k written span is before e =
    elim (eqb_tells k index) [
      | inr other ↦ before span (sym (get_or-set_other captures index k (Some written) None other.1) ∙ e)
      | inl same ↦ elim (cases_lt index (length captures)) [
        | inl within ↦
            let read : slice_index_or (slice_set captures index (Some written)) k None ≡ Some written =
            ap (λ i. slice_index_or (slice_set captures index (Some written)) i None) same.1
            ∙ get_or-set_same captures index (Some written) None within in
            let same_span : written ≡ span = cc in
            subst (IsSpan haystack good) same_span is
        | inr past ↦
            let at : k ≡ index = same.1 in
            let none : slice_index_or (slice_set captures index (Some written)) k None ≡ None =
            get_or_past (slice_set captures index (Some written)) k None (omega (arith, length-set captures index (Some written))) in
            cc
      ]
    ]

placed_captured : (haystack : List ℕ) (good : ℕ → Bool) (t : State) (index start : ℕ) → IsTrue (good start) → start ≤ t.place → IsPlaced haystack good t →
    IsPlaced haystack good (with_capture t index start)
placed_captured haystack good t index start here from h = record {
  within = h.within;
  stands = h.stands;
  spans = λ k span e.
      span_written haystack good t.captures index k (from_to start t.place) span
      (record { ordered = from; within = h.within; begins = here; ends = h.stands }) (h.spans k) e;
}

placed_moved : (haystack : List ℕ) (good : ℕ → Bool) (s : State) (p : ℕ) → p ≤ length haystack → IsTrue (good p) → IsPlaced haystack good s →
    IsPlaced haystack good (moved_to s p)
placed_moved haystack good s p within here h = record { within = within; stands = here; spans = h.spans }

-- a place, if there is one, is good
abbrev GoodPast : (ℕ → Bool) → Option ℕ → Type 0
GoodPast good None = Unit {0}
GoodPast good (Some p) = IsTrue (good p)

good_if : (good : ℕ → Bool) (b : Bool) (p : ℕ) → (b ≡ true → IsTrue (good p)) → GoodPast good (if b then Some p else None)
good_if good true p h = h refl
good_if good false p h = tt

previous_at_most : (m : Meaning) (haystack : List ℕ) (p : ℕ) → previous_in m haystack (suc p) ≤ suc p
previous_at_most Unicode haystack p = prev_place_at_most haystack (suc p)
previous_at_most Bytes haystack p = omega arith
previous_at_most AsciiText haystack p = prev_place_at_most haystack (suc p)

units_back_at_most : (x : Context) (n p r : ℕ) → units_back x n p ≡ Some r → r ≤ p
unfolding units_back
units_back_at_most x zero p r e = let same : p ≡ r = cc in omega arith
units_back_at_most x (suc n) zero r e = cc
units_back_at_most x (suc n) (suc p) r e =
    le_trans (units_back_at_most x n (previous_in x.meaning x.haystack (suc p)) r e) (previous_at_most x.meaning x.haystack p)

either_true : (a b : Bool) → (a ≡ true) ⊎ (b ≡ true) → (a || b) ≡ true
either_true true b h = refl
either_true false b (inl e) = absurd (true≢false (sym e))
either_true false b (inr e) = e

-- what leads on for a pattern does so for a part of it
leads_part : (x : Context) (whole part : Pattern) (good : ℕ → Bool) → (has_raw_byte part ≡ true → has_raw_byte whole ≡ true) → Leads x whole good →
    Leads x part good
leads_part x whole part good h l = record { items = l.items; bytes = λ e. l.bytes (h e); repeats = l.repeats; back = l.back }

module _ (x : Context) (good : ℕ → Bool) where
  abbrev Inside : ℕ → State → Type 0
  Inside = IsInside x.haystack good

  -- to a limit further on, and back to the place where one started
  inside_whole : (limit : ℕ) (s : State) → Inside limit s → Inside (length x.haystack) s
  inside_whole limit s h = record { placed = h.placed; to = h.placed.within }

  inside_put_back : (limit : ℕ) (s t : State) → Inside limit s → Inside (length x.haystack) t → Inside limit (moved_to t s.place)
  inside_put_back limit s t h i = record { placed = placed_moved x.haystack good t s.place h.placed.within h.placed.stands i.placed; to = h.to }

  Inside-move : (limit : ℕ) (s : State) (past : Option ℕ) → limit ≤ length x.haystack → GoodPast good past → Inside limit s →
      EachOutcome (Inside limit) (move limit s past)
  Inside-move limit s None short g h = tt
  Inside-move limit s (Some p) short g h =
      EachOutcome-only_if (Inside limit) (nat_le p limit) _
      (λ e. let below = leb-true p limit e in
      (record { placed = placed_moved x.haystack good s p (le_trans below short) g h.placed; to = below }, tt))

  past_item-good : (p : Pattern) (test : ℕ → Bool) (i : ℕ) → Leads x p good → i ≤ length x.haystack → IsTrue (good i) → GoodPast good (past_item x test i)
  unfolding past_item
  past_item-good p test i l within here = read (unit_at x i) refl
    where
      read : (o : Option Unit_at) → unit_at x i ≡ o → GoodPast good (option_to o None (λ u. if test u.code then Some (i + u.width) else None))
      read None e = tt
      read (Some u) e = good_if good (test u.code) (i + u.width) (λ t. l.items i u within here e)

  past_byte-good : (byte i : ℕ) → IsTrue (good (i + 1)) → GoodPast good (past_byte x byte i)
  unfolding past_byte
  past_byte-good byte i next = read (slice_get x.haystack i)
    where
      read : (o : Option ℕ) → GoodPast good (option_to o None (λ b. if b == byte then Some (i + 1) else None))
      read None = tt
      read (Some b) = good_if good (b == byte) (i + 1) (λ t. next)

  past_backreference-good : (p : Pattern) (folded : Bool) (number : ℕ) (s : State) → Leads x p good → IsPlaced x.haystack good s →
      GoodPast good (past_backreference x folded number s)
  past_backreference-good p folded number s l h = read (past_backreference x folded number s) refl
    where
      read : (o : Option ℕ) → past_backreference x folded number s ≡ o → GoodPast good o
      read None e = tt
      read (Some r) e = l.repeats folded number r s h e

  Inside-looked : (limit : ℕ) (negated behind : Bool) (s : State) (es : List Event) → Inside limit s → EachOutcome (Inside (length x.haystack)) es →
      EachOutcome (Inside limit) (looked negated behind s es)
  Inside-looked limit true behind s es h all =
      EachOutcome-guarded (λ t. Unit {0}) (Inside limit) (ends_look behind s.place) (λ t. []) (return ∷ stay s) es
      (EachOutcome_all _ es (λ t. tt)) (λ t u. tt) (Retains-stay (Inside limit) s h)
  Inside-looked limit false behind s es h all =
      EachOutcome-guarded (Inside (length x.haystack)) (Inside limit) (ends_look behind s.place) (put_back s.place) [] es
      all (λ t b. (inside_put_back limit s t h b, tt)) tt

  from_before-inside : (p : Pattern) (n : Option ℕ) (walk : Walk) → Leads x p good → Retains (Inside (length x.haystack)) walk →
      Retains (Inside (length x.haystack)) (from_before x n walk)
  from_before-inside p None walk l f s h = tt
  from_before-inside p (Some n) walk l f s h = read (units_back x n s.place) refl
    where
      read : (o : Option ℕ) → units_back x n s.place ≡ o → EachOutcome (Inside (length x.haystack)) (option_to o [] (λ p. walk (moved_to s p)))
      read None e = tt
      read (Some r) e =
          let within : r ≤ length x.haystack = le_trans (units_back_at_most x n s.place r e) h.placed.within in
          f (moved_to s r)
          (record { placed = placed_moved x.haystack good s r within (l.back n s.place r h.placed.stands e) h.placed; to = within })

  atomic_inside : (limit : ℕ) (es : List Event) → EachOutcome (Inside limit) es → EachOutcome (Inside limit) (guarded any stay [] es)
  atomic_inside limit es all = EachOutcome-guarded (Inside limit) (Inside limit) any stay [] es all (Retains-stay (Inside limit)) tt

  group_inside : (limit index : ℕ) (body : Pattern) (s : State) → Inside limit s → EachOutcome (Inside limit) (trace x limit body s) →
      EachOutcome (Inside limit) (bind (trace x limit body s) (λ t. stay (with_capture t index s.place)))
  group_inside limit index body s h all =
      EachOutcome-bind (λ t. Inside limit t × IsBetween s.place limit t) (Inside limit) (trace x limit body s) _
      (EachOutcome_both (Inside limit) (IsBetween s.place limit) (trace x limit body s) all (LeadsOn-trace x limit body s h.to))
      (λ t b. (record { placed = placed_captured x.haystack good t index s.place h.placed.stands b.1.from b.0.placed; to = b.0.to }, tt))

  mutual
    unfolding trace behind

    -- from a placed state, each outcome of any pattern is placed
    pub trace_placed : (limit : ℕ) (p : Pattern) → limit ≤ length x.haystack → Leads x p good → Retains (Inside limit) (trace x limit p)
    trace_placed limit empty short l s h = Retains-stay (Inside limit) s h
    trace_placed limit (character c) short l s h = Inside-move limit s _ short (past_item-good (character c) _ s.place l h.placed.within h.placed.stands) h
    trace_placed limit (member_of edges) short l s h = Inside-move limit s _ short (past_item-good (member_of edges) _ s.place l h.placed.within h.placed.stands) h
    trace_placed limit (in_any_case edges) short l s h = Inside-move limit s _ short (past_item-good (in_any_case edges) _ s.place l h.placed.within h.placed.stands) h
    trace_placed limit (raw_byte byte) short l s h = Inside-move limit s _ short (past_byte-good byte s.place (l.bytes refl s.place h.placed.stands)) h
    trace_placed limit (backreference folded number) short l s h = Inside-move limit s _ short (past_backreference-good (backreference folded number) folded number s l h.placed) h
    trace_placed limit (assertion a) short l s h = Retains-holding (Inside limit) (holds x a s.place) s h
    trace_placed limit (group_test number) short l s h = Retains-holding (Inside limit) (is_some (group_span s number)) s h
    trace_placed limit keep_start short l s h =
        (record { placed = record { within = h.placed.within; stands = h.placed.stands; spans = h.placed.spans }; to = h.to }, tt)
    trace_placed limit continue_here short l s h = Retains-holding (Inside limit) (continues x s.place) s h
    trace_placed limit (group index body) short l s h =
        group_inside limit index body s h (trace_placed limit body short (leads_part x (group index body) body good (λ e. e) l) s h)
    trace_placed limit (repeat low high kind body) short l s h =
        LeadsOn-by_kind (Inside limit) kind _
        (Retains-repeated (Inside limit) (is_greedy kind) limit low high (trace x limit body)
        (trace_placed limit body short (leads_part x (repeat low high kind body) body good (λ e. e) l)) s h)
    trace_placed limit (look_ahead negated body) short l s h =
        Inside-looked limit negated false s _ h
        (trace_placed (length x.haystack) body (le_refl (length x.haystack)) (leads_part x (look_ahead negated body) body good (λ e. e) l) s (inside_whole limit s h))
    trace_placed limit (look_behind negated body) short l s h =
        let part : Leads x body good = leads_part x (look_behind negated body) body good (λ e. e) l in
        Inside-looked limit negated true s _ h
        (behind_placed body (trace x (length x.haystack) body) part (trace_placed (length x.haystack) body (le_refl (length x.haystack)) part) s (inside_whole limit s h))
    trace_placed limit (atomic body) short l s h =
        atomic_inside limit (trace x limit body s) (trace_placed limit body short (leads_part x (atomic body) body good (λ e. e) l) s h)
    trace_placed limit (conditional condition on_match otherwise) short l s h =
        let whole = conditional condition on_match otherwise in
        let a = has_raw_byte condition in
        let b = has_raw_byte on_match in
        let c = has_raw_byte otherwise in
        let tested = trace_placed limit condition short (leads_part x whole condition good (λ e. either_true a (b || c) (inl e)) l) s h in
        EachOutcome-if (Inside limit) (is_empty on_match && is_empty otherwise) _ _
        (atomic_inside limit (trace x limit condition s) tested)
        (EachOutcome-guarded (Inside limit) (Inside limit) any (trace x limit on_match) (return ∷ trace x limit otherwise s) (trace x limit condition s) tested
        (trace_placed limit on_match short (leads_part x whole on_match good (λ e. either_true a (b || c) (inr (either_true b c (inl e)))) l))
        (trace_placed limit otherwise short (leads_part x whole otherwise good (λ e. either_true a (b || c) (inr (either_true b c (inr e)))) l) s h))
    trace_placed limit (followed part rest) short l s h =
        let a = has_raw_byte part in
        let b = has_raw_byte rest in
        Retains-bind (Inside limit) (trace x limit part) (trace x limit rest)
        (trace_placed limit part short (leads_part x (followed part rest) part good (λ e. either_true a b (inl e)) l))
        (trace_placed limit rest short (leads_part x (followed part rest) rest good (λ e. either_true a b (inr e)) l)) s h
    trace_placed limit (or_else branch others) short l s h =
        let a = has_raw_byte branch in
        let b = has_raw_byte others in
        EachOutcome-either (Inside limit) (trace x limit branch s) (trace x limit others s)
        (trace_placed limit branch short (leads_part x (or_else branch others) branch good (λ e. either_true a b (inl e)) l) s h)
        (trace_placed limit others short (leads_part x (or_else branch others) others good (λ e. either_true a b (inr e)) l) s h)
    trace_placed limit (last_branch branch) short l s h =
        trace_placed limit branch short (leads_part x (last_branch branch) branch good (λ e. e) l) s h

    behind_placed : (p : Pattern) (whole : Walk) → Leads x p good → Retains (Inside (length x.haystack)) whole → Retains (Inside (length x.haystack)) (behind x p whole)
    behind_placed (or_else branch others) whole l f s h =
        let a = has_raw_byte branch in
        let b = has_raw_byte others in
        let first : Leads x branch good = leads_part x (or_else branch others) branch good (λ e. either_true a b (inl e)) l in
        let later : Leads x others good = leads_part x (or_else branch others) others good (λ e. either_true a b (inr e)) l in
        let short = le_refl (length x.haystack) in
        EachOutcome-either (Inside (length x.haystack)) (from_before x (size x.meaning branch) (trace x (length x.haystack) branch) s)
        (behind x others (trace x (length x.haystack) others) s)
        (from_before-inside branch (size x.meaning branch) (trace x (length x.haystack) branch) first (trace_placed (length x.haystack) branch short first) s h)
        (behind_placed others (trace x (length x.haystack) others) later (trace_placed (length x.haystack) others short later) s h)
    behind_placed (last_branch branch) whole l f s h =
        let first : Leads x branch good = leads_part x (last_branch branch) branch good (λ e. e) l in
        from_before-inside branch (size x.meaning branch) (trace x (length x.haystack) branch) first
        (trace_placed (length x.haystack) branch (le_refl (length x.haystack)) first) s h
    behind_placed empty whole l f s h = from_before-inside empty (size x.meaning empty) whole l f s h
    behind_placed (character c) whole l f s h = from_before-inside (character c) (size x.meaning (character c)) whole l f s h
    behind_placed (member_of edges) whole l f s h = from_before-inside (member_of edges) (size x.meaning (member_of edges)) whole l f s h
    behind_placed (in_any_case edges) whole l f s h = from_before-inside (in_any_case edges) (size x.meaning (in_any_case edges)) whole l f s h
    behind_placed (raw_byte byte) whole l f s h = from_before-inside (raw_byte byte) (size x.meaning (raw_byte byte)) whole l f s h
    behind_placed (backreference folded number) whole l f s h = from_before-inside (backreference folded number) (size x.meaning (backreference folded number)) whole l f s h
    behind_placed (assertion a) whole l f s h = from_before-inside (assertion a) (size x.meaning (assertion a)) whole l f s h
    behind_placed (group_test number) whole l f s h = from_before-inside (group_test number) (size x.meaning (group_test number)) whole l f s h
    behind_placed keep_start whole l f s h = from_before-inside keep_start (size x.meaning keep_start) whole l f s h
    behind_placed continue_here whole l f s h = from_before-inside continue_here (size x.meaning continue_here) whole l f s h
    behind_placed (group index body) whole l f s h = from_before-inside (group index body) (size x.meaning (group index body)) whole l f s h
    behind_placed (repeat low high kind body) whole l f s h = from_before-inside (repeat low high kind body) (size x.meaning (repeat low high kind body)) whole l f s h
    behind_placed (look_ahead negated body) whole l f s h = from_before-inside (look_ahead negated body) (size x.meaning (look_ahead negated body)) whole l f s h
    behind_placed (look_behind negated body) whole l f s h = from_before-inside (look_behind negated body) (size x.meaning (look_behind negated body)) whole l f s h
    behind_placed (atomic body) whole l f s h = from_before-inside (atomic body) (size x.meaning (atomic body)) whole l f s h
    behind_placed (conditional condition first second) whole l f s h = from_before-inside (conditional condition first second) (size x.meaning (conditional condition first second)) whole l f s h
    behind_placed (followed part rest) whole l f s h = from_before-inside (followed part rest) (size x.meaning (followed part rest)) whole l f s h
