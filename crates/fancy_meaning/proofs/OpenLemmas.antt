-- Where a pattern has an outcome, the text that it opens with stands where it began; a literal ends where that text does.
use Rattle.std.proofs.Common.{◌≡◌, ℕ, suc, ◌+◌, ◌≤◌, ◌==◌, Bool, true, false, List, [], ◌∷◌, ◌++◌, length, drop, Option, Some, None, if◌then◌else◌, nat_le, nat_lt, refl, sym, ap, subst, ◌∙◌, arith, true≢false, slice_get}
use Rattle.std.specs.Prelude.{encode_utf8}
use Rattle.std.specs.Char.{len_utf8}
use Rattle.std.proofs.lemmas.List.{append-nil, length-append}
use Rattle.std.proofs.lemmas.Str.{length-encode}
use Rattle.fancy_tree.specs.declared.tree.Meaning.{Meaning}
use Rattle.fancy_tree.specs.declared.tree.Meaning.TheVariants.{Unicode, Bytes, AsciiText}
use Rattle.fancy_tree.specs.declared.tree.RepeatKind.{RepeatKind}
use Rattle.fancy_tree.specs.Pattern.{Pattern, empty, character, member_of, in_any_case, raw_byte, backreference, assertion, group_test, keep_start, continue_here, group, repeat, look_ahead, look_behind, atomic, conditional, followed, or_else, last_branch}
use Rattle.fancy_input.specs.Places.{char_at}
use Rattle.fancy_bytes.specs.Items.{encoding, only}
use Rattle.fancy_bytes.specs.Openings.{has_text, item_text, is_literal, opening, StandsBefore}
use Rattle.fancy_bytes.proofs.BoolLemmas.{parts_of}
use Rattle.fancy_meaning.specs.Answers.{HasAccepted}
use Rattle.fancy_meaning.specs.Context.{Context, State, Unit_at, one_character, one_byte, unit_in, unit_at, past_item, past_byte, holds, option_to}
use Rattle.fancy_meaning.specs.Events.{Event, bind}
use Rattle.fancy_meaning.specs.Forward.{EachOutcome}
use Rattle.fancy_meaning.specs.Search.{Query, context_of, initial}
use Rattle.fancy_meaning.specs.Trace.{trace, is_greedy}
use Rattle.fancy_meaning.proofs.BeginLemmas.{moved_within, accepted_holds}
use Rattle.fancy_meaning.proofs.EventLemmas.{EachOutcome-bind, EachOutcome-only_if, EachOutcome_all}
use Rattle.fancy_meaning.proofs.ForwardLemmas.{EachOutcome_imp, LeadsOn-by_kind}
use Rattle.fancy_meaning.proofs.WalkLemmas.{EachOutcome_both}
use Rattle.fancy_meaning.proofs.RequireLemmas.{Implies, by_start, by_repeated}
use Rattle.fancy_meaning.proofs.SeenLemmas.{get_first, drop_from_get, past_item-has, only_one, past_byte-here}

-- texts that stand before an end

tails : (x y : ℕ) (xs ys : List ℕ) → x ∷ xs ≡ y ∷ ys → xs ≡ ys
tails x y xs ys e = cc

pub stands_from_drop : (haystack : List ℕ) (end : ℕ) (text rest : List ℕ) (p : ℕ) → drop p haystack ≡ text ++ rest → p + length text ≤ end → StandsBefore haystack end text p
stands_from_drop haystack end [] rest p is le = tt
stands_from_drop haystack end (b ∷ bs) rest p is le =
    let here = get_first haystack p b (bs ++ rest) is in
    let next : suc p ≡ p + 1 = omega arith in (
      omega (arith, le),
      here,
      stands_from_drop haystack end bs rest (p + 1)
          (ap (λ (k : ℕ). drop k haystack) (sym next) ∙ tails b b (drop (suc p) haystack) (bs ++ rest) (sym (drop_from_get haystack p b here) ∙ is)) (omega (arith, le)),
    )

pub stands_append : (haystack : List ℕ) (end : ℕ) (text more : List ℕ) (p : ℕ) → StandsBefore haystack end text p → StandsBefore haystack end more (p + length text) →
    StandsBefore haystack end (text ++ more) p
stands_append haystack end [] more p s t = let here : p + 0 ≡ p = omega arith in subst (StandsBefore haystack end more) here t
stands_append haystack end (b ∷ bs) more p s t =
    let there : p + suc (length bs) ≡ p + 1 + length bs = omega arith in
    (s.0, s.1, stands_append haystack end bs more (p + 1) s.2 (subst (StandsBefore haystack end more) there t))

-- an item ends where its text does

record Wide (m : Meaning) (test : ℕ → Bool) (p q : ℕ) : Type 0 where
  code : ℕ
  passes : test code ≡ true
  ends : q ≡ p + length (encoding m code)

one_character-wide : (o : Option ℕ) (u : Unit_at) → one_character o ≡ Some u → u.width ≡ length (encode_utf8 u.code)
one_character-wide None u e = cc
one_character-wide (Some c) u e =
    let code : c ≡ u.code = cc in
    let width : len_utf8 c ≡ u.width = cc in
    sym width ∙ ap len_utf8 code ∙ sym (length-encode u.code)

one_byte-wide : (o : Option ℕ) (u : Unit_at) → one_byte o ≡ Some u → u.width ≡ 1
one_byte-wide None u e = cc
one_byte-wide (Some c) u e = cc

pub unit_wide : (m : Meaning) (haystack : List ℕ) (p : ℕ) (u : Unit_at) → unit_in m haystack p ≡ Some u → u.width ≡ length (encoding m u.code)
unit_wide Unicode haystack p u e = one_character-wide (char_at haystack p) u e
unit_wide Bytes haystack p u e = one_byte-wide (slice_get haystack p) u e
unit_wide AsciiText haystack p u e = one_character-wide (char_at haystack p) u e

wide_where : (m : Meaning) (test : ℕ → Bool) (p q : ℕ) (u : Unit_at) (b : Bool) → u.width ≡ length (encoding m u.code) → test u.code ≡ b →
    (if b then Some (p + u.width) else None) ≡ Some q → Wide m test p q
wide_where m test p q u true wide passes e =
    let is : p + u.width ≡ q = cc in
    record { code = u.code; passes = passes; ends = sym is ∙ ap (λ (n : ℕ). p + n) wide }
wide_where m test p q u false wide passes e = cc

wide_if : (x : Context) (test : ℕ → Bool) (p q : ℕ) (o : Option Unit_at) → unit_in x.meaning x.haystack p ≡ o →
    option_to o None (λ u. if test u.code then Some (p + u.width) else None) ≡ Some q → Wide x.meaning test p q
wide_if x test p q None is e = cc
wide_if x test p q (Some u) is e = wide_where x.meaning test p q u (test u.code) (unit_wide x.meaning x.haystack p u is) refl e

past_item-wide : (x : Context) (test : ℕ → Bool) (p q : ℕ) → past_item x test p ≡ Some q → Wide x.meaning test p q
unfolding past_item unit_at
past_item-wide x test p q e = wide_if x test p q (unit_in x.meaning x.haystack p) refl e

byte_past : (b byte p q : ℕ) (t : Bool) → (if t then Some (p + 1) else None) ≡ Some q → q ≡ p + 1
byte_past b byte p q true e = cc
byte_past b byte p q false e = cc

byte_ends : (byte p q : ℕ) (o : Option ℕ) → option_to o None (λ b. if b == byte then Some (p + 1) else None) ≡ Some q → q ≡ p + 1
byte_ends byte p q None e = cc
byte_ends byte p q (Some b) e = byte_past b byte p q (b == byte) e

pub past_byte-ends : (x : Context) (byte p q : ℕ) → past_byte x byte p ≡ Some q → q ≡ p + 1
unfolding past_byte
past_byte-ends x byte p q e = byte_ends byte p q (slice_get x.haystack p) e

-- a character

byte_text : (t : Bool) (c : ℕ) (haystack : List ℕ) (end p : ℕ) → StandsBefore haystack end (c ∷ []) p → StandsBefore haystack end (if t then c ∷ [] else []) p
byte_text true c haystack end p s = s
byte_text false c haystack end p s = tt

text_stands : (m : Meaning) (c : ℕ) (haystack : List ℕ) (end p : ℕ) → StandsBefore haystack end (encoding m c) p → StandsBefore haystack end (item_text m c) p
text_stands Unicode c haystack end p s = s
text_stands Bytes c haystack end p s = byte_text (nat_lt c 256) c haystack end p s
text_stands AsciiText c haystack end p s = s

byte_length : (t : Bool) (c : ℕ) → t ≡ true → length (if t then c ∷ [] else []) ≡ 1
byte_length true c e = refl
byte_length false c e = absurd (true≢false (sym e))

text_length : (m : Meaning) (c : ℕ) → has_text m c ≡ true → length (encoding m c) ≡ length (item_text m c)
text_length Unicode c e = refl
text_length Bytes c e = sym (byte_length (nat_lt c 256) c e)
text_length AsciiText c e = refl

ends_joined : (whole : Bool) (text more : List ℕ) (p q : ℕ) → whole ≡ true → q ≡ p + length text → q + length more ≡ p + length (text ++ (if whole then more else []))
ends_joined true text more p q e is = omega (arith, is, length-append text more)
ends_joined false text more p q e is = absurd (true≢false (sym e))

untold : (es : List Event) → Implies (Unit {0}) es
untold es = EachOutcome_all (λ t. Unit {0}) es (λ t. tt)

module _ (x : Context) where
  -- where a literal has an outcome, it ends at the end of its text
  mutual
    unfolding trace

    trace_ends : (p : Pattern) → is_literal x.meaning p ≡ true → (limit : ℕ) (s : State) → EachOutcome (λ t. t.place ≡ s.place + length (opening x.meaning p)) (trace x limit p s)
    trace_ends empty e limit s = (omega arith, tt)
    trace_ends (character c) e limit s =
        moved_within (λ t. t.place ≡ s.place + length (item_text x.meaning c)) limit s _
        (λ q past within.
        let w = past_item-wide x (only c) s.place q past in
        w.ends ∙ ap (λ (d : ℕ). s.place + length (encoding x.meaning d)) (only_one c w.code w.passes) ∙ ap (λ (n : ℕ). s.place + n) (text_length x.meaning c e))
    trace_ends (member_of edges) e limit s = absurd (true≢false (sym e))
    trace_ends (in_any_case edges) e limit s = absurd (true≢false (sym e))
    trace_ends (raw_byte byte) e limit s = moved_within (λ t. t.place ≡ s.place + 1) limit s _ (λ q past within. past_byte-ends x byte s.place q past)
    trace_ends (backreference folded number) e limit s = absurd (true≢false (sym e))
    trace_ends (assertion a) e limit s = EachOutcome-only_if (λ t. t.place ≡ s.place + 0) (holds x a s.place) _ (λ h. (omega arith, tt))
    trace_ends (group_test number) e limit s = absurd (true≢false (sym e))
    trace_ends keep_start e limit s = absurd (true≢false (sym e))
    trace_ends continue_here e limit s = absurd (true≢false (sym e))
    trace_ends (group index body) e limit s =
        EachOutcome-bind (λ t. t.place ≡ s.place + length (opening x.meaning body)) (λ t. t.place ≡ s.place + length (opening x.meaning body)) (trace x limit body s) _ (trace_ends body e limit s)
        (λ t h. (h, tt))
    trace_ends (repeat low high kind body) e limit s = absurd (true≢false (sym e))
    trace_ends (look_ahead negated body) e limit s = absurd (true≢false (sym e))
    trace_ends (look_behind negated body) e limit s = absurd (true≢false (sym e))
    trace_ends (atomic body) e limit s = absurd (true≢false (sym e))
    trace_ends (conditional condition on_match otherwise) e limit s = absurd (true≢false (sym e))
    trace_ends (followed part rest) e limit s =
        let both = parts_of (is_literal x.meaning part) (is_literal x.meaning rest) e in
        EachOutcome-bind (λ t. t.place ≡ s.place + length (opening x.meaning part)) (λ t. t.place ≡ s.place + length (opening x.meaning (followed part rest))) (trace x limit part s) (trace x limit rest)
        (trace_ends part both.0 limit s)
        (λ t h.
        EachOutcome_imp (λ u. u.place ≡ t.place + length (opening x.meaning rest)) (λ u. u.place ≡ s.place + length (opening x.meaning (followed part rest))) (trace x limit rest t)
        (λ u k. k ∙ ends_joined (is_literal x.meaning part) (opening x.meaning part) (opening x.meaning rest) s.place t.place both.0 h) (trace_ends rest both.1 limit t))
    trace_ends (or_else branch others) e limit s = absurd (true≢false (sym e))
    trace_ends (last_branch branch) e limit s = absurd (true≢false (sym e))

  joined : (whole : Bool) (limit : ℕ) (part rest : Pattern) (s : State) → is_literal x.meaning part ≡ whole →
      Implies (StandsBefore x.haystack limit (opening x.meaning part) s.place) (trace x limit part s) →
      ((t : State) → Implies (StandsBefore x.haystack limit (opening x.meaning rest) t.place) (trace x limit rest t)) →
      Implies (StandsBefore x.haystack limit (opening x.meaning part ++ (if whole then opening x.meaning rest else [])) s.place) (bind (trace x limit part s) (trace x limit rest))
  joined false limit part rest s e here later =
      subst (λ (text : List ℕ). Implies (StandsBefore x.haystack limit text s.place) (bind (trace x limit part s) (trace x limit rest))) (sym (append-nil (opening x.meaning part)))
      (by_start (StandsBefore x.haystack limit (opening x.meaning part) s.place) (trace x limit part s) (trace x limit rest) here)
  joined true limit part rest s e here later =
      EachOutcome-bind (λ t. StandsBefore x.haystack limit (opening x.meaning part) s.place × (t.place ≡ s.place + length (opening x.meaning part)))
      (λ t. StandsBefore x.haystack limit (opening x.meaning part ++ opening x.meaning rest) s.place) (trace x limit part s) (trace x limit rest)
      (EachOutcome_both _ _ (trace x limit part s) here (trace_ends part e limit s))
      (λ t h.
      EachOutcome_imp (λ u. StandsBefore x.haystack limit (opening x.meaning rest) t.place) (λ u. StandsBefore x.haystack limit (opening x.meaning part ++ opening x.meaning rest) s.place) (trace x limit rest t)
      (λ u k. stands_append x.haystack limit (opening x.meaning part) (opening x.meaning rest) s.place h.0 (subst (StandsBefore x.haystack limit (opening x.meaning rest)) h.1 k)) (later t))

  turned : (b : Bool) (low : ℕ) (high : Option ℕ) (kind : RepeatKind) (body : Pattern) (limit : ℕ) (s : State) → nat_le 1 low ≡ b →
      Implies (StandsBefore x.haystack limit (opening x.meaning body) s.place) (trace x limit body s) →
      Implies (StandsBefore x.haystack limit (if b then opening x.meaning body else []) s.place) (trace x limit (repeat low high kind body) s)
  unfolding trace
  turned true low high kind body limit s e here =
      LeadsOn-by_kind (λ t. StandsBefore x.haystack limit (opening x.meaning body) s.place) kind _
      (by_repeated (StandsBefore x.haystack limit (opening x.meaning body) s.place) (is_greedy kind) limit low high (trace x limit body) s e here)
  turned false low high kind body limit s e here = untold (trace x limit (repeat low high kind body) s)

  -- where a pattern has an outcome, its opening stands where it began
  pub trace_opens : (p : Pattern) (limit : ℕ) (s : State) → Implies (StandsBefore x.haystack limit (opening x.meaning p) s.place) (trace x limit p s)
  unfolding trace
  trace_opens empty limit s = (tt, tt)
  trace_opens (character c) limit s =
      moved_within (λ t. StandsBefore x.haystack limit (item_text x.meaning c) s.place) limit s _
      (λ q past within.
      let w = past_item-wide x (only c) s.place q past in
      let h = past_item-has x (only c) s.place q past in
      text_stands x.meaning c x.haystack limit s.place
      (stands_from_drop x.haystack limit (encoding x.meaning c) h.rest s.place (h.bytes ∙ ap (λ (d : ℕ). encoding x.meaning d ++ h.rest) (only_one c h.code h.passes))
      (omega (arith, within, w.ends, ap (λ (d : ℕ). length (encoding x.meaning d)) (only_one c w.code w.passes)))))
  trace_opens (member_of edges) limit s = untold (trace x limit (member_of edges) s)
  trace_opens (in_any_case edges) limit s = untold (trace x limit (in_any_case edges) s)
  trace_opens (raw_byte byte) limit s =
      moved_within (λ t. StandsBefore x.haystack limit (byte ∷ []) s.place) limit s _
      (λ q past within. (omega (arith, within, past_byte-ends x byte s.place q past), past_byte-here x byte s.place q past, tt))
  trace_opens (backreference folded number) limit s = untold (trace x limit (backreference folded number) s)
  trace_opens (assertion a) limit s = untold (trace x limit (assertion a) s)
  trace_opens (group_test number) limit s = untold (trace x limit (group_test number) s)
  trace_opens keep_start limit s = (tt, tt)
  trace_opens continue_here limit s = untold (trace x limit continue_here s)
  trace_opens (group index body) limit s = by_start _ (trace x limit body s) _ (trace_opens body limit s)
  trace_opens (repeat low high kind body) limit s = turned (nat_le 1 low) low high kind body limit s refl (trace_opens body limit s)
  trace_opens (look_ahead negated body) limit s = untold (trace x limit (look_ahead negated body) s)
  trace_opens (look_behind negated body) limit s = untold (trace x limit (look_behind negated body) s)
  trace_opens (atomic body) limit s = untold (trace x limit (atomic body) s)
  trace_opens (conditional condition on_match otherwise) limit s = untold (trace x limit (conditional condition on_match otherwise) s)
  trace_opens (followed part rest) limit s = joined (is_literal x.meaning part) limit part rest s refl (trace_opens part limit s) (trace_opens rest limit)
  trace_opens (or_else branch others) limit s = untold (trace x limit (or_else branch others) s)
  trace_opens (last_branch branch) limit s = untold (trace x limit (last_branch branch) s)

-- each accepted outcome is of an attempt where the opening stands
pub opening_stands : (q : Query) (p : ℕ) → HasAccepted q p → StandsBefore q.haystack q.request.range_end (opening q.sought.meaning q.sought.pattern) p
opening_stands q p h =
    accepted_holds q p (λ t. StandsBefore q.haystack q.request.range_end (opening q.sought.meaning q.sought.pattern) p) h
    (trace_opens (context_of q) q.sought.pattern q.request.range_end (initial q p))
