-- Where a byte stands with which no item of a pattern begins, what the pattern consumes ends there or before.
use Rattle.std.proofs.Common.{◌≡◌, ℕ, ◌+◌, ◌-◌, ◌<◌, ◌≤◌, ◌==◌, Bool, true, false, ◌&&◌, ◌||◌, List, [], ◌∷◌, length, Some, refl, sym, ap, ◌∙◌, inl, inr, arith, eq-eqb, le_refl, le_trans, true≢false, slice_get, slice_index}
use Rattle.std.proofs.lemmas.Bool.{cases_lt}
use Rattle.std.proofs.lemmas.List.{append-nil}
use Rattle.std.proofs.lemmas.Option.{same_Some}
use Rattle.std.proofs.lemmas.Str.{encode_ascii, inside_one}
use Rattle.fancy_tree.specs.declared.tree.Meaning.{Meaning}
use Rattle.fancy_tree.specs.declared.tree.Meaning.TheVariants.{Unicode, Bytes, AsciiText}
use Rattle.fancy_tree.specs.Pattern.{Pattern, empty, character, member_of, in_any_case, raw_byte, backreference, assertion, group_test, keep_start, continue_here, group, repeat, look_ahead, look_behind, atomic, conditional, followed, or_else, last_branch}
use Rattle.fancy_tree.specs.Sets.{has}
use Rattle.fancy_tree.specs.Sizes.{is_empty}
use Rattle.fancy_bytes.specs.Items.{encoding, first_of_items, only}
use Rattle.fancy_bytes.specs.Reads.{item_starts}
use Rattle.fancy_meaning.specs.Context.{Context, State, past_byte, past_item}
use Rattle.fancy_meaning.specs.Events.{Event, any, move, return, stay}
use Rattle.fancy_meaning.specs.Forward.{EachOutcome, IsBetween, LeadsOn}
use Rattle.fancy_meaning.specs.Trace.{trace, is_greedy}
use Rattle.fancy_meaning.proofs.BeginLemmas.{moved_within}
use Rattle.fancy_meaning.proofs.EventLemmas.{EachOutcome-bind, EachOutcome-guarded, EachOutcome-either, EachOutcome-if}
use Rattle.fancy_meaning.proofs.ForwardLemmas.{EachOutcome_imp, LeadsOn-bind, LeadsOn-by_kind, LeadsOn-holding, LeadsOn-looked, LeadsOn-repeated, LeadsOn-stay}
use Rattle.fancy_meaning.proofs.OpenLemmas.{past_byte-ends}
use Rattle.fancy_meaning.proofs.SeenLemmas.{item_begins, past_byte-here, past_item-has}
use Rattle.fancy_code.proofs.ForetoldLemmas.{item_at, item_byte}

neither : (a b : Bool) → (a || b) ≡ false → (a ≡ false) × (b ≡ false)
neither true b e = absurd (true≢false e)
neither false b e = (refl, e)

-- a byte of ASCII in an item is the item
alone : (m : Meaning) (c i b : ℕ) → i < length (encoding m c) → slice_index (encoding m c) i ≡ b → b < 128 → i ≡ 0
alone Unicode c i b lt is low =
    let same : c ≡ slice_index (encoding Unicode c) i = inside_one c [] (encoding Unicode c) i (sym (append-nil (encoding Unicode c))) lt (omega (arith, is, low)) in
    omega (arith, lt, ap length (encode_ascii c (omega (arith, same, is, low))))
alone Bytes c i b lt is low = omega (arith, lt)
alone AsciiText c i b lt is low =
    let same : c ≡ slice_index (encoding AsciiText c) i = inside_one c [] (encoding AsciiText c) i (sym (append-nil (encoding AsciiText c))) lt (omega (arith, is, low)) in
    omega (arith, lt, ap length (encode_ascii c (omega (arith, same, is, low))))

module _ (x : Context) (limit edge b : ℕ) (here : slice_get x.haystack edge ≡ Some b) (value : slice_index x.haystack edge ≡ b) (low : b < 128) where
  item_stays : (test : ℕ → Bool) (p q : ℕ) → first_of_items x.meaning test b ≡ false → p ≤ edge → past_item x test p ≡ Some q → q ≤ edge
  item_stays test p q other le past =
      elim (cases_lt edge q) [
        | inl lt ↦
            (let h = item_at x test p q past in
            let i : ℕ = edge - p in
            let inside : i < length (encoding x.meaning h.code) = omega (arith, h.ends, lt, le) in
            let place : p + i ≡ edge = omega (arith, le) in
            let byte : slice_index (encoding x.meaning h.code) i ≡ b = sym (item_byte x.haystack (encoding x.meaning h.code) h.rest p i h.bytes inside) ∙ ap (slice_index x.haystack) place ∙ value in
            let first : p ≡ edge = omega (arith, place, alone x.meaning h.code i b inside byte low) in
            let begins = item_begins x.meaning x.haystack test p (past_item-has x test p q past) in
            let same = same_Some begins.byte b (sym begins.stands ∙ ap (slice_get x.haystack) first ∙ here) in
            absurd (true≢false (sym begins.passes ∙ ap (first_of_items x.meaning test) same ∙ other)))
        | inr ge ↦ ge
      ]

  byte_stays : (byte p q : ℕ) → (b == byte) ≡ false → p ≤ edge → past_byte x byte p ≡ Some q → q ≤ edge
  byte_stays byte p q other le past =
      elim (cases_lt edge q) [
        | inl lt ↦
            (let first : p ≡ edge = omega (arith, past_byte-ends x byte p q past, le, lt) in
            let same = same_Some byte b (sym (past_byte-here x byte p q past) ∙ ap (slice_get x.haystack) first ∙ here) in
            absurd (true≢false (sym (eq-eqb b byte (sym same)) ∙ other)))
        | inr ge ↦ ge
      ]

  abbrev Stays : State → List Event → Type 0
  Stays s es = EachOutcome (IsBetween s.place edge) es

  read_stays : (test : ℕ → Bool) (s : State) → first_of_items x.meaning test b ≡ false → s.place ≤ edge → Stays s (move limit s (past_item x test s.place))
  read_stays test s other le =
      moved_within (IsBetween s.place edge) limit s _
      (λ q past within. record { from = omega (arith, (item_at x test s.place q past).ends); to = item_stays test s.place q other le past })

  -- each way of a pattern whose items begin with other bytes ends at the edge or before
  pub trace_stays : (p : Pattern) → item_starts x.meaning p b ≡ false → LeadsOn edge (trace x limit p)
  unfolding trace
  trace_stays empty other s le = LeadsOn-stay edge s le
  trace_stays (character c) other s le = read_stays (only c) s other le
  trace_stays (member_of edges) other s le = read_stays (has edges) s other le
  trace_stays (in_any_case edges) other s le = read_stays (has edges) s other le
  trace_stays (raw_byte byte) other s le =
      moved_within (IsBetween s.place edge) limit s _
      (λ q past within. record { from = omega (arith, past_byte-ends x byte s.place q past); to = byte_stays byte s.place q other le past })
  trace_stays (backreference folded number) other s le = absurd (true≢false other)
  trace_stays (assertion a) other s le = LeadsOn-holding edge _ s le
  trace_stays (group_test number) other s le = LeadsOn-holding edge _ s le
  trace_stays keep_start other s le = (record { from = le_refl s.place; to = le }, tt)
  trace_stays continue_here other s le = LeadsOn-holding edge _ s le
  trace_stays (group index body) other s le =
      EachOutcome-bind (IsBetween s.place edge) _ (trace x limit body s) _ (trace_stays body other s le) (λ t b. (record { from = b.from; to = b.to }, tt))
  trace_stays (repeat n high kind body) other s le =
      LeadsOn-by_kind _ kind _ (LeadsOn-repeated (is_greedy kind) limit edge n high (trace x limit body) (trace_stays body other) s le)
  trace_stays (look_ahead negated body) other s le = LeadsOn-looked edge negated false s _ le
  trace_stays (look_behind negated body) other s le = LeadsOn-looked edge negated true s _ le
  trace_stays (atomic body) other s le =
      EachOutcome-guarded (IsBetween s.place edge) (IsBetween s.place edge) any stay [] (trace x limit body s) (trace_stays body other s le) (λ t b. (b, tt)) tt
  trace_stays (conditional condition on_match otherwise) other s le =
      let last = neither (item_starts x.meaning condition b || item_starts x.meaning on_match b) (item_starts x.meaning otherwise b) other in
      let both = neither (item_starts x.meaning condition b) (item_starts x.meaning on_match b) last.0 in
      EachOutcome-if _ (is_empty on_match && is_empty otherwise) _ _
      (EachOutcome-guarded (IsBetween s.place edge) (IsBetween s.place edge) any stay [] (trace x limit condition s) (trace_stays condition both.0 s le) (λ t b. (b, tt)) tt)
      (EachOutcome-guarded (IsBetween s.place edge) (IsBetween s.place edge) any (trace x limit on_match) (return ∷ trace x limit otherwise s) (trace x limit condition s)
      (trace_stays condition both.0 s le)
      (λ t b. EachOutcome_imp _ _ (trace x limit on_match t) (λ u c. record { from = le_trans b.from c.from; to = c.to }) (trace_stays on_match both.1 t b.to))
      (trace_stays otherwise last.1 s le))
  trace_stays (followed part rest) other s le =
      let both = neither (item_starts x.meaning part b) (item_starts x.meaning rest b) other in
      LeadsOn-bind edge (trace x limit part) (trace x limit rest) (trace_stays part both.0) (trace_stays rest both.1) s le
  trace_stays (or_else branch others) other s le =
      let both = neither (item_starts x.meaning branch b) (item_starts x.meaning others b) other in
      EachOutcome-either (IsBetween s.place edge) (trace x limit branch s) (trace x limit others s) (trace_stays branch both.0 s le) (trace_stays others both.1 s le)
  trace_stays (last_branch branch) other s le = trace_stays branch other s le
