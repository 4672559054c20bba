-- Where a pattern has an outcome, what it consumed is as it tells.
use Rattle.std.proofs.Common.{◌≡◌, ℕ, zero, suc, ◌+◌, ◌-◌, ◌<◌, ◌≤◌, Bool, true, false, List, [], ◌∷◌, ◌++◌, length, map, Some, inl, inr, refl, sym, ap, subst, ◌∙◌, arith, le_refl, le_trans, slice_get, slice_index, true≢false, Option, None, nat_le}
use Rattle.std.proofs.lemmas.Bool.{le-leb}
use Rattle.std.proofs.lemmas.Option.{get_or_from_slice_get}
use Rattle.fancy_tree.specs.Pattern.{Pattern, character, member_of, in_any_case}
use Rattle.fancy_tree.specs.Sets.{has}
use Rattle.fancy_bytes.specs.Items.{encoding, first_of_items, only}
use Rattle.fancy_bytes.specs.Openings.{StandsBefore}
use Rattle.fancy_bytes.specs.Rows.{StandsFrom as RowStandsFrom, set_at}
use Rattle.fancy_bytes.specs.Sets.{ByteFlags, member}
use Rattle.fancy_meaning.specs.Context.{Context, State, holds, moved_to, past_item}
use Rattle.fancy_meaning.specs.Events.{Walk, bind, copies, optionals, star}
use Rattle.fancy_meaning.specs.Forward.{EachOutcome, IsBetween, LeadsOn}
use Rattle.fancy_meaning.specs.Stands.{BeginsBy, SeesBefore}
use Rattle.fancy_meaning.specs.Trace.{trace, repeated, is_greedy}
use Rattle.fancy_meaning.proofs.BeginLemmas.{moved_within, trace_begins}
use Rattle.fancy_meaning.proofs.EventLemmas.{EachOutcome-bind, EachOutcome-either, EachOutcome-only_if}
use Rattle.fancy_meaning.proofs.ForwardLemmas.{EachOutcome_imp, LeadsOn-by_kind, LeadsOn-copies, LeadsOn-optionals, LeadsOn-repeated, LeadsOn-trace}
use Rattle.fancy_meaning.proofs.OpenLemmas.{past_byte-ends, stands_from_drop}
use Rattle.fancy_meaning.proofs.SeenLemmas.{only_one, past_byte-here}
use Rattle.fancy_meaning.proofs.WalkLemmas.{EachOutcome_both}
use Rattle.fancy_required.specs.Told.{gap, AreGaps, HasFirst, ReadsItem, Tells, TellsLess, TellsText, any_bytes, no_gap, one_gap, no_byte, one_byte, nothing_told, no_more_told, same_gap, less_of_byte, StandsFrom, of_nothing, of_assertion, of_character, of_byte, of_byte_item, of_item, of_group, of_turns, of_parts, of_either, of_last, of_less, reads_character, reads_member, reads_any_case}
use Rattle.fancy_required.specs.declared.told.Told.{Told}
use Rattle.fancy_required.specs.declared.told.Told.TheVariants.{Gap, One, Among}
use Rattle.fancy_prefilter.specs.Regions.{RowStands}
use Rattle.fancy_code.proofs.ForetoldLemmas.{encoding_some, item_at}

module _ (haystack : List ℕ) where
  -- the bytes from one place to another are as they are told
  abbrev pub ReadsTold : List Told → ℕ → ℕ → Type 0
  ReadsTold [] p q = p ≡ q
  ReadsTold (One b ∷ told) p q = (slice_get haystack p ≡ Some b) × ReadsTold told (p + 1) q
  ReadsTold (Among set ∷ told) p q = (member set (slice_index haystack p) ≡ true) × ReadsTold told (p + 1) q
  ReadsTold (Gap ∷ told) p q = (r : ℕ) × (p ≤ r) × ReadsTold told r q

  told_on : (told : List Told) (p q : ℕ) → ReadsTold told p q → p ≤ q
  told_on [] p q here = omega (arith, here)
  told_on (One b ∷ told) p q here = omega (arith, told_on told (p + 1) q here.1)
  told_on (Among set ∷ told) p q here = omega (arith, told_on told (p + 1) q here.1)
  told_on (Gap ∷ told) p q here = le_trans here.1 (told_on told here.0 q here.2)

  told_append : (told more : List Told) (p q r : ℕ) → ReadsTold told p q → ReadsTold more q r → ReadsTold (told ++ more) p r
  told_append [] more p q r here later = subst (λ (k : ℕ). ReadsTold more k r) (sym here) later
  told_append (One b ∷ told) more p q r here later = (here.0, told_append told more (p + 1) q r here.1 later)
  told_append (Among set ∷ told) more p q r here later = (here.0, told_append told more (p + 1) q r here.1 later)
  told_append (Gap ∷ told) more p q r here later = (here.0, here.1, told_append told more here.0 q r here.2 later)

  -- what is told after something is read from some place on
  told_after : (before more : List Told) (p q : ℕ) → ReadsTold (before ++ more) p q → (r : ℕ) × (p ≤ r) × ReadsTold more r q
  told_after [] more p q here = (p, le_refl p, here)
  told_after (One b ∷ before) more p q here = let later = told_after before more (p + 1) q here.1 in (later.0, omega (arith, later.1), later.2)
  told_after (Among set ∷ before) more p q here = let later = told_after before more (p + 1) q here.1 in (later.0, omega (arith, later.1), later.2)
  told_after (Gap ∷ before) more p q here = let later = told_after before more here.0 q here.2 in (later.0, le_trans here.1 later.1, later.2)

  only_gaps : {gaps : List Told} (p q : ℕ) → AreGaps gaps → p ≤ q → ReadsTold (Gap ∷ gaps) p q
  only_gaps p q no_gap le = (q, le, refl)
  only_gaps p q (one_gap g) le = (p, le_refl p, only_gaps p q g le)

  byte_read : (set : ByteFlags) (p b : ℕ) → slice_get haystack p ≡ Some b → member set b ≡ true → member set (slice_index haystack p) ≡ true
  byte_read set p b stands is = ap (member set) (get_or_from_slice_get haystack p b 0 stands) ∙ is

  less_read : {less told : List Told} (bytes : (k : ℕ) → slice_index haystack k < 256) (p q : ℕ) → TellsLess less told → ReadsTold told p q → ReadsTold less p q
  less_read {told = told} bytes p q (nothing_told g) here = only_gaps p q g (told_on told p q here)
  less_read bytes p q no_more_told here = here
  less_read bytes p q (same_gap h) here = (here.0, here.1, less_read bytes here.0 q h here.2)
  less_read bytes p q (less_of_byte {one = Gap} f h) here = absurd f
  less_read bytes p q (less_of_byte {one = One b} {told = told} f h) here =
      let same = subst (λ (t : Told). ReadsTold (t ∷ told) p q) f here in (same.0, less_read bytes (p + 1) q h same.1)
  less_read bytes p q (less_of_byte {one = Among set} {another = Gap} f h) here = absurd f
  less_read bytes p q (less_of_byte {one = Among set} {another = One b} f h) here =
      (byte_read set p b here.0 (f (subst (λ (c : ℕ). c < 256) (get_or_from_slice_get haystack p b 0 here.0) (bytes p))), less_read bytes (p + 1) q h here.1)
  less_read bytes p q (less_of_byte {one = Among set} {another = Among told} f h) here = (f (slice_index haystack p) (bytes p) here.0, less_read bytes (p + 1) q h here.1)

  text_read : {text : List ℕ} {told : List Told} (end p q : ℕ) → TellsText text told → StandsBefore haystack end text p → q ≡ p + length text → ReadsTold told p q
  text_read end p q no_byte s e = omega (arith, e)
  text_read end p q (one_byte h) s e = (s.1, text_read end (p + 1) q h s.2 (omega (arith, e)))

  -- a text that is read stands
  text_stood : (text : List ℕ) (after : List Told) (r q end : ℕ) → q ≤ end → ReadsTold (map One text ++ after) r q → StandsBefore haystack end text r
  text_stood [] after r q end to here = tt
  text_stood (b ∷ text) after r q end to here = (omega (arith, to, told_on (map One text ++ after) (r + 1) q here.1), here.0, text_stood text after (r + 1) q end to here.1)

  pub text_stands : (before after : List Told) (text : List ℕ) (p q end : ℕ) → q ≤ end → ReadsTold (before ++ (map One text ++ after)) p q → StandsFrom haystack p end text
  text_stands before after text p q end to here =
      let later = told_after before (map One text ++ after) p q here in record { place = later.0; low = later.1; stands = text_stood text after later.0 q end to later.2 }

  -- a row that is read stands
  row_read : (row : List ByteFlags) (after : List Told) (r q end : ℕ) → q ≤ end → ReadsTold (map Among row ++ after) r q → RowStandsFrom row haystack end 0 r
  row_read [] after r q end to here j le lt = absurd (omega (arith, lt))
  row_read (set ∷ row) after r q end to here zero le lt =
      subst (λ (k : ℕ). (k < end) × (member set (slice_index haystack k) ≡ true)) (omega arith) (omega (arith, to, told_on (map Among row ++ after) (r + 1) q here.1), here.0)
  row_read (set ∷ row) after r q end to here (suc j) le lt =
      subst (λ (k : ℕ). (k < end) × (member (set_at row j) (slice_index haystack k) ≡ true)) (omega arith) (row_read row after (r + 1) q end to here.1 j (omega arith) (omega (arith, lt)))

  pub row_stands : (before after : List Told) (row : List ByteFlags) (p q end : ℕ) → 0 < length row → q ≤ end → ReadsTold (before ++ (map Among row ++ after)) p q → RowStands haystack p end row
  row_stands before after row p q end some to here =
      let later = told_after before (map Among row ++ after) p q here in
      let stands = row_read row after later.0 q end to later.2 in
      record { place = later.0; low = later.1; high = omega (arith, (stands 0 (omega arith) some).0); stands = stands }

module _ (x : Context) (limit : ℕ) (bytes : (k : ℕ) → slice_index x.haystack k < 256) where
  abbrev pub AreAsTold : List Told → State → State → Type 0
  AreAsTold told s t = ReadsTold x.haystack told s.place t.place

  -- where one walk goes on after another
  past_turn : (R : State → Type 0) (body rest : Walk) (s : State) → s.place ≤ limit → EachOutcome R (body s) → LeadsOn limit body → LeadsOn limit rest
      → EachOutcome (λ t. (u : State) × R u × (u.place ≤ t.place)) (bind (body s) rest)
  past_turn R body rest s to here on later =
      EachOutcome-bind (λ u. R u × IsBetween s.place limit u) (λ t. (u : State) × R u × (u.place ≤ t.place)) (body s) rest
      (EachOutcome_both R (IsBetween s.place limit) (body s) here (on s to))
      (λ u h. EachOutcome_imp (IsBetween u.place limit) (λ t. (v : State) × R v × (v.place ≤ t.place)) (rest u) (λ t b. (u, h.0, b.from)) (later u h.1.to))

  -- past the first turn of a repeat
  after_turn : (R : State → Type 0) (greedy : Bool) (low : ℕ) (high : Option ℕ) (body : Walk) (s : State) → nat_le 1 low ≡ true → s.place ≤ limit → EachOutcome R (body s) → LeadsOn limit body
      → EachOutcome (λ t. (u : State) × R u × (u.place ≤ t.place)) (repeated greedy limit low high body s)
  after_turn R greedy zero high body s e to here on = absurd (true≢false (sym e))
  after_turn R greedy (suc n) None body s e to here on =
      past_turn R body (copies n body (star greedy limit body)) s to here on (LeadsOn-repeated greedy limit limit n None body on)
  after_turn R greedy (suc n) (Some high) body s e to here on =
      past_turn R body (copies n body (optionals greedy (high - suc n) body)) s to here on
      (LeadsOn-copies limit n body (optionals greedy (high - suc n) body) on (LeadsOn-optionals greedy limit (high - suc n) body on))

  -- an item that is read
  item_moves : {p : Pattern} {test : ℕ → Bool} (P : State → Type 0) (s : State) → ReadsItem p test → ((q : ℕ) → past_item x test s.place ≡ Some q → q ≤ limit → P (moved_to s q)) → EachOutcome P (trace x limit p s)
  unfolding trace
  item_moves P s (reads_character c) to = moved_within P limit s _ to
  item_moves P s (reads_member edges) to = moved_within P limit s _ to
  item_moves P s (reads_any_case edges) to = moved_within P limit s _ to

  seen_first : (kind : ℕ → Bool) (s t : State) → BeginsBy (false ≡ true) (SeesBefore x.haystack limit kind) s t → SeesBefore x.haystack limit kind s.place
  seen_first kind s t (inl h) = absurd (true≢false (sym h.0))
  seen_first kind s t (inr h) = h

  item_begins : {p : Pattern} {test : ℕ → Bool} (s : State) → ReadsItem p test → EachOutcome (λ t. SeesBefore x.haystack limit (first_of_items x.meaning test) s.place) (trace x limit p s)
  item_begins s (reads_character c) =
      let kind = first_of_items x.meaning (only c) in
      EachOutcome_imp (BeginsBy (false ≡ true) (SeesBefore x.haystack limit kind) s) (λ t. SeesBefore x.haystack limit kind s.place) (trace x limit (character c) s) (seen_first kind s)
      (trace_begins x limit (character c) s)
  item_begins s (reads_member edges) =
      let kind = first_of_items x.meaning (has edges) in
      EachOutcome_imp (BeginsBy (false ≡ true) (SeesBefore x.haystack limit kind) s) (λ t. SeesBefore x.haystack limit kind s.place) (trace x limit (member_of edges) s) (seen_first kind s)
      (trace_begins x limit (member_of edges) s)
  item_begins s (reads_any_case edges) =
      let kind = first_of_items x.meaning (has edges) in
      EachOutcome_imp (BeginsBy (false ≡ true) (SeesBefore x.haystack limit kind) s) (λ t. SeesBefore x.haystack limit kind s.place) (trace x limit (in_any_case edges) s) (seen_first kind s)
      (trace_begins x limit (in_any_case edges) s)

  first_read : (test : ℕ → Bool) (set : ByteFlags) (p : ℕ) → HasFirst x.meaning test set → SeesBefore x.haystack limit (first_of_items x.meaning test) p → member set (slice_index x.haystack p) ≡ true
  first_read test set p first sees =
      first (slice_index x.haystack p) (bytes p) (ap (first_of_items x.meaning test) (get_or_from_slice_get x.haystack p sees.1.byte 0 sees.1.stands) ∙ sees.1.passes)

  pub trace_tells : {p : Pattern} {told : List Told} → Tells x.meaning p told → (s : State) → s.place ≤ limit → EachOutcome (AreAsTold told s) (trace x limit p s)
  unfolding trace
  trace_tells (any_bytes p) s to = EachOutcome_imp (IsBetween s.place limit) (AreAsTold gap s) (trace x limit p s) (λ t b. (t.place, b.from, refl)) (LeadsOn-trace x limit p s to)
  trace_tells of_nothing s to = (refl, tt)
  trace_tells (of_assertion a) s to = EachOutcome-only_if (AreAsTold [] s) (holds x a s.place) _ (λ h. (refl, tt))
  trace_tells (of_character c {told = told} t) s to =
      moved_within (AreAsTold told s) limit s _
      (λ q past within.
      let i = item_at x (only c) s.place q past in
      let same = ap (encoding x.meaning) (only_one c i.code i.passes) in
      let ends : q ≡ s.place + length (encoding x.meaning c) = i.ends ∙ ap (λ (bs : List ℕ). s.place + length bs) same in
      text_read x.haystack limit s.place q t
      (stands_from_drop x.haystack limit (encoding x.meaning c) i.rest s.place (i.bytes ∙ ap (λ (bs : List ℕ). bs ++ i.rest) same) (omega (arith, ends, within)))
      ends)
  trace_tells (of_byte byte {told = told} t) s to =
      moved_within (AreAsTold told s) limit s _
      (λ q past within.
      let ends = past_byte-ends x byte s.place q past in
      text_read x.haystack limit s.place q t (omega (arith, ends, within), past_byte-here x byte s.place q past, tt) (omega (arith, ends)))
  trace_tells (of_byte_item {p = p} {test = test} {set = set} reads first one) s to =
      EachOutcome_imp (λ t. SeesBefore x.haystack limit (first_of_items x.meaning test) s.place × (t.place ≡ s.place + 1)) (AreAsTold (Among set ∷ []) s) (trace x limit p s)
      (λ t both. (first_read test set s.place first both.0, sym both.1))
      (EachOutcome_both (λ t. SeesBefore x.haystack limit (first_of_items x.meaning test) s.place) (λ t. t.place ≡ s.place + 1) (trace x limit p s) (item_begins s reads)
      (item_moves (λ t. t.place ≡ s.place + 1) s reads (λ q past within.
      let i = item_at x test s.place q past in i.ends ∙ ap (λ (n : ℕ). s.place + n) (one i.code i.passes i.item))))
  trace_tells (of_item {p = p} {test = test} {set = set} reads first) s to =
      EachOutcome_imp (λ t. SeesBefore x.haystack limit (first_of_items x.meaning test) s.place × (s.place + 1 ≤ t.place)) (AreAsTold (Among set ∷ gap) s) (trace x limit p s)
      (λ t both. (first_read test set s.place first both.0, (t.place, both.1, refl)))
      (EachOutcome_both (λ t. SeesBefore x.haystack limit (first_of_items x.meaning test) s.place) (λ t. s.place + 1 ≤ t.place) (trace x limit p s) (item_begins s reads)
      (item_moves (λ t. s.place + 1 ≤ t.place) s reads (λ q past within.
      let i = item_at x test s.place q past in omega (arith, i.ends, encoding_some x.meaning i.code))))
  trace_tells (of_group index {body = body} {told = told} h) s to =
      EachOutcome-bind (AreAsTold told s) (AreAsTold told s) (trace x limit body s) _ (trace_tells h s to) (λ t here. (here, tt))
  trace_tells (of_turns {low = low} high kind {body = body} {told = told} some h) s to =
      LeadsOn-by_kind (AreAsTold (told ++ gap) s) kind _
      (EachOutcome_imp (λ t. (u : State) × AreAsTold told s u × (u.place ≤ t.place)) (AreAsTold (told ++ gap) s) (repeated (is_greedy kind) limit low high (trace x limit body) s)
      (λ t later. told_append x.haystack told gap s.place later.0.place t.place later.1 (t.place, later.2, refl))
      (after_turn (AreAsTold told s) (is_greedy kind) low high (trace x limit body) s (le-leb 1 low some) to (trace_tells h s to) (LeadsOn-trace x limit body)))
  trace_tells (of_parts {part = part} {rest = rest} {told = told} {more = more} h k) s to =
      EachOutcome-bind (λ t. AreAsTold told s t × IsBetween s.place limit t) (AreAsTold (told ++ more) s) (trace x limit part s) (trace x limit rest)
      (EachOutcome_both _ _ (trace x limit part s) (trace_tells h s to) (LeadsOn-trace x limit part s to))
      (λ t here.
      EachOutcome_imp (AreAsTold more t) (AreAsTold (told ++ more) s) (trace x limit rest t)
      (λ u later. told_append x.haystack told more s.place t.place u.place here.0 later)
      (trace_tells k t here.1.to))
  trace_tells (of_either {branch = branch} {others = others} h k) s to = EachOutcome-either _ (trace x limit branch s) (trace x limit others s) (trace_tells h s to) (trace_tells k s to)
  trace_tells (of_last h) s to = trace_tells h s to
  trace_tells (of_less {p = p} {less = less} {told = told} low h) s to =
      EachOutcome_imp (AreAsTold told s) (AreAsTold less s) (trace x limit p s) (λ t here. less_read x.haystack bytes s.place t.place low here) (trace_tells h s to)
