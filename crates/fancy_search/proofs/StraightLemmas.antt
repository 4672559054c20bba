-- Straight code: the outcome of an attempt is past its items.
use Rattle.std.proofs.Common.{cond, ◌&&◌, ◌≡◌, ℕ, zero, suc, ◌+◌, ◌-◌, ◌*◌, ◌<◌, ◌≤◌, ◌==◌, Bool, true, false, List, [], ◌∷◌, ◌++◌, length, Option, Some, None, Ok, IsUtf8, is_some, if◌then◌else◌, inl, inr, nat_le, refl, sym, ap, subst, ◌∙◌, arith, slice_get, slice_index, replicate, true≢false, get_or-drop}
use Rattle.std.specs.Char.{len_utf8, encode_utf8}
use Rattle.std.proofs.Math.Logic.{∥∥₁_elim}
use Rattle.std.proofs.Math.Nat.{mul-le-mul_right}
use Rattle.std.proofs.Props.{props}
use Rattle.std.specs.List.{filter}
use Rattle.std.specs.Option.{option_or}
use Rattle.std.specs.Prelude.{IfSome, option_map}
use Rattle.std.proofs.lemmas.Bool.{cases_lt}
use Rattle.std.proofs.lemmas.Bool.Decides.{nat_tests}
use Rattle.std.proofs.lemmas.List.{length-replicate}
use Rattle.std.proofs.lemmas.Option.{get_or_from_slice_get, same_Some}
use Rattle.fancy_tree.specs.Sets.{has}
use Rattle.fancy_meaning.specs.Reading.{suppressed_ends}
use Rattle.fancy_meaning.specs.declared.reading.SuppressedEnds.{SuppressedEnds}
use Rattle.fancy_tree.specs.declared.tree.Assertion.{Assertion}
use Rattle.fancy_tree.specs.declared.tree.Assertion.TheVariants.{TextStart, TextEnd, LineStart, LineEnd, LineStartCrlf, LineEndCrlf, LastLine, LastLineCrlf, WordBoundary, NotWordBoundary, WordStart, WordEnd, WordStartHalf, WordEndHalf}
use Rattle.fancy_tree.specs.declared.tree.Meaning.{Meaning}
use Rattle.fancy_tree.specs.declared.tree.Meaning.TheVariants.{Unicode, Bytes, AsciiText}
use Rattle.fancy_input.specs.Places.{char_at, is_boundary, is_continuation}
use Rattle.fancy_input.proofs.CharacterLemmas.{char_at-bytes, char_at-fits}
use Rattle.fancy_input.proofs.PlaceLemmas.{is_boundary_from_byte}
use Rattle.fancy_input.proofs.TextLemmas.{char_at-boundary}
use Rattle.fancy_meaning.specs.Placed.{reads_characters}
use Rattle.fancy_meaning.proofs.SearchLemmas.{if_false}
use Rattle.fancy_meaning.specs.Context.{Context, State, holds, moved_to, one_character, unit_at, unit_in, past_item, past_byte, option_to}
use Rattle.fancy_meaning.specs.Events.{Event, stay, move, outcomes_in}
use Rattle.fancy_meaning.specs.Trace.{outcomes}
use Rattle.fancy_code.specs.Instructions.{Instruction, Match, Fail, Character, Member, RawByte, Assert, Split, Open, Close, Enter, Commit, Look, Deny, Test, Back, Recall, Keep, Continue, Taken}
use Rattle.fancy_code.specs.Run.{Raw, Note, Stop, choice_opened, returned, fetched, Go, before, join, onward, instr_at, act, run, erase}
use Rattle.fancy_code.specs.declared.code.Code.{Code}
use Rattle.fancy_code.specs.Code.{instrs_of}
use Rattle.fancy_code.specs.CodeLength.{code_len}
use Rattle.fancy_code.specs.Compile.{IsCodeOf, depth}
use Rattle.fancy_code.proofs.InstructionLemmas.{length-instrs_of}
use Rattle.fancy_code.proofs.WholeCode.{program_gives}
use Rattle.fancy_code.proofs.PassedLemmas.{openings_passed}
use Rattle.fancy_code.specs.Queries.{answer_with}
use Rattle.fancy_code.specs.declared.found.Found.{Found}
use Rattle.fancy_input.proofs.WorkLemmas.{one_step, runs_all}
use Rattle.fancy_input.specs.Work.{stepped_within}
use Rattle.fancy_input.specs.declared.input.Request.{Request}
use Rattle.fancy_input.specs.declared.span.Span.{Span}
use Rattle.fancy_input.specs.declared.work.Work.{Work}
use Rattle.fancy_meaning.proofs.Past.{byte_beyond, item_beyond}
use Rattle.fancy_meaning.proofs.AttemptLemmas.{found_here, found_later}
use Rattle.fancy_states.specs.Counts.{AddsSteps}
use Rattle.fancy_states.specs.Search.{KeepsPlaces, by_bytes, by_characters}
use Rattle.fancy_search.specs.Options.{search_options}
use Rattle.fancy_search.specs.SearchCounts.{AllowsAllSteps, HasRoomFor, step_bound}
use Rattle.fancy_search.specs.Served.{KeepsCounts}
use Rattle.fancy_meaning.specs.Search.{Query, Answer, accepted, answer_at, answer_from, attempt, context_of, first_one, initial, is_match_boundary}
use Rattle.fancy_prefilter.specs.NextOpening.{StartsNot}
use Rattle.fancy_search.specs.OneItem.{IsOneItem, answer_past, answer_to}
use Rattle.fancy_search.specs.Straight.{IsRead, after_part, item_to, past_all, past_end, past_items, past_part, past_turns, loop_of, straight_end}
use Rattle.fancy_search.specs.declared.straight.StraightEnd.{StraightEnd}
use Rattle.fancy_search.specs.declared.straight.StraightEnd.TheVariants.{AtMatch, Loop}
use Rattle.fancy_search.specs.declared.program.Program.{Program}
use Rattle.fancy_search.specs.Programs.{asked_of, program_is_easy, program_options, program_step_limit}
use Rattle.fancy_search.proofs.ProgramSizeLemmas.{parts_of_easy}
use Rattle.fancy_search.proofs.SearchedLemmas.{known}

-- what is read does not hang on the rest of the context
pub same_item : (x y : Context) (test : ℕ → Bool) (p : ℕ) → x.meaning ≡ y.meaning → x.haystack ≡ y.haystack → past_item x test p ≡ past_item y test p
unfolding past_item unit_at
same_item x y test p meaning haystack = rw (meaning, haystack) refl

pub same_byte : (x y : Context) (byte p : ℕ) → x.haystack ≡ y.haystack → past_byte x byte p ≡ past_byte y byte p
unfolding past_byte
same_byte x y byte p haystack = rw haystack refl

pub same_test : (x y : Context) (a : Assertion) (p : ℕ) → x.meaning ≡ y.meaning → x.haystack ≡ y.haystack → x.start_text_off ≡ y.start_text_off → x.end_text_off ≡ y.end_text_off → holds x a p ≡ holds y a p
unfolding holds
same_test x y TextStart p meaning haystack start end = rw start refl
same_test x y TextEnd p meaning haystack start end = rw (haystack, end) refl
same_test x y LineStart p meaning haystack start end = rw haystack refl
same_test x y LineEnd p meaning haystack start end = rw haystack refl
same_test x y LineStartCrlf p meaning haystack start end = rw haystack refl
same_test x y LineEndCrlf p meaning haystack start end = rw haystack refl
same_test x y LastLine p meaning haystack start end = rw haystack refl
same_test x y LastLineCrlf p meaning haystack start end = rw haystack refl
same_test x y WordBoundary p meaning haystack start end = rw (meaning, haystack) refl
same_test x y NotWordBoundary p meaning haystack start end = rw (meaning, haystack) refl
same_test x y WordStart p meaning haystack start end = rw (meaning, haystack) refl
same_test x y WordEnd p meaning haystack start end = rw (meaning, haystack) refl
same_test x y WordStartHalf p meaning haystack start end = rw (meaning, haystack) refl
same_test x y WordEndHalf p meaning haystack start end = rw (meaning, haystack) refl

-- an item leads beyond its place
pub some_beyond : (x : Context) (test : ℕ → Bool) (p : ℕ) (o : Option ℕ) → o ≡ past_item x test p → IfSome o (λ past. p < past)
some_beyond x test p None e = tt
some_beyond x test p (Some k) e = item_beyond x test p k (sym e)

-- a part ends at its place or later
test_later : (p e : ℕ) (b : Bool) → (if b then Some p else None) ≡ Some e → p ≤ e
test_later p e true h = let same : p ≡ e = same_Some p e h in omega (arith, same)
test_later p e false h = cc

read_later : (x : Context) (i : Instruction) (p e : ℕ) → past_part x i p ≡ Some e → p ≤ e
read_later x Match p e h = cc
read_later x Fail p e h = cc
read_later x (Character c next) p e h = omega (arith, item_beyond x (λ d. d == c) p e h)
read_later x (Member edges next) p e h = omega (arith, item_beyond x (has edges) p e h)
read_later x (RawByte byte next) p e h = omega (arith, byte_beyond x byte p e h)
read_later x (Assert a next) p e h = test_later p e (holds x a p) h
read_later x (Split a b) p e h = cc
read_later x (Open group next) p e h = cc
read_later x (Close group next) p e h = cc
read_later x (Enter body) p e h = cc
read_later x (Commit next) p e h = cc
read_later x (Look behind body next) p e h = cc
read_later x (Deny behind body next) p e h = cc
read_later x (Test body other) p e h = cc
read_later x (Back n next) p e h = cc
read_later x (Recall folded number moved still) p e h = cc
read_later x (Keep next) p e h = cc
read_later x (Continue next) p e h = cc
read_later x (Taken number next) p e h = cc

-- and so do all
pub all_later : (x : Context) (code : List Instruction) (n q p e : ℕ) → past_all x q n code p ≡ Some e → p ≤ e
all_later x code n zero p e h = let same : p ≡ e = same_Some p e h in omega (arith, same)
all_later x code zero (suc q) p e h = cc
all_later x code (suc n) (suc q) p e h =
    by (after_part (instr_at code (suc q))) (past_part x (instr_at code (suc q)) p) (read_later x (instr_at code (suc q)) p) (λ next m. all_later x code n next m e) h where
      by : (a o : Option ℕ) → ((m : ℕ) → o ≡ Some m → p ≤ m) → ((next m : ℕ) → past_all x next n code m ≡ Some e → m ≤ e)
          → option_to a (Some p) (λ next. option_to o None (past_all x next n code)) ≡ Some e → p ≤ e
      by None o later on h = let same : p ≡ e = same_Some p e h in omega (arith, same)
      by (Some next) None later on h = cc
      by (Some next) (Some m) later on h = let rest = on next m h in let first = later m refl in omega (arith, rest, first)

-- What a part of straight code leads to, where u follows it, which goes on at o: on to the next instruction from that place, if it is by the limit.
data Led (x : Context) (limit : ℕ) (code : List Instruction) (s : State) (v : List ℕ) (m next : ℕ) (o : Option ℕ) (u : List Raw) : Type 0 where
  stops : [] ≡ u → ((k : ℕ) → o ≡ Some k → limit < k) → Led x limit code s v m next o u
  goes : (k : ℕ) → o ≡ Some k → k ≤ limit → run x limit code m next (moved_to s k) v ≡ Some u → Led x limit code s v m next o u

-- the test of the item that an instruction reads before it goes on at `at`, which is all that it does
record Item (x : Context) (limit : ℕ) (i : Instruction) (at : ℕ) : Type 0 where
  test : ℕ → Bool
  turns : (p : ℕ) → past_turns x limit i p ≡ past_items x test limit (limit - p) p
  acts : (q : ℕ) (go far : Go) (t : State) (v : List ℕ) → act x limit q i go far t v ≡ onward limit go at t v (past_item x test t.place)

le_true : (m n : ℕ) → m ≤ n → nat_le m n ≡ true
le_true m n le = grind (arith, nat_tests, le)

le_false : (m n : ℕ) → n < m → nat_le m n ≡ false
le_false m n far = grind (arith, nat_tests, far)

some_of : (p e : ℕ) → Some p ≡ Some e → p ≡ e
some_of p e h = same_Some p e h

to_of : (q next : ℕ) → (q == next) ≡ true → q ≡ next
to_of q next e = grind (arith, nat_tests)

item_of : (x : Context) (limit : ℕ) (i : Instruction) (at : ℕ) → item_to i at ≡ true → Item x limit i at
item_of x limit Match at e = absurd (cc)
item_of x limit Fail at e = absurd (cc)
item_of x limit (Character c next) at e = subst (Item x limit (Character c next)) (to_of next at e) record { test = λ d. d == c; turns = λ p. refl; acts = λ q go far t v. refl }
item_of x limit (Member edges next) at e = subst (Item x limit (Member edges next)) (to_of next at e) record { test = has edges; turns = λ p. refl; acts = λ q go far t v. refl }
item_of x limit (RawByte byte next) at e = absurd (cc)
item_of x limit (Assert a next) at e = absurd (cc)
item_of x limit (Split a b) at e = absurd (cc)
item_of x limit (Open group next) at e = absurd (cc)
item_of x limit (Close group next) at e = absurd (cc)
item_of x limit (Enter body) at e = absurd (cc)
item_of x limit (Commit next) at e = absurd (cc)
item_of x limit (Look behind body next) at e = absurd (cc)
item_of x limit (Deny behind body next) at e = absurd (cc)
item_of x limit (Test body other) at e = absurd (cc)
item_of x limit (Back n next) at e = absurd (cc)
item_of x limit (Recall folded number moved still) at e = absurd (cc)
item_of x limit (Keep next) at e = absurd (cc)
item_of x limit (Continue next) at e = absurd (cc)
item_of x limit (Taken number next) at e = absurd (cc)

-- a choice that goes round an item
abbrev IsLoop : List Instruction → ℕ → Instruction → ℕ → Type 0
IsLoop code at i item = (i ≡ Split item 0) × (item_to (instr_at code item) at ≡ true)

loop_by : (code : List Instruction) (at item first second : ℕ) (b c : Bool) → (second == 0) ≡ b → item_to (instr_at code first) at ≡ c
    → (if b && c then Some first else None) ≡ Some item → IsLoop code at (Split first second) item
loop_by code at item first second true true last to e =
    let same : first ≡ item = some_of first item e in
    subst (IsLoop code at (Split first second)) same (ap (Split first) (to_of second 0 last), to)
loop_by code at item first second true false last to e = absurd (cc)
loop_by code at item first second false c last to e = absurd (cc)

is_loop : (code : List Instruction) (at item : ℕ) (i : Instruction) → loop_of code at i ≡ Some item → IsLoop code at i item
is_loop code at item Match e = absurd (cc)
is_loop code at item Fail e = absurd (cc)
is_loop code at item (Character c next) e = absurd (cc)
is_loop code at item (Member edges next) e = absurd (cc)
is_loop code at item (RawByte byte next) e = absurd (cc)
is_loop code at item (Assert a next) e = absurd (cc)
is_loop code at item (Split first second) e = loop_by code at item first second _ _ refl refl e
is_loop code at item (Open group next) e = absurd (cc)
is_loop code at item (Close group next) e = absurd (cc)
is_loop code at item (Enter body) e = absurd (cc)
is_loop code at item (Commit next) e = absurd (cc)
is_loop code at item (Look behind body next) e = absurd (cc)
is_loop code at item (Deny behind body next) e = absurd (cc)
is_loop code at item (Test body other) e = absurd (cc)
is_loop code at item (Back n next) e = absurd (cc)
is_loop code at item (Recall folded number moved still) e = absurd (cc)
is_loop code at item (Keep next) e = absurd (cc)
is_loop code at item (Continue next) e = absurd (cc)
is_loop code at item (Taken number next) e = absurd (cc)

-- what is taken past the parts of straight code
abbrev wanted_of : Context → ℕ → List Instruction → State → (State → Bool) → StraightEnd → Option ℕ → Option State
wanted_of x limit code s accept end None = None
wanted_of x limit code s accept end (Some p) = if nat_le p limit && accept (moved_to s p) then Some (moved_to s (past_end x code limit end p)) else None

-- items that are read, one after another
pub items_none : (x : Context) (test : ℕ → Bool) (limit n p : ℕ) → past_item x test p ≡ None → past_items x test limit n p ≡ p
items_none x test limit zero p e = refl
items_none x test limit (suc n) p e = rw e refl

pub items_far : (x : Context) (test : ℕ → Bool) (limit n p k : ℕ) → past_item x test p ≡ Some k → limit < k → past_items x test limit n p ≡ p
items_far x test limit zero p k e far = refl
items_far x test limit (suc n) p k e far = rw (e, le_false k limit far) refl

pub items_on : (x : Context) (test : ℕ → Bool) (limit n p k : ℕ) → past_item x test p ≡ Some k → k ≤ limit → past_items x test limit (suc n) p ≡ past_items x test limit n k
items_on x test limit n p k e le = rw (e, le_true k limit le) refl

-- none fits where the places end
pub items_over : (x : Context) (test : ℕ → Bool) (limit n p : ℕ) → limit ≤ p → past_items x test limit n p ≡ p
items_over x test limit n p over = at (past_item x test p) refl where
  at : (o : Option ℕ) → past_item x test p ≡ o → past_items x test limit n p ≡ p
  at None e = items_none x test limit n p e
  at (Some k) e = items_far x test limit n p k e (omega (arith, over, item_beyond x test p k e))

-- no more of them fit than there are places
abbrev Enough : (x : Context) (test : ℕ → Bool) (limit n m p : ℕ) → Type 0
Enough x test limit n m p = past_items x test limit n p ≡ past_items x test limit m p

enough_by : (x : Context) (test : ℕ → Bool) (limit n m p : ℕ) (o : Option ℕ) → past_item x test p ≡ o → ((k : ℕ) → o ≡ Some k → k ≤ limit → Enough x test limit n m k)
    → Enough x test limit (suc n) (suc m) p
enough_by x test limit n m p None e on = items_none x test limit (suc n) p e ∙ sym (items_none x test limit (suc m) p e)
enough_by x test limit n m p (Some k) e on = elim (cases_lt limit k) [
  | inl far ↦ items_far x test limit (suc n) p k e far ∙ sym (items_far x test limit (suc m) p k e far)
  | inr le ↦ items_on x test limit n p k e le ∙ on k refl le ∙ sym (items_on x test limit m p k e le)
]

pub items_enough : (x : Context) (test : ℕ → Bool) (limit n m p : ℕ) → limit ≤ p + n → limit ≤ p + m → Enough x test limit n m p
items_enough x test limit zero zero p a b = refl
items_enough x test limit zero (suc m) p a b = sym (items_over x test limit (suc m) p (omega (arith, a)))
items_enough x test limit (suc n) zero p a b = items_over x test limit (suc n) p (omega (arith, b))
items_enough x test limit (suc n) (suc m) p a b =
    enough_by x test limit n m p (past_item x test p) refl
    (λ k is le. items_enough x test limit n m k (omega (arith, item_beyond x test p k is, a)) (omega (arith, item_beyond x test p k is, b)))

-- past one more of them
pub items_turn : (x : Context) (test : ℕ → Bool) (limit p k : ℕ) → past_item x test p ≡ Some k → k ≤ limit → past_items x test limit (limit - p) p ≡ past_items x test limit (limit - k) k
items_turn x test limit p k e le =
    let more = item_beyond x test p k e in
    let left : limit - p ≡ suc (limit - p - 1) = omega (arith, more, le) in
    ap (λ (n : ℕ). past_items x test limit n p) left ∙ items_on x test limit (limit - p - 1) p k e le
    ∙ items_enough x test limit (limit - p - 1) (limit - k) k (omega (arith, more, le)) (omega arith)

-- two steps are counted for one more of them
pub items_counted : (start past next : ℕ) (before between mid after : Work) → start ≤ past → past < next → AddsSteps (2 * (past - start)) before between
    → mid ≡ stepped_within between → after ≡ stepped_within mid → AddsSteps (2 * (next - start)) before after
items_counted start past next before between mid after from more adds first second =
    let one = one_step between mid first in
    let two = one_step mid after second in
    record {
      steps = omega (arith, adds.steps, one.more, two.more);
      bounded = omega (arith, adds.bounded, one.one, two.one, from, more);
      returns = two.returns ∙ one.returns ∙ adds.returns;
      units = two.units ∙ one.units ∙ adds.units;
    }

module _ (x : Context) (limit : ℕ) (code : List Instruction) (matching : instr_at code 0 ≡ Match) (s : State) (v : List ℕ) where
  -- what follows after a fetch
  after_fetch : (P : List Raw → Type 0) (o : Option (List Raw)) (w : List Raw) → ((u : List Raw) → o ≡ Some u → P (Note fetched ∷ u)) → before (Note fetched) o ≡ Some w → P w
  after_fetch P None w all e = absurd (cc)
  after_fetch P (Some u) w all e = subst P (same_Some (Note fetched ∷ u) w e) (all u refl)

  at_match : (m p : ℕ) (w : List Raw) → run x limit code m 0 (moved_to s p) v ≡ Some w → erase w ≡ stay (moved_to s p)
  at_match zero p w e = absurd (cc)
  at_match (suc m) p w e = after_fetch (λ w. erase w ≡ stay (moved_to s p)) _ w (at (instr_at code 0) matching) e where
    at : (i : Instruction) → i ≡ Match → (u : List Raw) → act x limit 0 i (run x limit code m) (run x (length x.haystack) code m) (moved_to s p) v ≡ Some u → erase u ≡ stay (moved_to s p)
    at i is u e =
        let here : Some (Stop 0 (moved_to s p) v ∷ []) ≡ Some u = rw is at e in
        subst (λ (z : List Raw). erase z ≡ stay (moved_to s p)) (same_Some (Stop 0 (moved_to s p) v ∷ []) u here) refl

  led_item : (m next p : ℕ) (o : Option ℕ) (u : List Raw) → onward limit (run x limit code m) next (moved_to s p) v o ≡ Some u → Led x limit code s v m next o u
  led_item m next p None u e = stops (same_Some [] u e) (λ k h. absurd (cc))
  led_item m next p (Some j) u e = by (nat_le j limit) refl e where
    by : (b : Bool) → nat_le j limit ≡ b → (if b then (run x limit code m next (moved_to s j) v) else (Some [])) ≡ Some u → Led x limit code s v m next (Some j) u
    by true within e = goes j refl (grind (arith, nat_tests, within)) e
    by false far e = stops (same_Some [] u e) (λ k h. let same : j ≡ k = some_of j k h in grind (arith, nat_tests, far, same))

  led_test : (m next p : ℕ) (b : Bool) (u : List Raw) → p ≤ limit → (if b then (run x limit code m next (moved_to s p) v) else (Some [])) ≡ Some u
      → Led x limit code s v m next (if b then Some p else None) u
  led_test m next p true u le e = goes p refl le e
  led_test m next p false u le e = stops (same_Some [] u e) (λ k h. absurd (cc))

  led_to : (m at next p : ℕ) (o : Option ℕ) (u : List Raw) → Some at ≡ Some next → Led x limit code s v m at o u → Led x limit code s v m next o u
  led_to m at next p o u e l = subst (λ (q : ℕ). Led x limit code s v m q o u) (some_of at next e) l

  led : (m at p next : ℕ) (far : Go) (i : Instruction) → after_part i ≡ Some next → p ≤ limit → (u : List Raw)
      → act x limit at i (run x limit code m) far (moved_to s p) v ≡ Some u → Led x limit code s v m next (past_part x i p) u
  led m at p next far Match is le u e = absurd (cc)
  led m at p next far Fail is le u e = absurd (cc)
  led m at p next far (Character c q) is le u e = led_to m q next p _ u is (led_item m q p (past_item x (λ d. d == c) p) u e)
  led m at p next far (Member edges q) is le u e = led_to m q next p _ u is (led_item m q p (past_item x (has edges) p) u e)
  led m at p next far (RawByte byte q) is le u e = led_to m q next p _ u is (led_item m q p (past_byte x byte p) u e)
  led m at p next far (Assert a q) is le u e = led_to m q next p _ u is (led_test m q p (holds x a p) u le e)
  led m at p next far (Split a b) is le u e = absurd (cc)
  led m at p next far (Open group q) is le u e = absurd (cc)
  led m at p next far (Close group q) is le u e = absurd (cc)
  led m at p next far (Enter body) is le u e = absurd (cc)
  led m at p next far (Commit q) is le u e = absurd (cc)
  led m at p next far (Look behind body q) is le u e = absurd (cc)
  led m at p next far (Deny behind body q) is le u e = absurd (cc)
  led m at p next far (Test body other) is le u e = absurd (cc)
  led m at p next far (Back k q) is le u e = absurd (cc)
  led m at p next far (Recall folded number moved still) is le u e = absurd (cc)
  led m at p next far (Keep q) is le u e = absurd (cc)
  led m at p next far (Continue q) is le u e = absurd (cc)
  led m at p next far (Taken number q) is le u e = absurd (cc)

  -- an item alone: its one outcome is past it
  none_within : (o : Option ℕ) → ((k : ℕ) → o ≡ Some k → limit < k) → [] ≡ move limit s o
  none_within None far = refl
  none_within (Some k) far = rw (le_false k limit (far k refl)) refl

  one_led : (m : ℕ) (o : Option ℕ) (u : List Raw) → Led x limit code s v m 0 o u → erase u ≡ move limit s o
  one_led m o u (stops none far) = subst (λ (z : List Raw). erase z ≡ move limit s o) none (none_within o far)
  one_led m o u (goes k is le e) = at_match m k u e ∙ rw (is, le_true k limit le) refl

  pub run_one : (at : ℕ) → s.place ≤ limit → IsOneItem (instr_at code at) → (m : ℕ) (w : List Raw)
      → run x limit code m at s v ≡ Some w → erase w ≡ move limit s (past_part x (instr_at code at) s.place)
  run_one at le one zero w e = absurd (cc)
  run_one at le one (suc m) w e =
      after_fetch (λ w. erase w ≡ move limit s (past_part x (instr_at code at) s.place)) _ w
      (λ u is. one_led m _ u (led m at s.place 0 (run x (length x.haystack) code m) (instr_at code at) one le u is)) e

  module _ (accept : State → Bool) where
    -- the first outcome that is accepted
    abbrev first : List Raw → Option State
    first w = first_one (filter accept (outcomes_in (erase w)))

    first_or : (a b : List Raw) → first (a ++ Note returned ∷ b) ≡ option_or (first a) (first b)
    first_or [] b = refl
    first_or (Note choice_opened ∷ a) b = first_or a b
    first_or (Note returned ∷ a) b = first_or a b
    first_or (Note fetched ∷ a) b = first_or a b
    first_or (Stop q t w ∷ a) b = by (accept t) (first_or a b) where
      by : (c : Bool) → first (a ++ Note returned ∷ b) ≡ option_or (first a) (first b)
          → first_one (cond c (t ∷ filter accept (outcomes_in (erase (a ++ Note returned ∷ b)))) (filter accept (outcomes_in (erase (a ++ Note returned ∷ b)))))
          ≡ option_or (first_one (cond c (t ∷ filter accept (outcomes_in (erase a))) (filter accept (outcomes_in (erase a))))) (first b)
      by true later = refl
      by false later = later

    -- what is taken where parts end at p, and is led on to `end`
    abbrev taken : ℕ → ℕ → Option State
    taken p end = if accept (moved_to s p) then Some (moved_to s end) else None

    first_stay : (p : ℕ) (w : List Raw) → erase w ≡ stay (moved_to s p) → first w ≡ taken p p
    first_stay p w e = rw e (by (accept (moved_to s p))) where
      by : (c : Bool) → first_one (cond c (moved_to s p ∷ []) []) ≡ (if c then Some (moved_to s p) else None)
      by true = refl
      by false = refl

    or_taken : (c : Bool) (a b : State) → option_or (if c then Some a else None) (if c then Some b else None) ≡ (if c then Some a else None)
    or_taken true a b = refl
    or_taken false a b = refl

    -- the turns of a loop: the first outcome is past them all
    module _ (at item : ℕ) (round : instr_at code at ≡ Split item 0) (i : Item x limit (instr_at code item) at)
        (alike : (p k : ℕ) → past_item x i.test p ≡ Some k → accept (moved_to s p) ≡ accept (moved_to s k)) where
      abbrev Turns : ℕ → Type 0
      Turns m = (p n : ℕ) → limit ≤ p + n → (w : List Raw) → run x limit code m at (moved_to s p) v ≡ Some w → first w ≡ taken p (past_items x i.test limit n p)

      over : (p n : ℕ) (o : Option ℕ) → past_item x i.test p ≡ o → ((k : ℕ) → o ≡ Some k → limit < k) → past_items x i.test limit n p ≡ p
      over p n None e far = items_none x i.test limit n p e
      over p n (Some k) e far = items_far x i.test limit n p k e (far k refl)

      none_first : (p n : ℕ) (b : List Raw) → past_items x i.test limit n p ≡ p → first b ≡ taken p p → first b ≡ taken p (past_items x i.test limit n p)
      none_first p n b same e = e ∙ ap (taken p) (sym same)

      turn_led : (m p n : ℕ) → Turns m → limit ≤ p + n → (u b : List Raw) → Led x limit code s v m at (past_item x i.test p) u → first b ≡ taken p p
          → option_or (first u) (first b) ≡ taken p (past_items x i.test limit n p)
      turn_led m p n turns room u b (stops none far) last =
          subst (λ (z : List Raw). option_or (first z) (first b) ≡ taken p (past_items x i.test limit n p)) none (none_first p n b (over p n _ refl far) last)
      turn_led m p zero turns room u b (goes k is le e) last = absurd (omega (arith, item_beyond x i.test p k is, le, room))
      turn_led m p (suc n) turns room u b (goes k is le e) last =
          let on = turns k n (omega (arith, item_beyond x i.test p k is, room)) u e in
          rw (on, last, items_on x i.test limit n p k is le, sym (alike p k is)) (or_taken (accept (moved_to s p)) _ _)

      turn_by : (m p n : ℕ) → Turns m → limit ≤ p + n → (a b : List Raw) → before (Note fetched) (act x limit item (instr_at code item) (run x limit code m) (run x (length x.haystack) code m) (moved_to s p) v) ≡ Some a
          → first b ≡ taken p p → option_or (first a) (first b) ≡ taken p (past_items x i.test limit n p)
      turn_by m p n turns room a b e last =
          after_fetch (λ a. option_or (first a) (first b) ≡ taken p (past_items x i.test limit n p)) _ a
          (λ u is. turn_led m p n turns room u b (led_item m at p _ u (sym (i.acts item (run x limit code m) (run x (length x.haystack) code m) (moved_to s p) v) ∙ is)) last) e

      -- both ways of the choice
      both : (m p n : ℕ) → limit ≤ p + n → ((a b : List Raw) → run x limit code m item (moved_to s p) v ≡ Some a → first b ≡ taken p p → option_or (first a) (first b) ≡ taken p (past_items x i.test limit n p))
          → (w : List Raw) (o r : Option (List Raw)) → run x limit code m item (moved_to s p) v ≡ o → run x limit code m 0 (moved_to s p) v ≡ r
          → before (Note fetched) (before (Note choice_opened) (join o r)) ≡ Some w → first w ≡ taken p (past_items x i.test limit n p)
      both m p n room turn w None r eo er e = absurd (cc)
      both m p n room turn w (Some a) None eo er e = absurd (cc)
      both m p n room turn w (Some a) (Some b) eo er e =
          subst (λ (z : List Raw). first z ≡ taken p (past_items x i.test limit n p)) (same_Some (Note fetched ∷ Note choice_opened ∷ (a ++ Note returned ∷ b)) w e)
          (first_or a b ∙ turn a b eo (first_stay p b (at_match m p b er)))

      turns_first : (m : ℕ) → Turns m
      turns_first zero p n room w e = absurd (cc)
      turns_first (suc zero) p n room w e = both zero p n room (λ a b no last. absurd (cc)) w _ _ refl refl (rw round at e)
      turns_first (suc (suc m)) p n room w e = both (suc m) p n room (λ a b is last. turn_by m p n (turns_first m) room a b is last) w _ _ refl refl (rw round at e)

    module _ (end : StraightEnd) (alike : (item : ℕ) → end ≡ Loop item → (test : ℕ → Bool) (p k : ℕ) → past_item x test p ≡ Some k → accept (moved_to s p) ≡ accept (moved_to s k)) where
      abbrev wanted : Option ℕ → Option State
      wanted = wanted_of x limit code s accept end

      wanted_in : (p : ℕ) → p ≤ limit → wanted (Some p) ≡ taken p (past_end x code limit end p)
      wanted_in p le = rw (le_true p limit le) refl

      wanted_far : (o : Option ℕ) → ((k : ℕ) → o ≡ Some k → limit < k) → None ≡ wanted o
      wanted_far None far = refl
      wanted_far (Some k) far = rw (le_false k limit (far k refl)) refl

      abbrev Along : ℕ → ℕ → Type 0
      Along n m = (q p : ℕ) → straight_end q n code ≡ Some end → p ≤ limit → (w : List Raw) → run x limit code m q (moved_to s p) v ≡ Some w → first w ≡ wanted (past_all x q n code p)

      far_on : (n next : ℕ) (o : Option ℕ) → ((k : ℕ) → o ≡ Some k → limit < k) → (k : ℕ) → option_to o None (past_all x next n code) ≡ Some k → limit < k
      far_on n next None far k e = absurd (cc)
      far_on n next (Some j) far k e = omega (arith, far j refl, all_later x code n next j k e)

      part_led : (n m next : ℕ) (o : Option ℕ) → Along n m → straight_end next n code ≡ Some end → (u : List Raw) → Led x limit code s v m next o u → first u ≡ wanted (option_to o None (past_all x next n code))
      part_led n m next o along ends u (stops none far) = subst (λ (z : List Raw). first z ≡ wanted (option_to o None (past_all x next n code))) none (wanted_far _ (far_on n next o far))
      part_led n m next o along ends u (goes k is le e) = along next k ends le u e ∙ rw is refl

      -- the loop at the end
      loop_end : (m q p item : ℕ) → IsLoop code q (instr_at code q) item → Some (Loop item) ≡ Some end → p ≤ limit → (w : List Raw) → run x limit code m q (moved_to s p) v ≡ Some w → first w ≡ wanted (Some p)
      loop_end m q p item is ends le w e =
          let same : Loop item ≡ end = cc in
          let i = item_of x limit (instr_at code item) q is.1 in
          turns_first q item is.0 i (alike item (sym same) i.test) m p (limit - p) (omega (arith, le)) w e
          ∙ ap (taken p) (sym (i.turns p) ∙ ap (λ (z : StraightEnd). past_end x code limit z p) same)
          ∙ sym (wanted_in p le)

      -- from an instruction on that is a part, or that loop
      from : (n m q p : ℕ) (a : Option ℕ) → after_part (instr_at code q) ≡ a → Along n m → option_to a (option_map Loop (loop_of code q (instr_at code q))) (λ next. straight_end next n code) ≡ Some end
          → p ≤ limit → (w : List Raw) → run x limit code (suc m) q (moved_to s p) v ≡ Some w
          → first w ≡ wanted (option_to a (Some p) (λ next. option_to (past_part x (instr_at code q) p) None (past_all x next n code)))
      from n m q p None is along ends le w e = at (loop_of code q (instr_at code q)) refl ends where
        at : (r : Option ℕ) → loop_of code q (instr_at code q) ≡ r → option_map Loop r ≡ Some end → first w ≡ wanted (Some p)
        at None none ends = absurd (cc)
        at (Some item) some ends = loop_end (suc m) q p item (is_loop code q item (instr_at code q) some) ends le w e
      from n m q p (Some next) is along ends le w e =
          after_fetch (λ w. first w ≡ wanted (option_to (past_part x (instr_at code q) p) None (past_all x next n code))) _ w
          (λ u go. part_led n m next _ along ends u (led m q p next (run x (length x.haystack) code m) (instr_at code q) is le u go)) e

      pub run_along : (n m : ℕ) → Along n m
      run_along n m zero p ends le w e =
          let same : AtMatch ≡ end = cc in
          first_stay p w (at_match m p w e) ∙ ap (λ (z : StraightEnd). taken p (past_end x code limit z p)) same ∙ sym (wanted_in p le)
      run_along zero m (suc q) p ends le w e = absurd (cc)
      run_along (suc n) zero (suc q) p ends le w e = absurd (cc)
      run_along (suc n) (suc m) (suc q) p ends le w e = from n m (suc q) p _ refl (run_along n m) ends le w e

abbrev there : ℕ → State → Answer
there p s = record { position = p; state = s }

-- A turn goes from boundary to boundary.
first_begins : (c : ℕ) (rest : List ℕ) → is_continuation (slice_index (encode_utf8 c ++ rest) 0) ≡ false
unfolding encode_utf8
first_begins c rest = grind (arith, nat_tests)

character_stands : (haystack : List ℕ) (p c : ℕ) → char_at haystack p ≡ Some c → is_boundary haystack p ≡ true
character_stands haystack p c e =
    let b = char_at-bytes haystack p c e in
    let at : p + 0 ≡ p = omega arith in
    let there : slice_index haystack p ≡ slice_index (encode_utf8 c ++ b.1) 0 = ap (slice_index haystack) (sym at) ∙ sym (get_or-drop p haystack 0 0) ∙ ap (λ (xs : List ℕ). slice_index xs 0) b.2 in
    is_boundary_from_byte haystack p (ap is_continuation there ∙ first_begins c b.1)

character_leads : (haystack : List ℕ) (p k : ℕ) (test : ℕ → Bool) (o : Option ℕ) → char_at haystack p ≡ o → IsUtf8 haystack
    → option_to (one_character o) None (λ u. if test u.code then Some (p + u.width) else None) ≡ Some k → (is_boundary haystack p ≡ true) × (is_boundary haystack k ≡ true)
character_leads haystack p k test None read text e = absurd (cc)
character_leads haystack p k test (Some c) read text e = by (test c) e where
  by : (b : Bool) → (if b then Some (p + len_utf8 c) else None) ≡ Some k → (is_boundary haystack p ≡ true) × (is_boundary haystack k ≡ true)
  by true e =
      let here = character_stands haystack p c read in
      (here, subst (λ (z : ℕ). is_boundary haystack z ≡ true) (some_of _ k e) (char_at-boundary haystack p c text (omega (arith, char_at-fits haystack p c read)) here read))
  by false e = absurd (cc)

text_leads : (m : Meaning) (haystack : List ℕ) (p k : ℕ) (test : ℕ → Bool) → reads_characters m ≡ true → IsUtf8 haystack
    → option_to (unit_in m haystack p) None (λ u. if test u.code then Some (p + u.width) else None) ≡ Some k → (is_boundary haystack p ≡ true) × (is_boundary haystack k ≡ true)
text_leads Unicode haystack p k test m text e = character_leads haystack p k test _ refl text e
text_leads Bytes haystack p k test m text e = absurd (true≢false (sym m))
text_leads AsciiText haystack p k test m text e = character_leads haystack p k test _ refl text e

pub turn_stands : (x : Context) (on : Bool) → KeepsPlaces x.haystack x.meaning on → (test : ℕ → Bool) (p k : ℕ) → past_item x test p ≡ Some k
    → (is_match_boundary on x.haystack p ≡ true) × (is_match_boundary on x.haystack k ≡ true)
unfolding past_item unit_at
turn_stands x on (by_characters text m is) test p k e =
    let b = text_leads x.meaning x.haystack p k test m text e in
    rw is b
turn_stands x on (by_bytes m off) test p k e = rw off (refl, refl)

accepted_alike : (q : Query) (at p k : ℕ) → is_match_boundary q.sought.on_boundaries q.haystack p ≡ true → is_match_boundary q.sought.on_boundaries q.haystack k ≡ true → q.sought.not_empty ≡ false
    → accepted q at (moved_to (initial q at) p) ≡ accepted q at (moved_to (initial q at) k)
accepted_alike q at p k a b any = rw (a, b, any) refl

-- the answer of an attempt of straight code
straight_found : (q : Query) (code : Code) → IsCodeOf q.sought.pattern code → q.sought.meaning ≡ code.meaning → q.request.range_end ≤ length q.haystack → q.sought.longest ≡ false → q.sought.not_empty ≡ false
    → (n : ℕ) (end : StraightEnd) → straight_end code.start n (instrs_of code) ≡ Some end → ((item : ℕ) → end ≡ Loop item → KeepsPlaces q.haystack q.sought.meaning q.sought.on_boundaries)
    → (p : ℕ) → p ≤ q.request.range_end
    → attempt q p ≡ answer_past q p (past_end (context_of q) (instrs_of code) q.request.range_end end) (past_all (context_of q) code.start n (instrs_of code) p)
unfolding answer_at outcomes
straight_found q code is meant inside short any n end ends places p within =
    let v = replicate code.groups 0 in
    let x = context_of q in
    let limit = q.request.range_end in
    let g = program_gives x limit q.sought.pattern code is meant inside (initial q p) v within (length-replicate code.groups 0) in
    let along = run_along x limit (instrs_of code) (get_or_from_slice_get (instrs_of code) 0 Match Fail is.matching) (initial q p) v (accepted q p) end
    (λ item round test a b e. let stands = turn_stands x q.sought.on_boundaries (places item round) test a b e in accepted_alike q p a b stands.0 stands.1 any)
    n (depth (length q.haystack) q.sought.pattern + 1) code.start p ends within g.0 g.1 in
    ap (option_map (there p)) (if_false q.sought.longest _ _ short ∙ ap (λ (es : List Event). first_one (filter (accepted q p) (outcomes_in es))) (sym g.2) ∙ along) ∙ as_answer _ where
      as_answer : (o : Option ℕ) → option_map (there p) (wanted_of (context_of q) q.request.range_end (instrs_of code) (initial q p) (accepted q p) end o)
          ≡ answer_past q p (past_end (context_of q) (instrs_of code) q.request.range_end end) o
      as_answer None = refl
      as_answer (Some e) = by (nat_le e q.request.range_end && accepted q p (moved_to (initial q p) e)) where
        by : (b : Bool) → option_map (there p) (if b then Some (moved_to (initial q p) (past_end (context_of q) (instrs_of code) q.request.range_end end e)) else None)
            ≡ (if b then Some (record { position = p; state = moved_to (initial q p) (past_end (context_of q) (instrs_of code) q.request.range_end end e) }) else None)
        by true = refl
        by false = refl

-- what a search shows its pattern is the haystack that is read so
pub reads : (r : Program) (haystack : List ℕ) (request : Request) (on : Bool) (suppressed : SuppressedEnds) → suppressed ≡ suppressed_ends (program_options r).allow_input_assertion_overrides request
    → IsRead (context_of (asked_of r haystack request on)) haystack r.code.meaning suppressed
reads r haystack request on suppressed ends = record {
  haystack_is = refl;
  meaning_is = sym r.meant;
  start = sym (ap (λ (e : SuppressedEnds). e.start) ends);
  end = sym (ap (λ (e : SuppressedEnds). e.end) ends);
}

-- what an attempt with a program of straight code answers
pub straight_at : (r : Program) (haystack : List ℕ) (request : Request) (on : Bool) (p : ℕ) (past : Option ℕ) → request.range_end ≤ length haystack → p ≤ request.range_end → program_is_easy r ≡ true
    → (end : StraightEnd) → straight_end r.code.start (code_len r.code - 2) (instrs_of r.code) ≡ Some end
    → ((item : ℕ) → end ≡ Loop item → KeepsPlaces haystack r.code.meaning (search_options r.options).on_boundaries)
    → (suppressed : SuppressedEnds) → suppressed ≡ suppressed_ends (program_options r).allow_input_assertion_overrides request
    → ((x : Context) → IsRead x haystack r.code.meaning suppressed → past ≡ past_all x r.code.start (code_len r.code - 2) (instrs_of r.code) p)
    → attempt (asked_of r haystack request on) p ≡ answer_past (asked_of r haystack request on) p (past_end (context_of (asked_of r haystack request on)) (instrs_of r.code) request.range_end end) past
straight_at r haystack request on p past inside within easy end ends places suppressed is read =
    let q = asked_of r haystack request on in
    let parts = parts_of_easy _ _ _ easy in
    known _ _ r.compiled
    (λ compiled. straight_found q r.code compiled.coded (sym r.meant) inside parts.2 parts.1 (code_len r.code - 2) end ends (λ item round. rw (sym r.meant) (places item round)) p within
    ∙ ap (answer_past q p (past_end (context_of q) (instrs_of r.code) request.range_end end)) (sym (read (context_of q) (reads r haystack request on suppressed is))))

-- how the code of a straight program ends
pub end_of : (r : Program) → is_some r.straight ≡ true → (end : StraightEnd) × (r.straight ≡ Some end) × (straight_end r.code.start (code_len r.code - 2) (instrs_of r.code) ≡ Some end)
end_of r some = at r.straight refl some where
  at : (o : Option StraightEnd) → r.straight ≡ o → is_some o ≡ true
      → (end : StraightEnd) × (r.straight ≡ Some end) × (straight_end r.code.start (code_len r.code - 2) (instrs_of r.code) ≡ Some end)
  at None is some = absurd (cc)
  at (Some end) is some = (end, is, r.direct end is)

pub straight_of : (r : Program) (haystack : List ℕ) (request : Request) (on : Bool) (p : ℕ) (past : Option ℕ) → request.range_end ≤ length haystack → p ≤ request.range_end → program_is_easy r ≡ true
    → (some : is_some r.straight ≡ true) → ((item : ℕ) → r.straight ≡ Some (Loop item) → KeepsPlaces haystack r.code.meaning (search_options r.options).on_boundaries)
    → (suppressed : SuppressedEnds) → suppressed ≡ suppressed_ends (program_options r).allow_input_assertion_overrides request
    → ((x : Context) → IsRead x haystack r.code.meaning suppressed → past ≡ past_all x r.code.start (code_len r.code - 2) (instrs_of r.code) p)
    → attempt (asked_of r haystack request on) p
    ≡ answer_past (asked_of r haystack request on) p (past_end (context_of (asked_of r haystack request on)) (instrs_of r.code) request.range_end (end_of r some).0) past
straight_of r haystack request on p past inside within easy some places suppressed is read =
    let e = end_of r some in
    straight_at r haystack request on p past inside within easy e.0 e.2 (λ item round. places item (e.1 ∙ ap Some round)) suppressed is read

-- what holds of an end
pub of_end : (P : StraightEnd → Type 0) (o : Option StraightEnd) (end : StraightEnd) → o ≡ Some end → IfSome o P → P end
of_end P o end is all = rw is at all

pub to_end : (P : StraightEnd → Type 0) (o : Option StraightEnd) (end : StraightEnd) → o ≡ Some end → P end → IfSome o P
to_end P o end is one = rw is one

pub no_loop : (item : ℕ) → ¬ (AtMatch ≡ Loop item)
no_loop item e = absurd (cc)

pub same_end : (o : Option StraightEnd) (a b : StraightEnd) → o ≡ Some a → o ≡ Some b → a ≡ b
same_end o a b x y = same_Some a b (sym x ∙ y)

-- a match that is led on
pub led_on : (q : Query) (p : ℕ) (groups : List (Option Span)) (on : ℕ → ℕ) (past : Option ℕ) (f led : Found) → answer_with groups (Some f) ≡ answer_to q p past → led ≡ record f { end = on f.end }
    → answer_past q p on past ≡ answer_with groups (Some led)
led_on q p groups on None f led found is = absurd (cc)
led_on q p groups on (Some e) f led found is = by (nat_le e q.request.range_end && accepted q p (moved_to (initial q p) e)) found where
  answer : ℕ → Answer
  answer k = record { position = p; state = moved_to (initial q p) k }

  further : Answer → Answer
  further a = record { position = a.position; state = moved_to a.state (on a.state.place) }

  by : (b : Bool) → answer_with groups (Some f) ≡ (if b then Some (answer e) else None) → (if b then Some (answer (on e)) else None) ≡ answer_with groups (Some led)
  by true found = rw is (ap (option_map further) (sym found))
  by false found = absurd (cc)

-- it ends where the parts do, before it is led on
pub found_past : (q : Query) (p : ℕ) (groups : List (Option Span)) (past : Option ℕ) (f : Found) → answer_with groups (Some f) ≡ answer_to q p past → past ≡ Some f.end
found_past q p groups None f found = absurd (cc)
found_past q p groups (Some e) f found = by (nat_le e q.request.range_end && accepted q p (moved_to (initial q p) e)) found where
  answer : Answer
  answer = record { position = p; state = moved_to (initial q p) e }

  by : (b : Bool) → answer_with groups (Some f) ≡ (if b then Some answer else None) → Some e ≡ Some f.end
  by true found = ap (option_map (λ (a : Answer). a.state.place)) (sym found)
  by false found = absurd (cc)

-- what the place where it is found counts, and what its turns do
pub led_counts : (c first place found to : ℕ) {before between after led : Work} → 1 < c → first ≤ place → place ≤ found → place ≤ to
    → AddsSteps (c * (place - first)) before between → AddsSteps (c - 1) between after → AddsSteps (2 * (to - found) + 1) after led → AddsSteps (c * (to + 1 - first)) before led
led_counts c first place found to some le later within a b d =
    let parts : to + 1 - first ≡ (place - first) + 1 + (to - place) = omega (arith, le, within) in
    let all : c * (to + 1 - first) ≡ c * (place - first) + c + c * (to - place) = ap (λ (k : ℕ). c * k) parts ∙ omega arith in
    let turns : 2 * (to - place) ≤ c * (to - place) = mul-le-mul_right (to - place) (omega (arith, some)) in
    record {
      steps = omega (arith, a.steps, b.steps, d.steps);
      bounded = omega (arith, a.bounded, b.bounded, d.bounded, all, turns, later, some);
      returns = d.returns ∙ b.returns ∙ a.returns;
      units = d.units ∙ b.units ∙ a.units;
    }

-- at a place where nothing is found
pub place_counts : (c : ℕ) {before after : Work} → AddsSteps (c - 1) before after → AddsSteps c before after
place_counts c a = record { steps = a.steps; bounded = omega (arith, a.bounded); returns = a.returns; units = a.units }

-- and where there is none, there is none that is led on
pub none_on : (q : Query) (p : ℕ) (on : ℕ → ℕ) (past : Option ℕ) → None ≡ answer_to q p past → answer_past q p on past ≡ None
none_on q p on None found = refl
none_on q p on (Some e) found = by (nat_le e q.request.range_end && accepted q p (moved_to (initial q p) e)) found where
  answer : ℕ → Answer
  answer k = record { position = p; state = moved_to (initial q p) k }

  by : (b : Bool) → None ≡ (if b then Some (answer e) else None) → (if b then Some (answer (on e)) else None) ≡ None
  by true found = absurd (cc)
  by false found = refl

-- positions where no match may start are passed over
pub passed_to : (r : Program) (haystack : List ℕ) (request : Request) (on : Bool) (n m p to : ℕ) → request.range_end ≤ length haystack → ((k : ℕ) → slice_index haystack k < 256)
    → p ≤ to → to ≤ request.range_end + 1 → n ≡ (to - p) + m → ((k : ℕ) → p ≤ k → k < to → StartsNot r.code.prefilter haystack request.range_end k)
    → answer_from (asked_of r haystack request on) n p ≡ answer_from (asked_of r haystack request on) m to
passed_to r haystack request on n m p to inside bytes le within count none =
    known _ _ r.compiled
    (λ compiled. openings_passed (asked_of r haystack request on) r.code compiled.coded (sym r.meant) inside bytes n m p to le within count none)

two_some : (code : List Instruction) (i : Instruction) → slice_get code 1 ≡ Some i → 1 < length code
two_some [] i e = cc
two_some (j ∷ []) i e = cc
two_some (j ∷ k ∷ code) i e = omega arith

-- there are two instructions
pub some_code : (r : Program) → 1 < code_len r.code
some_code r = ∥∥₁_elim r.compiled (hlevel props) (λ compiled. omega (arith, two_some (instrs_of r.code) Fail compiled.coded.failing, length-instrs_of r.code))

-- what an attempt finds is the answer of a search that begins there
pub found_first : (q : Query) (n m p : ℕ) → n ≡ suc m → (groups : List (Option Span)) (found : Option Found) → is_some found ≡ true → attempt q p ≡ answer_with groups found → answer_from q n p ≡ answer_with groups found
found_first q n m p count groups None some e = cc
found_first q n m p count groups (Some f) some e = found_here q n m p count _ e

-- where it finds nothing, the search goes on
pub found_none : (q : Query) (n m p : ℕ) → n ≡ suc m → (groups : List (Option Span)) (found : Option Found) → is_some found ≡ false → attempt q p ≡ answer_with groups found → answer_from q n p ≡ answer_from q m (p + 1)
found_none q n m p count groups None none e = found_later q n m p count e
found_none q n m p count groups (Some f) none e = cc

-- what is counted keeps the limits, where they allow it all
pub counts_kept : {A : Type 0} (r : Program) (request : Request) (m : A) (before after : Work) → HasRoomFor r request before → AllowsAllSteps r request before → AddsSteps (step_bound r request) before after → KeepsCounts r (Ok m) before after
counts_kept r request m before after room allowed adds = record {
  steps = adds.steps;
  returns = omega (arith, adds.returns);
  paired = omega (arith, adds.returns, adds.steps, room.2);
  within = (runs_all (program_step_limit r) (step_bound r request) before after allowed adds.units adds.bounded).within;
  limited = λ e. cc;
}
