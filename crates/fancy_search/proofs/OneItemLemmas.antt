-- Code of one item: its one outcome is past the item.
use Rattle.std.proofs.Common.{cond, ◌++◌, ◌==◌, ◌≡◌, ℕ, zero, suc, ◌+◌, ◌<◌, ◌≤◌, Bool, true, false, List, [], ◌∷◌, length, Option, Some, None, if◌then◌else◌, refl, sym, ap, subst, ◌∙◌, arith, slice_index, slice_get, replicate}
use Rattle.std.proofs.Math.Logic.{∥∥₁_elim}
use Rattle.std.proofs.Props.{props}
use Rattle.std.specs.List.{filter}
use Rattle.std.proofs.lemmas.List.{length-replicate}
use Rattle.std.proofs.lemmas.Option.{get_or_from_slice_get, same_Some}
use Rattle.fancy_code.specs.Code.{instrs_of}
use Rattle.fancy_code.specs.Compile.{depth}
use Rattle.std.proofs.lemmas.Bool.Decides.{nat_tests}
use Rattle.std.specs.Char.{len_utf8}
use Rattle.fancy_tree.specs.declared.tree.Meaning.{Meaning}
use Rattle.fancy_tree.specs.declared.tree.Meaning.TheVariants.{Unicode, Bytes, AsciiText}
use Rattle.fancy_tree.specs.Sets.{has}
use Rattle.fancy_input.specs.Places.{char_at}
use Rattle.fancy_input.proofs.CharacterLemmas.{char_at-ascii}
use Rattle.fancy_meaning.specs.Context.{Context, holds, State, Unit_at, unit_in, unit_at, one_character, one_byte, past_item, past_byte, option_to}
use Rattle.fancy_meaning.specs.Events.{Event, mark, return, outcome, outcomes_in}
use Rattle.fancy_meaning.specs.Forward.{EachOutcome}
use Rattle.fancy_meaning.proofs.AttemptLemmas.{attempt_some}
use Rattle.fancy_meaning.proofs.BeginLemmas.{moved}
use Rattle.fancy_meaning.proofs.SearchLemmas.{if_false}
use Rattle.fancy_code.specs.Instructions.{Instruction, Match, Fail, Character, Member, RawByte, Assert, Split, Open, Close, Enter, Commit, Look, Deny, Test, Back, Recall, Keep, Continue, Taken}
use Rattle.fancy_code.specs.Run.{Raw, Note, Stop, choice_opened, returned, fetched, before, join, instr_at, act, run, erase}
use Rattle.fancy_meaning.specs.Search.{Query, Answer, answer_at, attempt, accepted, first_one, context_of, initial, trace_at}
use Rattle.fancy_meaning.specs.Trace.{outcomes}
use Rattle.fancy_code.proofs.WholeCode.{program_gives}
use Rattle.fancy_search.specs.declared.program.Program.{Program}
use Rattle.fancy_search.specs.OneItem.{AreOneItems, EachReadsOne, IsOneItem}
use Rattle.fancy_search.specs.Starts.{EndsByOne}
use Rattle.fancy_search.specs.Programs.{program_is_easy, asked_of}
use Rattle.fancy_search.proofs.ProgramSizeLemmas.{parts_of_easy}
use Rattle.fancy_search.specs.Straight.{past_part}
use Rattle.fancy_search.proofs.StraightLemmas.{run_one}

-- where an ASCII byte stands, what was read ends past it
same_width : (u w : Unit_at) → Some u ≡ Some w → u.width ≡ w.width
same_width u w e = ap (λ (x : Unit_at). x.width) (same_Some u w e)

low_width : (c : ℕ) → c < 128 → len_utf8 c ≡ 1
low_width c low = grind (arith, nat_tests)

character_by : (c : ℕ) (o : Option ℕ) (u : Unit_at) → o ≡ Some c → c < 128 → one_character o ≡ Some u → u.width ≡ 1
character_by c None u is low e = cc
character_by c (Some d) u is low e =
    let same : d ≡ c = same_Some d c is in
    sym (same_width (record { code = d; width = len_utf8 d }) u e) ∙ low_width d (omega (arith, low, same))

one_byte_by : (o : Option ℕ) (u : Unit_at) → one_byte o ≡ Some u → u.width ≡ 1
one_byte_by None u e = cc
one_byte_by (Some b) u e = sym (same_width (record { code = b; width = 1 }) u e)

width_by : (m : Meaning) (haystack : List ℕ) (p : ℕ) → p < length haystack → slice_index haystack p < 128 → (u : Unit_at) → unit_in m haystack p ≡ Some u → u.width ≡ 1
width_by Unicode haystack p inside low u e = character_by (slice_index haystack p) (char_at haystack p) u (char_at-ascii haystack p inside low) low e
width_by Bytes haystack p inside low u e = one_byte_by (slice_get haystack p) u e
width_by AsciiText haystack p inside low u e = character_by (slice_index haystack p) (char_at haystack p) u (char_at-ascii haystack p inside low) low e

read_by : (p end : ℕ) (b : Bool) (u : Unit_at) → u.width ≡ 1 → (if b then Some (p + u.width) else None) ≡ Some end → end ≤ p + 1
read_by p end true u one e = let same : p + u.width ≡ end = cc in omega (arith, same, one)
read_by p end false u one e = cc

item_by : (x : Context) (test : ℕ → Bool) (p end : ℕ) → p < length x.haystack → slice_index x.haystack p < 128 → past_item x test p ≡ Some end → end ≤ p + 1
unfolding past_item unit_at
item_by x test p end inside low e = at (unit_in x.meaning x.haystack p) refl e where
  at : (o : Option Unit_at) → unit_in x.meaning x.haystack p ≡ o → option_to o None (λ u. if test u.code then Some (p + u.width) else None) ≡ Some end → end ≤ p + 1
  at None is e = cc
  at (Some u) is e = read_by p end (test u.code) u (width_by x.meaning x.haystack p inside low u is) e

byte_by : (x : Context) (byte p end : ℕ) → past_byte x byte p ≡ Some end → end ≤ p + 1
unfolding past_byte
byte_by x byte p end e = at (slice_get x.haystack p) e where
  if_it : (b : Bool) → (if b then Some (p + 1) else None) ≡ Some end → end ≤ p + 1
  if_it true e = let same : p + 1 ≡ end = cc in omega (arith, same)
  if_it false e = cc

  at : (o : Option ℕ) → option_to o None (λ b. if b == byte then Some (p + 1) else None) ≡ Some end → end ≤ p + 1
  at None e = cc
  at (Some b) e = if_it (b == byte) e

near_test : (p end : ℕ) (b : Bool) → (if b then Some p else None) ≡ Some end → end ≤ p + 1
near_test p end true e = let same : p ≡ end = same_Some p end e in omega (arith, same)
near_test p end false e = cc

-- an item that is read there ends past it too
near_read : (x : Context) (i : Instruction) (p end : ℕ) → p < length x.haystack → slice_index x.haystack p < 128 → past_part x i p ≡ Some end → end ≤ p + 1
near_read x Match p end inside low e = cc
near_read x Fail p end inside low e = cc
near_read x (Character c next) p end inside low e = item_by x (λ d. d == c) p end inside low e
near_read x (Member edges next) p end inside low e = item_by x (has edges) p end inside low e
near_read x (RawByte byte next) p end inside low e = byte_by x byte p end e
near_read x (Assert a next) p end inside low e = near_test p end (holds x a p) e
near_read x (Split a b) p end inside low e = cc
near_read x (Open group next) p end inside low e = cc
near_read x (Close group next) p end inside low e = cc
near_read x (Enter body) p end inside low e = cc
near_read x (Commit next) p end inside low e = cc
near_read x (Look behind body next) p end inside low e = cc
near_read x (Deny behind body next) p end inside low e = cc
near_read x (Test body other) p end inside low e = cc
near_read x (Back n next) p end inside low e = cc
near_read x (Recall folded number moved still) p end inside low e = cc
near_read x (Keep next) p end inside low e = cc
near_read x (Continue next) p end inside low e = cc
near_read x (Taken number next) p end inside low e = cc

-- what holds of each outcome before and after holds of each
each-append : (P : State → Type 0) (a b : List Raw) → EachOutcome P (erase a) → EachOutcome P (erase b) → EachOutcome P (erase (a ++ b))
each-append P [] b before after = after
each-append P (Note choice_opened ∷ a) b before after = each-append P a b before after
each-append P (Note returned ∷ a) b before after = each-append P a b before after
each-append P (Note fetched ∷ a) b before after = each-append P a b before after
each-append P (Stop q s v ∷ a) b before after = (before.0, each-append P a b before.1 after)

-- where an ASCII byte stands, each outcome of ways that read one item each ends past that byte or before
module _ (x : Context) (limit : ℕ) (code : List Instruction) (matching : instr_at code 0 ≡ Match) (s : State) (v : List ℕ)
    (within : s.place ≤ limit) (inside : s.place < length x.haystack) (low : slice_index x.haystack s.place < 128) where
  abbrev IsNear : State → Type 0
  IsNear t = t.place ≤ s.place + 1

  one_near : (at n : ℕ) → IsOneItem (instr_at code at) → (w : List Raw) → run x limit code n at s v ≡ Some w → EachOutcome IsNear (erase w)
  one_near at n one w e =
      let past = past_part x (instr_at code at) s.place in
      subst (EachOutcome IsNear) (sym (run_one x limit code matching s v at within one n w e)) (moved IsNear limit s past (λ end is. near_read x (instr_at code at) s.place end inside low is))

  are_near : (k at n : ℕ) → EachReadsOne code k at → (w : List Raw) → run x limit code n at s v ≡ Some w → EachOutcome IsNear (erase w)
  are_near zero at n one w e = one_near at n one w e
  are_near (suc k) at zero t w e = cc
  are_near (suc k) at (suc n) t w e =
      by (run x limit code n t.0 s v) (run x limit code n t.1 s v) (one_near t.0 n t.3) (are_near k t.1 n t.4) (met (instr_at code at) t.2 e) where
        met : (i : Instruction) → i ≡ Split t.0 t.1 → before (Note fetched) (act x limit at i (run x limit code n) (run x (length x.haystack) code n) s v) ≡ Some w
            → before (Note fetched) (before (Note choice_opened) (join (run x limit code n t.0 s v) (run x limit code n t.1 s v))) ≡ Some w
        met i is e = rw is at e

        by : (o r : Option (List Raw)) → ((u : List Raw) → o ≡ Some u → EachOutcome IsNear (erase u)) → ((u : List Raw) → r ≡ Some u → EachOutcome IsNear (erase u))
            → before (Note fetched) (before (Note choice_opened) (join o r)) ≡ Some w → EachOutcome IsNear (erase w)
        by None r first second e = cc
        by (Some a) None first second e = cc
        by (Some a) (Some b) first second e =
            subst (λ (u : List Raw). EachOutcome IsNear (erase u)) (same_Some (Note fetched ∷ Note choice_opened ∷ (a ++ Note returned ∷ b)) w e)
            (each-append IsNear a (Note returned ∷ b) (first a refl) (second b refl))

-- what holds of each outcome holds of the first that is accepted
first_holds : (test : State → Bool) (P : State → Type 0) (es : List Event) (s : State) → EachOutcome P es → first_one (filter test (outcomes_in es)) ≡ Some s → P s
first_holds test P [] s all e = cc
first_holds test P (mark ∷ es) s all e = first_holds test P es s all e
first_holds test P (return ∷ es) s all e = first_holds test P es s all e
first_holds test P (outcome t ∷ es) s all e = by (test t) (first_holds test P es s all.1) e where
  by : (b : Bool) → (first_one (filter test (outcomes_in es)) ≡ Some s → P s) → first_one (cond b (t ∷ filter test (outcomes_in es)) (filter test (outcomes_in es))) ≡ Some s → P s
  by true later e = subst P (same_Some t s e) all.0
  by false later e = later e

attempt_holds : (q : Query) (p : ℕ) (P : State → Type 0) (a : Answer) → q.sought.longest ≡ false → EachOutcome P (trace_at q p) → attempt q p ≡ Some a → P a.state
unfolding answer_at outcomes
attempt_holds q p P a short all e = first_holds (accepted q p) P (trace_at q p) a.state all (sym (if_false q.sought.longest _ _ short) ∙ (attempt_some q p a e).0)

pub ends_by_one : (s : Program) → program_is_easy s ≡ true → AreOneItems (instrs_of s.code) s.code.start → EndsByOne s
ends_by_one s easy ones = record {
  easy = easy;
  ends = λ haystack request on p a inside within low found.
      (let q = asked_of s haystack request on in
      let v = replicate s.code.groups 0 in
      ∥∥₁_elim s.compiled (hlevel props)
      (λ compiled.
      (let g = program_gives (context_of q) q.request.range_end q.sought.pattern s.code compiled.coded (sym s.meant) inside (initial q p) v (omega (arith, within)) (length-replicate s.code.groups 0) in
      let near = are_near (context_of q) q.request.range_end (instrs_of s.code) (get_or_from_slice_get (instrs_of s.code) 0 Match Fail compiled.coded.matching) (initial q p) v (omega (arith, within)) (omega (arith, within, inside)) low
      ones.0 s.code.start (depth (length q.haystack) q.sought.pattern + 1) ones.1 g.0 g.1 in
      attempt_holds q p (λ t. t.place ≤ p + 1) a (parts_of_easy _ _ _ easy).2 (subst (EachOutcome (λ t. t.place ≤ p + 1)) g.2 near) found)));
}
