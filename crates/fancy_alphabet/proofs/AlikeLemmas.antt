-- Which ASCII characters the code treats alike.
use Rattle.std.proofs.Common.{◌≡◌, ◌↔◌, ℕ, ◌+◌, ◌<◌, ◌≤◌, inl, inr, List, [], ◌∷◌, ◌++◌, Bool, true, false, refl, sym, ap, ap₂, ◌∙◌, subst, arith, length, get_or, true≢false}
use Rattle.std.specs.Prelude.{if◌then◌else◌}
use Rattle.std.proofs.Math.Seq.{get_or-append_seam}
use Rattle.std.proofs.lemmas.List.{get_or_append_left, length-append}
use Rattle.std.proofs.lemmas.Bool.Decides.{eqb_tells, leb_tells}
use Rattle.fancy_code.proofs.RunMore.{past_end}
use Rattle.fancy_code.specs.Instructions.{Instruction, Match, Fail, Character, Member, RawByte, Assert, Split, Open, Close, Enter, Commit, Look, Deny, Test, Back, Recall, Keep, Continue, Taken}
use Rattle.fancy_code.specs.Run.{instr_at}
use Rattle.fancy_alphabet.specs.declared.classes.Classes.{Classes}
use Rattle.fancy_alphabet.specs.Alike.{AreSided, AreStanding, IsApart, IsTestFor, Keeps, Respects, ascii_seen, is_character, is_marked, is_member}
use Rattle.fancy_alphabet.specs.Classes.{AreClasses, member_for}
use Rattle.fancy_alphabet.specs.Sides.{AreToldBy, holds_between, is_feed, is_nothing, is_return, is_worded, seen_as, side_of, wide_of}
use Rattle.fancy_alphabet.specs.Effects.{effect_of, moves_if, reads_if}
use Rattle.fancy_alphabet.specs.declared.side.Side.{Side}
use Rattle.fancy_alphabet.specs.declared.side.Side.TheVariants as side
use Rattle.fancy_alphabet.specs.declared.side.Tests.TheVariants as tests
use Rattle.fancy_alphabet.proofs.SideLemmas.{byte_is_something}

-- n entries, each of which has this to do with its number
pub record EachTo (P : ℕ → ℕ → Type 0) (n : ℕ) (xs : List ℕ) : Type 0 where
  pub size : length xs ≡ n
  pub each : (i : ℕ) → i < n → P i (get_or xs i 0)

-- n marks, each of which has this to do with its number
pub record EachMark (P : ℕ → Bool → Type 0) (n : ℕ) (marks : List Bool) : Type 0 where
  pub size : length marks ≡ n
  pub each : (i : ℕ) → i < n → P i (get_or marks i false)

pub mark_more : (P : ℕ → Bool → Type 0) (n : ℕ) (marks later : List Bool) (mark : Bool) → EachMark P n marks → later ≡ marks ++ mark ∷ [] → P n mark
    → EachMark P (n + 1) later
mark_more P n marks later mark all e this = record {
  size = ap length e ∙ length-append marks (mark ∷ []) ∙ ap (λ (k : ℕ). k + 1) all.size;
  each = λ i lt. subst (λ (xs : List Bool). P i (get_or xs i false)) (sym e) (
      elim (eqb_tells i n) [
        | inl same ↦ subst (λ (k : ℕ). P k (get_or (marks ++ mark ∷ []) k false)) (all.size ∙ sym same.1)
            (rw (get_or-append_seam marks mark [] false, all.size) this)
        | inr other ↦ rw (get_or_append_left marks (mark ∷ []) false i (omega (arith, lt, other.1, all.size))) (all.each i (omega (arith, lt, other.1)))
      ]);
}

-- what stands for a character where those that are marked are told from the others
pub record IsChosen (stands : List ℕ) (marks : List Bool) (byte member : ℕ) : Type 0 where
  pub ascii : member < 128
  pub kept : (test : ℕ → Bool) → Respects stands test → test byte ≡ test member
  pub told : is_marked marks byte ≡ is_marked marks member

-- a test that says the same of ASCII characters as one that is respected
pub respects_same : (stands : List ℕ) (test other : ℕ → Bool) → AreStanding stands → ((byte : ℕ) → byte < 128 → test byte ≡ other byte)
    → Respects stands test → Respects stands other
respects_same stands test other ascii same respects byte lt =
    sym (same byte lt) ∙ respects byte lt ∙ same (get_or stands byte 0) (ascii.ascii byte lt)

pub keeps_from : (stands before later : List ℕ) → stands ≡ before → Keeps stands later → Keeps before later
keeps_from stands before later e keeps = subst (λ (xs : List ℕ). Keeps xs later) e keeps

-- the test for what these marks are told to be
pub told_respects : (side : Side) (stands : List ℕ) (marks : List Bool) → AreStanding stands
    → ((byte : ℕ) → byte < 128 → (get_or marks byte false ≡ true) ↔ (side_of byte ≡ side)) → Respects stands (is_marked marks)
    → (test : ℕ → Bool) → IsTestFor side test → Respects stands test
told_respects side stands marks ascii told respects test tests =
    respects_same stands (is_marked marks) test ascii
    (λ byte lt. both_same (is_marked marks byte) (test byte) (λ on. (tests byte lt).1 ((told byte lt).0 on)) (λ on. (told byte lt).1 ((tests byte lt).0 on)))
    respects
  where
    both_same : (a b : Bool) → (a ≡ true → b ≡ true) → (b ≡ true → a ≡ true) → a ≡ b
    both_same true b to from = sym (to refl)
    both_same false true to from = from refl
    both_same false false to from = refl

-- tests for sides
pub test_of_word : IsTestFor side.Word (λ byte. is_worded (side_of byte))
test_of_word byte lt = (is (side_of byte), λ e. ap is_worded e) where
  is : (s : Side) → is_worded s ≡ true → s ≡ side.Word
  is side.Other e = absurd (true≢false (sym e))
  is side.Word e = refl
  is side.LineFeed e = absurd (true≢false (sym e))
  is side.CarriageReturn e = absurd (true≢false (sym e))
  is side.Edge e = absurd (true≢false (sym e))
  is side.Hidden e = absurd (true≢false (sym e))

pub test_of_feed : IsTestFor side.LineFeed (λ byte. is_feed (side_of byte))
test_of_feed byte lt = (is (side_of byte), λ e. ap is_feed e) where
  is : (s : Side) → is_feed s ≡ true → s ≡ side.LineFeed
  is side.Other e = absurd (true≢false (sym e))
  is side.Word e = absurd (true≢false (sym e))
  is side.LineFeed e = refl
  is side.CarriageReturn e = absurd (true≢false (sym e))
  is side.Edge e = absurd (true≢false (sym e))
  is side.Hidden e = absurd (true≢false (sym e))

pub test_of_return : IsTestFor side.CarriageReturn (λ byte. is_return (side_of byte))
test_of_return byte lt = (is (side_of byte), λ e. ap is_return e) where
  is : (s : Side) → is_return s ≡ true → s ≡ side.CarriageReturn
  is side.Other e = absurd (true≢false (sym e))
  is side.Word e = absurd (true≢false (sym e))
  is side.LineFeed e = absurd (true≢false (sym e))
  is side.CarriageReturn e = refl
  is side.Edge e = absurd (true≢false (sym e))
  is side.Hidden e = absurd (true≢false (sym e))

-- tests of words tell no more than whether a word character stands there
pub sided_by_words : (stands : List ℕ) → ((test : ℕ → Bool) → IsTestFor side.Word test → Respects stands test) → AreSided tests.Words stands
sided_by_words stands words byte lt =
    seen_by_word (side_of byte) ∙ ap wide_of (words (λ b. is_worded (side_of b)) test_of_word byte lt) ∙ sym (seen_by_word (side_of (get_or stands byte 0)))
  where
    seen_by_word : (s : Side) → seen_as tests.Words s ≡ wide_of (is_worded s)
    seen_by_word side.Other = refl
    seen_by_word side.Word = refl
    seen_by_word side.LineFeed = refl
    seen_by_word side.CarriageReturn = refl
    seen_by_word side.Edge = refl
    seen_by_word side.Hidden = refl

-- what something is that passes these tests
abbrev named : Bool → Bool → Bool → Side
named word feed return = if word then side.Word else (if feed then side.LineFeed else (if return then side.CarriageReturn else side.Other))

side_named : (s : Side) → is_nothing s ≡ false → s ≡ named (is_worded s) (is_feed s) (is_return s)
side_named side.Other e = refl
side_named side.Word e = refl
side_named side.LineFeed e = refl
side_named side.CarriageReturn e = refl
side_named side.Edge e = absurd (true≢false e)
side_named side.Hidden e = absurd (true≢false e)

-- an ASCII character is told by three tests
pub sided_by_all : (stands : List ℕ) → ((test : ℕ → Bool) → IsTestFor side.Word test → Respects stands test)
    → ((test : ℕ → Bool) → IsTestFor side.LineFeed test → Respects stands test)
    → ((test : ℕ → Bool) → IsTestFor side.CarriageReturn test → Respects stands test) → AreSided tests.All stands
sided_by_all stands words feeds returns byte lt =
    let member = get_or stands byte 0 in
    side_named (side_of byte) (byte_is_something byte)
    ∙ ap₂ (λ (w f : Bool). named w f (is_return (side_of byte))) (words (λ b. is_worded (side_of b)) test_of_word byte lt) (feeds (λ b. is_feed (side_of b)) test_of_feed byte lt)
    ∙ ap (named (is_worded (side_of member)) (is_feed (side_of member))) (returns (λ b. is_return (side_of b)) test_of_return byte lt)
    ∙ sym (side_named (side_of member) (byte_is_something member))

-- the test for a character that is marked
pub apart_respects : (marks : List Bool) (stands : List ℕ) (c : ℕ) → ((byte : ℕ) → byte < 128 → get_or stands byte 0 < 128)
    → ((byte : ℕ) → byte < 128 → IsApart marks byte (get_or stands byte 0)) → (c < 128 → get_or marks c false ≡ true) → Respects stands (is_character c)
apart_respects marks stands c ascii apart marked byte lt =
    elim (apart byte lt) [
      | inl same ↦ sym (ap (is_character c) same)
      | inr both ↦ not_it byte both.0 lt ∙ sym (not_it (get_or stands byte 0) both.1 (ascii byte lt))
    ] where
      not_it : (b : ℕ) → get_or marks b false ≡ false → b < 128 → is_character c b ≡ false
      not_it b free low =
          elim (eqb_tells b c) [
            | inl same ↦ (
                let on : get_or marks b false ≡ true = subst (λ (k : ℕ). get_or marks k false ≡ true) (sym same.1) (marked (omega (arith, low, same.1))) in
                let no : true ≡ false = sym on ∙ free in
                absurd (cc))
            | inr other ↦ other.0
          ]

-- the characters that instructions below n test for by themselves are marked
abbrev pub AloneBelow : List Instruction → ℕ → List Bool → Type 0
AloneBelow code n marks = (q : ℕ) → q < n → (c next : ℕ) → instr_at code q ≡ Character c next → c < 128 → get_or marks c false ≡ true

-- the sets of the instructions below n are respected
abbrev pub MembersBelow : List Instruction → ℕ → List ℕ → Type 0
MembersBelow code n stands = (q : ℕ) → q < n → (edges : List ℕ) (next : ℕ) → instr_at code q ≡ Member edges next → Respects stands (is_member edges)

pub members_more : (code : List Instruction) (n : ℕ) (stands later : List ℕ) → MembersBelow code n stands → Keeps stands later
    → ((edges : List ℕ) (next : ℕ) → instr_at code n ≡ Member edges next → Respects later (is_member edges)) → MembersBelow code (n + 1) later
members_more code n stands later below kept this q lt =
    elim (eqb_tells q n) [
      | inl same ↦ (λ edges next e. this edges next (ap (instr_at code) (sym same.1) ∙ e))
      | inr other ↦ (λ edges next e. kept (is_member edges) (below q (omega (arith, lt, other.1)) edges next e))
    ]

-- past the code nothing is tested for
pub alone_all : (code : List Instruction) (n : ℕ) (marks : List Bool) → length code ≤ n → AloneBelow code n marks
    → (q c next : ℕ) → instr_at code q ≡ Character c next → c < 128 → get_or marks c false ≡ true
alone_all code n marks all below q c next e low =
    elim (leb_tells n q) [
      | inl past ↦ absurd (fails (sym e ∙ past_end code q (omega (arith, all, past.1))))
      | inr here ↦ below q here.1 c next e low
    ] where
      fails : Character c next ≡ Fail → ⊥
      fails same = cc

pub members_all : (code : List Instruction) (n : ℕ) (stands : List ℕ) → length code ≤ n → MembersBelow code n stands
    → (q next : ℕ) (edges : List ℕ) → instr_at code q ≡ Member edges next → Respects stands (is_member edges)
members_all code n stands all below q next edges e =
    elim (leb_tells n q) [
      | inl past ↦ absurd (fails (sym e ∙ past_end code q (omega (arith, all, past.1))))
      | inr here ↦ below q here.1 edges next e
    ] where
      fails : Member edges next ≡ Fail → ⊥
      fails same = cc

-- a class whose member stands for a character
abbrev pub IsNumber : List ℕ → List ℕ → ℕ → ℕ → Type 0
IsNumber stands members byte class = (class < length members) × (get_or members class 0 ≡ get_or stands byte 0)

-- an instruction does the same where its test says the same, and the same stands beside the place
alike_by : (before after beside : Side) (i : Instruction) (a b : ℕ) → after ≡ beside → ((c next : ℕ) → i ≡ Character c next → is_character c a ≡ is_character c b)
    → ((edges : List ℕ) (next : ℕ) → i ≡ Member edges next → is_member edges a ≡ is_member edges b)
    → effect_of (ascii_seen before after a) i ≡ effect_of (ascii_seen before beside b) i
alike_by before after beside Match a b e f g = refl
alike_by before after beside Fail a b e f g = refl
alike_by before after beside (Character c next) a b e f g = ap (λ (t : Bool). reads_if t next) (f c next refl)
alike_by before after beside (Member edges next) a b e f g = ap (λ (t : Bool). reads_if t next) (g edges next refl)
alike_by before after beside (RawByte byte next) a b e f g = refl
alike_by before after beside (Assert x next) a b e f g = ap (λ (s : Side). moves_if (holds_between before s x) next) e
alike_by before after beside (Split x y) a b e f g = refl
alike_by before after beside (Open group next) a b e f g = refl
alike_by before after beside (Close group next) a b e f g = refl
alike_by before after beside (Enter body) a b e f g = refl
alike_by before after beside (Commit next) a b e f g = refl
alike_by before after beside (Look behind body next) a b e f g = refl
alike_by before after beside (Deny behind body next) a b e f g = refl
alike_by before after beside (Test body other) a b e f g = refl
alike_by before after beside (Back n next) a b e f g = refl
alike_by before after beside (Recall folded number moved still) a b e f g = refl
alike_by before after beside (Keep next) a b e f g = refl
alike_by before after beside (Continue next) a b e f g = refl
alike_by before after beside (Taken number next) a b e f g = refl

-- the classes of what stands for each character
pub classes_are : (code : List Instruction) (stands : List ℕ) (classes : Classes) → AreToldBy classes.tests code
    → ((q c next : ℕ) → instr_at code q ≡ Character c next → Respects stands (is_character c))
    → ((q next : ℕ) (edges : List ℕ) → instr_at code q ≡ Member edges next → Respects stands (is_member edges)) → AreSided classes.tests stands
    → ((byte : ℕ) → byte < 128 → member_for classes byte ≡ get_or stands byte 0) → AreClasses classes code
classes_are code stands classes told characters members sides low = record {
  tests = told;
  sides = λ byte lt. sides byte lt ∙ ap (λ (b : ℕ). seen_as classes.tests (side_of b)) (sym (low byte lt));
  members = λ before byte lt q.
      alike_by before (seen_as classes.tests (side_of byte)) (seen_as classes.tests (side_of (get_or stands byte 0))) (instr_at code q) byte (get_or stands byte 0)
      (sides byte lt) (λ c next e. characters q c next e byte lt) (λ edges next e. members q next edges e byte lt)
      ∙ ap (λ (b : ℕ). effect_of (ascii_seen before (seen_as classes.tests (side_of b)) b) (instr_at code q)) (sym (low byte lt));
}

-- the set of an instruction
pub member_edges : (a b : List ℕ) (m n : ℕ) → Member a m ≡ Member b n → a ≡ b
member_edges a b m n e = cc
