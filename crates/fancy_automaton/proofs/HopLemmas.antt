-- The inner loop of a search: a step that the table tells.
use Rattle.std.proofs.Common.{◌≡◌, ℕ, suc, ◌+◌, ◌<◌, true, Option, None, Some, sym, ap, ◌∙◌, arith}
use Rattle.std.specs.Prelude.{slice_get}
use Rattle.fancy_input.specs.declared.span.Span.{Span}
use Rattle.fancy_code.specs.declared.attempt.Attempt.{Attempt}
use Rattle.fancy_code.specs.Attempt.{context_in, instrs_in, may_end_in}
use Rattle.fancy_meaning.specs.Context.{Context}
use Rattle.fancy_input.specs.Lines.{byte_before}
use Rattle.fancy_meaning.proofs.ReadingLemmas.{low_unit}
use Rattle.fancy_states.specs.Cells.{row_if}
use Rattle.fancy_alphabet.specs.Classes.{AreClasses, IsStart, member_for, row_start, sight_for}
use Rattle.fancy_alphabet.specs.Sides.{IsBefore, seen_as, side_of}
use Rattle.fancy_alphabet.specs.declared.side.Side.{Side}
use Rattle.fancy_alphabet.specs.declared.classes.Classes.{Classes}
use Rattle.fancy_states.specs.Search.{IsFollowed, Steady}
use Rattle.fancy_automaton.specs.Told.{Sees}
use Rattle.fancy_states.proofs.CellLemmas.{get_within}
use Rattle.fancy_alphabet.proofs.SideLemmas.{low_side_before}
use Rattle.fancy_alphabet.proofs.SightLemmas.{like_ascii}

-- after an ASCII character a match may begin and end too
pub ascii_leads : (a : Attempt) (p byte : ℕ) → p < a.last → byte < 128 → slice_get a.haystack.now p ≡ Some byte → Steady a → may_end_in a p ≡ true → may_end_in a (p + 1) ≡ true
ascii_leads a p byte before low here steady good =
    (steady p (record { code = byte; width = 1 }) (omega (arith, before)) good (low_unit a.code.now.meaning a.haystack.now p byte low here)).1

-- where the columns of a row begin after an ASCII character
pub start_after : (a : Attempt) (classes : Classes) (p byte row start : ℕ) → AreClasses classes (instrs_in a) → byte < 128 → slice_get a.haystack.now p ≡ Some byte
    → start ≡ row_start classes row (seen_as classes.tests (side_of (member_for classes byte))) → IsStart (context_in a) (p + 1) classes row start
start_after a classes p byte row start are low here is =
    let next : p + 1 ≡ suc p = omega arith in (
      side_of byte,
      low_side_before (context_in a) (p + 1) byte low (ap (byte_before a.haystack.now) next ∙ here),
      is ∙ ap (row_start classes row) (sym (are.sides byte low)),
    )

-- where those of the row of a place begin
pub row_starts : (x : Context) (p : ℕ) (classes : Classes) (found : Option Span) (next begun ahead opened : ℕ) → IsStart x p classes next ahead → IsStart x p classes begun opened
    → IsStart x p classes (row_if found next begun) (row_if found ahead opened)
row_starts x p classes None next begun ahead opened waits opens = opens
row_starts x p classes (Some s) next begun ahead opened waits opens = waits

-- what has a column is an ASCII character
pub column_low : (classes : Classes) (byte c : ℕ) → slice_get classes.columns.items byte ≡ Some c → byte < 128
column_low classes byte c there =
    let within = get_within classes.columns.items byte c there in
    omega (arith, within, classes.ascii)

-- an ASCII character is read
pub sees_ascii : (a : Attempt) (classes : Classes) (p byte c : ℕ) (s : Side) → IsFollowed a → AreClasses classes (instrs_in a) → IsBefore (context_in a) p s → p < a.last
    → slice_get a.haystack.now p ≡ Some byte → slice_get classes.columns.items byte ≡ Some c → may_end_in a p ≡ true
    → Sees a classes p (p + 1) (sight_for classes (seen_as classes.tests s) byte)
sees_ascii a classes p byte c s followed are stands before here column good =
    let low = column_low classes byte c column in
    let like = like_ascii a p classes are s byte stands low before here in
    record {
      like = like;
      width = sym like.width;
      forth = omega arith;
      within = omega (arith, before);
      good = ascii_leads a p byte before low here followed.steady good;
      begins = λ row start is. start_after a classes p byte row start are low here is;
    }
