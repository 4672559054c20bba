-- Classes of ASCII characters.
use Rattle.std.proofs.Common.{◌≡◌, ℕ, ◌+◌, ◌*◌, ◌<◌, inl, inr, ◌∙◌, List, [], length, Option, Some, refl, sym, ap, ap₂, subst, slice_get, get_or, arith, ◌≤◌}
use Rattle.std.proofs.lemmas.Option.{get_or_from_slice_get, slice_get_cases, slice_get_past}
use Rattle.std.proofs.Math.Nat.{mul-le-mul_right}
use Rattle.fancy_code.specs.Instructions.{Instruction}
use Rattle.fancy_code.specs.Run.{instr_at}
use Rattle.fancy_alphabet.specs.Effects.{effect_of}
use Rattle.fancy_alphabet.specs.declared.side.Tests.{Tests}
use Rattle.fancy_alphabet.specs.declared.side.Tests.TheVariants as tests
use Rattle.fancy_meaning.specs.declared.reading.Reading.{Reading}
use Rattle.fancy_alphabet.specs.Classes.{AreClasses, IsColumn, first_of, member_for, member_in, member_or, sight_of}
use Rattle.fancy_alphabet.specs.Sides.{AreToldBy, number_of, seen_as, side_of, sides_of}
use Rattle.fancy_alphabet.specs.Sights.{ascii, seen_in}
use Rattle.fancy_alphabet.specs.declared.classes.Classes.{Classes}
use Rattle.fancy_alphabet.specs.declared.side.Side.{Side}
use Rattle.fancy_alphabet.specs.declared.sight.Sight.{Sight}
use Rattle.fancy_alphabet.proofs.NumberLemmas.{number_low, sides_low}

-- the column of a character that stands for its class
pub column_is : (classes : Classes) (s : Sight) (byte c : ℕ) → slice_get classes.columns.items byte ≡ Some c → member_for classes byte ≡ byte
    → s.reading ≡ Some (ascii byte) → s.after ≡ seen_as classes.tests (side_of byte) → number_of s.before < sides_of classes.tests
    → IsColumn classes s (first_of classes s.before + c)
column_is classes s byte c here own read after side = record {
  class = c;
  known = classes.known byte c here;
  side = side;
  sight = ap₂ (λ (a : Side) (r : Option Reading). (let t : Sight = record { before = s.before; after = a; reading = r } in t)) after read
      ∙ ap (sight_of classes s.before) (sym own ∙ ap (λ (o : Option ℕ). member_or classes o byte) here);
  column = refl;
}

-- where no character has a class and all sides are told apart, each code is treated so
pub no_classes : (classes : Classes) (code : List Instruction) → classes.columns.items ≡ [] → classes.tests ≡ tests.All → AreClasses classes code
no_classes classes code none all = record {
  tests = subst (λ (t : Tests). AreToldBy t code) (sym all) (λ q a next e before after. refl);
  sides = λ byte low. ap (λ (o : Option ℕ). seen_as classes.tests (side_of (member_or classes o byte))) (sym (ap (λ (cs : List ℕ). slice_get cs byte) none));
  members = λ before byte low q.
      ap (λ (o : Option ℕ). effect_of (seen_in (sight_of classes before (member_or classes o byte))) (instr_at code q)) (sym (ap (λ (cs : List ℕ). slice_get cs byte) none));
}

-- a character past the columns stands for itself
pub member_past : (columns members : List ℕ) (byte : ℕ) → length columns ≤ byte → member_in members (slice_get columns byte) byte ≡ byte
member_past columns members byte past = ap (λ (o : Option ℕ). member_in members o byte) (slice_get_past columns byte past)

-- the member of its class stands for another one
pub member_low : (columns members : List ℕ) (byte : ℕ) → byte < length columns
    → member_in members (slice_get columns byte) byte ≡ get_or members (get_or columns byte 0) 0
member_low columns members byte low =
    elim (slice_get_cases columns byte).1 [
      | inl here ↦ ap (λ (o : Option ℕ). member_in members o byte) here.2
          ∙ ap (λ (k : ℕ). get_or members k 0) (sym (get_or_from_slice_get columns byte here.0 0 here.2))
      | inr past ↦ absurd (omega (arith, past.0, low))
    ]

-- a row of the table is not far
pub row_low : (classes : Classes) (row : ℕ) → row < 65536 → row * classes.width ≤ 50331648
row_low classes row low =
    let w = length classes.members.items in
    let sides : sides_of classes.tests * w ≤ 6 * w = mul-le-mul_right w (sides_low classes.tests) in
    let rows : row * classes.width ≤ 65536 * classes.width = mul-le-mul_right classes.width (omega (arith, low)) in
    omega (arith, sides, rows, classes.wide, classes.few)

-- nor is a column
pub first_low : (classes : Classes) (side : Side) → first_of classes side ≤ 640
first_low classes side =
    let w = length classes.members.items in
    let sides : number_of side * w ≤ 5 * w = mul-le-mul_right w (number_low side) in
    omega (arith, sides, classes.few)
