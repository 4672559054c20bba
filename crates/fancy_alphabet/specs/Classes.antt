-- Classes of ASCII characters that each instruction of a code treats alike.
use Rattle.std.specs.Prelude.{◌≡◌, ◌+◌, ◌*◌, ◌<◌, ℕ, List, Option, None, Some, get_or, length, slice_get}
use Rattle.fancy_meaning.specs.Context.{Context}
use Rattle.fancy_code.specs.Instructions.{Instruction}
use Rattle.fancy_alphabet.specs.Alike.{IsAlike, ascii_seen}
use Rattle.fancy_alphabet.specs.Sides.{AreToldBy, IsBefore, number_of, seen_as, side_of, sides_of}
use Rattle.fancy_alphabet.specs.Sights.{ascii, seen_in}
use Rattle.fancy_alphabet.specs.declared.classes.Classes.{Classes}
use Rattle.fancy_alphabet.specs.declared.side.Side.{Side}
use Rattle.fancy_alphabet.specs.declared.sight.Sight.{Sight}

-- the first column of a side
abbrev pub first_of : Classes → Side → ℕ
first_of classes side = number_of side * length classes.members.items

-- where the columns begin of a row of the table, after a side
abbrev pub row_start : Classes → ℕ → Side → ℕ
row_start classes row side = row * classes.width + first_of classes side

-- where those of a row begin for what is told apart of what stands before a place
abbrev pub IsStart : Context → ℕ → Classes → ℕ → ℕ → Type 0
IsStart x p classes row start = (s : Side) × IsBefore x p s × (start ≡ row_start classes row (seen_as classes.tests s))

-- the character that stands for a class
abbrev pub member_of : Classes → ℕ → ℕ
member_of classes class = get_or classes.members.items class 0

abbrev pub member_in : List ℕ → Option ℕ → ℕ → ℕ
member_in members None byte = byte
member_in members (Some class) byte = get_or members class 0

abbrev pub member_or : Classes → Option ℕ → ℕ → ℕ
member_or classes o byte = member_in classes.members.items o byte

-- the character that stands for one: itself where it has no class
abbrev pub member_for : Classes → ℕ → ℕ
member_for classes byte = member_or classes (slice_get classes.columns.items byte) byte

-- an ASCII character after this side, with what is told apart of it
abbrev pub sight_of : Classes → Side → ℕ → Sight
sight_of classes before byte =
    record { before = before; after = seen_as classes.tests (side_of byte); reading = Some (ascii byte) }

-- what stands for an ASCII character after this side
abbrev pub sight_for : Classes → Side → ℕ → Sight
sight_for classes before byte = sight_of classes before (member_for classes byte)

-- The column of a character that stands for its class, after a side that is told apart.
pub record IsColumn (classes : Classes) (s : Sight) (k : ℕ) : Type 0 where
  pub class : ℕ
  pub known : class < length classes.members.items
  pub side : number_of s.before < sides_of classes.tests
  pub sight : s ≡ sight_of classes s.before (member_of classes class)
  pub column : k ≡ first_of classes s.before + class

-- The code treats each character of a class as it treats the one that stands for it, and tells no more apart beside a place.
-- Both are the same beside a place.
pub record AreClasses (classes : Classes) (code : List Instruction) : Type 0 where
  pub tests : AreToldBy classes.tests code
  pub sides : (byte : ℕ) → byte < 128
      → seen_as classes.tests (side_of byte) ≡ seen_as classes.tests (side_of (member_for classes byte))
  pub members : (before : Side) (byte : ℕ) → byte < 128
      → IsAlike code (ascii_seen before (seen_as classes.tests (side_of byte)) byte) (seen_in (sight_for classes before byte))
