-- Instructions as the definitions have them: a set stands in its instruction by its edges.
use Rattle.std.specs.Prelude.{ℕ, ◌&&◌, Bool, true, List, [], ◌∷◌, map, nat_lt, slice_index_or}
use Rattle.fancy_tree.specs.declared.char_set.CharSet.{CharSet}
use Rattle.fancy_tree.specs.declared.tree.Assertion.{Assertion}
use Rattle.fancy_tree.specs.Members.{edges_of}
use Rattle.fancy_code.specs.declared.code.Instr.{Instr}
use Rattle.fancy_code.specs.declared.code.Instr.TheVariants as coded

-- one for each variant of `Instr`, where a comment says what it does; the last numbers are the instructions that follow
pub data Instruction : Type 0 where
  Match : Instruction
  Fail : Instruction
  Character : ℕ → ℕ → Instruction
  -- one item of the set by these edges
  Member : List ℕ → ℕ → Instruction
  RawByte : ℕ → ℕ → Instruction
  Assert : Assertion → ℕ → Instruction
  Split : ℕ → ℕ → Instruction
  Open : ℕ → ℕ → Instruction
  Close : ℕ → ℕ → Instruction
  Enter : ℕ → Instruction
  Commit : ℕ → Instruction
  Look : Bool → ℕ → ℕ → Instruction
  Deny : Bool → ℕ → ℕ → Instruction
  Test : ℕ → ℕ → Instruction
  Back : ℕ → ℕ → Instruction
  Recall : Bool → ℕ → ℕ → ℕ → Instruction
  Keep : ℕ → Instruction
  Continue : ℕ → Instruction
  Taken : ℕ → ℕ → Instruction

-- the numbers at which a set begins and ends in turn
abbrev pub edges_in : CharSet → List ℕ
edges_in s = edges_of s.set

-- the edges of the set with this number
abbrev pub edges_at : List CharSet → ℕ → List ℕ
edges_at sets n = slice_index_or (map edges_in sets) n []

-- the instruction with the edges of its set in place of the set's number
abbrev pub with_set : List CharSet → Instr → Instruction
with_set sets coded.Match = Match
with_set sets coded.Fail = Fail
with_set sets (coded.Character c next) = Character c next
with_set sets (coded.Member set next) = Member (edges_at sets set) next
with_set sets (coded.RawByte byte next) = RawByte byte next
with_set sets (coded.Assert a next) = Assert a next
with_set sets (coded.Split a b) = Split a b
with_set sets (coded.Open group next) = Open group next
with_set sets (coded.Close group next) = Close group next
with_set sets (coded.Enter body) = Enter body
with_set sets (coded.Commit next) = Commit next
with_set sets (coded.Look behind body next) = Look behind body next
with_set sets (coded.Deny behind body next) = Deny behind body next
with_set sets (coded.Test body other) = Test body other
with_set sets (coded.Back n next) = Back n next
with_set sets (coded.Recall folded number moved still) = Recall folded number moved still
with_set sets (coded.Keep next) = Keep next
with_set sets (coded.Continue next) = Continue next
with_set sets (coded.Taken number next) = Taken number next

abbrev pub with_sets : List CharSet → List Instr → List Instruction
with_sets sets code = map (with_set sets) code

-- the set of the instruction, if it has one, is among the first n
abbrev pub is_known : ℕ → Instr → Bool
is_known n coded.Match = true
is_known n coded.Fail = true
is_known n (coded.Character c next) = true
is_known n (coded.Member set next) = nat_lt set n
is_known n (coded.RawByte byte next) = true
is_known n (coded.Assert a next) = true
is_known n (coded.Split a b) = true
is_known n (coded.Open group next) = true
is_known n (coded.Close group next) = true
is_known n (coded.Enter body) = true
is_known n (coded.Commit next) = true
is_known n (coded.Look behind body next) = true
is_known n (coded.Deny behind body next) = true
is_known n (coded.Test body other) = true
is_known n (coded.Back k next) = true
is_known n (coded.Recall folded number moved still) = true
is_known n (coded.Keep next) = true
is_known n (coded.Continue next) = true
is_known n (coded.Taken number next) = true

abbrev pub are_known : ℕ → List Instr → Bool
are_known n [] = true
are_known n (i ∷ code) = is_known n i && are_known n code
