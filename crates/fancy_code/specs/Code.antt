-- The instructions of a code.
use Rattle.std.specs.Prelude.{◌≡◌, ℕ, Bool, List, Option, length, slice_index_or}
use Rattle.fancy_tree.specs.declared.tree.Meaning.{Meaning}
use Rattle.fancy_prefilter.specs.declared.prefilter.Prefilter.{Prefilter}
use Rattle.fancy_code.specs.declared.code.Code.{Code}
use Rattle.fancy_code.specs.declared.code.Instr.{Instr}
use Rattle.fancy_code.specs.CodeLength.{code_len}
use Rattle.fancy_code.specs.Instructions.{Instruction, edges_at, with_set, with_sets}
use Rattle.fancy_code.specs.Marking.{Marks, number_in, due_in, worth_in, cost_in, sum_to, marks, sum_owed}

-- each with the edges of its set
abbrev pub instrs_of : Code → List Instruction
instrs_of c = with_sets c.sets.items c.instrs.items

-- the code has these instructions, begins so, and tells by the prefilter where matches may begin
pub record IsMadeOf (is : List Instruction) (s g : ℕ) (m : Meaning) (f : Prefilter) (code : Code) : Type 0 where
  pub instrs : instrs_of code ≡ is
  pub start : code.start ≡ s
  pub groups : code.groups ≡ g
  pub meaning : code.meaning ≡ m
  pub prefilter : code.prefilter ≡ f

-- one instruction with the edges of its set
abbrev pub instr_in : Code → Instr → Instruction
instr_in c i = with_set c.sets.items i

abbrev pub sets_len : Code → ℕ
sets_len c = length c.sets.items

-- the edges of the set with this number
abbrev pub set_edges : Code → ℕ → List ℕ
set_edges c n = edges_at c.sets.items n

-- the number of an instruction's mark, among those of a place
abbrev pub number_of : Code → ℕ → Option ℕ
number_of c q = number_in c.marking.numbers.items q

-- how many marks a place has
abbrev pub width_of : Code → ℕ
width_of c = c.marking.width

-- the steps that an instruction stands for: its own, and those after it up to the next marks
abbrev pub weight_of : Code → ℕ → ℕ
weight_of c q = slice_index_or c.marking.weights.items q 0

-- what is due where a thread goes on at q
abbrev pub due_of : Code → ℕ → ℕ
due_of c q = due_in c.marking.numbers.items c.marking.weights.items q

-- what is due where an instruction leads on
abbrev pub cost_of : Code → Instruction → ℕ
cost_of c i = cost_in c.marking.numbers.items c.marking.weights.items i

-- the pairs that were marked in a table
abbrev pub marks_of : Code → List Bool → Marks
marks_of c table = marks c.marking.numbers.items c.marking.width table

-- what the marks are worth that were not made, in a table of so many places
abbrev pub owed_of : Code → ℕ → List Bool → ℕ
owed_of c rows table = sum_owed c.marking.numbers.items c.marking.weights.items c.marking.width (code_len c) rows table

-- what the marks of a place are worth
abbrev pub worth_of : Code → ℕ
worth_of c = sum_to (worth_in c.marking.numbers.items c.marking.weights.items) (code_len c)
