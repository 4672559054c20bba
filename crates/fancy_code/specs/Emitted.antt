-- The instructions that were emitted so far.
use Rattle.std.specs.Prelude.{◌≡◌, ℕ, ◌+◌, ◌*◌, ◌≤◌, true, List, length}
use Rattle.fancy_code.specs.declared.emitter.Emitter.{Emitter}
use Rattle.fancy_code.specs.declared.code.Instr.{Instr}
use Rattle.fancy_code.specs.Instructions.{Instruction, with_set, with_sets}
use Rattle.fancy_tree.specs.declared.tree.Meaning.{Meaning}
use Rattle.fancy_tree.specs.Pattern.{Pattern}
use Rattle.fancy_code.specs.declared.code.Entry.{Entry}
use Rattle.fancy_code.specs.Compile.{Keeps, Has, HasBoth, Emitted, StaysEasy, is_easy_instr}
use Rattle.fancy_meaning.specs.Easy.{is_easy}
use Rattle.fancy_tree.specs.Sizes.{nodes}

-- each with the edges of its set
abbrev pub emitted : Emitter → List Instruction
emitted e = with_sets e.sets.items e.instrs.items

abbrev pub len_of : Emitter → ℕ
len_of e = length (emitted e)

-- one instruction with the edges of its set
abbrev pub instr_by : Emitter → Instr → Instruction
instr_by e i = with_set e.sets.items i

-- What was emitted before stands as it was, and no more than so many instructions stand after it.
abbrev pub Appends : ℕ → Emitter → Emitter → Type 0
Appends most before after = Keeps (emitted before) (emitted after) × len_of before ≤ len_of after × len_of after ≤ len_of before + most

-- one instruction stands at q, after those before, which stay as they were
pub record Puts (i : Instruction) (before after : Emitter) (q : ℕ) : Type 0 where
  pub at : q ≡ len_of before
  pub length : len_of after ≡ len_of before + 1
  pub kept : Keeps (emitted before) (emitted after)
  pub stands : Has (emitted after) q i
  pub easy : is_easy_instr i ≡ true → StaysEasy (emitted before) (emitted after)

-- the same for both forms
pub record PutsShared (i : Instruction) (before after : Emitter) (entry : Entry) : Type 0 where
  pub put : Puts i before after entry.moved
  pub still : entry.still ≡ entry.moved

-- one instruction for each form stands at the entry, after those before, which stay as they were
pub record PutsBoth (moved still : Instruction) (before after : Emitter) (entry : Entry) : Type 0 where
  pub moved_at : entry.moved ≡ len_of before
  pub still_at : entry.still ≡ len_of before + 1
  pub length : len_of after ≡ len_of before + 2
  pub kept : Keeps (emitted before) (emitted after)
  pub stands : HasBoth (emitted after) entry moved still
  pub easy : is_easy_instr moved ≡ true → is_easy_instr still ≡ true → StaysEasy (emitted before) (emitted after)

-- The code of the pattern, which goes on at `next`, begins at the entry. It stands after what was emitted before, with at most four
-- instructions for each node, and is easy where the pattern is.
pub record Emits (meaning : Meaning) (p : Pattern) (before after : Emitter) (next entry : Entry) : Type 0 where
  pub means : Emitted meaning p (len_of before) (emitted after) next entry
  pub grows : Appends (4 * nodes p) before after
  pub easy : is_easy p ≡ true → StaysEasy (emitted before) (emitted after)
