-- The alternatives that the code of a pattern opens with, and which of them may match where some bytes stand.
use Rattle.std.specs.Prelude.{◌≡◌, ℕ, ◌+◌, ◌<◌, ◌≤◌, ◌⊎◌, List, [], ◌∷◌, length, Option, Some, None, slice_index}
use Rattle.fancy_tree.specs.declared.tree.Assertion.{Assertion}
use Rattle.fancy_tree.specs.declared.tree.Meaning.{Meaning}
use Rattle.fancy_prefilter.specs.Keys.{AreBelow}
use Rattle.fancy_prefilter.specs.KeyTables.{MayStand}
use Rattle.fancy_meaning.specs.Context.{Context, State}
use Rattle.fancy_code.specs.Instructions.{Instruction, Assert, Split, Open}
use Rattle.fancy_code.specs.Marking.{due_in}
use Rattle.fancy_code.specs.Run.{Foretells, instr_at, run}
use Rattle.fancy_code.specs.Texts.{AreTexts}
use Rattle.fancy_prefilter.specs.declared.branches.Branches.{Branches}
use Rattle.fancy_prefilter.specs.declared.branches.Lead.{Lead}

-- A test of the place leads from q to the next instruction. Without one these are the same.
abbrev pub TestsTo : List Instruction → Option Assertion → ℕ → ℕ → Type 0
TestsTo code None q next = q ≡ next
TestsTo code (Some test) q next = instr_at code q ≡ Assert test next

-- The start of a group leads from q to the next instruction. Without one these are the same.
abbrev pub OpensTo : List Instruction → Option ℕ → ℕ → ℕ → Type 0
OpensTo code None q next = q ≡ next
OpensTo code (Some group) q next = instr_at code q ≡ Open group next

-- from q on the code has what comes before its alternatives
abbrev pub HasLead : List Instruction → ℕ → Lead → Type 0
HasLead code q lead = (next : ℕ) × TestsTo code lead.test q next × OpensTo code lead.group next lead.at

-- From q on the code chooses among these instructions, in order of preference: each but the last is the first way of a split, whose second way chooses among those after it.
abbrev pub Chooses : List Instruction → ℕ → List ℕ → Type 0
Chooses code q [] = ⊥
Chooses code q (h ∷ hs) = ((hs ≡ []) × (q ≡ h)) ⊎ ((next : ℕ) × (instr_at code q ≡ Split h next) × Chooses code next hs)

-- the first ways of the splits from q on, up to an instruction
abbrev pub SplitsTo : List Instruction → ℕ → List ℕ → ℕ → Type 0
SplitsTo code q [] at = q ≡ at
SplitsTo code q (h ∷ hs) at = (next : ℕ) × (instr_at code q ≡ Split h next) × SplitsTo code next hs at

-- what is due where a thread goes on at each of these
abbrev pub dues_in : List (Option ℕ) → List ℕ → List ℕ → ℕ
dues_in numbers weights [] = 0
dues_in numbers weights (h ∷ hs) = due_in numbers weights h + dues_in numbers weights hs

-- The table has numbers of alternatives alone, and each has a text. All of them together are due no more than the start is.
pub record ArePaid (b : Branches) (numbers : List (Option ℕ)) (weights : List ℕ) (start : ℕ) : Type 0 where
  pub below : AreBelow b.table.members.items (length b.heads.items)
  pub texts : length b.texts.items ≡ length b.heads.items
  pub paid : dues_in numbers weights b.heads.items ≤ due_in numbers weights start

-- The code opens with these alternatives, after what comes before them all, and they begin with these texts. Where one may not match by
-- the table, no way of it stops.
pub record AreBranches (b : Branches) (code : List Instruction) (meaning : Meaning) (start : ℕ) : Type 0 where
  pub leads : HasLead code start b.lead
  pub chooses : Chooses code b.lead.at b.heads.items
  pub told : (number : ℕ) → number < length b.heads.items → (x : Context) (limit n : ℕ) (s : State) (v : List ℕ) → x.meaning ≡ meaning
      → ((k : ℕ) → slice_index x.haystack k < 256) → ¬ MayStand b.table x.haystack limit s.place number
      → Foretells ⊥ (run x limit code n (slice_index b.heads.items number) s v)
  pub texts : AreTexts code meaning b.heads.items b.texts.items
