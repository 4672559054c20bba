-- The item that code opens with, and attempts of which it is told that they find nothing.
use Rattle.std.specs.Prelude.{◌≡◌, ℕ, ◌<◌, Bool, List, Option, Some, None}
use Rattle.fancy_code.specs.Instructions.{edges_in}
use Rattle.fancy_code.specs.declared.attempt.Attempt.{Attempt}
use Rattle.fancy_code.specs.declared.code.Code.{Code}
use Rattle.fancy_code.specs.Branches.{OpensTo}
use Rattle.fancy_code.specs.Code.{instrs_of, number_of}
use Rattle.fancy_code.specs.CodeLength.{code_len}
use Rattle.fancy_code.specs.Instructions.{Member}
use Rattle.fancy_code.specs.Run.{instr_at}
use Rattle.fancy_runner.specs.declared.first_item.FirstItem.{FirstItem}
use Rattle.fancy_runner.specs.Attempt.{begins_in, first_accepted_in, KnownIn, AllFailedIn}

-- The code reads a member of the set first, after the start of a group or not, and the instruction after it has this mark.
pub record OpensWith (code : Code) (item : FirstItem) : Type 0 where
  pub group : Option ℕ
  pub at : ℕ
  pub next : ℕ
  pub opens : OpensTo (instrs_of code) group code.start at
  pub reads : instr_at (instrs_of code) at ≡ Member (edges_in item.set.now) next
  pub inside : next < code_len code
  pub marked : number_of code next ≡ Some item.number

-- an attempt at the place finds nothing, if no pair that was marked from there on gives an accepted outcome
abbrev pub FindsNone : Attempt → List Bool → ℕ → Type 0
FindsNone a table place = (kept deep : ℕ) → KnownIn a kept deep (begins_in a a.code.now.start place) → AllFailedIn a place deep table
    → first_accepted_in a kept deep (begins_in a a.code.now.start place) ≡ None
