-- Which code the automaton follows.
use Rattle.std.specs.Prelude.{◌≡◌, ℕ, true}
use Rattle.fancy_states.specs.Futures.{is_plain_instr}
use Rattle.fancy_code.specs.declared.code.Code.{Code}
use Rattle.fancy_code.specs.Code.{instrs_of}
use Rattle.fancy_code.specs.Run.{instr_at}

-- an automaton follows each instruction of the code
abbrev pub FollowsEach : Code → Type 0
FollowsEach code = (at : ℕ) → is_plain_instr (instr_at (instrs_of code) at) ≡ true
