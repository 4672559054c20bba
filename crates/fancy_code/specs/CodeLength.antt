-- How much code a pattern has.
use Rattle.std.specs.Prelude.{ℕ, length}
use Rattle.fancy_code.specs.declared.code.Code.{Code}

-- how many instructions the code has
abbrev pub code_len : Code → ℕ
code_len c = length c.instrs.items
