-- What an attempt sees: its text, its instructions, and where a match may stand.
use Rattle.std.specs.Prelude.{ℕ, Bool, List}
use Rattle.fancy_code.specs.Instructions.{Instruction}
use Rattle.fancy_code.specs.declared.attempt.Attempt.{Attempt}
use Rattle.fancy_code.specs.Code.{instrs_of}
use Rattle.fancy_meaning.specs.Context.{Context}
use Rattle.fancy_meaning.specs.Reading.{search_context}
use Rattle.fancy_meaning.specs.Search.{is_match_boundary}

module _ (a : Attempt) where
  -- what the code sees; easy code has no `\G`, which would hold where the table begins
  abbrev pub context_in : Context
  context_in = search_context a.haystack.now a.code.now.meaning a.suppressed a.base

  abbrev pub instrs_in : List Instruction
  instrs_in = instrs_of a.code.now

  -- a match may begin or end at a place
  abbrev pub may_end_in : ℕ → Bool
  may_end_in = is_match_boundary a.on_boundaries a.haystack.now
