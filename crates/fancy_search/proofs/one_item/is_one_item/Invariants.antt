use Rattle.fancy_code.specs.Code.{instrs_of}
use Rattle.fancy_search.specs.OneItem.{AreOneItems}
use Rattle.fancy_search.proofs.one_item.is_one_item.Given as goal

-- what is left to see
abbrev pub invariant-ways : goal.invariant-ways
invariant-ways l = AreOneItems (instrs_of l.code) l.at → AreOneItems (instrs_of l.code) l.code.start
