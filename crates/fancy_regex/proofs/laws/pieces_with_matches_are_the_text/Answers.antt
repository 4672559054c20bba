use Rattle.std.proofs.Common.{arith, ℕ, true, length, List}
use Rattle.fancy_input.specs.Requests.{whole}
use Rattle.fancy_core.specs.Pieces.{AreBetween}
use Rattle.fancy_core.specs.Splits.{match_spans}
use Rattle.fancy_core.specs.declared.regex.Regex.{Regex}
use Rattle.fancy_core.proofs.PieceLemmas.{rejoin, between_first, matches_between}
use Rattle.fancy_search.proofs.ScanLemmas.{scan_sound}
use Rattle.fancy_regex.proofs.laws.pieces_with_matches_are_the_text.Goals as goal

spans_between : (regex : Regex) (t : List ℕ) → AreBetween 0 (length t) (match_spans regex t)
spans_between regex t = matches_between _ 0 (scan_sound regex.program true t (whole t) (omega arith)) (omega arith)

pub returns-clause-all : goal.returns-clause-all
returns-clause-all c = rejoin _ _ (spans_between c.args._regex.now c.args._text.now)

pub returns-clause-first : goal.returns-clause-first
returns-clause-first c = λ n. rejoin _ _ (between_first n _ _ _ (spans_between c.args._regex.now c.args._text.now))
