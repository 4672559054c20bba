use Rattle.fancy_search.proofs.MatchListLemmas.{matches_in_order, matches_count}
use Rattle.fancy_search.proofs.ScanLemmas.{scan_sound}
use Rattle.fancy_regex.proofs.laws.ends_increase.Goals as goal

pub returns-clause-order : goal.returns-clause-order
returns-clause-order g c = matches_in_order _ _ (scan_sound c.args._regex.now.program _ _ c.args._input.now.request c.args._input.now.inside)

pub returns-clause-count : goal.returns-clause-count
returns-clause-count g c = matches_count _ _ (scan_sound c.args._regex.now.program _ _ c.args._input.now.request c.args._input.now.inside)
