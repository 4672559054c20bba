use Rattle.fancy_regex.proofs.EndLemmas.{last_start_finds_none}
use Rattle.fancy_search.proofs.ScanLemmas.{scan_sound}
use Rattle.fancy_regex.proofs.laws.last_search_finds_none.Goals as goal

pub returns : goal.returns
returns g c = last_start_finds_none _ _ (scan_sound c.args._regex.now.program _ _ c.args._input.now.request c.args._input.now.inside)
