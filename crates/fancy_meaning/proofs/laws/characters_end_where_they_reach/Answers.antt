use Rattle.fancy_meaning.proofs.ReachLemmas.{reaches_of, ends_of}
use Rattle.fancy_meaning.proofs.laws.characters_end_where_they_reach.Goals as goal

pub returns : goal.returns
returns c haystack p d = (reaches_of haystack p d, ends_of haystack p d)
