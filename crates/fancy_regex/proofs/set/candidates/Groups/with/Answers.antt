use Rattle.fancy_regex.proofs.CandidateLemmas.{one_more_there}
use Rattle.fancy_regex.proofs.set.candidates.Groups.with.Goals as goal

pub returns : goal.returns
returns c = one_more_there c.args.self.bits c.args.group c.requires
