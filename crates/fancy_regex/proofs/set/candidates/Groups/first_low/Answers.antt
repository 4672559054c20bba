use Rattle.std.proofs.Common.{arith}
use Rattle.fancy_regex.proofs.CandidateLemmas.{past_the_last, none_after, first_low}
use Rattle.fancy_regex.proofs.set.candidates.Groups.first_low.Goals as goal

pub returns-then-from-ge64 : goal.returns-then-from-ge64
returns-then-from-ge64 c = past_the_last c.args.self 64 c.args.from c.requires.low (omega arith)

pub returns-then-rest-eq0 : goal.returns-then-rest-eq0
returns-then-rest-eq0 c = none_after c.args.self c.args.from (omega arith)

pub returns : goal.returns
returns c = first_low c.args.self c.args.from c.requires.low (omega arith) (omega arith)
