use Rattle.std.proofs.Common.{arith}
use Rattle.fancy_regex.proofs.CandidateLemmas.{past_the_last, none_after, first_there}
use Rattle.fancy_regex.proofs.set.candidates.Groups.first_from.Goals as goal

pub returns-then-from-ge128 : goal.returns-then-from-ge128
returns-then-from-ge128 c = past_the_last c.args.self 128 c.args.from (omega arith) (omega arith)

pub returns-then-rest-eq0 : goal.returns-then-rest-eq0
returns-then-rest-eq0 c = none_after c.args.self c.args.from (omega arith)

pub returns : goal.returns
returns c = first_there c.args.self c.args.from (omega arith) (omega arith) (omega arith)
