use Rattle.std.proofs.Common.{arith, eq-eqb}
use Rattle.fancy_regex.proofs.CandidateLemmas.{none_of_zero, all_clear}
use Rattle.fancy_regex.proofs.set.candidates.Groups.is_empty.Goals as goal

pub returns : goal.returns
returns c = (λ is. none_of_zero c.args.self is, λ none. eq-eqb _ 0 (all_clear c.args.self.bits (omega arith) none))
