use Rattle.std.proofs.Common.{◌≤◌}
use Rattle.fancy_regex.specs.Sets.{asked_of_set}
use Rattle.fancy_regex.proofs.TrialLemmas.{none_tried}
use Rattle.fancy_regex.proofs.set.RegexSet.tokens.Goals as goal

pub invariant_of-result-clause-known : goal.invariant_of-result-clause-known
invariant_of-result-clause-known g c = c.new.ensures.known _

pub invariant_of-result-clause-noted : goal.invariant_of-result-clause-noted
invariant_of-result-clause-noted g c going =
    none_tried (asked_of_set c.args.self.now g.S.Haystack.bytes c.args.input) (λ k. 0 ≤ k) c.effective_start-place.result c.new.result c.new.ensures.notes
