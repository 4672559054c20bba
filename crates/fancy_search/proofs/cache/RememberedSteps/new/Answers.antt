use Rattle.fancy_states.proofs.RememberedLemmas.{remembers}
use Rattle.fancy_search.proofs.cache.RememberedSteps.new.Goals as goal

pub returns : goal.returns
returns c code = rw c.in_ok-new.ensures.ok record {
  true_of = remembers c.clear.new.self code (c.clear.ensures.all code);
  within = c.clear.ensures.kept;
}
