use Rattle.ucd_sets.specs.Sets.{in_set}
use Rattle.fancy_tree.proofs.SetLemmas.{same_set, of_table}
use Rattle.fancy_tree.proofs.property.property_members.Goals as goal

pub returns : goal.returns
returns c = same_set c.characters.result (λ x. of_table c.deref.result.now (in_set c.args.property) x (rw c.deref.ensures.value c.in_ok-ranges.ensures.members)) c.characters.ensures
