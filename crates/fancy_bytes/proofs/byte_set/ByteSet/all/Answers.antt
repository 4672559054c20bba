use Rattle.fancy_bytes.proofs.SetLemmas.{member-all}
use Rattle.fancy_bytes.proofs.byte_set.ByteSet.all.Goals as goal

pub returns : goal.returns
returns c b lt = member-all b lt
