use Rattle.fancy_bytes.proofs.SetLemmas.{member-none}
use Rattle.fancy_bytes.proofs.byte_set.ByteSet.new.Goals as goal

pub returns : goal.returns
returns c b lt = member-none b lt
