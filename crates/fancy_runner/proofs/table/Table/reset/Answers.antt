use Rattle.fancy_runner.proofs.TableLemmas.{bits_of-none}
use Rattle.fancy_runner.proofs.table.Table.reset.Goals as goal

pub returns : goal.returns
returns c = rw (c.in_ok-reserve.ensures.items, c.clear.ensures.items) (bits_of-none _)
