use Rattle.std.proofs.Common.{refl}
use Rattle.fancy_runner.specs.Table.{bits_of}
use Rattle.fancy_runner.proofs.table.Table.new.Goals as goal

pub returns : goal.returns
unfolding bits_of
returns c = refl
