use Rattle.std.proofs.Common.{refl}
use Rattle.fancy_states.proofs.cells.has_origin.Goals as goal

pub returns : goal.returns
returns c alone = record { waits = c.if-not-is_empty.ensures refl; opens = c.has_alone.ensures alone }
