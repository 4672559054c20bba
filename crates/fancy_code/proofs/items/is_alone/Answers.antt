use Rattle.std.proofs.Common.{ltb-true}
use Rattle.fancy_meaning.proofs.ReadingLemmas.{low_unit}
use Rattle.fancy_code.proofs.items.is_alone.Goals as goal

pub returns-in-Unicode : goal.returns-in-Unicode
returns-in-Unicode c low haystack p stands = low_unit c.args.meaning haystack p c.args.byte (ltb-true c.args.byte 128 low) stands
