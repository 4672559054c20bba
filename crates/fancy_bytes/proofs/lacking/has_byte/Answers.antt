use Rattle.std.proofs.Common.{◌∙◌}
use Rattle.fancy_bytes.proofs.LackLemmas.{found_byte}
use Rattle.fancy_bytes.proofs.lacking.has_byte.Goals as goal

pub returns : goal.returns
returns c = c.is_some.ensures ∙ found_byte c.args.haystack.now c.args.byte c.memchr.result c.memchr.ensures
