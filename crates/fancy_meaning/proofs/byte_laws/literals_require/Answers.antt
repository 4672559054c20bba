use Rattle.fancy_bytes.proofs.EdgeLemmas.{all_have}
use Rattle.fancy_meaning.proofs.MemberLemmas.{all_require}
use Rattle.fancy_meaning.proofs.byte_laws.literals_require.Goals as goal

pub returns : goal.returns
returns c m edges b are = (λ e d here item. all_have m edges b d e here item, all_require m edges b are.rising are.closed)
