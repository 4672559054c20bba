use Rattle.fancy_meaning.proofs.MemberLemmas.{one_requires, one_required}
use Rattle.fancy_meaning.proofs.byte_laws.sets_require.Goals as goal

pub returns : goal.returns
returns c m edges b are = (one_requires m edges b are.rising, one_required m edges b are.rising)
