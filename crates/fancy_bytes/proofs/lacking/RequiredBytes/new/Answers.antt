use Rattle.fancy_bytes.proofs.LackLemmas.{listed_kind}
use Rattle.fancy_bytes.proofs.lacking.RequiredBytes.new.Goals as goal

pub returns : goal.returns
returns c = listed_kind _ c.required_bytes.result c.in_ok-bytes.bytes.items c.required_bytes.ensures c.in_ok-bytes.ensures
