use Rattle.fancy_regex_c.specs.Texts.{is_told}
use Rattle.fancy_regex_c.proofs.faults.fancy_regex_explain.Goals as goal

pub returns-in_default : goal.returns-in_default
returns-in_default c = is_told c.as_bytes.result.now c.as_bytes.ensures.utf8 c.put.ensures

pub returns-in-Ok : goal.returns-in-Ok
returns-in-Ok c = is_told c.as_bytes-in-Ok.result.now c.as_bytes-in-Ok.ensures.utf8 c.put-in-Ok.ensures
