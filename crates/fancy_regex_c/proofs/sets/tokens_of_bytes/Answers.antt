use Rattle.fancy_regex_c.specs.TokenGiving.{is_read}
use Rattle.fancy_regex_c.proofs.sets.tokens_of_bytes.Goals as goal

pub returns-in-Ok : goal.returns-in-Ok
returns-in-Ok c = is_read c.in-Ok.ensures.said (rw (c.in-Ok.ensures.bytes, c.in-Ok.ensures.text) at c.tokens_in.ensures)
