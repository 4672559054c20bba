use Rattle.std.proofs.Common.{sym}
use Rattle.fancy_regex_c.specs.Names.{is_named}
use Rattle.fancy_regex_c.proofs.regexes.name_in.Goals as goal

pub returns-in-Some : goal.returns-in-Some
returns-in-Some c =
    let e = rw (c.in-Some.is, c.in-Ok.ensures.names) at c.name_at.ensures in
    is_named c.as_bytes.result.now c.as_bytes.ensures.utf8 (rw c.as_bytes.ensures.value (sym e)) c.put.ensures
