use Rattle.std.proofs.Common.{rules, ℕ, Ok, Err}
use Rattle.fancy_template.proofs.NumberLemmas.{digits_parsed}
use Rattle.fancy_template.proofs.scan.as_number.Goals as goal

pub returns-in-Ok : goal.returns-in-Ok
returns-in-Ok c = digits_parsed {E = ℕ} c.args.text.now (Ok c.in-Ok.number) c.utf8.text (search rules) c.in-Ok.ensures.value.0

pub returns-in-Err : goal.returns-in-Err
returns-in-Err c = digits_parsed {E = ℕ} c.args.text.now (Err 0) c.utf8.text (search rules) c.in-Err.ensures.value.0
