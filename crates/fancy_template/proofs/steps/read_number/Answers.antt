use Rattle.std.proofs.Common.{ℕ, chars, Ok, Err}
use Rattle.fancy_template.proofs.FormLemmas.{row_parsed, a_number, no_number}
use Rattle.fancy_template.proofs.steps.read_number.Goals as goal

pub returns-in-Ok : goal.returns-in-Ok
returns-in-Ok c = a_number (chars c.args.text.now) c.in-Ok.number _ (row_parsed {E = ℕ} (chars c.args.text.now) _ (Ok c.in-Ok.number) c.split_row.ensures.text c.split_row.ensures.row c.in-Ok.ensures.value.0) c.split_row.ensures.rest

pub returns-in-Err : goal.returns-in-Err
returns-in-Err c = no_number (chars c.args.text.now) (row_parsed {E = ℕ} (chars c.args.text.now) _ (Err 0) c.split_row.ensures.text c.split_row.ensures.row c.in-Err.ensures.value.0)
