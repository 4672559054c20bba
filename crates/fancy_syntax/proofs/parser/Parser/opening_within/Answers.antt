use Rattle.std.proofs.Common.{arith}
use Rattle.std.proofs.lemmas.Result.{err_from_is_err_and}
use Rattle.fancy_syntax.specs.Views.{place}
use Rattle.fancy_syntax.proofs.ParserLemmas.{opening_refused, no_room}
use Rattle.fancy_syntax.proofs.parser.Parser.opening_within.Goals as goal

pub returns-in_err-how-clause-value : goal.returns-in_err-how-clause-value
returns-in_err-how-clause-value c =
    let p = err_from_is_err_and c.from_residual.result c.from_residual.ensures.1 in
    opening_refused c.args.room c.from_residual.result (place c.args.self.now) (place c.opening.new.self) p.0 c.in_err-how.field-0.0 p.1 p.2 c.in_err-how.ensures.value

pub returns-then-room-parentheses-clause-value : goal.returns-then-room-parentheses-clause-value
returns-then-room-parentheses-clause-value c = rw c.error.ensures (no_room c.in_ok-how.ensures.value (omega (arith, c.if-room-parentheses.true, c.parentheses.ensures)))

pub returns-clause-value : goal.returns-clause-value
returns-clause-value c = (c.in_ok-how.ensures.value, omega (arith, c.if-room-parentheses.false, c.parentheses.ensures))
