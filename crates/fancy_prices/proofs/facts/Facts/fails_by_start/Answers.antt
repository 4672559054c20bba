use Rattle.fancy_prices.proofs.FactLemmas.{text_start_fails, line_start_fails, line_start_crlf_fails}
use Rattle.fancy_prices.proofs.facts.Facts.fails_by_start.Goals as goal

pub returns-in-TextStart : goal.returns-in-TextStart
returns-in-TextStart c e x p stands =
    text_start_fails c.args.self c.in-Some.before c.in-Some.is c.args.assertion x p stands c.in-TextStart.is (c.is_byte.ensures e)

pub returns-in-LineStart : goal.returns-in-LineStart
returns-in-LineStart c e x p stands =
    line_start_fails c.args.self c.in-Some.before c.in-Some.is c.args.assertion x p stands c.in-LineStart.is (c.is_other_than.ensures e)

pub returns-in-LineStartCrlf : goal.returns-in-LineStartCrlf
returns-in-LineStartCrlf c e x p stands =
    line_start_crlf_fails c.args.self c.in-Some.before c.in-Some.is c.args.assertion x p stands c.in-LineStartCrlf.is (c.is_in_line.ensures e)
