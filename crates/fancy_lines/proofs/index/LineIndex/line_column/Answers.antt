use Rattle.std.proofs.Common.{arith}
use Rattle.fancy_lines.proofs.LineLemmas.{place_is, is_at}
use Rattle.fancy_lines.proofs.index.LineIndex.line_column.Goals as goal

pub overflow_sub-column : goal.overflow_sub-column
overflow_sub-column c =
    let index = c.args.self.now in
    let h = place_is index.text.now index.starts.items c.args.offset c.starts_up_to-line.result index.whole (omega arith) c.starts_up_to-line.ensures.value in
    let s = c.start_of.ensures in
    omega (arith, h, s)

pub returns-clause-at : goal.returns-clause-at
returns-clause-at c =
    let index = c.args.self.now in
    is_at index.text.now index.starts.items c.args.offset c.starts_up_to-line.result c.start_of.result index.whole (omega arith) c.starts_up_to-line.ensures.value c.start_of.ensures
