use Rattle.std.proofs.Common.{◌≡◌, ℕ, ◌-◌, take, drop, ap, sym, arith, ◌∙◌}
use Rattle.fancy_lines.proofs.LineLemmas.{sum_is}
use Rattle.fancy_lines.specs.LineColumns.{characters}
use Rattle.fancy_lines.proofs.index.LineIndex.line_column_in_characters.Goals as goal

pub overflow_sub-offset : goal.overflow_sub-offset
overflow_sub-offset c =
    let index = c.args.self.now in
    let at = c.in_ok-found.ensures.at in
    let h = sum_is index.text.now index.starts.items c.args.offset c.in_ok-found.found.line c.in_ok-found.found.column index.whole at in
    omega (arith, h)

pub returns-clause-at : goal.returns-clause-at
returns-clause-at c =
    let index = c.args.self.now in
    let text = index.text.now in
    let column = c.in_ok-found.found.column in
    let at = c.in_ok-found.ensures.at in
    let h = sum_is text index.starts.items c.args.offset c.in_ok-found.found.line column index.whole at in
    let e : c.args.offset - (c.args.offset - column) ≡ column = omega (arith, h) in
    record {
      inside = at.inside;
      line = at.line;
      column = rw at.column (sym (c.characters_in-column.ensures ∙ ap (λ (n : ℕ). characters (take n (drop (c.args.offset - column) text))) e));
    }
