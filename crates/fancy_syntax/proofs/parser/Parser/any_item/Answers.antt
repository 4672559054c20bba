use Rattle.std.proofs.Common.{sym}
use Rattle.fancy_syntax.specs.Views.{place}
use Rattle.fancy_syntax.proofs.LexemeLemmas.{meant_past}
use Rattle.fancy_syntax.proofs.parser.Parser.any_item.Goals as goal

pub returns-clause-value : goal.returns-clause-value
returns-clause-value c = rw (sym c.if-is_ascii_text.ensures) (meant_past (place c.args.self.now) c.args.count _ c.skip.ensures.place (c.set_tree-tree.ensures _ c.in_ok-any_item_set.ensures))
