use Rattle.std.proofs.Common.{sym}
use Rattle.fancy_syntax.specs.Views.{scope_of}
use Rattle.fancy_syntax.proofs.LexemeLemmas.{if_literal}
use Rattle.fancy_syntax.proofs.parser.Parser.literal_tree.Goals as goal

pub returns : goal.returns
returns c = if_literal (scope_of c.args.self.now) c.args.c c.literal.result (sym c.if-is_folded.ensures) c.literal.ensures
