use Rattle.std.proofs.Common.{sym}
use Rattle.fancy_syntax.specs.Views.{place}
use Rattle.fancy_syntax.proofs.LexemeLemmas.{atom_given}
use Rattle.fancy_syntax.proofs.parser.Parser.atom.Goals as goal

pub returns-clause-value : goal.returns-clause-value
returns-clause-value c = atom_given c.lexeme.result (place c.args.self.now) (place c.lexeme.new.self) (sym c.if-is_at_any.ensures.value) (sym c.if-begins_reference.ensures) c.lexeme.ensures.value
