use Rattle.std.proofs.Common.{rules}
use Rattle.std.proofs.lemmas.Str.{IsUtf8-string_bytes}
use Rattle.fancy_template.specs.Expanders.{syntax_of, mark_of}
use Rattle.fancy_template.proofs.MarkLemmas.{unmarked_bytes, stands_for}
use Rattle.fancy_template.proofs.expander.Expander.escape.Goals as goal

pub returns-then-not-includes-clause-value : goal.returns-then-not-includes-clause-value
returns-then-not-includes-clause-value c = unmarked_bytes (mark_of c.args.self.now) _ c.utf8.text (search rules)

pub returns-then-not-includes-clause-stands : goal.returns-then-not-includes-clause-stands
returns-then-not-includes-clause-stands c = λ k. stands_for (syntax_of c.args.self.now) k c.args.text.now c.args.text.now c.utf8.text c.utf8.text (unmarked_bytes (mark_of c.args.self.now) _ c.utf8.text (search rules))

pub returns-clause-stands : goal.returns-clause-stands
returns-clause-stands c = λ k. stands_for (syntax_of c.args.self.now) k c.args.text.now _ c.utf8.text (IsUtf8-string_bytes c.in_ok-doubled.doubled) c.in_ok-doubled.ensures
