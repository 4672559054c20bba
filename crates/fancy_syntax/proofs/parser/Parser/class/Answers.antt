use Rattle.std.proofs.Common.{◌∙◌, ap, sym, subst}
use Rattle.fancy_syntax.specs.Views.{place, scope_of}
use Rattle.fancy_class.specs.Readings.{IsTheReading}
use Rattle.fancy_syntax.specs.Dialect.{by_class}
use Rattle.fancy_syntax.specs.Grammar.{IsAtom, alone, start}
use Rattle.fancy_tree.specs.Pattern.{member_of}
use Rattle.fancy_tree.proofs.PatternLemmas.{pattern-Member}
use Rattle.fancy_syntax.proofs.LexemeLemmas.{the_atom, class_refused}
use Rattle.fancy_syntax.proofs.parser.Parser.class.Goals as goal

pub returns-in-Ok-clause-value : goal.returns-in-Ok-clause-value
returns-in-Ok-clause-value c =
    subst (λ x. IsTheReading IsAtom (place c.args.self.now) x (start (scope_of c.args.self.now) c.class.new.self.rest.now)) (sym (pattern-Member c.shared.result ∙ ap member_of c.shared.ensures))
    (the_atom (alone (by_class c.requires (rw (c.context-context.ensures.meaning, c.context-context.ensures.fold) at c.in-Ok.ensures.edges).0)))

pub returns-in-Err-clause-value : goal.returns-in-Err-clause-value
returns-in-Err-clause-value c = rw c.class_error.ensures (class_refused _ c.in-Err.refusal (place c.args.self.now) c.requires (rw (c.context-context.ensures.meaning, c.context-context.ensures.fold) at c.in-Err.ensures.edges))
