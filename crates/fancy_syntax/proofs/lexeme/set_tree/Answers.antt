use Rattle.std.proofs.Common.{sym, subst}
use Rattle.fancy_syntax.specs.Dialect.{IsMeant, one_of, by_edges}
use Rattle.fancy_tree.proofs.PatternLemmas.{pattern-Member}
use Rattle.fancy_syntax.proofs.lexeme.set_tree.Goals as goal

pub returns : goal.returns
returns c f h = subst (λ x. IsMeant (one_of f) x) (sym (pattern-Member c.args.set)) (by_edges c.args.set.are_edges h)
