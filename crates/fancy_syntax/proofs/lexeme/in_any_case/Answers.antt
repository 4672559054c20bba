use Rattle.std.proofs.Common.{sym, subst}
use Rattle.fancy_syntax.specs.Dialect.{IsMeant, any_case_of, by_folding}
use Rattle.fancy_tree.proofs.PatternLemmas.{pattern-InAnyCase}
use Rattle.fancy_syntax.proofs.lexeme.in_any_case.Goals as goal

pub returns : goal.returns
returns c f h = subst (λ x. IsMeant (any_case_of f) x) (sym (pattern-InAnyCase c.args.set)) (by_folding c.args.set.are_edges h)
