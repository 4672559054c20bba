use Rattle.std.proofs.Common.{arith, refl}
use Rattle.std.proofs.lemmas.Result.{err_from_is_err_and}
use Rattle.fancy_syntax.specs.Dialect.{begin}
use Rattle.fancy_syntax.specs.Views.{place, dialect_options}
use Rattle.fancy_syntax.proofs.ParserLemmas.{some_left, nothing_left}
use Rattle.fancy_syntax.proofs.ParseLemmas.{begun, no_reading, no_pattern, spelled}
use Rattle.fancy_syntax.proofs.parse.read_whole.Goals as goal

pub returns-in_err-tree-clause-refused : goal.returns-in_err-tree-clause-refused
returns-in_err-tree-clause-refused c =
    let p = err_from_is_err_and c.from_residual.result c.from_residual.ensures.1 in
    rw (p.1, p.2) (no_reading c.in_err-tree.field-0.0 (begun (begin c.args.unnamed_capture (dialect_options c.args.options)) refl refl c.new-2.ensures.items c.new-3.ensures.items) c.in_err-tree.ensures.value)

pub returns-then-not-is_empty-clause-refused : goal.returns-then-not-is_empty-clause-refused
returns-then-not-is_empty-clause-refused c =
    rw c.error.ensures (no_pattern (begun (begin c.args.unnamed_capture (dialect_options c.args.options)) refl refl c.new-2.ensures.items c.new-3.ensures.items) c.in_ok-tree.ensures.value (some_left _ c.if-not-is_empty.ensures))

pub returns-clause-value : goal.returns-clause-value
returns-clause-value c = (
  (place c.alternation.new.self).scope,
  spelled (begun (begin c.args.unnamed_capture (dialect_options c.args.options)) refl refl c.new-2.ensures.items c.new-3.ensures.items) c.in_ok-tree.ensures.value (nothing_left _ c.if-not-is_empty.ensures),
  omega arith,
  refl,
  refl,
)
