use Rattle.std.proofs.Common.{arith}
use Rattle.std.proofs.lemmas.Grind.{common_steps}
use Rattle.std.proofs.lemmas.Result.{err_from_is_err_and}
use Rattle.fancy_syntax.specs.Views.{dialect_options}
use Rattle.fancy_syntax.proofs.ParserLemmas.{MemoryOr-weaker}
use Rattle.fancy_syntax.proofs.UnnamedLemmas.{none_under}
use Rattle.fancy_syntax.proofs.ParseLemmas.{spelled_again, refused_again}
use Rattle.fancy_syntax.proofs.parse.read.Goals as goal

pub returns-in_err-capturing-clause-refused :
    goal.returns-in_err-capturing-clause-refused
returns-in_err-capturing-clause-refused c =
    let p = err_from_is_err_and c.from_residual.result c.from_residual.ensures.1 in
    rw (p.1, p.2) (MemoryOr-weaker c.in_err-capturing.field-0.0 none_under c.in_err-capturing.ensures.refused)

pub returns-then-not-is_empty-clause-value : goal.returns-then-not-is_empty-clause-value
returns-then-not-is_empty-clause-value c =
    spelled_again (dialect_options c.args.options) c.args.characters.now c.in_ok-capturing.capturing c.in_ok-capturing.ensures.value c.if-options.true _ c.in_ok-capturing.capturing.names.ok.0 c.if-not-is_empty.ensures
    c.read_whole-then-not-is_empty.result c.read_whole-then-not-is_empty.ensures.value

pub returns-then-not-is_empty-clause-refused :
    goal.returns-then-not-is_empty-clause-refused
returns-then-not-is_empty-clause-refused c =
    refused_again (dialect_options c.args.options) c.args.characters.now c.in_ok-capturing.capturing c.in_ok-capturing.ensures.value c.if-options.true _ c.in_ok-capturing.capturing.names.ok.0 c.if-not-is_empty.ensures
    c.read_whole-then-not-is_empty.result c.read_whole-then-not-is_empty.ensures.refused

pub returns-clause-value : goal.returns-clause-value
returns-clause-value c = grind (arith, common_steps)
