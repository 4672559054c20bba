use Rattle.std.proofs.Common.{sym, arith}
use Rattle.std.proofs.lemmas.Grind.{common_steps}
use Rattle.fancy_syntax.proofs.FlagLemmas.{all_the_rest}
use Rattle.fancy_syntax.proofs.reference.read_reference.Goals as goal

pub returns-then-starts_with-clause-value : goal.returns-then-starts_with-clause-value
returns-then-starts_with-clause-value c =
    rw (sym c.if-starts_with.ensures.value) (rw all_the_rest at c.delimited_target.ensures.value)

pub returns-then-starts_with-2-clause-value : goal.returns-then-starts_with-2-clause-value
returns-then-starts_with-2-clause-value c =
    rw (sym c.if-starts_with.ensures.value, sym c.if-starts_with-2.ensures.value)
    (rw all_the_rest at c.delimited_target-then-starts_with-2.ensures.value)

pub returns-in-92-clause-value : goal.returns-in-92-clause-value
returns-in-92-clause-value c = grind (arith, common_steps)
