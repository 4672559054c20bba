use Rattle.std.proofs.Common.{sym}
use Rattle.fancy_syntax.proofs.FlagLemmas.{all_the_rest}
use Rattle.fancy_syntax.proofs.parser.Parser.unmarked_opening.Goals as goal

pub returns-then-begins-4-clause-value : goal.returns-then-begins-4-clause-value
returns-then-begins-4-clause-value c =
    rw (sym c.if-begins.ensures.value, sym c.if-begins-2.ensures.value, sym c.if-begins-3.ensures.value, sym c.if-begins-4.ensures.value) (rw all_the_rest at c.conditional.ensures.value)

pub returns-then-begins-clause-value : goal.returns-then-begins-clause-value
returns-then-begins-clause-value c =
    rw (sym c.if-begins.ensures.value) (rw all_the_rest at c.read_named_group.ensures.value)

pub returns-then-begins-2-clause-value : goal.returns-then-begins-2-clause-value
returns-then-begins-2-clause-value c =
    rw (sym c.if-begins.ensures.value, sym c.if-begins-2.ensures.value) (rw all_the_rest at c.read_named_group-then-begins-2.ensures.value)

pub returns-then-begins-3-clause-value : goal.returns-then-begins-3-clause-value
returns-then-begins-3-clause-value c =
    rw (sym c.if-begins.ensures.value, sym c.if-begins-2.ensures.value, sym c.if-begins-3.ensures.value) (rw all_the_rest at c.named_reference.ensures.value)
