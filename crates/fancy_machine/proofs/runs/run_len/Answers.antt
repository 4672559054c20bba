use Rattle.std.proofs.Common.{◌∙◌, arith, sym}
use Rattle.fancy_machine.proofs.PassLemmas.{one_more_item}
use Rattle.fancy_machine.proofs.runs.run_len.Goals as goal

pub items-preserved : goal.items-preserved
items-preserved c =
    one_more_item c.args.split.now c.args.haystack.now c.args.place c.items.past (omega (arith, c.items.auto.past)) (omega (arith, c.items-test.true, c.requires.inside)) c.items.invariant
    (omega (arith, c.type_inv.haystack c.items.past)) (sym c.is_item.ensures ∙ c.if-not-is_item.false)
