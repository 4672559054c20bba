use Rattle.std.proofs.Common.{sym, ◌∙◌, arith}
use Rattle.fancy_tree.proofs.NameLemmas.{row_goes_on, row_ends, past_row}
use Rattle.fancy_tree.proofs.name.split_name.Goals as goal

pub loop-i-preserved : goal.loop-i-preserved
loop-i-preserved c = row_goes_on c.args.text.now c.loop-i.i c.index-text-i.result c.index-text-i.result c.loop-i-test.true c.index-text-i.is c.loop-i.invariant (sym c.if-not-is_name_character.ensures)

pub returns-then-not-is_name_character-clause-name : goal.returns-then-not-is_name_character-clause-name
returns-then-not-is_name_character-clause-name c =
    c.split_at.ensures.front ∙ sym (row_ends c.args.text.now c.loop-i.i c.index-text-i.result c.index-text-i.result c.loop-i-test.true c.index-text-i.is c.loop-i.invariant (sym c.if-not-is_name_character.ensures))

pub returns-then-not-is_name_character-clause-after : goal.returns-then-not-is_name_character-clause-after
returns-then-not-is_name_character-clause-after c =
    c.split_at.ensures.back
    ∙ sym (past_row c.args.text.now c.loop-i.i (omega (arith, c.loop-i-test.true)) (row_ends c.args.text.now c.loop-i.i c.index-text-i.result c.index-text-i.result c.loop-i-test.true c.index-text-i.is c.loop-i.invariant (sym c.if-not-is_name_character.ensures)))
