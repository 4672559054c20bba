use Rattle.std.proofs.Common.{sym, ◌∙◌}
use Rattle.fancy_machine.proofs.RecallLemmas.{shares_ascii, ascii_low}
use Rattle.fancy_machine.proofs.texts.shares_folding.Goals as goal

pub returns-then-is_ascii-2 : goal.returns-then-is_ascii-2
returns-then-is_ascii-2 c =
    c.eq_ignore_ascii_case.ensures
    ∙ sym (shares_ascii c.args.c c.args.d (ascii_low c.args.c _ c.is_ascii.ensures c.if-is_ascii.true) (ascii_low c.args.d _ c.is_ascii-then-is_ascii.ensures c.if-is_ascii-2.true))
