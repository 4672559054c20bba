use Rattle.fancy_bytes.proofs.ItemLemmas.{lead_two, lead_three, lead_four}
use Rattle.fancy_bytes.proofs.start.lead_byte.Goals as goal

pub returns-then-code-lt2048 : goal.returns-then-code-lt2048
returns-then-code-lt2048 c b = lead_two c.args.c b c.if-code-lt128.false c.if-code-lt2048.true

pub returns-then-code-lt65536 : goal.returns-then-code-lt65536
returns-then-code-lt65536 c b = lead_three c.args.c b c.if-code-lt2048.false c.if-code-lt65536.true

pub returns-else-code-lt65536 : goal.returns-else-code-lt65536
returns-else-code-lt65536 c b = lead_four c.args.c b c.if-code-lt65536.false
