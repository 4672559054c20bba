use Rattle.fancy_prices.proofs.EntryLemmas.{told_after}
use Rattle.fancy_prices.proofs.rows.prices_after.Goals as goal

pub loop-byte-init : goal.loop-byte-init
loop-byte-init c = record { size = c.told-plain; tells = told_after c.args.code.now c.args.plain.now c.requires c.args.before }
