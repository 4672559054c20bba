use Rattle.std.proofs.Common.{ℕ, sym, subst}
use Rattle.fancy_prefilter.specs.KeyTables.{HasAt}
use Rattle.fancy_prefilter.proofs.key_table.KeyTable.is_bare.Goals as goal

pub returns : goal.returns
returns c free end number may = c.is_free.ensures free number (subst (λ (key : ℕ). HasAt c.args.self.now key number) (sym c.key_at-key.ensures.key) may.1)
