use Rattle.std.proofs.Common.{sym, ◌∙◌}
use Rattle.std.proofs.Math.Logic.{∥∥₁_elim}
use Rattle.std.proofs.Props.{props}
use Rattle.fancy_search.proofs.OneItemLemmas.{ends_by_one}
use Rattle.fancy_search.proofs.program.Program.is_one_item.Goals as goal

pub returns : goal.returns
returns c one =
    ∥∥₁_elim (c.args.self.now.single one) (hlevel props)
    (λ ones. ends_by_one c.args.self.now (sym c.args.self.now.decided ∙ c.if-not-self.false) ones)
