use Rattle.std.proofs.Common.{sym, ◌∙◌}
use Rattle.fancy_search.proofs.HoldLemmas.{never_holds}
use Rattle.fancy_search.proofs.program.Program.may_hold.Goals as goal

pub returns-else-not-self : goal.returns-else-not-self
returns-else-not-self c out = never_holds c.args.self.now c.args.place c.args.byte (sym c.args.self.now.decided ∙ c.if-not-self.false) (c.may_hold.ensures out)
