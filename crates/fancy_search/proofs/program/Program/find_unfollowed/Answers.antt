use Rattle.std.proofs.Common.{Ok, refl}
use Rattle.std.specs.Prelude.{None, replicate}
use Rattle.fancy_runner.specs.Groups.{groups_in}
use Rattle.fancy_search.specs.Programs.{program_groups}
use Rattle.fancy_search.proofs.ResultLemmas.{if_ok}
use Rattle.fancy_search.proofs.SearchedLemmas.{served_easily}
use Rattle.fancy_search.proofs.StraightLemmas.{counts_kept}
use Rattle.fancy_search.proofs.program.Program.find_unfollowed.Goals as goal

pub returns-clause-served : goal.returns-clause-served
returns-clause-served c =
    served_easily c.args.self.now c.args.asked.now (groups_in c.run.new.cache) c.requires.easy c.requires.hopeful c.run.result _ _
    (if_ok _ _ (λ m is. is c.args.asked.now.continues) c.run.result c.run.ensures.answer)
    c.run.ensures.counts (c.run.ensures.idle c.args.asked.now.continues) c.run.ensures.refused

pub returns-then-allows_all_steps-clause-served : goal.returns-then-allows_all_steps-clause-served
returns-then-allows_all_steps-clause-served c =
    served_easily c.args.self.now c.args.asked.now (replicate (program_groups c.args.self.now) None) c.requires.easy c.requires.hopeful (Ok c.read.result) _ _
    (c.read.ensures.answer c.args.asked.now.continues)
    (counts_kept c.args.self.now c.args.asked.now.request.now c.read.result _ _ c.requires.room (c.if-allows_all_steps.ensures refl) c.read.ensures.counts)
    (c.read.ensures.idle c.args.asked.now.continues) tt
