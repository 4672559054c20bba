use Rattle.std.proofs.Common.{refl}
use Rattle.fancy_search.specs.SearchCounts.{RefusesEasy}
use Rattle.fancy_search.proofs.ResultLemmas.{if_ok, if_err}
use Rattle.fancy_search.proofs.SearchedLemmas.{served_some}
use Rattle.fancy_search.proofs.program.Program.find_easily.Goals as goal

pub find_followed-requires-clause-followable : goal.find_followed-requires-clause-followable
find_followed-requires-clause-followable c = record {
  inside = c.args.asked.now.inside;
  easy = c.requires.easy;
  plain = c.if-is_followed_alone.ensures.plain refl;
  places = c.if-is_followed_alone.ensures.places refl;
}

pub returns-then-allows_all_steps-clause-served : goal.returns-then-allows_all_steps-clause-served
returns-then-allows_all_steps-clause-served c =
    served_some c.args.self.now c.args.asked.now c.requires.easy c.requires.hopeful c.find_followed.result _ _
    (if_ok _ _ (λ m is. is c.args.asked.now.continues) c.find_followed.result c.find_followed.ensures.answer)
    c.find_followed.ensures.counts (c.find_followed.ensures.idle c.args.asked.now.continues)
    (if_err _ (RefusesEasy c.args.self.now) (λ e memory. rw memory tt) c.find_followed.result c.find_followed.ensures.refused)
