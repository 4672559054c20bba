use Rattle.fancy_prefilter.proofs.ProbeLemmas.{marks_of_all}
use Rattle.fancy_prefilter.proofs.probes.Probes.marks.Goals as goal

pub returns : goal.returns
returns c =
    marks_of_all c.args.haystack.now c.args.from c.args.self.now c.marks-first.result c.marks-second.result c.marks-third.result c.marks-first.ensures c.marks-second.ensures
    c.marks-third.ensures
