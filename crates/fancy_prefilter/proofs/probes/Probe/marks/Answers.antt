use Rattle.fancy_prefilter.proofs.ProbeLemmas.{marks_moved}
use Rattle.fancy_prefilter.proofs.probes.Probe.marks.Goals as goal

pub returns : goal.returns
returns c = marks_moved c.args.haystack.now c.args.from c.args.self.now c.marks.result c.marks.ensures
