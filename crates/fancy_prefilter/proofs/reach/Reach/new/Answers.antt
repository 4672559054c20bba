use Rattle.std.proofs.Common.{Option, subst}
use Rattle.std.specs.Prelude.{IfSome}
use Rattle.fancy_tree.specs.Pattern.{pattern_of}
use Rattle.fancy_prefilter.specs.Regions.{IsTarget}
use Rattle.fancy_prefilter.specs.declared.reach.Target.{Target}
use Rattle.fancy_prefilter.proofs.reach.Reach.new.Goals as goal

pub returns : goal.returns
returns c = record {
  target = subst (λ (o : Option Target). IfSome o (IsTarget c.args.meaning (pattern_of c.args.tree.now))) c.in-Some.is c.in_ok-target.ensures;
  apart = c.reads_of-reads.ensures;
}
