use Rattle.std.proofs.Common.{Option, subst}
use Rattle.std.specs.Prelude.{IfSome}
use Rattle.fancy_tree.specs.Pattern.{pattern_of}
use Rattle.fancy_prefilter.specs.Regions.{IsReach}
use Rattle.fancy_prefilter.specs.declared.reach.Reach.{Reach}
use Rattle.fancy_code.proofs.compile.with_row.Goals as goal

pub returns-clause-is : goal.returns-clause-is
returns-clause-is c is = record {
  entry = is.entry;
  means = is.means;
  begins = is.begins;
  matching = is.matching;
  failing = is.failing;
  numbered = is.numbered;
  starts = is.starts;
  opens = is.opens;
  foretold = is.foretold;
  anchored = is.anchored;
  branched = is.branched;
  required = subst (λ (o : Option Reach). IfSome o (IsReach c.args.code.meaning (pattern_of c.args.tree.now))) c.in-Some.is c.in_ok-row.ensures;
}
