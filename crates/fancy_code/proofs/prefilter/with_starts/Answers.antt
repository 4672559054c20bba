use Rattle.fancy_code.proofs.prefilter.with_starts.Goals as goal

pub returns-then-starts_at-clause-is : goal.returns-then-starts_at-clause-is
returns-then-starts_at-clause-is c p is = record {
  entry = is.entry;
  means = is.means;
  begins = is.begins;
  matching = is.matching;
  failing = is.failing;
  numbered = is.numbered;
  starts = is.starts;
  opens = is.opens;
  foretold = is.foretold;
  anchored = c.starts_at.ensures c.if-starts_at.true;
  branched = is.branched;
  required = is.required;
}
