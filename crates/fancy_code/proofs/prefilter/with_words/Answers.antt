use Rattle.std.proofs.Common.{refl}
use Rattle.fancy_code.proofs.prefilter.with_words.Goals as goal

pub returns-clause-is : goal.returns-clause-is
returns-clause-is c p is = record {
  entry = is.entry;
  means = is.means;
  begins = is.begins;
  matching = is.matching;
  failing = is.failing;
  numbered = is.numbered;
  starts = is.starts;
  opens = is.opens;
  foretold = is.foretold;
  anchored = (c.between_words.ensures, c.if-not-starts_words.ensures refl);
  branched = is.branched;
  required = is.required;
}
