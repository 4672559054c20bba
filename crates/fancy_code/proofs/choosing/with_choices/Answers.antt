use Rattle.std.proofs.Common.{sym, ◌∙◌}
use Rattle.fancy_code.proofs.choosing.with_choices.Goals as goal

pub returns-clause-is : goal.returns-clause-is
returns-clause-is c p is =
    let same = c.with_beginnings.ensures in
    record {
      entry = is.entry;
      means = rw (same.meaning, same.instrs) is.means;
      begins = is.begins ∙ sym same.start;
      matching = rw same.instrs is.matching;
      failing = rw same.instrs is.failing;
      numbered = rw same.groups is.numbered;
      starts = rw (same.meaning, same.prefilter) is.starts;
      opens = rw (same.meaning, same.prefilter) is.opens;
      foretold = rw (same.prefilter, same.meaning, same.instrs, same.start) is.foretold;
      anchored = rw (same.prefilter, same.instrs, same.start) is.anchored;
      branched = rw (same.prefilter, same.instrs, same.meaning, same.start) is.branched;
      required = rw (same.prefilter, same.meaning) is.required;
    }
