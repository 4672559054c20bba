use Rattle.std.proofs.Common.{refl}
use Rattle.fancy_core.proofs.split.SplitIterator.next.Goals as goal

pub returns-in-Some-Err-clause-steps : goal.returns-in-Some-Err-clause-steps
returns-in-Some-Err-clause-steps c =
    let steps = rw c.in-Some-Err.field-0-is at c.in-Some-Err.ensures.steps in
    let ends = rw c.in-Some-Err.field-0-is at c.in-Some-Err.ensures.ends in
    record {
      answers = record {
        refused = steps.0;
        rest = rw (steps.1, c.in-Some-Err.ensures.haystack, c.if-self.false) refl;
        moves = rw (steps.1, c.in-Some-Err.ensures.haystack) refl;
        searched = rw c.in-Some-Err.ensures.open refl;
        last = rw ends refl;
      };
      same_regex = refl;
    }
