use Rattle.std.proofs.Common.{refl}
use Rattle.fancy_core.proofs.iter.MatchesIterator.next.Goals as goal

pub returns-in-Some-Err-clause-steps : goal.returns-in-Some-Err-clause-steps
returns-in-Some-Err-clause-steps g c =
    let steps = rw c.in-Some-Err.field-0-is at c.in-Some-Err.ensures.steps in
    record {
      answers = record {
        unended = c.in-Some-Err.ensures.open;
        refused = steps.0;
        moves = rw c.in-Some-Err.field-0-is at c.in-Some-Err.ensures.refused;
        left = steps.1;
        ended = rw c.in-Some-Err.field-0-is at c.in-Some-Err.ensures.ends;
      };
      same = record {
        same_regex = refl;
        same_text = c.in-Some-Err.ensures.haystack;
        same_request = c.in-Some-Err.ensures.request;
      };
    }
