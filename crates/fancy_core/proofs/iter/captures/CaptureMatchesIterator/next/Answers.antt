use Rattle.std.proofs.Common.{refl, subst, sym}
use Rattle.fancy_search.specs.Groups.{AreCut}
use Rattle.fancy_core.proofs.iter.captures.CaptureMatchesIterator.next.Goals as goal

pub new-requires : goal.new-requires
new-requires g c =
    let groups = rw c.in-Some-Ok.field-0-is at c.in-Some-Ok.ensures.groups in
    record { placed = rw c.haystack-haystack.ensures (subst (AreCut _ _) (sym c.in-Ok.ensures) (groups.cut _)) }

pub returns-in-Some-Err-clause-steps : goal.returns-in-Some-Err-clause-steps
returns-in-Some-Err-clause-steps g c =
    let steps = rw c.in-Some-Err.field-0-is at c.in-Some-Err.ensures.steps in
    record {
      answers = record {
        unended = c.in-Some-Err.ensures.open;
        refused = steps.0;
        moves = rw c.in-Some-Err.field-0-is at c.in-Some-Err.ensures.refused;
        left = steps.1;
        ended = rw c.in-Some-Err.field-0-is at c.in-Some-Err.ensures.ends;
      };
      same = record {
        same_regex = refl;
        same_text = c.in-Some-Err.ensures.haystack;
        same_request = c.in-Some-Err.ensures.request;
      };
    }
