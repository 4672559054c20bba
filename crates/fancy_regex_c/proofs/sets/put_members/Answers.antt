use Rattle.std.proofs.Common.{◌∙◌, refl, arith}
use Rattle.std.proofs.lemmas.Result.{err_from_is_err_and}
use Rattle.fancy_regex.specs.SetMatches.{question_of, position_of, next_member, members_to_come, pattern_index, captures_of}
use Rattle.fancy_regex.specs.Captures.{found_by, spans_in}
use Rattle.fancy_regex_c.specs.Handed.{handed_bytes}
use Rattle.fancy_regex_c.proofs.MemberLemmas.{asks_same_of_set, member_within, member_is_next, gives_first, gives_more, same_refusal}
use Rattle.fancy_regex_c.proofs.sets.put_members.Goals as goal

pub loop-found-init : goal.loop-found-init
loop-found-init c =
    let e = c.into_iter-found-iterator.ensures.into_iter_gives in
    let none = c.requires.start in
    rw e (record {
      asked = refl;
      position = refl;
      reached = omega (arith, none);
      gives = gives_first (question_of handed_bytes c.args.matches) (position_of c.args.matches) (members_to_come handed_bytes c.args.matches) c.args.members.now c.args.wanted.now none;
    })

pub returns-in_err-found-clause-refused : goal.returns-in_err-found-clause-refused
returns-in_err-found-clause-refused c =
    let inv = c.loop-found.invariant in
    let gives = rw c.in_err-found.was at c.in-Some.ensures.steps.answers in
    let s = c.loop-found.found-iterator in
    let e = err_from_is_err_and c.from_residual.result c.from_residual.ensures.1 in
    rw (e.1, e.2) (gives.index, same_refusal (question_of handed_bytes c.args.matches) (question_of handed_bytes s) (position_of c.args.matches) (position_of s) gives.index _ inv.asked inv.position gives.refuses)

pub put_next-requires : goal.put_next-requires
put_next-requires c =
    let gives = rw c.in_ok-found.was at c.in-Some.ensures.steps.answers in
    let inside = member_within c.loop-found.found-iterator (pattern_index c.in_ok-found.found) (found_by (captures_of c.in_ok-found.found)) (spans_in (captures_of c.in_ok-found.found)) gives.item in
    let before = c.loop-found.invariant.reached in
    let reached = gives.reached in
    omega (arith, inside, before, reached)

pub loop-found-preserved : goal.loop-found-preserved
loop-found-preserved c =
    let inv = c.loop-found.invariant in
    let steps = c.in-Some.ensures.steps in
    let gives = rw c.in_ok-found.was at steps.answers in
    let s = c.loop-found.found-iterator in
    let t = c.next.new.self in
    let found = c.in_ok-found.found in
    let q = question_of handed_bytes c.args.matches in
    let p = position_of c.args.matches in
    let asked = asks_same_of_set s t steps.same_set steps.same_haystack steps.same_request ∙ inv.asked in
    let position = steps.same_position ∙ inv.position in
    let more = c.put_next.ensures.counted in
    let before = inv.reached in
    let reached = gives.reached in
    let next = gives.goes_on in
    let here = member_is_next q p (question_of handed_bytes s) (question_of handed_bytes t) (position_of s) (position_of t) (next_member s) (next_member t) (pattern_index found)
    (found_by (captures_of found)) (spans_in (captures_of found)) c.member_of.result inv.asked inv.position asked position reached next gives.first gives.item c.member_of.ensures.pattern c.member_of.ensures.span in
    record {
      asked = asked;
      position = position;
      reached = omega (arith, more, before, reached, next);
      gives = rw more (gives_more q p (members_to_come handed_bytes c.args.matches) (members_to_come handed_bytes s) (members_to_come handed_bytes t) c.args.members.now c.loop-found.members c.put_next.new.buffer
          c.loop-found.wanted (pattern_index found) c.member_of.result here.0 here.1 c.put_next.ensures.put inv.gives);
    }
