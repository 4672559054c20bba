use Rattle.std.proofs.Common.{rules, refl, sym, subst, ◌∙◌, arith}
use Rattle.std.proofs.lemmas.Option.{slice_get_within}
use Rattle.fancy_input.specs.Inputs.{haystack_in}
use Rattle.fancy_regex.specs.Sets.{asked_of_set}
use Rattle.fancy_regex.specs.SetAnswers.{IsFirstAnswer}
use Rattle.fancy_regex.proofs.SetLemmas.{item_is_inside, item_is_matched, kept_item, none_before, none_left, if_none}
use Rattle.fancy_regex.proofs.set.matches.RegexSetMatchesAtIterator.next.Goals as goal

pub overflow_add-self : goal.overflow_add-self
overflow_add-self g c =
    let s = c.args.self.now in
    let item = s.kept c.in-Some.captures (sym c.take.ensures.value ∙ c.in-Some.is) in
    let inside = item_is_inside (asked_of_set s.set.now g.S.Haystack.bytes s.input) (haystack_in s.input) s.position s.next c.in-Some.captures item in
    let held = s.set.now.members.ok.0 in
    let fits = s.set.now.members.ok.1 in
    let small = s.set.now.members.small in
    omega (arith, inside, held, fits, small)

pub new-requires : goal.new-requires
new-requires g c =
    let s = c.args.self.now in
    let item = s.kept c.in-Some.captures (sym c.take.ensures.value ∙ c.in-Some.is) in
    record { matched = item_is_matched (asked_of_set s.set.now g.S.Haystack.bytes s.input) s.position s.next _ _ item.0 }

pub returns-in-Some-clause-steps : goal.returns-in-Some-clause-steps
returns-in-Some-clause-steps g c =
    let s = c.args.self.now in
    let item = s.kept c.in-Some.captures (sym c.take.ensures.value ∙ c.in-Some.is) in
    let q = asked_of_set s.set.now g.S.Haystack.bytes s.input in
    let index = c.new.ensures.pattern in
    let kept = kept_item q (haystack_in s.input) s.position s.next _ c.in-Some.captures _ index c.new.ensures.captures item in
    record {
      answers = record {
        reached = omega (arith, index);
        first = none_before q s.position s.next _ index;
        item = kept.0;
        within = kept.1;
        goes_on = rw index refl;
      };
      same_set = refl;
      same_haystack = refl;
      same_request = refl;
      same_position = refl;
    }

pub returns-in-Some-clause-goes : goal.returns-in-Some-clause-goes
returns-in-Some-clause-goes g c =
    let s = c.args.self.now in
    let item = s.kept c.in-Some.captures (sym c.take.ensures.value ∙ c.in-Some.is) in
    let inside = item_is_inside (asked_of_set s.set.now g.S.Haystack.bytes s.input) (haystack_in s.input) s.position s.next c.in-Some.captures item in
    record { on = λ finite. (search rules, search rules, omega (arith, inside)); keeps = search rules; rests = λ finite. tt }

pub returns-in_default-answer_from-clause-steps : goal.returns-in_default-answer_from-clause-steps
returns-in_default-answer_from-clause-steps g c =
    let s = c.args.self.now in
    let none = if_none _ c.answer_from.result c.in_default-answer_from.not-Some c.answer_from.ensures.none in
    let all = c.len-self.ensures in
    record {
      answers = record { none = none_left (asked_of_set s.set.now g.S.Haystack.bytes s.input) s.position s.next none; ended = omega (arith, all) };
      same_set = refl;
      same_haystack = refl;
      same_request = refl;
      same_position = refl;
    }

pub new-requires-in-Ok : goal.new-requires-in-Ok
new-requires-in-Ok g c =
    let s = c.args.self.now in
    let q = asked_of_set s.set.now g.S.Haystack.bytes s.input in
    let answer = c.in-Some-answer_from.first in
    let first = subst (IsFirstAnswer q (haystack_in s.input) s.position s.next answer.index) c.in-Ok.is c.in-Some-answer_from.ensures.first in
    record { matched = item_is_matched q s.position answer.index _ _ first.answers.0 }

pub invariant_of-self-clause-noted : goal.invariant_of-self-clause-noted
invariant_of-self-clause-noted g c =
    let s = c.args.self.now in
    rw c.take.ensures.after (rw (sym c.take.ensures.value ∙ c.in-Some.is) at s.noted)

pub invariant_of-self-in_default-answer_from-clause-noted : goal.invariant_of-self-in_default-answer_from-clause-noted
invariant_of-self-in_default-answer_from-clause-noted g c =
    let all = c.len-self.ensures in
    rw c.take.ensures.after
    (λ k member from is. absurd (let inside = slice_get_within c.args.self.now.set.now.members.items k member is in omega (arith, from, inside, all)))

pub invariant_of-self-2-clause-noted : goal.invariant_of-self-2-clause-noted
invariant_of-self-2-clause-noted g c = rw c.take.ensures.after c.in-Some-answer_from.ensures.left

pub answer_from-requires-clause-noted : goal.answer_from-requires-clause-noted
answer_from-requires-clause-noted g c = rw (sym c.take.ensures.value ∙ c.in_default.is) at c.args.self.now.noted
