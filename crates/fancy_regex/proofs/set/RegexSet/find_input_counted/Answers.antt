use Rattle.std.proofs.Common.{refl, subst, arith}
use Rattle.std.proofs.lemmas.Result.{err_from_is_err_and}
use Rattle.fancy_input.specs.Inputs.{haystack_in, request_in}
use Rattle.fancy_regex.specs.Sets.{asked_of_set}
use Rattle.fancy_regex.specs.SetAnswers.{IsFirstOfSet}
use Rattle.fancy_regex.proofs.SetLimitLemmas.{none_spent, passed_on, spent_for_one_as}
use Rattle.fancy_regex.proofs.SetLemmas.{stands_first, has_all_left, set_refused, stands_not_nowhere}
use Rattle.fancy_regex.proofs.set.RegexSet.find_input_counted.Goals as goal

pub returns-clause-none : goal.returns-clause-none
returns-clause-none g c =
    let q = asked_of_set c.args.self.now g.S.Haystack.bytes c.args.input in
    let first = subst (IsFirstOfSet q (haystack_in c.args.input) c.in-Some.position c.in-Some.first.index) c.in_ok-captures.was c.in-Some.ensures.first in
    let stands = stands_first q (haystack_in c.args.input) c.in-Some.position c.in-Some.first.index c.in_ok-captures.captures first in
    (λ none. absurd (cc), λ none. absurd (stands_not_nowhere q c.in-Some.position stands none))

pub returns-clause-found : goal.returns-clause-found
returns-clause-found g c =
    let q = asked_of_set c.args.self.now g.S.Haystack.bytes c.args.input in
    let first = subst (IsFirstOfSet q (haystack_in c.args.input) c.in-Some.position c.in-Some.first.index) c.in_ok-captures.was c.in-Some.ensures.first in
    record {
      of_set = refl;
      of_haystack = refl;
      of_request = refl;
      stands = stands_first q (haystack_in c.args.input) c.in-Some.position c.in-Some.first.index c.in_ok-captures.captures first;
      items = has_all_left q (haystack_in c.args.input) c.in-Some.position c.in-Some.first.index c.in_ok-captures.captures first;
    }

pub first_answer-first-requires-clause-known : goal.first_answer-first-requires-clause-known
first_answer-first-requires-clause-known g c = c.new-trials.ensures.known _

pub returns-clause-limit : goal.returns-clause-limit
returns-clause-limit g c most all =
    let done = c.first_answer-first.ensures.limit most all (omega (arith, c.new-trials.ensures.steps, c.new-trials.ensures.units)) in
    omega (arith, done, c.add.ensures.alone (omega (arith, c.reset.ensures.steps, c.reset.ensures.units)))

pub returns-in_default-clause-limit : goal.returns-in_default-clause-limit
returns-in_default-clause-limit g c most all =
    let done = c.first_answer-first.ensures.limit most all (omega (arith, c.new-trials.ensures.steps, c.new-trials.ensures.units)) in
    omega (arith, done, c.add.ensures.alone (omega (arith, c.reset.ensures.steps, c.reset.ensures.units)))

pub returns-in_err-captures-clause-limit : goal.returns-in_err-captures-clause-limit
returns-in_err-captures-clause-limit g c most all =
    let done = c.first_answer-first.ensures.limit most all (omega (arith, c.new-trials.ensures.steps, c.new-trials.ensures.units)) in
    omega (arith, done, c.add.ensures.alone (omega (arith, c.reset.ensures.steps, c.reset.ensures.units)))

pub returns-in_err-captures-clause-refused : goal.returns-in_err-captures-clause-refused
returns-in_err-captures-clause-refused g c =
    let q = asked_of_set c.args.self.now g.S.Haystack.bytes c.args.input in
    let first = subst (IsFirstOfSet q (haystack_in c.args.input) c.in-Some.position c.in-Some.first.index) c.in_err-captures.was c.in-Some.ensures.first in
    let e = err_from_is_err_and c.from_residual.result c.from_residual.ensures.1 in
    rw (e.1, e.2) (set_refused q (haystack_in c.args.input) c.in-Some.position c.in-Some.first.index _ first)

pub returns-in_err-captures-clause-spent : goal.returns-in_err-captures-clause-spent
returns-in_err-captures-clause-spent g c out =
    spent_for_one_as c.args.self.now.members.items c.first_answer-first.new.trials.cache.work c.add.new.self (c.add.ensures.alone (omega (arith, c.reset.ensures.steps, c.reset.ensures.units)))
    (c.in-Some.ensures.limited (passed_on c.from_residual.result _ c.from_residual.ensures.1 out c.in-Some.first.answer c.in_err-captures.was))

pub returns-in_err-captures-clause-unlimited : goal.returns-in_err-captures-clause-unlimited
returns-in_err-captures-clause-unlimited g c easy allows out =
    none_spent c.args.self.now.members.items (request_in c.args.input) c.add.new.self allows
    (omega (arith, c.first_answer-first.ensures.bounded easy, c.new-trials.ensures.steps, c.add.ensures.within, c.reset.ensures.steps))
    (omega (arith, c.first_answer-first.ensures.units easy, c.new-trials.ensures.units, c.add.ensures.units, c.reset.ensures.units))
    (spent_for_one_as c.args.self.now.members.items c.first_answer-first.new.trials.cache.work c.add.new.self (c.add.ensures.alone (omega (arith, c.reset.ensures.steps, c.reset.ensures.units)))
    (c.in-Some.ensures.limited (passed_on c.from_residual.result _ c.from_residual.ensures.1 out c.in-Some.first.answer c.in_err-captures.was)))
