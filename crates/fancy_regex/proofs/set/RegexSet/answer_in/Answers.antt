use Rattle.std.proofs.Common.{◌∙◌, arith, length, refl, take}
use Rattle.fancy_regex.specs.Sets.{asked_of_set}
use Rattle.fancy_regex.proofs.SetCandidateLemmas.{none_to, none_one_more}
use Rattle.fancy_regex.proofs.SetCountLemmas.{left_on, left_skipped}
use Rattle.fancy_regex.proofs.set.RegexSet.answer_in.Goals as goal

pub returns-in-Some-answer_of-clause-first : goal.returns-in-Some-answer_of-clause-first
returns-in-Some-answer_of-clause-first g c =
    let starter = c.in-Some.ensures in
    let first = c.members.invariant.reached in
    let later = starter.reached in
    record {
      reached = omega (arith, first, later);
      inside = starter.inside;
      first = none_to (asked_of_set c.args.self.now g.S.Haystack.bytes c.args.input.now) c.args.position (take c.request-range_end.result.range_end c.as_bytes-bytes.result.now) (rw (c.request-range_end.ensures.value, c.as_bytes-bytes.ensures.bytes, c.haystack-haystack.ensures) refl) c.requires.small c.args.input.now.inside c.requires.ends c.args.from c.members.from c.in-Some.index c.members.invariant.none starter.none;
      answers = c.in-Some-answer_of.ensures.some;
    }

pub members-preserved : goal.members-preserved
members-preserved g c =
    let q = asked_of_set c.args.self.now g.S.Haystack.bytes c.args.input.now in
    let starter = c.in-Some.ensures in
    let first = c.members.invariant.reached in
    let later = starter.reached in
    record {
      known = c.answer_of.ensures.known;
      noted = c.in_default-answer_of.ensures.noted c.args.from c.members.invariant.noted;
      taken = λ easy. omega (arith, c.members.invariant.taken easy, c.in_default-answer_of.ensures.spent easy, left_skipped q c.members.from c.in-Some.index c.args.position c.members.trials later);
      paired = λ before. c.answer_of.ensures.paired (c.members.invariant.paired before);
      grows = (let more = c.answer_of.ensures.grows in omega (arith, more, c.members.invariant.grows));
      limit = λ most all before. c.answer_of.ensures.limit most all (c.members.invariant.limit most all before);
      units = λ easy. c.answer_of.ensures.units easy ∙ c.members.invariant.units easy;
      reached = omega (arith, first, later);
      none = none_one_more q c.args.position c.args.from c.in-Some.index
          (none_to q c.args.position (take c.request-range_end.result.range_end c.as_bytes-bytes.result.now) (rw (c.request-range_end.ensures.value, c.as_bytes-bytes.ensures.bytes, c.haystack-haystack.ensures) refl) c.requires.small c.args.input.now.inside c.requires.ends c.args.from c.members.from c.in-Some.index c.members.invariant.none starter.none)
          c.in_default-answer_of.ensures.none;
    }

pub returns-clause-none : goal.returns-clause-none
returns-clause-none g c =
    none_to (asked_of_set c.args.self.now g.S.Haystack.bytes c.args.input.now) c.args.position (take c.request-range_end.result.range_end c.as_bytes-bytes.result.now) (rw (c.request-range_end.ensures.value, c.as_bytes-bytes.ensures.bytes, c.haystack-haystack.ensures) refl) c.requires.small c.args.input.now.inside c.requires.ends c.args.from c.members.from (length c.args.self.now.members.items) c.members.invariant.none c.in_default.ensures

pub answer_of-requires-clause-noted : goal.answer_of-requires-clause-noted
answer_of-requires-clause-noted g c k member le is =
    let reached = c.members.invariant.reached in
    let next = c.in-Some.ensures.reached in
    c.members.invariant.noted k member (omega (arith, le, reached, next)) is

pub returns-in-Some-answer_of-clause-bounded : goal.returns-in-Some-answer_of-clause-bounded
returns-in-Some-answer_of-clause-bounded g c easy =
    let q = asked_of_set c.args.self.now g.S.Haystack.bytes c.args.input.now in
    let later = c.in-Some.ensures.reached in
    omega (arith, c.members.invariant.taken easy, c.answer_of.ensures.bounded easy, left_skipped q c.members.from c.in-Some.index c.args.position c.members.trials later)

pub returns-clause-bounded : goal.returns-clause-bounded
returns-clause-bounded g c easy = omega (arith, c.members.invariant.taken easy)

pub returns-clause-spent : goal.returns-clause-spent
returns-clause-spent g c easy =
    omega (arith, c.members.invariant.taken easy, left_on (asked_of_set c.args.self.now g.S.Haystack.bytes c.args.input.now) c.members.from c.args.position c.members.trials)

pub returns-in-Some-answer_of-clause-limit : goal.returns-in-Some-answer_of-clause-limit
returns-in-Some-answer_of-clause-limit g c most all before = c.answer_of.ensures.limit most all (c.members.invariant.limit most all before)

pub returns-in-Some-answer_of-clause-units : goal.returns-in-Some-answer_of-clause-units
returns-in-Some-answer_of-clause-units g c easy = c.answer_of.ensures.units easy ∙ c.members.invariant.units easy

pub returns-in-Some-answer_of-clause-limited : goal.returns-in-Some-answer_of-clause-limited
returns-in-Some-answer_of-clause-limited g c = c.in-Some-answer_of.ensures.limited

pub returns-in-Some-answer_of-clause-grows : goal.returns-in-Some-answer_of-clause-grows
returns-in-Some-answer_of-clause-grows g c = let more = c.answer_of.ensures.grows in omega (arith, more, c.members.invariant.grows)

pub next_starter-requires-clause-all : goal.next_starter-requires-clause-all
next_starter-requires-clause-all g c = rw (c.request-range_end.ensures.value, c.as_bytes-bytes.ensures.bytes, c.haystack-haystack.ensures) c.requires.groups

pub next_starter-requires-clause-only : goal.next_starter-requires-clause-only
next_starter-requires-clause-only g c = rw (c.request-range_end.ensures.value, c.as_bytes-bytes.ensures.bytes, c.haystack-haystack.ensures) c.requires.only
