use Rattle.std.proofs.Common.{◌≡◌, ℕ, ◌+◌, ◌≤◌, length, slice_get, take, rules, arith, refl, sym, ap, subst, ◌∙◌}
use Rattle.fancy_input.specs.Requests.{effective_start}
use Rattle.fancy_regex.specs.Candidates.{AreOfStarters}
use Rattle.fancy_regex.specs.SetCounts.{most_steps_of_all, steps_left_in}
use Rattle.fancy_regex.specs.Sets.{asked_of_set}
use Rattle.fancy_regex.proofs.CandidateLemmas.{none_of_empty}
use Rattle.fancy_regex.proofs.SetCandidateLemmas.{in_no_group, none_starts}
use Rattle.fancy_regex.proofs.SetCountLemmas.{left_at_first, left_on}
use Rattle.fancy_regex.proofs.SetLemmas.{passed_more, passed_one, nowhere, if_none}
use Rattle.fancy_regex.proofs.TrialLemmas.{none_tried, noted_on}
use Rattle.fancy_regex.proofs.set.RegexSet.first_answer.Goals as goal

pub loop-position-preserved : goal.loop-position-preserved
loop-position-preserved g c = record {
  known = c.answer_in.ensures.known;
  noted = noted_on (asked_of_set c.args.self.now g.S.Haystack.bytes c.args.input.now) (λ k. 0 ≤ k) c.loop-position.position (c.loop-position.position + 1) c.answer_in.new.trials (omega arith) (if_none _ c.answer_in.result c.in_default.not-Some c.answer_in.ensures.noted);
  taken = λ easy. omega (arith, c.loop-position.invariant.taken easy, if_none _ c.answer_in.result c.in_default.not-Some c.answer_in.ensures.spent easy);
  paired = λ before. c.answer_in.ensures.paired (c.loop-position.invariant.paired before);
  grows = (let more = c.answer_in.ensures.grows in omega (arith, more, c.loop-position.invariant.grows));
  limit = λ most all before. c.answer_in.ensures.limit most all (c.loop-position.invariant.limit most all before);
  units = λ easy. c.answer_in.ensures.units easy ∙ c.loop-position.invariant.units easy;
  passed = passed_more (asked_of_set c.args.self.now g.S.Haystack.bytes c.args.input.now) c.loop-position.position c.answer_in.result c.in_default.not-Some c.answer_in.ensures.none c.loop-position.invariant.passed;
}

pub loop-position-preserved-then-is_empty : goal.loop-position-preserved-then-is_empty
loop-position-preserved-then-is_empty g c =
    let s = c.args.self.now in
    let q = asked_of_set s g.S.Haystack.bytes c.args.input.now in
    let p = c.loop-position.position in
    let searched = take c.request-request.result.range_end c.as_bytes-bytes.result.now in
    let passed = in_no_group s.members.items searched p s.candidates.width c.at-groups.result (c.at-groups.ensures.held s.members.items s.listed) 0 (length s.members.items)
    (none_of_empty c.at-groups.result s.candidates.width 0 s.candidates.some (length s.members.items) (c.is_empty.ensures.0 c.if-is_empty.true)) in
    let last = c.last_position-last.ensures.inside in
    let test = c.loop-position-test.true in
    let ends : p ≤ c.request-request.result.range_end = omega (arith, last, test) in
    let none = none_starts q p searched (rw (c.request-request.ensures.value, c.as_bytes-bytes.ensures.bytes, c.haystack-haystack.ensures) refl)
    (rw (c.as_bytes-bytes.ensures.bytes, c.haystack-haystack.ensures) at c.at-groups.ensures.bytes) c.args.input.now.inside
    (rw c.request-request.ensures.value at ends) 0 (length s.members.items) passed in
    record {
      known = c.loop-position.invariant.known;
      noted = noted_on q (λ k. 0 ≤ k) p (p + 1) c.loop-position.trials (omega arith) c.loop-position.invariant.noted;
      taken = λ easy. omega (arith, c.loop-position.invariant.taken easy, left_on q 0 p c.loop-position.trials);
      paired = c.loop-position.invariant.paired;
      grows = c.loop-position.invariant.grows;
      limit = c.loop-position.invariant.limit;
      units = c.loop-position.invariant.units;
      passed = passed_one q p none c.loop-position.invariant.passed;
    }

pub returns-clause-none : goal.returns-clause-none
returns-clause-none g c =
    nowhere (asked_of_set c.args.self.now g.S.Haystack.bytes c.args.input.now)
    (λ p from below. c.loop-position.invariant.passed p from
    (let count = rw c.request-request.ensures.value at c.last_position-last.ensures.count in let past = c.loop-position-test.false in omega (arith, count, past, from, below)))

pub loop-position-init : goal.loop-position-init
loop-position-init g c = record {
  known = c.requires.known;
  noted = none_tried (asked_of_set c.args.self.now g.S.Haystack.bytes c.args.input.now) (λ k. 0 ≤ k) c.effective_start-first.result c.args.trials.now c.requires.fresh;
  taken = λ easy.
      let q = asked_of_set c.args.self.now g.S.Haystack.bytes c.args.input.now in
      let first = c.effective_start-first.ensures ∙ ap effective_start c.request-request.ensures.value in
      omega (arith, subst (λ (p : ℕ). steps_left_in q 0 p c.args.trials.now ≤ most_steps_of_all q.members q.request) (sym first) (left_at_first q c.args.trials.now c.requires.fresh));
  paired = λ before. before;
  grows = omega arith;
  limit = λ most all before. before;
  units = λ easy. refl;
  passed = search rules;
}

pub returns-in-Some-clause-limit : goal.returns-in-Some-clause-limit
returns-in-Some-clause-limit g c most all before = c.answer_in.ensures.limit most all (c.loop-position.invariant.limit most all before)

pub returns-in-Some-clause-limited : goal.returns-in-Some-clause-limited
returns-in-Some-clause-limited g c = c.in-Some.ensures.limited

pub returns-in-Some-clause-units : goal.returns-in-Some-clause-units
returns-in-Some-clause-units g c easy = c.answer_in.ensures.units easy ∙ c.loop-position.invariant.units easy

pub returns-in-Some-clause-grows : goal.returns-in-Some-clause-grows
returns-in-Some-clause-grows g c = let more = c.answer_in.ensures.grows in omega (arith, more, c.loop-position.invariant.grows)

pub answer_in-requires-clause-groups : goal.answer_in-requires-clause-groups
answer_in-requires-clause-groups g c =
    let s = c.args.self.now in
    rw (c.request-request.ensures.value, c.as_bytes-bytes.ensures.bytes, c.haystack-haystack.ensures) at (c.further-groups.ensures.held s.members.items s.listed (c.at-groups.ensures.held s.members.items s.listed))

pub answer_in-requires-clause-only : goal.answer_in-requires-clause-only
answer_in-requires-clause-only g c =
    let s = c.args.self.now in
    let searched = take c.request-request.result.range_end c.as_bytes-bytes.result.now in
    let only : s.candidates.width ≡ 1 → AreOfStarters s.members.items (slice_get searched c.loop-position.position) c.further-groups.result =
    λ apart k there. c.at-groups.ensures.only s.members.items s.told apart k (c.further-groups.ensures.only k there) in
    rw (c.request-request.ensures.value, c.as_bytes-bytes.ensures.bytes, c.haystack-haystack.ensures) at only
